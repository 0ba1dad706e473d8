use Rattle.std.proofs.Common.{◌∙◌, Option, ap, sym}
use Rattle.std.specs.HashMap.{get}
use Rattle.std.specs.Option.{option_or}
use Rattle.object_model.specs.Objects.{same}
use Rattle.session_tables.specs.declared.filed_rows.Filed.{Filed}
use Rattle.session_tables.specs.Filing.{far_value, filed_for}
use Rattle.session_tables.proofs.object_places.ObjectPlaces.get.Goals as goal

pub returns-in-None : goal.returns-in-None
returns-in-None g c =
    let m = c.args.self.now in
    let o = c.args.object in
    let far = far_value m.far.items o (get same m.others o) in
    c.get_far.ensures ∙ sym (ap (λ (f : Filed g.row.V.Denot). option_or (filed_for f o.ty) far) (sym c.filed.ensures) ∙ ap (λ (x : Option g.row.V.Denot). option_or x far) (sym c.value_for.ensures ∙ c.in-None.is))

pub returns-in-Some : goal.returns-in-Some
returns-in-Some g c =
    let m = c.args.self.now in
    let o = c.args.object in
    let far = far_value m.far.items o (get same m.others o) in
    sym (ap (λ (f : Filed g.row.V.Denot). option_or (filed_for f o.ty) far) (sym c.filed.ensures) ∙ ap (λ (x : Option g.row.V.Denot). option_or x far) (sym c.value_for.ensures ∙ c.in-Some.is))
