use Rattle.std.proofs.Common.{◌≡◌, ◌∙◌, ◌%◌, ◌/◌, List, ap, refl, sym, true, false}
use Rattle.std.proofs.Math.ListN.{set}
use Rattle.std.specs.HashMap.{get}
use Rattle.std.specs.Prelude.{is_some}
use Rattle.object_model.specs.declared.Object.{Object}
use Rattle.object_model.specs.Objects.{same}
use Rattle.session_tables.specs.declared.object_places.Far.{Far}
use Rattle.session_tables.specs.declared.filed_rows.Filed.{Filed}
use Rattle.session_tables.specs.FiledRows.{filed_cell}
use Rattle.session_tables.specs.Filing.{far_value, filed_for, own_index}
use Rattle.session_tables.proofs.FilingLemmas.{far_set, held_open, put_far, put_near}
use Rattle.session_tables.proofs.object_places.ObjectPlaces.set.Goals as goal

pub overwrite_filed-requires : goal.overwrite_filed-requires
overwrite_filed-requires g c =
    let o = c.args.object in
    let is : is_some (filed_for (filed_cell c.args.self.now.empty c.args.self.now.rows.items (o.number % 2048) (o.number / 2048)) o.ty) ≡ true =
    ap (λ (f : Filed g.row.V.Denot). is_some (filed_for f o.ty)) (sym c.filed.ensures) ∙ (ap is_some (sym c.value_for.ensures) ∙ (sym c.is_some.ensures ∙ c.if-is_some.true)) in
    (held_open c.args.self.now.empty c.args.self.now.rows.items (o.number % 2048) (o.number / 2048) o.ty is).1

pub returns-then-is_some-clause-places : goal.returns-then-is_some-clause-places
returns-then-is_some-clause-places g c = λ q.
    let o = c.args.object in
    let is : is_some (filed_for (filed_cell c.args.self.now.empty c.args.self.now.rows.items (o.number % 2048) (o.number / 2048)) o.ty) ≡ true =
    ap (λ (f : Filed g.row.V.Denot). is_some (filed_for f o.ty)) (sym c.filed.ensures) ∙ (ap is_some (sym c.value_for.ensures) ∙ (sym c.is_some.ensures ∙ c.if-is_some.true)) in
    put_near (filed_cell c.args.self.now.empty c.args.self.now.rows.items) (filed_cell c.args.self.now.empty c.overwrite_filed.new.rows.items) o c.args.value (far_value c.args.self.now.far.items q (get same c.args.self.now.others q)) q
    (held_open c.args.self.now.empty c.args.self.now.rows.items (o.number % 2048) (o.number / 2048) o.ty is).0 (c.overwrite_filed.ensures c.args.self.now.empty (q.number % 2048) (q.number / 2048))

pub returns-in-Some-clause-places : goal.returns-in-Some-clause-places
returns-in-Some-clause-places g c = λ q.
    let m = c.args.self.now in
    let o = c.args.object in
    let taken : is_some (filed_for (filed_cell m.empty m.rows.items (o.number % 2048) (o.number / 2048)) o.ty) ≡ false =
    ap (λ (f : Filed g.row.V.Denot). is_some (filed_for f o.ty)) (sym c.filed.ensures) ∙ (ap is_some (sym c.value_for.ensures) ∙ (sym c.is_some.ensures ∙ c.if-is_some.false)) in
    let known = c.in-Some.ensures.index ∙ ap (λ (xs : List (Far g.row.V.Denot)). own_index xs o (get same m.others o)) c.deref.ensures.value in
    let more : List (Far g.row.V.Denot) = set m.far.items c.in-Some.at (record c.index_mut.result.now { value = c.args.value }) in
    put_far (λ (x : Object). filed_cell m.empty m.rows.items (x.number % 2048) (x.number / 2048)) o c.args.value (far_value m.far.items q (get same m.others q)) (far_value more q (get same m.others q)) q taken
    (far_set m.far.items more (λ (x : Object). get same m.others x) o c.in-Some.at c.args.value c.index_mut.result.now known c.index_mut.ensures.value refl q)
