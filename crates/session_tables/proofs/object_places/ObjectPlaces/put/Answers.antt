use Rattle.std.proofs.Common.{◌≡◌, ◌∙◌, ◌%◌, ◌/◌, ap, false, sym, true, arith}
use Rattle.std.proofs.lemmas.Bool.{lt-ltb}
use Rattle.std.specs.Prelude.{is_some, nat_lt}
use Rattle.std.specs.HashMap.{get}
use Rattle.object_model.specs.Objects.{same}
use Rattle.session_tables.specs.FiledRows.{filed_cell, has_filed_cell}
use Rattle.session_tables.specs.Filing.{far_value, is_open, places_room}
use Rattle.session_tables.proofs.FilingLemmas.{not_far, put_near, unkept_free}
use Rattle.session_tables.proofs.object_places.ObjectPlaces.put.Goals as goal

pub set-requires : goal.set-requires
set-requires g c = ap is_some (sym c.get.ensures) ∙ (sym c.is_some.ensures ∙ c.if-is_some.true)

pub put_far-requires : goal.put_far-requires
put_far-requires g c =
    let o = c.args.object in
    unkept_free (filed_cell c.args.self.now.empty c.args.self.now.rows.items (o.number % 2048) (o.number / 2048)) o.ty (far_value c.args.self.now.far.items o (get same c.args.self.now.others o))
    (ap is_some (sym c.get.ensures) ∙ (sym c.is_some.ensures ∙ c.if-is_some.false))

pub returns-in_err-put_filed-clause-succeeds : goal.returns-in_err-put_filed-clause-succeeds
returns-in_err-put_filed-clause-succeeds g c = λ room.
    let x = c.args.object in
    let s = c.args.self.now in
    let near = not_far (is_open (filed_cell s.empty s.rows.items (x.number % 2048) (x.number / 2048)) x.ty) (has_filed_cell s.rows.items (x.number % 2048) (x.number / 2048)) (nat_lt 0 (places_room s)) (sym c.goes_far.ensures ∙ c.if-goes_far.false) in
    let full : false ≡ true = c.in_err-put_filed.ensures.succeeds (near.1 (lt-ltb 0 (places_room c.args.self.now) (omega arith))) in cc full

pub returns-clause-ok : goal.returns-clause-ok
returns-clause-ok g c = λ q.
    let o = c.args.object in
    let row = q.number % 2048 in
    let at = q.number / 2048 in
    let x = c.args.object in
    let s = c.args.self.now in
    let near = not_far (is_open (filed_cell s.empty s.rows.items (x.number % 2048) (x.number / 2048)) x.ty) (has_filed_cell s.rows.items (x.number % 2048) (x.number / 2048)) (nat_lt 0 (places_room s)) (sym c.goes_far.ensures ∙ c.if-goes_far.false) in
    put_near (filed_cell c.args.self.now.empty c.args.self.now.rows.items) (filed_cell c.args.self.now.empty c.put_filed.new.rows.items) o c.args.value (far_value c.args.self.now.far.items q (get same c.args.self.now.others q)) q near.0 (c.in_ok-put_filed.ensures.ok row at)
