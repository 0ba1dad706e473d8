use Rattle.std.proofs.Common.{◌≡◌, ◌∙◌, ap, map, refl}
use Rattle.std.specs.Map.{lookup}
use Rattle.std.proofs.lemmas.Map.Entries.{entries_from_clone}
use Rattle.object_model.specs.Objects.{same}
use Rattle.session_tables.specs.declared.object_places.ObjectPlaces.{ObjectPlaces}
use Rattle.session_tables.specs.FiledRows.{cells_of}
use Rattle.session_tables.proofs.Columns.{filed_same}
use Rattle.session_tables.proofs.FilingLemmas.{kept_same}
use Rattle.session_tables.proofs.FiledObjects.{objects_same}
use Rattle.session_tables.proofs.object_places.ObjectPlaces.copy.Goals as goal

pub returns-clause-objects : goal.returns-clause-objects
returns-clause-objects g c =
    let copy : ObjectPlaces g.row.V.Denot = record { rows = c.in_ok-copy_filed.field-0; others = c.in_ok-clone.field-0; far = c.in_ok-from_slice.field-0; empty = c.args.self.now.empty; alloc = c.args.self.now.alloc } in
    objects_same c.args.self.now copy (c.in_ok-copy_filed.ensures ∙ ap (λ rows. map cells_of rows) c.deref.ensures.value) (c.in_ok-from_slice.ensures.items ∙ c.deref-2.ensures.value)

pub returns-clause-kept : goal.returns-clause-kept
returns-clause-kept g c =
    let copy : ObjectPlaces g.row.V.Denot = record { rows = c.in_ok-copy_filed.field-0; others = c.in_ok-clone.field-0; far = c.in_ok-from_slice.field-0; empty = c.args.self.now.empty; alloc = c.args.self.now.alloc } in
    let entries_are : c.in_ok-clone.field-0.entries ≡ c.args.self.now.others.entries = entries_from_clone _ _ (λ x y same. same) (λ v w same. same) _ _ c.in_ok-clone.ensures.cases in
    kept_same c.args.self.now copy refl (filed_same c.in_ok-copy_filed.field-0.items c.args.self.now.rows.items (c.in_ok-copy_filed.ensures ∙ ap (λ rows. map cells_of rows) c.deref.ensures.value)) (λ q. ap (λ es. lookup (same q) es) entries_are) (c.in_ok-from_slice.ensures.items ∙ c.deref-2.ensures.value)
