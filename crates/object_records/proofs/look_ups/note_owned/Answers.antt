use Rattle.std.proofs.Common.{◌≡◌, ◌∙◌, ◌++◌, true, false, [], ◌∷◌, length, sym, ap, refl, arith, rules}
use Rattle.std.specs.Prelude.{Some, slice_get}
use Rattle.std.proofs.lemmas.List.{append-nil}
use Rattle.command_tables.specs.Tests.{same_type}
use Rattle.object_model.specs.Objects.{are_same}
use Rattle.object_records.specs.Records.{births_kept, line_kept, owned_at}
use Rattle.object_records.proofs.Kept.{owned_here}
use Rattle.object_records.proofs.look_ups.note_owned.Goals as goal

pub returns-then-not-is_type-clause-added : goal.returns-then-not-is_type-clause-added
returns-then-not-is_type-clause-added c =
    let here = owned_here c.args.table.now.records c.args.place c.record-kept.result c.args.ty c.args.owner c.record-kept.ensures.owners c.record-kept.ensures.found in
    let off : same_type c.record-kept.result.object.ty c.args.ty ≡ false = sym c.is_type.ensures ∙ search rules in
    let none : owned_at (births_kept c.args.table.now.records) c.args.ty c.args.owner c.args.place ≡ [] = here ∙ rw off refl in
    sym (ap (λ os. c.args.out.now.items ++ os) none ∙ append-nil c.args.out.now.items)

pub returns-then-not-is_owner-clause-added : goal.returns-then-not-is_owner-clause-added
returns-then-not-is_owner-clause-added c =
    let here = owned_here c.args.table.now.records c.args.place c.record-kept.result c.args.ty c.args.owner c.record-kept.ensures.owners c.record-kept.ensures.found in
    let on : same_type c.record-kept.result.object.ty c.args.ty ≡ true = sym c.is_type.ensures ∙ search rules in
    let off : are_same (slice_get (line_kept (births_kept c.args.table.now.records) c.record-kept.result.owner) 0) (Some c.args.owner) ≡ false = sym c.is_owner.ensures ∙ search rules in
    let none : owned_at (births_kept c.args.table.now.records) c.args.ty c.args.owner c.args.place ≡ [] = here ∙ rw (on, off) refl in
    sym (ap (λ os. c.args.out.now.items ++ os) none ∙ append-nil c.args.out.now.items)

pub returns-clause-added : goal.returns-clause-added
returns-clause-added c =
    let here = owned_here c.args.table.now.records c.args.place c.record-kept.result c.args.ty c.args.owner c.record-kept.ensures.owners c.record-kept.ensures.found in
    let on : same_type c.record-kept.result.object.ty c.args.ty ≡ true = sym c.is_type.ensures ∙ search rules in
    let here_too : are_same (slice_get (line_kept (births_kept c.args.table.now.records) c.record-kept.result.owner) 0) (Some c.args.owner) ≡ true = sym c.is_owner.ensures ∙ search rules in
    let one : owned_at (births_kept c.args.table.now.records) c.args.ty c.args.owner c.args.place ≡ c.record-kept.result.object ∷ [] = here ∙ rw (on, here_too) refl in
    c.in_ok-push.ensures.items ∙ sym (ap (λ os. c.args.out.now.items ++ os) one)

pub returns-in_err-push-clause-succeeds : goal.returns-in_err-push-clause-succeeds
returns-in_err-push-clause-succeeds c = λ low.
    let here = owned_here c.args.table.now.records c.args.place c.record-kept.result c.args.ty c.args.owner c.record-kept.ensures.owners c.record-kept.ensures.found in
    let on : same_type c.record-kept.result.object.ty c.args.ty ≡ true = sym c.is_type.ensures ∙ search rules in
    let here_too : are_same (slice_get (line_kept (births_kept c.args.table.now.records) c.record-kept.result.owner) 0) (Some c.args.owner) ≡ true = sym c.is_owner.ensures ∙ search rules in
    let one : owned_at (births_kept c.args.table.now.records) c.args.ty c.args.owner c.args.place ≡ c.record-kept.result.object ∷ [] = here ∙ rw (on, here_too) refl in
    let wrong = c.in_err-push.ensures.succeeds (omega (arith, ap length one, low)) in cc wrong
