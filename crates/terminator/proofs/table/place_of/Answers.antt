use Rattle.std.proofs.Common.{inl, inr, sym, ◌∙◌}
use Rattle.terminator.proofs.Placed.{is_place, no_place, no_type}
use Rattle.terminator.proofs.table.place_of.Goals as goal

pub returns-then-id-eq0-clause-none : goal.returns-then-id-eq0-clause-none
returns-then-id-eq0-clause-none c = no_place c.args.entries.now c.args.ty c.args.id (inl c.if-id-eq0.true)

pub returns-then-entries-place-clause-none : goal.returns-then-entries-place-clause-none
returns-then-entries-place-clause-none c = no_place c.args.entries.now c.args.ty c.args.id (inr c.if-entries-place.true)

pub returns-then-is_type-clause-some : goal.returns-then-is_type-clause-some
returns-then-is_type-clause-some c = is_place c.args.entries.now c.args.ty c.args.id _ c.if-id-eq0.false c.if-entries-place.false (sym c.is_type.ensures ∙ c.if-is_type.true)

pub returns-else-is_type-clause-none : goal.returns-else-is_type-clause-none
returns-else-is_type-clause-none c = no_type c.args.entries.now c.args.ty c.args.id _ c.if-id-eq0.false c.if-entries-place.false (sym c.is_type.ensures ∙ c.if-is_type.false)
