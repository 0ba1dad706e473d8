use Rattle.std.proofs.Common.{ap, sym, ◌∙◌}
use Rattle.object_model.specs.Objects.{is_in}
use Rattle.session_tables.proofs.Listing.{heads_fewer, left_owned, left_unowned, others_stay, owned_apart}
use Rattle.session_tables.proofs.object_table.end_owned.Goals as goal

pub returns-then-is_among-clause-left : goal.returns-then-is_among-clause-left
returns-then-is_among-clause-left c =
    left_owned c.args.births.now.births c.remove.new.self.births c.args.object c.args.named (ap (λ xs. is_in xs c.args.named) (sym c.owners_of.ensures) ∙ (sym c.is_among.ensures ∙ c.if-is_among.true)) c.remove.ensures.left

pub returns-then-is_among-clause-heads : goal.returns-then-is_among-clause-heads
returns-then-is_among-clause-heads c = λ w apart.
    others_stay c.args.heads.now c.remove-then-is_among.new.self c.args.object c.remove-then-is_among.ensures.left w
    (owned_apart c.args.births.now.births c.args.object c.args.named w (ap (λ xs. is_in xs c.args.named) (sym c.owners_of.ensures) ∙ (sym c.is_among.ensures ∙ c.if-is_among.true)) apart)

pub returns-then-is_among-clause-fewer : goal.returns-then-is_among-clause-fewer
returns-then-is_among-clause-fewer c = heads_fewer c.args.heads.now c.remove-then-is_among.new.self c.args.object c.remove-then-is_among.ensures.left

pub returns-else-is_among-clause-left : goal.returns-else-is_among-clause-left
returns-else-is_among-clause-left c = left_unowned c.args.births.now.births c.args.object c.args.named (ap (λ xs. is_in xs c.args.named) (sym c.owners_of.ensures) ∙ (sym c.is_among.ensures ∙ c.if-is_among.false))
