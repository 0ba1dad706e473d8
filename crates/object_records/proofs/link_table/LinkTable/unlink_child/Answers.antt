use Rattle.std.proofs.Common.{◌∙◌, ap, sym, subst, arith}
use Rattle.object_records.specs.declared.kept_owner.KeptOwner.{KeptOwner}
use Rattle.object_records.specs.Links.{HasChild, unlinked, unlinked_at}
use Rattle.object_records.specs.Owning.{LinkState, links_read}
use Rattle.object_records.proofs.Owning.{child_owned, none_unlinked, written_unlinked}
use Rattle.object_records.proofs.link_table.LinkTable.unlink_child.Goals as goal

pub overflow_sub-above : goal.overflow_sub-above
overflow_sub-above c =
    child_owned c.self.inside.previous.items c.self.inside.owned.items c.in-At.place c.index-above.result.now c.args.owner (subst (λ (s : LinkState). HasChild s.links c.args.owner) (sym c.self.view_is) c.requires) c.in-At.is c.self.invariant
    (omega (arith, c.if-place-len.true, c.len.ensures)) c.index-above.ensures

pub returns-then-place-len-clause-links : goal.returns-then-place-len-clause-links
returns-then-place-len-clause-links c =
    written_unlinked c.self.inside.previous.items c.self.inside.owned.items c.in-At.place c.index-above.result.now (omega (arith, c.if-place-len.true, c.len.ensures)) c.self.invariant c.index-above.ensures
    ∙ (ap (λ (s : LinkState). unlinked_at s.links c.in-At.place) c.self.view_is ∙ ap (λ (w : KeptOwner). unlinked c.args.self.now.links w) (sym c.in-At.is))

pub returns-else-place-len-clause-links : goal.returns-else-place-len-clause-links
returns-else-place-len-clause-links c =
    rw (← c.self.view_is)
    (none_unlinked c.self.inside.previous.items c.self.inside.owned.items c.in-At.place (omega (arith, c.if-place-len.false, c.len.ensures))
    ∙ ap (λ (w : KeptOwner). unlinked (links_read c.self.inside.previous.items c.self.inside.owned.items) w) (sym c.in-At.is))
