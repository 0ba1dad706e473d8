use Rattle.std.proofs.Common.{◌∙◌, ◌≤◌, ap, arith, sym, subst}
use Rattle.object_model.specs.Objects.{same}
use Rattle.object_model.specs.History.{created_in}
use Rattle.session_tables.specs.Lined.{AreLeft, ObjectsState}
use Rattle.session_tables.specs.Owned.{listed_in}
use Rattle.session_tables.proofs.Listing.{ended_none, ended_with, listed_fewer}
use Rattle.session_tables.proofs.object_table.ObjectTable.end_with.Goals as goal

pub invariant_of-self : goal.invariant_of-self
invariant_of-self c =
    let s = c.self-then-is_created in (s.invariant.0, listed_fewer s.inside.births.births c.remove.new.self.births (same c.args.named) (listed_in s.inside.lists) s.invariant.1 c.remove.ensures.left)

pub returns-then-is_created-clause-left : goal.returns-then-is_created-clause-left
returns-then-is_created-clause-left c =
    ended_with c.args.self.now.births c.end_below.new.self.births c.remove.new.self.births c.args.named (ap (λ (s : ObjectsState). created_in s.births c.args.named) (sym c.self.view_is) ∙ (sym c.is_created.ensures ∙ c.if-is_created.true))
    c.end_below.ensures.left (subst (λ (s : ObjectsState). AreLeft s.births (same c.args.named) c.remove.new.self.births) c.self-then-is_created.view_is c.remove.ensures.left)

pub returns-then-is_created-clause-spare : goal.returns-then-is_created-clause-spare
returns-then-is_created-clause-spare c =
    let now = subst (λ (s : ObjectsState). s.spare ≤ c.remove.new.self.spare) c.self-then-is_created.view_is c.remove.ensures.spare in omega (arith, now, c.end_below.ensures.spare)

pub returns-then-is_created-clause-links : goal.returns-then-is_created-clause-links
returns-then-is_created-clause-links c = subst (λ (s : ObjectsState). c.args.self.now.links ≤ s.links) (sym c.self-then-is_created.view_is) c.end_below.ensures.links

pub returns-then-is_created-clause-owners : goal.returns-then-is_created-clause-owners
returns-then-is_created-clause-owners c = subst (λ (s : ObjectsState). c.args.self.now.owners ≤ s.owners) (sym c.self-then-is_created.view_is) c.end_below.ensures.owners

pub returns-else-is_created-clause-left : goal.returns-else-is_created-clause-left
returns-else-is_created-clause-left c =
    ended_none c.args.self.now.births c.args.named (ap (λ (s : ObjectsState). created_in s.births c.args.named) (sym c.self.view_is) ∙ (sym c.is_created.ensures ∙ c.if-is_created.false))
