use Rattle.std.proofs.Common.{◌∙◌, sym}
use Rattle.handle_map.proofs.Indexed.{found_kept, found_linked, found_within}
use Rattle.handle_map.proofs.pair_index.PairIndex.place.Goals as goal

pub returns-then-stands_before-clause-place : goal.returns-then-stands_before-clause-place
returns-then-stands_before-clause-place c =
    rw (← c.self.view_is) (found_linked c.self.inside.rows c.self.inside.sparse.entries c.self.inside.list.pairs c.args.ty c.args.id c.link-link.result c.self.invariant (sym c.stands_before.ensures ∙ c.if-stands_before.true))

pub returns-then-stands_before-clause-within : goal.returns-then-stands_before-clause-within
returns-then-stands_before-clause-within c = found_within c.args.self.now.pairs c.args.ty c.args.id _ (returns-then-stands_before-clause-place c)

pub returns-clause-place : goal.returns-clause-place
returns-clause-place c =
    rw (← c.self.view_is)
    (c.place_in.ensures
    ∙ found_kept c.self.inside.rows c.self.inside.sparse.entries c.self.inside.list.pairs c.args.ty c.args.id c.link-link.result c.self.invariant c.link-link.ensures (sym c.stands_before.ensures ∙ c.if-stands_before.false))

pub returns-clause-within : goal.returns-clause-within
returns-clause-within c = found_within c.args.self.now.pairs c.args.ty c.args.id c.place_in.result (returns-clause-place c)
