use Rattle.std.proofs.Common.{◌∙◌, sym, arith}
use Rattle.env_filters.proofs.GlobLemmas.{place_passed, tail_range}
use Rattle.env_filters.proofs.glob.holds.Goals as goal

pub loop-at-preserved : goal.loop-at-preserved
loop-at-preserved c =
    let missed = sym c.begins_with.ensures ∙ c.if-begins_with.false in
    c.loop-at.invariant ∙ place_passed c.args.name.now c.args.part.now c.loop-at.at (omega arith) (rw (tail_range c.loop-at.at c.args.name.now) at missed)
