use Rattle.trace_gen.specs.Left.{between}
use Rattle.trace_gen.proofs.TurnLemmas.{turn_left}
use Rattle.trace_gen.proofs.turns.Generator.turn_or_end.Goals as goal

pub returns-then-self-gt0 : goal.returns-then-self-gt0
returns-then-self-gt0 c =
    let old = c.args.self.now in
    let new = c.turn.new.self in
    turn_left old.stage new.stage old.turns new.turns (between old) (between new) c.turn.result c.requires c.turn.ensures.stage c.turn.ensures.turns c.turn.ensures.call c.turn.ensures.between
