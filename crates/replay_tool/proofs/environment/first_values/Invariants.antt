use Rattle.std.specs.Prelude.{map, take}
use Rattle.replay_tool.specs.Environment.{HasFirsts}
use Rattle.replay_tool.proofs.environment.first_values.Given as goal

-- the entries so far are taken
abbrev pub invariant-loop-entry : goal.invariant-loop-entry
invariant-loop-entry l = HasFirsts (map (λ e. e.items) (take l.entry-index l.entries)) l.variables
