use Rattle.std.proofs.Common.{◌≡◌, map, take}
use Rattle.env_filters.proofs.VariableLemmas.{variable_of}
use Rattle.env_filters.proofs.variables.EnvListClone.clone.Given as goal

-- one entry for each so far
abbrev pub invariant-loop-entry : goal.invariant-loop-entry
invariant-loop-entry l = map variable_of l.entries.items ≡ map variable_of (take l.entry-index l.entry-items)
