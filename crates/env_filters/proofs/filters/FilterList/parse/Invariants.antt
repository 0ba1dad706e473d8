use Rattle.std.proofs.Common.{◌≡◌, map, take, Bor, List, ℕ}
use Rattle.env_filters.specs.Globs.{pattern_of}
use Rattle.env_filters.proofs.filters.FilterList.parse.Given as goal

-- one glob for each entry so far
abbrev pub invariant-loop-entry : goal.invariant-loop-entry
invariant-loop-entry l = l.globs.items ≡ map pattern_of (map {A = Bor (List ℕ)} {B = List ℕ} (λ entry. entry.now) (take l.entry-index l.entry-items))
