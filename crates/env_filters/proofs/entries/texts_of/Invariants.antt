use Rattle.std.proofs.Common.{◌≡◌, map, take, string_bytes, Bor, List, ℕ}
use Rattle.env_filters.proofs.entries.texts_of.Given as goal

-- one text for each entry so far
abbrev pub invariant-loop-entry : goal.invariant-loop-entry
invariant-loop-entry l = map string_bytes l.texts.items ≡ map {A = Bor (List ℕ)} {B = List ℕ} (λ entry. entry.now) (take l.entry-index l.fn.entries)
