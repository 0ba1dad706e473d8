-- The bytes between two places.
use Rattle.std.specs.Prelude.{ℕ, ◌≤◌, ◌<◌, Bool, List, slice_index, IsTrue}

-- each byte from the one place up to the other passes a test
abbrev pub PassBetween : (ℕ → Bool) → List ℕ → ℕ → ℕ → Type 0
PassBetween test bytes low high = (k : ℕ) → low ≤ k → k < high → IsTrue (test (slice_index bytes k))
