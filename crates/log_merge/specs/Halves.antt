-- What the merge of some of the logs is, and of two lists. Source: this project.
use Rattle.std.specs.Prelude.{◌≡◌, ℕ, ◌<◌, ◌≤◌, Bool, true, false, not, List, [], filter}
use Rattle.std.specs.List.{AllByRecursion, slice_index_or}
use Rattle.stream_log.specs.declared.line.Line.{Line}
use Rattle.log_merge.specs.Merged.{NumberedLine, AreOrdered, lines_of_log}

-- an entry of the log with a number
abbrev pub in_log : ℕ → Line → NumberedLine
in_log log line = record { log = log; line = line }

-- two lists in one order: whatever tells their entries apart parts it into them
pub record IsMergeOfTwo (xs ys merged : List NumberedLine) : Type 0 where
  pub parts : (is_left : NumberedLine → Bool)
      → AllByRecursion (λ (x : NumberedLine). is_left x ≡ true) xs
      → AllByRecursion (λ (y : NumberedLine). is_left y ≡ false) ys
      → (filter is_left merged ≡ xs) × (filter (λ (x : NumberedLine). not (is_left x)) merged ≡ ys)
  pub ordered : AreOrdered merged

-- all entries of the logs from one number up to another, and no others, in one order
pub record IsMergeBetween (logs : List (List Line)) (from to : ℕ) (merged : List NumberedLine) : Type 0 where
  pub each : (k : ℕ) → from ≤ k → k < to → lines_of_log k merged ≡ slice_index_or logs k []
  pub within : AllByRecursion (λ (x : NumberedLine). (from ≤ x.log) × (x.log < to)) merged
  pub ordered : AreOrdered merged
