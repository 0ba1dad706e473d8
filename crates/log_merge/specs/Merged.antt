-- The entries of several logs in one order. Source: this project.
use Rattle.std.specs.Prelude.{◌≡◌, ◌==◌, ⊤, ℕ, Bool, true, ◌&&◌, ◌||◌, nat_le, nat_lt, List, [], ◌∷◌, filter, map}
use Rattle.std.specs.List.{slice_index_or}
use Rattle.stream_log.specs.declared.line.Line.{Line}

-- an entry with the number of its log, from 0
pub record NumberedLine : Type 0 where
  pub log : ℕ
  pub line : Line

-- the entries of the log with a number, in their order
abbrev pub lines_of_log : ℕ → List NumberedLine → List Line
lines_of_log k merged = map (λ (x : NumberedLine). x.line) (filter (λ (x : NumberedLine). x.log == k) merged)

-- an entry may stand before another: its time is less, or it is the same and its thread is no greater
abbrev pub may_precede : NumberedLine → NumberedLine → Bool
may_precede a b = nat_lt a.line.time b.line.time || (a.line.time == b.line.time && nat_le a.line.thread b.line.thread)

-- an entry may stand before the first of these
abbrev pub PrecedesFirst : NumberedLine → List NumberedLine → Type 0
PrecedesFirst x [] = ⊤
PrecedesFirst x (y ∷ rest) = may_precede x y ≡ true

-- entries stand in the order of their times, and where these are the same of their threads
abbrev pub AreOrdered : List NumberedLine → Type 0
AreOrdered [] = ⊤
AreOrdered (x ∷ rest) = PrecedesFirst x rest × AreOrdered rest

-- all entries of these logs, and no others, in one order, in which those of each log stand in the log's
pub record IsLogMerge (logs : List (List Line)) (merged : List NumberedLine) : Type 0 where
  pub each : (k : ℕ) → lines_of_log k merged ≡ slice_index_or logs k []
  pub ordered : AreOrdered merged
