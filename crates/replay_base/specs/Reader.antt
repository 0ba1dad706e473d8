-- What a reader of lines has, before and after a call. Source: this project.
use Rattle.std.specs.Prelude.{◌≡◌, ℕ, ◌+◌, ◌-◌, ◌^◌, ◌<◌, ◌≤◌, min, Bool, true, false, not, List, [], length, take, drop, Option, Some, None, MatchOption, Result, Ok, Err}
use Rattle.replay_base.specs.Bytes.{before, IsSpent}
use Rattle.replay_base.specs.Faults.{raised}
use Rattle.replay_base.specs.Lines.{HasNoFeed, IsFeed, line_text}
use Rattle.replay_base.specs.declared.limit.TheConstants.{MOST_LINE_BYTES}
use Rattle.replay_base.specs.declared.reader.LineReader.{LineReader}
use Rattle.replay_base.specs.declared.line.Line.{Line}
use Rattle.replay_base.specs.declared.line.Line.TheVariants.{Text, End}
use Rattle.replay_base.specs.declared.line.LineError.{LineError}
use Rattle.replay_base.specs.declared.line.LineError.TheVariants as error

-- ---- a reader

-- the bytes that it has read and not given, what its source has left, how often its source has failed, whether it has met its source's end, the place of
-- the next line's first byte, and the error that it answers from now on
pub record ReaderState : Type 0 where
  pub kept : List ℕ
  pub left : Option (List ℕ)
  pub faults : ℕ
  pub finished : Bool
  pub place : ℕ
  pub error : Option LineError

-- the bytes of the buffer from one place to another
abbrev pub part : List ℕ → ℕ → ℕ → List ℕ
part bytes from to = take (to - from) (drop from bytes)

-- the bytes that a reader has read and not given
abbrev pub kept_of : {S : Type 0} → LineReader S → List ℕ
kept_of reader = part reader.buffer.items reader.from reader.to

-- the line that it found last
abbrev pub line_of : {S : Type 0} → LineReader S → List ℕ
line_of reader = part reader.buffer.items reader.line_from reader.line_to

-- what it has, by what its source has left and counts
abbrev pub state_of : {S : Type 0} → (S → Option (List ℕ)) → (S → ℕ) → LineReader S → ReaderState
state_of left faults reader = record { kept = kept_of reader; left = left reader.source; faults = faults reader.source; finished = reader.finished; place = reader.place; error = reader.error }

-- all that is still to be given
abbrev pub rest : ReaderState → Option (List ℕ)
rest r = before r.kept r.left

-- a reader that has given nothing yet of what its source has
abbrev pub fresh : Option (List ℕ) → ℕ → ReaderState
fresh left faults = record { kept = []; left = left; faults = faults; finished = false; place = 0; error = None }

-- ---- a call

-- places are counted in 64 bits
abbrev pub place_behind : ℕ → ℕ → ℕ
place_behind place n = min (place + n) (2 ^ 64 - 1)

-- the rest has lost a line, with its LF, or a last one that isn't empty: behind that one the source is asked no more
pub record TakesLine (old new : ReaderState) (line : List ℕ) : Type 0 where
  pub ended : Bool
  pub no_feed : HasNoFeed line
  pub short : length line ≤ MOST_LINE_BYTES
  pub taken : rest old ≡ before (line_text line ended) (rest new)
  pub last : ended ≡ false → IsSpent (rest new) × (0 < length line)
  pub place : new.place ≡ place_behind old.place (length (line_text line ended))
  pub unfinished : old.finished ≡ false
  pub finished : new.finished ≡ not ended
  pub stood : new.faults ≡ old.faults

-- the kept bytes begin with a line of this length that has an LF behind it, or they are the last line and nothing is left
pub record EndsLine (r : ReaderState) (size : ℕ) (ended : Bool) : Type 0 where
  pub no_feed : HasNoFeed (take size r.kept)
  pub within : size ≤ length r.kept
  pub short : size ≤ MOST_LINE_BYTES
  pub feed : ended ≡ true → IsFeed r.kept size
  pub last : ended ≡ false → (size ≡ length r.kept) × IsSpent r.left

-- nothing was given
pub record GivesNone (old new : ReaderState) : Type 0 where
  pub same : rest new ≡ rest old
  pub place : new.place ≡ old.place

-- nothing is left to be given; where the end was met before, as that call told
pub record IsAtEnd (old new : ReaderState) (line : List ℕ) : Type 0 where
  pub spent : (old.finished ≡ true → IsSpent (rest old)) → IsSpent (rest old)
  pub none : GivesNone old new
  pub empty : line ≡ []
  pub finished : new.finished ≡ true
  pub stood : new.faults ≡ old.faults

-- the source failed before its end was met, and no whole line was read before
pub record BreaksOff (old new : ReaderState) : Type 0 where
  pub none : GivesNone old new
  pub no_feed : HasNoFeed new.kept
  pub unfinished : old.finished ≡ false
  pub failed : new.faults ≡ raised old.faults

-- the rest begins with one byte more than a line may have, and none of them is LF
pub record IsTooLong (old new : ReaderState) (place : ℕ) : Type 0 where
  pub none : GivesNone old new
  pub no_feed : HasNoFeed new.kept
  pub count : length new.kept ≡ MOST_LINE_BYTES + 1
  pub first : place ≡ old.place
  pub unfinished : old.finished ≡ false
  pub stood : new.faults ≡ old.faults

-- a line, the end, or why there is neither
abbrev pub ReadsLine : ReaderState → ReaderState → Result Line LineError → List ℕ → Type 0
ReadsLine old new (Ok Text) line = TakesLine old new line × (new.error ≡ None)
ReadsLine old new (Ok End) line = IsAtEnd old new line × (new.error ≡ None)
ReadsLine old new (Err error.Read) line = BreaksOff old new × (new.error ≡ Some error.Read)
ReadsLine old new (Err (error.TooLong place)) line = IsTooLong old new place × (new.error ≡ Some (error.TooLong place))
ReadsLine old new (Err error.NoMemory) line = (new.faults ≡ old.faults) × (new.error ≡ Some error.NoMemory)

-- the same, or the error that the reader has answered before
abbrev pub Reads : ReaderState → ReaderState → Result Line LineError → List ℕ → Type 0
Reads old new result line = MatchOption old.error (ReadsLine old new result line) (λ e. (result ≡ Err e) × (new ≡ old))
