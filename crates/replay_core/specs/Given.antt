-- How much of a source was read, and what is known of its lines by then. Source: this project.
use Rattle.std.specs.Prelude.{◌≡◌, ◌⊎◌, ◌<◌, ◌≤◌, ◌+◌, ℕ, Bool, true, false, ⊤, List, [], ◌∷◌, ◌++◌, Option, Some, None, length, Result, Ok, Err}
use Rattle.trace_format.specs.Accepting.{fault_at_end}
use Rattle.trace_format.specs.Content.{TraceEvent}
use Rattle.replay_base.specs.Bytes.{before}
use Rattle.replay_base.specs.Changes.{Change, Stood, FailedOnce, Gave, changed}
use Rattle.replay_base.specs.Lines.{HasNoFeed, lines_of}
use Rattle.replay_base.specs.Reader.{BreaksOff, IsAtEnd, IsTooLong, ReaderState, TakesLine}
use Rattle.replay_base.specs.declared.limit.TheConstants.{MOST_LINE_BYTES}
use Rattle.replay_base.specs.declared.limit.Which.TheVariants as which
use Rattle.replay_model.specs.Setup.{Setup}
use Rattle.replay_model.specs.Stop.{Stop, Cause, LineBytes, Lines, at_fault, cause_before, events_of, placed_in, stop}
use Rattle.replay_core.specs.declared.error.ReplayError.{ReplayError}
use Rattle.replay_core.specs.declared.error.ReplayError.TheVariants as error
use Rattle.replay_core.specs.Traffic.{IsFront}

-- where a source tells what it has left, it is this
abbrev pub IsLeft : Option (List ℕ) → List ℕ → Type 0
IsLeft None bytes = ⊤
IsLeft (Some left) bytes = bytes ≡ left

-- The source has these bytes in all. What it has given so far are lines, at most so many, and at most 65,537 bytes behind them.
pub record HasGiven (source : Change) (bytes : List ℕ) (count : ℕ) : Type 0 where
  pub given : List ℕ
  pub ahead : List ℕ
  pub later : List ℕ
  pub whole : bytes ≡ (given ++ ahead) ++ later
  pub taken : source.old ≡ before (given ++ ahead) source.new
  pub left : IsLeft source.new later
  pub lines : length (lines_of given) ≤ count
  pub few : length ahead ≤ MOST_LINE_BYTES + 1

-- whatever follows them, these bytes are these lines, each with its LF
abbrev pub AreLines : List ℕ → List (List ℕ) → Type 0
AreLines bytes lines = (more : List ℕ) → lines_of (bytes ++ more) ≡ lines ++ lines_of more

-- the source has given these lines, each with its LF, and behind them bytes without LF
pub record GaveLines (source : Change) (lines : List (List ℕ)) : Type 0 where
  pub bytes : List ℕ
  pub piece : List ℕ
  pub taken : source.old ≡ before (bytes ++ piece) source.new
  pub are : AreLines bytes lines
  pub no_feed : HasNoFeed piece

-- ---- of a trace

-- the trace stops here, with these events up to there; no more than the lines up to the stop and 65,537 bytes were read
pub record StopsAt (s : Setup) (place : Stop) (events : List TraceEvent) (source : Change) : Type 0 where
  pub bytes : List ℕ
  pub read : HasGiven source bytes place.line
  pub here : stop s bytes ≡ Some place
  pub are : events_of s bytes ≡ events
  pub stood : Stood source

-- the trace was read to its end, nothing stops it, and these are its events
pub record EndsBehind (s : Setup) (events : List TraceEvent) (source : Change) : Type 0 where
  pub bytes : List ℕ
  pub read : Gave source bytes
  pub none : stop s bytes ≡ None
  pub are : events_of s bytes ≡ events
  pub count : length (lines_of bytes) ≡ length events + 1
  pub stood : Stood source

-- these are the first events of the trace, of which no more than so many lines and 65,537 bytes were read
pub record GoesOn (s : Setup) (events : List TraceEvent) (count : ℕ) (source : Change) : Type 0 where
  pub bytes : List ℕ
  pub read : HasGiven source bytes count
  pub front : IsFront (events_of s bytes) events
  pub stood : Stood source

-- the source failed, and the lines that it had given have these events, and no stop
pub record BreaksBehind (s : Setup) (events : List TraceEvent) (source : Change) : Type 0 where
  pub lines : List (List ℕ)
  pub gave : GaveLines source lines
  pub placed : placed_in s lines ≡ Some events
  pub failed : FailedOnce source

-- ---- the next line

-- what went on in a reader's source from one state to another
abbrev pub source_of : ReaderState → ReaderState → Change
source_of old new = changed old.left new.left old.faults new.faults

-- a line was taken that isn't looked at for this cause
pub record TakesBarred (old new : ReaderState) (number : ℕ) (line : List ℕ) (c : Cause) : Type 0 where
  pub takes : TakesLine old new line
  pub cause : cause_before number line ≡ Some c

-- a line is too long to be taken, and isn't looked at for this cause
pub record MeetsLong (old new : ReaderState) (number : ℕ) (c : Cause) : Type 0 where
  pub place : ℕ
  pub long : IsTooLong old new place
  pub cause : (line : List ℕ) → MOST_LINE_BYTES < length line → cause_before number line ≡ Some c

-- a line isn't looked at
abbrev pub IsBarred : ReaderState → ReaderState → ℕ → List ℕ → Cause → Type 0
IsBarred old new number line c = TakesBarred old new number line c ⊎ MeetsLong old new number c

-- a line was taken that may be looked at
pub record TakesNext (old new : ReaderState) (number : ℕ) (line : List ℕ) : Type 0 where
  pub takes : TakesLine old new line
  pub looked : cause_before number line ≡ None
  pub fine : new.error ≡ None

-- whether there is a line with this number, or why it isn't looked at
abbrev pub TakesLineOr : ReaderState → ReaderState → ℕ → List ℕ → Result Bool ReplayError → Type 0
TakesLineOr old new number line (Ok true) = TakesNext old new number line
TakesLineOr old new number line (Ok false) = IsAtEnd old new line
TakesLineOr old new number line (Err error.Read) = BreaksOff old new
TakesLineOr old new number line (Err (error.Limit which.Lines)) = IsBarred old new number line Lines
TakesLineOr old new number line (Err (error.Limit which.LineBytes)) = IsBarred old new number line LineBytes
TakesLineOr old new number line (Err other) = ⊥

-- ---- what is held back meanwhile

-- nothing went into the sink, and it didn't fail
abbrev pub IsQuiet : Change → Type 0
IsQuiet sink = (sink.new ≡ sink.old) × Stood sink

-- the sink failed as it handed on what it held back of the events in front of the line with this number; it holds what it held
pub record FailsBehind (number : ℕ) (sink : Change) : Type 0 where
  pub behind : 2 < number
  pub held : sink.new ≡ sink.old
  pub failed : FailedOnce sink

-- what the sink held back was handed on, or it failed
abbrev pub HandsOn : ℕ → Change → Result (Unit {0}) ReplayError → Type 0
HandsOn number sink (Ok done) = IsQuiet sink
HandsOn number sink (Err error.Write) = FailsBehind number sink
HandsOn number sink (Err other) = ⊥

-- whether there is a line with this number, or why it isn't looked at; the sink may fail before the source is asked for it
abbrev pub TakesBehind : ReaderState → ReaderState → ℕ → List ℕ → Change → Result Bool ReplayError → Type 0
TakesBehind old new number line sink (Err error.Write) = (new ≡ old) × FailsBehind number sink
TakesBehind old new number line sink result = TakesLineOr old new number line result × IsQuiet sink

-- ---- the header

-- the first line was taken, and it is the header
pub record TakesHeader (s : Setup) (old new : ReaderState) : Type 0 where
  pub line : List ℕ
  pub takes : TakesLine old new line
  pub placed : placed_in s (line ∷ []) ≡ Some []
  pub fine : new.error ≡ None

-- the trace stops at a line with this cause
pub record StopsByLimit (s : Setup) (cause : Cause) (events : List TraceEvent) (source : Change) : Type 0 where
  pub line : ℕ
  pub stops : StopsAt s (record { line = line; cause = cause }) events source

-- these events were read, and then the trace stops, or the source failed
abbrev pub Halts : Setup → List TraceEvent → Change → ReplayError → Type 0
Halts s events source error.Read = BreaksBehind s events source
Halts s events source (error.Trace line f) = StopsAt s (at_fault line f) events source
Halts s events source (error.Limit which.Lines) = StopsByLimit s Lines events source
Halts s events source (error.Limit which.LineBytes) = StopsByLimit s LineBytes events source
Halts s events source other = ⊥

-- the header was read, or why not
abbrev pub ReadsHeader : Setup → ReaderState → ReaderState → Result (Unit {0}) ReplayError → Type 0
ReadsHeader s old new (Ok done) = TakesHeader s old new
ReadsHeader s old new (Err e) = Halts s [] (source_of old new) e

-- ---- the end

-- the trace may end behind these events, or it stops in front of the line with this number
abbrev pub FinishesAt : List TraceEvent → ℕ → Result (Unit {0}) ReplayError → Type 0
FinishesAt events number (Ok done) = fault_at_end events ≡ None
FinishesAt events number (Err (error.Trace line f)) = (line ≡ number) × (fault_at_end events ≡ Some f)
FinishesAt events number (Err other) = ⊥
