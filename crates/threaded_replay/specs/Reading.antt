-- How a source is read as a stream file, and how much of it. Source: this project.
use Rattle.std.specs.Prelude.{◌≡◌, ℕ, Bool, true, false, None, List, [], ◌∷◌, Result, Ok, Err}
use Rattle.replay_base.specs.Changes.{Change, FailedOnce, Gave, Stood}
use Rattle.replay_base.specs.Reader.{BreaksOff, IsAtEnd, ReaderState, TakesLine}
use Rattle.replay_base.specs.declared.limit.Which.TheVariants as which
use Rattle.replay_model.specs.Stop.{LineBytes, Lines}
use Rattle.replay_core.specs.Given.{GaveLines, HasGiven, IsBarred, TakesNext, source_of}
use Rattle.stream_model.specs.FileLines.{FileLine}
use Rattle.stream_model.specs.FileParts.{FileParts, parts}
use Rattle.stream_model.specs.Refusals.{Refused, file_lines, lines_in}
use Rattle.threaded_replay.specs.declared.error.StreamError.{StreamError}
use Rattle.threaded_replay.specs.declared.error.StreamError.TheVariants as error
use Rattle.threaded_replay.specs.Errors.{error_at}

-- ---- one line

-- whether there is a line with this number, or why it isn't looked at
abbrev pub FindsLine : ReaderState → ReaderState → ℕ → List ℕ → Result Bool StreamError → Type 0
FindsLine old new number line (Ok true) = TakesNext old new number line
FindsLine old new number line (Ok false) = IsAtEnd old new line
FindsLine old new number line (Err error.Read) = BreaksOff old new
FindsLine old new number line (Err (error.Limit which.Lines)) = IsBarred old new number line Lines
FindsLine old new number line (Err (error.Limit which.LineBytes)) = IsBarred old new number line LineBytes
FindsLine old new number line (Err other) = ⊥

-- ---- the whole file

-- The source was read to its end. Its bytes are a stream file of which no line is refused, and these are its parts.
pub record ReadsFile (source : Change) (file : FileParts) : Type 0 where
  pub bytes : List ℕ
  pub read : Gave source bytes
  pub lines : List FileLine
  pub are : file_lines bytes ≡ Ok lines
  pub made : file ≡ parts lines
  pub stood : Stood source

-- A line of the source's bytes is refused, and the error says where and why. No more was read than the lines up to it and `MOST_LINE_BYTES` + 1
-- bytes behind them.
pub record IsRefused (source : Change) (e : StreamError) : Type 0 where
  pub bytes : List ℕ
  pub place : Refused
  pub read : HasGiven source bytes place.line
  pub here : file_lines bytes ≡ Err place
  pub said : e ≡ error_at place.line place.cause
  pub stood : Stood source

-- The source failed. None of the lines that it had given, each with its LF, is refused.
pub record BreaksIn (source : Change) : Type 0 where
  pub given : List (List ℕ)
  pub gave : GaveLines source given
  pub lines : List FileLine
  pub none : lines_in given ≡ Ok lines
  pub failed : FailedOnce source

-- why a stream file isn't read: the source failed, a line is refused, or there was no memory, which says nothing of the bytes
abbrev pub ReadsNot : Change → StreamError → Type 0
ReadsNot source error.Read = BreaksIn source
ReadsNot source error.NoMemory = Stood source
ReadsNot source e = IsRefused source e

-- ---- the first line

-- the header was taken
pub record TakesHeader (old new : ReaderState) : Type 0 where
  pub line : List ℕ
  pub takes : TakesLine old new line
  pub here : lines_in (line ∷ []) ≡ Ok []
  pub fine : new.error ≡ None

-- the header was read, or why not
abbrev pub ReadsHeader : ReaderState → ReaderState → Result (Unit {0}) StreamError → Type 0
ReadsHeader old new (Ok done) = TakesHeader old new
ReadsHeader old new (Err e) = ReadsNot (source_of old new) e
