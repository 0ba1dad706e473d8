-- What comes of the lines of a stream file, one after the other, and of its end. Source: this project.
use Rattle.std.specs.Prelude.{◌≡◌, ⊤, ℕ, Some, None, List, ◌∷◌, Result, Ok, Err}
use Rattle.stream_model.specs.declared.refusal.Refusal.{Refusal}
use Rattle.stream_model.specs.FileLines.{FileLine, file_line}
use Rattle.stream_model.specs.FileParts.{parts}
use Rattle.stream_model.specs.Order.{refusal_after, refusal_at_end}
use Rattle.stream_model.specs.Refusals.{placed}
use Rattle.threaded_replay.specs.declared.error.NotTaken.{NotTaken}
use Rattle.threaded_replay.specs.declared.error.NotTaken.TheVariants as why
use Rattle.threaded_replay.specs.declared.error.StreamError.{StreamError}
use Rattle.threaded_replay.specs.declared.error.StreamError.TheVariants as error
use Rattle.threaded_replay.specs.declared.intake.Intake.{Intake}
use Rattle.threaded_replay.specs.declared.stream_file.StreamFile.{StreamFile}
use Rattle.threaded_replay.specs.Errors.{error_at}
use Rattle.threaded_replay.specs.Files.{IsDraftOf, file_parts}
use Rattle.threaded_replay.specs.Kept.{StandsFor}

-- the file so far, and what the next line reads of it, are what these lines come to
pub record IsIntakeOf (i : Intake) (lines : List FileLine) : Type 0 where
  pub state : StandsFor i.state lines
  pub draft : IsDraftOf i.draft lines

-- a line that was read is taken, or why not; want of memory says nothing
abbrev pub IntakeTakes : Intake → Intake → FileLine → Result (Unit {0}) NotTaken → Type 0
IntakeTakes old new l (Ok done) = (lines : List FileLine) → IsIntakeOf old lines → (refusal_after lines l ≡ None) × IsIntakeOf new (l ∷ lines)
IntakeTakes old new l (Err (why.Refused r)) = (lines : List FileLine) → IsIntakeOf old lines → refusal_after lines l ≡ Some r
IntakeTakes old new l (Err why.NoMemory) = ⊤

-- the line that these bytes spell was taken behind those before it
pub record TookText (new : Intake) (lines : List FileLine) (text : List ℕ) : Type 0 where
  pub line : FileLine
  pub here : placed lines (file_line text) ≡ Ok line
  pub is : IsIntakeOf new (line ∷ lines)

-- a line is taken as it is written, or why not; want of memory says nothing
abbrev pub TakesText : Intake → Intake → List ℕ → Result (Unit {0}) NotTaken → Type 0
TakesText old new text (Ok done) = (lines : List FileLine) → IsIntakeOf old lines → TookText new lines text
TakesText old new text (Err (why.Refused r)) = (lines : List FileLine) → IsIntakeOf old lines → placed lines (file_line text) ≡ Err r
TakesText old new text (Err why.NoMemory) = ⊤

-- the file may end behind these lines, and has their parts
pub record CanEnd (lines : List FileLine) (file : StreamFile) : Type 0 where
  pub none : refusal_at_end lines ≡ None
  pub are : file_parts file ≡ parts lines

-- the file may not end behind these lines, in front of the line with this number, and the error says why
pub record CannotEnd (lines : List FileLine) (number : ℕ) (e : StreamError) : Type 0 where
  pub cause : Refusal
  pub is : refusal_at_end lines ≡ Some cause
  pub said : e ≡ error_at number cause

-- the file may not end there, or there was no memory
abbrev pub EndsNot : Intake → ℕ → StreamError → Type 0
EndsNot i number error.NoMemory = ⊤
EndsNot i number e = (lines : List FileLine) → IsIntakeOf i lines → CannotEnd lines number e
