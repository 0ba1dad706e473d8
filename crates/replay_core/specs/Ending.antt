-- A text that a replay writes by itself. Source: this project.
use Rattle.std.specs.Prelude.{ℕ, List, Result, Ok, Err}
use Rattle.replay_base.specs.Bytes.{GrownByFront}
use Rattle.replay_base.specs.Changes.{Change, Stood, FailedOnce, IsUnmoved, Gained}
use Rattle.replay_core.specs.declared.error.ReplayError.{ReplayError}
use Rattle.replay_core.specs.declared.error.ReplayError.TheVariants as error

-- the sink failed behind a front of the text
pub record PutFront (text : List ℕ) (sink : Change) : Type 0 where
  pub front : GrownByFront sink.old sink.new text
  pub failed : FailedOnce sink

-- the text was written, or why not: all its memory is taken before any of it is written
abbrev pub PutsText : List ℕ → Change → Result (Unit {0}) ReplayError → Type 0
PutsText text sink (Ok done) = Gained sink text × Stood sink
PutsText text sink (Err error.Write) = PutFront text sink
PutsText text sink (Err error.NoMemory) = IsUnmoved sink × Stood sink
PutsText text sink (Err other) = ⊥
