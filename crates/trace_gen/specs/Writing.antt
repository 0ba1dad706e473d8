-- What becomes of a text that is written to a sink. Source: this project.
use Rattle.std.specs.Prelude.{◌≡◌, List, ◌++◌, ℕ, Result, Ok, Err}
use Rattle.replay_base.specs.Bytes.{GrownByFront}
use Rattle.replay_base.specs.Changes.{Change, FailedOnce, Gained, IsUnmoved, Stood}
use Rattle.trace_gen.specs.declared.error.GenError.{GenError}
use Rattle.trace_gen.specs.declared.error.GenError.TheVariants.{Write, NoMemory}

-- the sink has gained the text, or a front of it where it failed
abbrev pub Puts : List ℕ → Change → Result (Unit {0}) GenError → Type 0
Puts text sink (Ok done) = Gained sink text × Stood sink
Puts text sink (Err Write) = GrownByFront sink.old sink.new text × FailedOnce sink
Puts text sink (Err NoMemory) = ⊥

-- the same, or nothing for want of memory
abbrev pub Writes : List ℕ → Change → Result (Unit {0}) GenError → Type 0
Writes text sink (Ok done) = Gained sink text × Stood sink
Writes text sink (Err Write) = GrownByFront sink.old sink.new text × FailedOnce sink
Writes text sink (Err NoMemory) = IsUnmoved sink × Stood sink

-- so much of a text was written, and this is the rest
pub record Begun (text rest : List ℕ) (sink : Change) : Type 0 where
  pub done : List ℕ
  pub whole : text ≡ done ++ rest
  pub gained : Gained sink done
  pub stood : Stood sink
