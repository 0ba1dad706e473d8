-- What is seen of a device under its lock. Source: this project.
use Rattle.std.specs.Prelude.{◌≡◌, ℕ, Bool, List, [], ◌∷◌, ◌++◌}
use Rattle.stream_log.specs.declared.line.Line.{Line}

-- the number of the device's plan, and the list of its log
pub record LockedView : Type 0 where
  pub place : ℕ
  pub list : List Line

-- the last step was a thread's, a begin or a return
pub record IsLastStep (thread : ℕ) (begins : Bool) (list : List Line) : Type 0 where
  pub before : List Line
  pub last : Line
  pub list_is : list ≡ before ++ last ∷ []
  pub thread_is : last.thread ≡ thread
  pub begins_is : last.begins ≡ begins
