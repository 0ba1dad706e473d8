-- That the births of what lives are enough for what a session asks of births. Events stand newest first. Source: this project.
use Rattle.std.specs.Prelude.{◌≡◌, ℕ, true, Some, List, find, filter}
use Rattle.command_tables.specs.Table.{row_of}
use Rattle.trace_format.specs.Content.{TraceEvent}
use Rattle.object_model.specs.declared.Object.{Object}
use Rattle.object_model.specs.History.{Birth, History, alive, births, births_given, ends_by, born_in}
use Rattle.object_model.specs.Rules.{loader_failures}
use Rattle.replay_model.specs.Setup.{Setup}
use Rattle.replay_model.specs.Past.{Opened, Retrieval, history, is_of, objects_of, open_calls, retrievals, retrieved_by}
use Rattle.replay_model.specs.Births.{made_by}
use Rattle.replay_model.specs.Judged.{judged, made_of}

-- the history of a trace's events
abbrev pub history_of : Setup → List TraceEvent → History
history_of s events = history (judged s events)

-- the open call of a thread
abbrev pub IsOpenOf : Setup → List TraceEvent → ℕ → Opened → Type 0
IsOpenOf s events thread o = find (is_of thread) (open_calls (judged s events)) ≡ Some o

-- By these births the loader finds what it finds by what lives, and a call ends what it ends by all births, of what lives.
pub record SaysOfCalls (s : Setup) (events : List TraceEvent) (ls : List Birth) : Type 0 where
  pub loader : (o : Opened) → loader_failures (born_in ls) (row_of o.cmd).params o.args ≡ loader_failures (alive (history_of s events)) (row_of o.cmd).params o.args
  pub ends : (o : Opened) (x : Object) → alive (history_of s events) x ≡ true → ends_by ls o.args (row_of o.cmd).effect x ≡ ends_by (births (history_of s events)) o.args (row_of o.cmd).effect x

-- By these births the return of an open call makes, gives and retrieves what it does by all births.
pub record SaysOfReturns (s : Setup) (events : List TraceEvent) (ls : List Birth) (o : Opened) : Type 0 where
  pub made : made_by s.drivers ls (born_in ls) (retrievals (judged s events)) o ≡ made_of s (judged s events) o
  pub given : births_given ls o.args (row_of o.cmd).effect (objects_of (made_of s (judged s events) o)) ≡ births_given (births (history_of s events)) o.args (row_of o.cmd).effect (objects_of (made_of s (judged s events) o))
  pub retrieved : retrieved_by ls o (made_of s (judged s events) o) ≡ retrieved_by (births (history_of s events)) o (made_of s (judged s events) o)

-- the retrievals whose objects live
abbrev pub living_retrievals : Setup → List TraceEvent → List Retrieval
living_retrievals s events = filter (λ r. alive (history_of s events) r.object) (retrievals (judged s events))
