-- What a reader of a stream file keeps of the lines so far. Source: this project.
use Rattle.std.specs.Prelude.{◌≡◌, List, length}
use Rattle.trace_format.specs.Accepting.{names_in}
use Rattle.trace_format.specs.State.{SumsUp}
use Rattle.stream_model.specs.FileLines.{FileLine}
use Rattle.stream_model.specs.Order.{devices_named, stream_threads}
use Rattle.stream_model.specs.Order as order
use Rattle.threaded_replay.specs.declared.sections.Sections.{Sections}
use Rattle.threaded_replay.specs.declared.file_state.FileState.{FileState}
use Rattle.threaded_replay.specs.Origins.{OriginsOf}

-- what is kept beside the state of the trace is what the lines come to
pub record KeptOf (s : Sections) (lines : List FileLine) : Type 0 where
  pub section : s.section ≡ order.section lines
  pub threads : s.threads.items ≡ stream_threads lines
  pub origins : OriginsOf s.origins.rows.items lines
  pub devices : s.devices.items ≡ devices_named lines
  pub names : s.names ≡ names_in (order.events lines)
  pub events : s.events ≡ length (order.events lines)

-- the state stands for the lines: that of the trace for their events, and the rest for the lines themselves
pub record StandsFor (s : FileState) (lines : List FileLine) : Type 0 where
  pub trace : SumsUp s.trace (order.events lines)
  pub kept : KeptOf s.sections lines
