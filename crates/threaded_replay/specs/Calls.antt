-- What is kept of a call that isn't refused. Source: this project.
use Rattle.std.specs.Prelude.{◌≡◌, ◌+◌, Option, None, option_and_then, List, [], length}
use Rattle.command_tables.specs.declared.types.CommandId.{CommandId}
use Rattle.command_tables.specs.Table.{row_of}
use Rattle.trace_format.specs.declared.event.Name.{Name}
use Rattle.trace_format.specs.Content.{Arg, BeginEvent}
use Rattle.stream_model.specs.Devices.{makes_devices, owner_written}
use Rattle.stream_model.specs.Order.{heading_thread, with_device}
use Rattle.threaded_replay.specs.declared.sections.Sections.{Sections}
use Rattle.threaded_replay.specs.Origins.{PutResults, device_in, origin_of}

-- a call by all that is kept of it: its command, its arguments and its results
abbrev pub call_of : CommandId → List Arg → List Name → BeginEvent
call_of c args results = record { thread = 0; cmd = c; args = args; results = results; code = None; payload = [] }

-- the results have their origin, the device is among the devices, and all is counted
pub record KeepsCall (old new : Sections) (b : BeginEvent) (device : Option Name) : Type 0 where
  pub section : new.section ≡ old.section
  pub threads : new.threads ≡ old.threads
  pub results : PutResults old.origins.rows.items new.origins.rows.items b.results
      (origin_of (makes_devices b.cmd) (option_and_then (device_in old.origins.rows.items) (owner_written b.args (row_of b.cmd).effect)) (option_and_then heading_thread old.section))
  pub devices : new.devices.items ≡ with_device device old.devices.items
  pub names : new.names ≡ old.names + length b.results
  pub events : new.events ≡ old.events + 1
