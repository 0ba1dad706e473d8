-- The shape of a call that a lifetimes part is given, and the call as a step of a history. Source: this project.
use Rattle.std.specs.Prelude.{ℕ, ◌≤◌, length}
use Rattle.command_tables.specs.Handles.{list_at}
use Rattle.command_tables.specs.declared.call.LayerCall.{LayerCall}
use Rattle.object_model.specs.History.{Call}
use Rattle.object_records.specs.Shape.{arguments_of}

-- each parameter of the call has at most 1,024 places
abbrev pub HasFewPlaces : LayerCall → Type 0
HasFewPlaces c = (p : ℕ) → length (list_at c.args.lists p) ≤ 1024

-- the call with this number, on this thread, as it is read by its handles
abbrev pub call_read : ℕ → ℕ → LayerCall → Call
call_read number thread c = record { number = number; thread = thread; cmd = c.cmd; args = arguments_of c }
