-- The lines of a call's reports and of its return, by what is kept of it. Source: this project.
use Rattle.std.specs.Prelude.{◌≡◌, ℕ, ◌&&◌, if◌then◌else◌, Option, Some, None, List, [], is_some, length, slice_get}
use Rattle.std.specs.Option.{option_map_or}
use Rattle.command_tables.specs.Effects.{succeeds}
use Rattle.command_tables.specs.Table.{row_of}
use Rattle.command_tables.specs.Tests.{same_command}
use Rattle.command_tables.specs.declared.types.CommandId.{CommandId}
use Rattle.command_tables.specs.declared.types.CommandId.TheVariants as cmd
use Rattle.command_tables.specs.declared.types.Code.{Code}
use Rattle.command_tables.specs.declared.types.Code.TheVariants as code
use Rattle.trace_format.specs.Content.{Arg}
use Rattle.object_model.specs.Findings.{Report}
use Rattle.replay_model.specs.Past.{Opened, is_skipped}
use Rattle.replay_model.specs.Setup.{Setup, refusal_of}
use Rattle.replay_model.specs.Text.{enumerated, report_line, written_at}
use Rattle.chain_session.specs.declared.reporting.Returning.{Returning}

-- the line of a report of the call with this number, command and arguments
abbrev pub line_at : ℕ → CommandId → List Arg → Report → List ℕ
line_at number c args r = option_map_or (λ p. report_line number c p (written_at args r.failure.param r.failure.index) r) (slice_get (row_of c).params r.failure.param) []

-- the answer of a skipped call: the code of a refused chain, or an error where the command answers a code
abbrev pub answer_if_skipped : Returning → Option Code
answer_if_skipped call = if is_some call.refusal then call.refusal else (if (row_of call.cmd).returns then Some code.ErrorValidationFailedExt else None)

-- the answer of a call, by what is kept of it
abbrev pub answer_by : Returning → Option Code
answer_by call =
    if call.skipped then answer_if_skipped call
    else (if same_command call.cmd cmd.EnumeratePhysicalDevices && succeeds call.cmd call.code then Some (enumerated call.drivers call.results) else call.code)

-- what is kept of an open call is what its return says
pub record IsOf (s : Setup) (o : Opened) (call : Returning) : Type 0 where
  pub number : o.number ≡ call.number
  pub cmd : o.cmd ≡ call.cmd
  pub code : o.code ≡ call.code
  pub refusal : (if o.refused then refusal_of (s.outcome o.payload) else None) ≡ call.refusal
  pub refused : o.refused ≡ is_some call.refusal
  pub skipped : is_skipped o ≡ call.skipped
  pub results : length o.results ≡ call.results
  pub drivers : s.drivers ≡ call.drivers
