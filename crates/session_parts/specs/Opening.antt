-- A call before it is judged. Source: this project.
use Rattle.std.specs.Prelude.{ℕ, Option, None, false, is_some, List, [], map}
use Rattle.command_tables.specs.declared.types.Code.{Code}
use Rattle.trace_format.specs.Content.{BeginEvent, arg_content}
use Rattle.object_model.specs.declared.Argument.{Argument}
use Rattle.replay_model.specs.declared.Named.{Named}
use Rattle.replay_model.specs.Past.{Opened, arguments_in}
use Rattle.session_parts.specs.declared.opening.Beginning.{Beginning}

-- a begin as its content
abbrev pub begin_content : Beginning → BeginEvent
begin_content b = record { thread = b.thread; cmd = b.cmd; args = map arg_content b.args.now; results = b.results.now; code = b.code; payload = b.payload.now }

-- the call of a begin by its number, the names so far and the code with which its chain is refused
abbrev pub opened_first : ℕ → List Named → BeginEvent → Option Code → Opened
opened_first number names e refusal =
    record {
      number = number;
      thread = e.thread;
      cmd = e.cmd;
      args = arguments_in names e.args;
      results = e.results;
      code = e.code;
      payload = e.payload;
      stop = None;
      refused = is_some refusal;
      drivers = [];
    }

-- the call of a begin whose chain isn't refused, by its number and what its arguments stand for
abbrev pub opened_read : ℕ → BeginEvent → List (List Argument) → Opened
opened_read number e args =
    record {
      number = number;
      thread = e.thread;
      cmd = e.cmd;
      args = args;
      results = e.results;
      code = e.code;
      payload = e.payload;
      stop = None;
      refused = false;
      drivers = [];
    }
