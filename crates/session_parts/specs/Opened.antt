-- A call that returns, as the definitions have it. Source: this project.
use Rattle.replay_model.specs.Past.{Opened}
use Rattle.session_tables.specs.Shown.{args_shown}
use Rattle.session_parts.specs.declared.returning_call.ReturningCall.{ReturningCall}

-- a call that returns, as it was judged
abbrev pub returning_shown : ReturningCall → Opened
returning_shown c =
    record {
      number = c.number;
      thread = c.thread;
      cmd = c.cmd;
      args = args_shown c.args.now;
      results = c.results.now;
      code = c.code;
      payload = c.payload.now;
      stop = c.stop;
      refused = c.refused;
      drivers = c.drivers.now;
    }
