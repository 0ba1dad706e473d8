-- Open calls as the definitions have them. Source: this project.
use Rattle.std.specs.Prelude.{is_some, map}
use Rattle.model_driver.specs.Driver.{reply_shown}
use Rattle.replay_model.specs.Past.{Opened}
use Rattle.replay_model.specs.Direct.{Sent, answers_to}
use Rattle.session_tables.specs.Shown.{args_shown}
use Rattle.chain_session.specs.declared.call.OpenCall.{OpenCall}

-- an open call, as it was judged
abbrev pub opened_of : OpenCall → Opened
opened_of c =
    record {
      number = c.number;
      thread = c.thread;
      cmd = c.cmd;
      args = args_shown c.args.items;
      results = c.results.items;
      code = c.code;
      payload = c.payload.items;
      stop = c.stop;
      refused = is_some c.refusal;
      drivers = c.drivers.items;
    }

-- with what was answered
abbrev pub sent_of : OpenCall → Sent
sent_of c = record { opened = opened_of c; answers = answers_to (opened_of c) (map reply_shown c.replies.items) }
