-- A return by what a session keeps: the open call, what is born, what is kept then, and its line. Source: this project.
use Rattle.std.specs.Prelude.{ℕ, ◌+◌, ◌==◌, not, if◌then◌else◌, Option, List, ◌++◌, map, filter, find, drop, length}
use Rattle.command_tables.specs.Table.{row_of}
use Rattle.trace_format.specs.declared.event.Name.{Name}
use Rattle.object_model.specs.History.{Birth, births_given, born_in}
use Rattle.replay_model.specs.declared.Born.{Born}
use Rattle.replay_model.specs.Setup.{Setup}
use Rattle.replay_model.specs.Past.{Opened, is_of, is_skipped, named_of, objects_of, retrieved_by}
use Rattle.replay_model.specs.Births.{made_by}
use Rattle.replay_model.specs.Direct.{Sent}
use Rattle.replay_model.specs.Text.{return_text}
use Rattle.chain_model.specs.Simulated.{ChainKept, Held, after_reply, after_skipped}
use Rattle.chain_model.specs.Traces.{held_in_force, in_force}
use Rattle.session_model.specs.Session.{SessionKept}

-- ---- the open call

-- the open call of a thread, with what was answered
abbrev pub sent_of_thread : SessionKept → ℕ → Option Sent
sent_of_thread k thread = find (λ c. is_of thread c.opened) k.sent

-- the same call as the chain holds it
abbrev pub held_of_thread : SessionKept → ℕ → Option Held
held_of_thread k thread = find (λ (h : Held). h.thread == thread) k.chain.held

-- ---- what is born

-- the results of an open call that are born
abbrev pub made_kept : Setup → SessionKept → Opened → List Born
made_kept s k o = made_by s.drivers k.births (born_in k.births) k.retrieved o

-- the results behind them are lost
abbrev pub lost_kept : Setup → SessionKept → Opened → List Name
lost_kept s k o = drop (length (made_kept s k o)) o.results

-- each of their objects that doesn't live yet is born then
abbrev pub given_kept : Setup → SessionKept → Opened → List Birth
given_kept s k o = births_given k.births o.args (row_of o.cmd).effect (objects_of (made_kept s k o))

-- ---- what is kept then

-- what is kept of the chain: results of a call that was sent go up, through the chain that comes in force where the call makes the instance
abbrev pub chain_after_return : Setup → SessionKept → Sent → Held → ChainKept
chain_after_return s k c h =
    if is_skipped c.opened then after_skipped k.chain c.opened h (lost_kept s k c.opened)
    else after_reply (in_force s k.chain c.opened) c.opened (held_in_force s c.opened h) c.answers (made_kept s k c.opened) (lost_kept s k c.opened)

-- what is kept after the return of this open call, with these births of what lives
abbrev pub kept_after_return : Setup → SessionKept → Sent → Held → List Birth → SessionKept
kept_after_return s k c h births =
    record k {
      count = k.count + length (made_kept s k c.opened);
      names = k.names ++ map named_of (made_kept s k c.opened);
      births = births;
      retrieved = k.retrieved ++ retrieved_by k.births c.opened (made_kept s k c.opened);
      sent = filter (λ x. not (is_of c.opened.thread x.opened)) k.sent;
      chain = chain_after_return s k c h;
    }

-- ---- its line

-- the line of the return of this open call
abbrev pub return_line : Setup → SessionKept → Opened → List ℕ
return_line s k o = return_text s o (length (made_kept s k o))
