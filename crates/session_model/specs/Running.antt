-- A session over the events of a trace: what it keeps, what it tells the drivers, and its lines. Source: this project.
use Rattle.std.specs.Prelude.{◌≡◌, ℕ, Option, Some, None, List, [], ◌∷◌, ◌++◌, drop, length, take}
use Rattle.command_tables.specs.Calls.{DriverCallContent, ReplyContent}
use Rattle.trace_format.specs.Content.{BeginEvent, TraceEvent, Begin, Return}
use Rattle.replay_model.specs.Setup.{Setup}
use Rattle.replay_model.specs.Judged.{judged}
use Rattle.replay_model.specs.Direct.{Sent, direct}
use Rattle.replay_model.specs.Text.{lines}
use Rattle.chain_model.specs.Simulated.{Held}
use Rattle.session_model.specs.Session.{SessionKept, nothing_kept}
use Rattle.session_model.specs.Living.{births_past, births_since}
use Rattle.session_model.specs.Beginning.{begin_lines, begun_kept, calls_told, kept_after_begin}
use Rattle.session_model.specs.Returning.{given_kept, held_of_thread, kept_after_return, return_line, sent_of_thread}
use Rattle.session_model.specs.Stands.{AreRepliesTo, Stands}

-- ---- a session so far

-- what is kept, the replies that are to come, what was told, and the lines
pub record SessionRun : Type 0 where
  pub kept : SessionKept
  pub replies : List ReplyContent
  pub told : List DriverCallContent
  pub lines : List ℕ

-- a begin takes as many replies as it has drivers
abbrev pub session_begins : Setup → SessionRun → BeginEvent → SessionRun
session_begins s r e =
    let calls = calls_told s r.kept e in
    record {
      kept = kept_after_begin s r.kept e (take (length calls) r.replies) (births_past r.kept.births (begun_kept s r.kept e).opened);
      replies = drop (length calls) r.replies;
      told = r.told ++ calls;
      lines = r.lines ++ begin_lines s r.kept e;
    }

-- a return of an open call; where there is none, nothing happens
abbrev pub session_returns : Setup → SessionRun → Option Sent → Option Held → SessionRun
session_returns s r (Some c) (Some h) =
    record r {
      kept = kept_after_return s r.kept c h (births_since r.kept.births (given_kept s r.kept c.opened));
      lines = r.lines ++ return_line s r.kept c.opened;
    }
session_returns s r (Some c) None = r
session_returns s r None h = r

-- the events, the oldest first
abbrev pub session_runs : Setup → SessionRun → List TraceEvent → SessionRun
session_runs s r [] = r
session_runs s r (Begin e ∷ events) = session_runs s (session_begins s r e) events
session_runs s r (Return thread ∷ events) = session_runs s (session_returns s r (sent_of_thread r.kept thread) (held_of_thread r.kept thread)) events

-- nothing yet, with these replies
abbrev pub session_started : List ReplyContent → SessionRun
session_started replies = record { kept = nothing_kept; replies = replies; told = []; lines = [] }

-- from nothing, with these replies
abbrev pub session_of : Setup → List ReplyContent → List TraceEvent → SessionRun
session_of s replies events = session_runs s (session_started replies) events

-- ---- what a run comes to

-- begin by begin, the replies are those that the drivers may give
abbrev pub AreAnsweredInRun : Setup → SessionRun → List TraceEvent → Type 0
AreAnsweredInRun s r [] = Unit {0}
AreAnsweredInRun s r (Begin e ∷ events) = AreRepliesTo (calls_told s r.kept e) (take (length (calls_told s r.kept e)) r.replies) × AreAnsweredInRun s (session_begins s r e) events
AreAnsweredInRun s r (Return thread ∷ events) = AreAnsweredInRun s (session_returns s r (sent_of_thread r.kept thread) (held_of_thread r.kept thread)) events

-- What a run has come to after these events, the newest first: the session stands for them with the replies that it took, its lines are the trace's, and
-- the drivers were told just what the trace tells them.
pub record RanWell (s : Setup) (r : SessionRun) (events : List TraceEvent) : Type 0 where
  pub taken : List ReplyContent
  pub stands : Stands s r.kept events taken
  pub lines : r.lines ≡ lines s (judged s events)
  pub told : r.told ≡ direct (judged s events) taken
