-- A begin by what a session keeps: how it is judged, what the drivers are told, what is kept then, and its lines. Source: this project.
use Rattle.std.specs.Prelude.{ℕ, ◌+◌, Bool, false, ◌||◌, if◌then◌else◌, Option, None, is_some, List, [], ◌∷◌, ◌++◌, map, length}
use Rattle.std.specs.List.{flat_map}
use Rattle.command_tables.specs.Calls.{DriverCallContent, ReplyContent}
use Rattle.command_tables.specs.Table.{row_of}
use Rattle.trace_format.specs.Content.{BeginEvent}
use Rattle.object_model.specs.Findings.{Findings}
use Rattle.object_model.specs.History.{Birth, born_in}
use Rattle.object_model.specs.Rules.{Failure, loader_failures}
use Rattle.replay_model.specs.Setup.{Setup}
use Rattle.replay_model.specs.Past.{Opened, arguments_in, is_skipped}
use Rattle.replay_model.specs.Judged.{Begun, is_refused}
use Rattle.replay_model.specs.Direct.{answers_to}
use Rattle.replay_model.specs.Text.{chain_text, report_text}
use Rattle.layer_model.specs.Routes.{drivers_at}
use Rattle.layer_model.specs.Terminator.{told_call}
use Rattle.layer_model.specs.Walks.{Walked, nothing_found}
use Rattle.chain_model.specs.Simulated.{after_begin, found_by, walk_of}
use Rattle.session_model.specs.Session.{SessionKept}

-- ---- how it is judged

-- the call of a begin, with where it stops, whether its chain is refused, and its drivers
abbrev pub opened_with : SessionKept → BeginEvent → Option ℕ → Bool → List ℕ → Opened
opened_with k e stop refused drivers =
    record {
      number = k.calls + 1;
      thread = e.thread;
      cmd = e.cmd;
      args = arguments_in k.names e.args;
      results = e.results;
      code = e.code;
      payload = e.payload;
      stop = stop;
      refused = refused;
      drivers = drivers;
    }

-- the walk of the call through the parts; it needs only what the event says
abbrev pub walk_kept : SessionKept → BeginEvent → Walked
walk_kept k e = walk_of k.chain (opened_with k e None false [])

-- what the loader finds
abbrev pub loader_kept : SessionKept → BeginEvent → List Failure
loader_kept k e = loader_failures (born_in k.births) (row_of e.cmd).params (arguments_in k.names e.args)

-- what is found in all: nothing where the chain is refused
abbrev pub findings_kept : Setup → SessionKept → BeginEvent → Findings
findings_kept s k e = if is_refused s e.cmd e.payload then nothing_found else found_by (loader_kept k e) (walk_kept k e).found

-- the drivers that the call goes to: none where it is skipped
abbrev pub drivers_kept : Setup → SessionKept → BeginEvent → List ℕ
drivers_kept s k e =
    if is_refused s e.cmd e.payload || is_some (findings_kept s k e).stop then [] else drivers_at s.drivers k.chain.routes (walk_kept k e).bottom

-- the begin as it is judged
abbrev pub begun_kept : Setup → SessionKept → BeginEvent → Begun
begun_kept s k e =
    record {
      opened = opened_with k e (findings_kept s k e).stop (is_refused s e.cmd e.payload) (drivers_kept s k e);
      reports = (findings_kept s k e).reports;
    }

-- ---- what the drivers are told

-- the calls that the drivers are told, in order
abbrev pub calls_told : Setup → SessionKept → BeginEvent → List DriverCallContent
calls_told s k e = map (told_call k.chain.terminator (walk_kept k e).bottom) (drivers_kept s k e)

-- ---- what is kept then

-- what is kept after a begin that was judged so, with what the loader found, these replies of its drivers in their order, and these births of what lives
abbrev pub kept_after_begun : SessionKept → Begun → List Failure → List ReplyContent → List Birth → SessionKept
kept_after_begun k b failures own births =
    record k {
      calls = k.calls + 1;
      skipped = k.skipped + (if is_skipped b.opened then 1 else 0);
      reports = k.reports + length b.reports;
      births = births;
      sent = k.sent ++ record { opened = b.opened; answers = answers_to b.opened own } ∷ [];
      chain = after_begin k.chain failures b.opened;
    }

-- what is kept after a begin
abbrev pub kept_after_begin : Setup → SessionKept → BeginEvent → List ReplyContent → List Birth → SessionKept
kept_after_begin s k e own births = kept_after_begun k (begun_kept s k e) (loader_kept k e) own births

-- ---- its lines

-- the lines of the outcome, at a vkCreateInstance, and then one line for each report
abbrev pub begin_lines : Setup → SessionKept → BeginEvent → List ℕ
begin_lines s k e = chain_text s e (k.calls + 1) ++ flat_map (report_text e (k.calls + 1)) (findings_kept s k e).reports
