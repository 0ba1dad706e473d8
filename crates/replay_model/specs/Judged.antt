-- The events of a trace, each judged by those before it. Source: this project.
use Rattle.std.specs.Prelude.{ℕ, ◌+◌, Bool, ◌&&◌, ◌||◌, if◌then◌else◌, Option, Some, None, is_some, List, [], ◌∷◌, find}
use Rattle.command_tables.specs.declared.types.CommandId.{CommandId}
use Rattle.command_tables.specs.declared.types.CommandId.TheVariants as cmd
use Rattle.command_tables.specs.Tests.{same_command}
use Rattle.trace_format.specs.Content.{BeginEvent, TraceEvent, Begin, Return}
use Rattle.object_model.specs.Objects.{first_in}
use Rattle.object_model.specs.History.{Call, births, alive}
use Rattle.replay_model.specs.declared.Named.{Named}
use Rattle.replay_model.specs.declared.Born.{Born}
use Rattle.object_model.specs.declared.Routed.{Routed}
use Rattle.object_model.specs.Routes.{receivers}
use Rattle.replay_model.specs.Setup.{Setup, refusal_of}
use Rattle.replay_model.specs.Past.{Opened, Began, Returned, Past, calls_in, is_of, open_calls, named, arguments_in, history, retrievals, routed}
use Rattle.object_model.specs.Findings.{Report}
use Rattle.replay_model.specs.Births.{made_by}
use Rattle.replay_model.specs.ChainPlaces.{Checked, checked, findings}

-- ---- a begin

-- a begin as it is judged
pub record Begun : Type 0 where
  pub opened : Opened
  pub reports : List Report

-- the chain of a vkCreateInstance is refused
abbrev pub is_refused : Setup → CommandId → List ℕ → Bool
is_refused s c payload = same_command c cmd.CreateInstance && is_some (refusal_of (s.outcome payload))

-- A begin by the call's number, the names and the routes so far, and what the places find at a call.
abbrev pub begun_by : Setup → ℕ → List Named → List Routed → (Call → List Checked) → BeginEvent → Begun
begun_by s number names routes checks e =
    let args = arguments_in names e.args in
    let found = findings (checks (record { number = number; thread = e.thread; cmd = e.cmd; args = args })) in
    let refused = is_refused s e.cmd e.payload in
    record {
      opened = record {
        number = number;
        thread = e.thread;
        cmd = e.cmd;
        args = args;
        results = e.results;
        code = e.code;
        payload = e.payload;
        stop = found.stop;
        refused = refused;
        drivers = if refused || is_some found.stop then [] else receivers s.drivers routes (first_in args 0);
      };
      reports = found.reports;
    }

-- a begin after such a past
abbrev pub begun_of : Setup → Past → BeginEvent → Begun
begun_of s past e = begun_by s (calls_in past + 1) (named past) (routed past) (checked s past) e

-- ---- a return

-- the results that are born at the return of an open call
abbrev pub made_of : Setup → Past → Opened → List Born
made_of s past o = made_by s.drivers (births (history past)) (alive (history past)) (retrievals past) o

-- the return of an open call; where there is none, nothing happens
abbrev pub returned_by : Setup → Past → Option Opened → Past
returned_by s past None = past
returned_by s past (Some o) = Returned o (made_of s past o) ∷ past

-- ---- all events

-- one event more
abbrev pub judge : Setup → Past → TraceEvent → Past
judge s past (Begin e) = Began e (begun_of s past e).opened (begun_of s past e).reports ∷ past
judge s past (Return thread) = returned_by s past (find (is_of thread) (open_calls past))

-- every event judged by those before it, the newest first
abbrev pub judged : Setup → List TraceEvent → Past
judged s [] = []
judged s (e ∷ before) = judge s (judged s before) e
