-- The begin of a call, by what the program keeps. Source: this project.
use Rattle.std.specs.Prelude.{◌≡◌, ◌++◌, ℕ, List, length}
use Rattle.std.specs.List.{flat_map, zip}
use Rattle.command_tables.specs.Calls.{ReplyContent}
use Rattle.model_driver.specs.Logs.{Log, logged}
use Rattle.trace_format.specs.Content.{BeginEvent}
use Rattle.trace_format.specs.Grammar.{IsBegin}
use Rattle.object_model.specs.History.{Birth}
use Rattle.replay_model.specs.Setup.{Setup}
use Rattle.replay_model.specs.Text.{report_text}
use Rattle.lifetime_layer.specs.declared.verdict.Verdict.{Verdict}
use Rattle.lifetime_layer.specs.Reports.{reports_of}
use Rattle.session_model.specs.Session.{SessionKept}
use Rattle.session_model.specs.Living.{ArePast}
use Rattle.session_model.specs.Beginning.{begin_lines, begun_kept, calls_told, kept_after_begin}
use Rattle.session_model.specs.Stands.{AreRepliesTo}
use Rattle.session_model.specs.Steps.{BeginSteps}
use Rattle.chain_session.specs.declared.kept.Kept.{Kept}
use Rattle.chain_session.specs.declared.call.OpenCall.{OpenCall}
use Rattle.chain_session.specs.Keeping.{KeepsBegun}
use Rattle.chain_session.specs.Sending.{IsSentTo}
use Rattle.chain_session.specs.Shown.{Shows}
use Rattle.chain_session.specs.Telling.{FrontAsked}

-- the begin of a call may come: it is one of the grammar, and what is kept allows it under the setup
pub record CanBegin (s : Setup) (x : Kept) (e : BeginEvent) : Type 0 where
  pub kept : SessionKept
  pub shows : Shows s x kept
  pub steps : BeginSteps s kept e
  pub begins : IsBegin e

-- what a begin comes to with these replies of its drivers: the drivers were told the call, each with its reply, the lines are the begin's, and what is
-- kept is what the definitions say
pub record Begins (s : Setup) (k : SessionKept) (e : BeginEvent) (own : List ReplyContent) (new : Kept) (old_log log : Log) (old_lines lines : List ℕ) : Type 0 where
  pub births : List Birth
  pub answers : AreRepliesTo (calls_told s k e) own
  pub past : ArePast k.births (begun_kept s k e).opened births
  pub shows : Shows s new (kept_after_begin s k e own births)
  pub told : log ≡ logged old_log (zip (calls_told s k e) own)
  pub wrote : lines ≡ old_lines ++ begin_lines s k e

-- so it is with the replies, whatever the program keeps
pub record BeginsAs (s : Setup) (old : Kept) (e : BeginEvent) (new : Kept) (old_log log : Log) (old_lines lines : List ℕ) : Type 0 where
  pub own : List ReplyContent
  pub begins : (k : SessionKept) → Shows s old k → Begins s k e own new old_log log old_lines lines

-- a begin that memory cut short: the first so many of its calls were told
abbrev pub CutShort : Setup → Kept → BeginEvent → Log → Log → Type 0
CutShort s old e old_log log = (k : SessionKept) → Shows s old k → FrontAsked (calls_told s k e) old_log log

-- the drivers of a judged call were told, the lines of its reports stand behind those before, and it is kept
pub record Tells (old : Kept) (judged : OpenCall) (e : BeginEvent) (verdict : Verdict) (new : Kept) (old_log log : Log) (old_lines lines : List ℕ) : Type 0 where
  pub sent : OpenCall
  pub sends : IsSentTo old.parts.terminator judged sent old_log log
  pub begun : KeepsBegun old sent (length verdict.findings.items) new
  pub wrote : lines ≡ old_lines ++ flat_map (report_text e judged.number) (reports_of verdict.findings.items)
