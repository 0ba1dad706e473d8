-- How an open call is judged at its begin. Source: this project.
use Rattle.std.specs.Prelude.{◌≡◌, true, if◌then◌else◌, List, []}
use Rattle.command_tables.specs.Calls.{call_content}
use Rattle.object_model.specs.History.{Birth}
use Rattle.replay_model.specs.Past.{Opened}
use Rattle.layer_model.specs.Walks.{PartState}
use Rattle.lifetime_layer.specs.declared.verdict.Verdict.{Verdict}
use Rattle.lifetime_layer.specs.Reports.{reports_of}
use Rattle.chain_model.specs.Handed.{Handed}
use Rattle.dispatch_chain.specs.Holding.{IsHeldOf}
use Rattle.dispatch_chain.specs.Seats.{kinds_of}
use Rattle.session_parts.specs.Judging.{comes_down, found_at, walk_at}
use Rattle.chain_session.specs.declared.call.OpenCall.{OpenCall}
use Rattle.chain_session.specs.Opened.{opened_of}

-- A call was judged: where it stops, what was found, what the parts keep then, and the call as it stood above each part that it came to and below
-- the last.
pub record IsJudged (births : List Birth) (handed : List Handed) (before : List PartState) (o : Opened) (new : OpenCall) (verdict : Verdict) (after : List PartState) : Type 0 where
  pub opened : opened_of new ≡ record o { stop = (found_at births before handed o).stop }
  pub reports : reports_of verdict.findings.items ≡ (found_at births before handed o).reports
  pub states : after ≡ (if comes_down births o then (walk_at before handed o).states else before)
  pub bottom : comes_down births o ≡ true → call_content new.bottom ≡ (walk_at before handed o).bottom
  pub held : IsHeldOf new.held (kinds_of before) (if comes_down births o then (walk_at before handed o).forms else [])
