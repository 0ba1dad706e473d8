-- An open call that was judged.
use Rattle.std.proofs.Common.{◌≡◌, ◌∙◌, ℕ, true, false, cond, ◌||◌, Option, None, List, [], refl, ap, sym, subst}
use Rattle.std.specs.Prelude.{is_some}
use Rattle.command_tables.specs.Calls.{CallContent, call_content}
use Rattle.object_model.specs.declared.Argument.{Argument}
use Rattle.object_model.specs.History.{Birth}
use Rattle.layer_model.specs.Walks.{PartState}
use Rattle.lifetime_layer.specs.declared.verdict.Verdict.{Verdict}
use Rattle.lifetime_layer.specs.Reports.{reports_of}
use Rattle.chain_model.specs.Handed.{Handed}
use Rattle.dispatch_chain.specs.Holding.{HeldCalls, IsHeldOf}
use Rattle.dispatch_chain.specs.Seats.{kinds_of}
use Rattle.trace_format.specs.Content.{BeginEvent}
use Rattle.replay_model.specs.Past.{Opened, arguments_in}
use Rattle.session_tables.specs.Shown.{args_shown}
use Rattle.session_parts.specs.declared.parts.SessionParts.{SessionParts}
use Rattle.session_parts.specs.Opening.{opened_first, opened_read}
use Rattle.session_parts.specs.Judging.{ComesDown, comes_down, Passes, found_at, stopped_by, walk_at}
use Rattle.session_parts.proofs.Ended.{past_skipped}
use Rattle.session_parts.proofs.Judged.{none_picked}
use Rattle.chain_session.specs.declared.call.OpenCall.{OpenCall}
use Rattle.chain_session.specs.Opened.{opened_of}
use Rattle.chain_session.specs.Judging.{IsJudged}

-- its chain is refused
pub refused_so : (births : List Birth) (handed : List Handed) (states : List PartState) (call : OpenCall) (verdict : Verdict)
    → is_some call.refusal ≡ true → call.stop ≡ None → verdict.findings.items ≡ [] → call.held.forms ≡ [] → IsJudged births handed states (opened_of call) call verdict states
refused_so births handed states call verdict refused going none unheld = record {
  opened = rw refused (ap (λ (t : Option ℕ). record (opened_of call) { stop = t; refused = true }) going);
  reports = rw refused (ap reports_of none);
  states = rw refused refl;
  bottom = rw refused (λ down. cc);
  held = rw refused (none_picked call.held (kinds_of states) unheld);
}

pub refused_passes : (x : SessionParts) (call : OpenCall) → is_some call.refusal ≡ true → Passes x (opened_of call) x
refused_passes x call refused = record { past = past_skipped x.names.kept.births (opened_of call) (ap (λ b. b || is_some call.stop) refused); names = refl; terminator = refl }

-- it came down, and stops where what was found says
module _ (x y : SessionParts) (number : ℕ) (e : BeginEvent) (shown : List (List Argument)) (call new : OpenCall) (form : CallContent) (held : HeldCalls) (verdict : Verdict)
    (allowed : is_some call.refusal ≡ false) (opened : opened_of call ≡ opened_first number x.names.kept.names e call.refusal) (read : shown ≡ args_shown call.args.items)
    (down : ComesDown x (opened_read number e shown) form held verdict y) (stopped : opened_of new ≡ record (opened_of call) { stop = stopped_by verdict.skip (reports_of verdict.findings.items) }) where
  abbrev o : Opened
  o = opened_first number x.names.kept.names e call.refusal

  same_call : opened_read number e shown ≡ o
  same_call =
      ap (λ args. opened_read number e args) (read ∙ ap (λ (p : Opened). p.args) opened)
      ∙ ap (λ b. record (opened_read number e (arguments_in x.names.kept.names e.args)) { refused = b }) (sym allowed)

  came : ComesDown x o form held verdict y
  came = subst (λ (p : Opened). ComesDown x p form held verdict y) same_call down

  stops : opened_of new ≡ record o { stop = (found_at x.names.kept.births x.states.kept x.names.kept.handed o).stop }
  stops = stopped ∙ (ap (λ (p : Opened). record p { stop = stopped_by verdict.skip (reports_of verdict.findings.items) }) opened ∙ ap (λ (t : Option ℕ). record o { stop = t }) came.found.stop)

  pub came_judged : call_content new.bottom ≡ form → new.held ≡ held → IsJudged x.names.kept.births x.names.kept.handed x.states.kept o new verdict y.states.kept
  came_judged bottom holds = record {
    opened = stops;
    reports = came.found.reports;
    states = came.found.states;
    bottom = λ h. bottom ∙ came.found.bottom h;
    held = subst (λ (h : HeldCalls). IsHeldOf h (kinds_of x.states.kept) (cond (comes_down x.names.kept.births o) (walk_at x.states.kept x.names.kept.handed o).forms [])) (sym holds) came.found.forms;
  }

  pub came_passes : Passes x (opened_of new) y
  came_passes = subst (λ (p : Opened). Passes x p y) (sym stops) came.passes
