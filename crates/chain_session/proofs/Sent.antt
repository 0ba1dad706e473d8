-- A call that went to its drivers.
use Rattle.std.proofs.Common.{◌≡◌, ◌∙◌, ℕ, true, false, cond, List, [], ◌∷◌, map, refl, ap, sym, subst}
use Rattle.command_tables.specs.Calls.{CallContent, ReplyContent, call_content}
use Rattle.model_driver.specs.Driver.{reply_shown}
use Rattle.model_driver.specs.Logs.{Log}
use Rattle.object_model.specs.Values.{Value}
use Rattle.layer_model.specs.Ids.{IdMap}
use Rattle.layer_model.specs.Terminator.{told_call}
use Rattle.replay_model.specs.Past.{is_skipped}
use Rattle.terminator.specs.Calls.{TerminatorState, drivers_for, targets_of}
use Rattle.chain_session.specs.declared.call.OpenCall.{OpenCall}
use Rattle.chain_session.specs.Opened.{opened_of}
use Rattle.chain_session.specs.Sending.{IsSentTo, calls_due, drivers_told}
use Rattle.chain_session.specs.Telling.{AreAsked, FrontAsked}
use Rattle.chain_session.proofs.Told.{none_told}

-- each call is told to its driver
told_drivers : (m : IdMap (List Value)) (c : CallContent) (ds : List ℕ) → drivers_told (map (told_call m c) ds) ≡ ds
told_drivers m c [] = refl
told_drivers m c (d ∷ ds) = ap (λ xs. d ∷ xs) (told_drivers m c ds)

pub drivers_of_targets : (t : TerminatorState) (c : CallContent) → drivers_told (targets_of t c) ≡ drivers_for t c
drivers_of_targets t c = told_drivers t.ids c (drivers_for t c)

-- a call that isn't skipped went to its drivers
pub sent_so : (t : TerminatorState) (old new : OpenCall) (log0 log1 : Log) → is_skipped (opened_of old) ≡ false
    → opened_of new ≡ record (opened_of old) { drivers = drivers_for t (call_content old.bottom) } → AreAsked (targets_of t (call_content old.bottom)) (map reply_shown new.replies.items) log0 log1
    → new.held ≡ old.held → new.bottom ≡ old.bottom → new.refusal ≡ old.refusal → new.chain ≡ old.chain → IsSentTo t old new log0 log1
sent_so t old new log0 log1 sent opened asked held bottom refusal chain = record {
  opened = opened ∙ ap (λ b. record (opened_of old) { drivers = cond b [] (drivers_for t (call_content old.bottom)) }) (sym sent);
  asked = subst (λ b. AreAsked (cond b [] (targets_of t (call_content old.bottom))) (map reply_shown new.replies.items) log0 log1) (sym sent) asked;
  held = held;
  bottom = bottom;
  refusal = refusal;
  chain = chain;
}

-- a skipped one goes to none
pub kept_so : (t : TerminatorState) (call : OpenCall) (log : Log) → is_skipped (opened_of call) ≡ true → call.drivers.items ≡ [] → call.replies.items ≡ [] → IsSentTo t call call log log
kept_so t call log skipped drivers replies = record {
  opened = ap (λ ds. record (opened_of call) { drivers = ds }) drivers ∙ ap (λ b. record (opened_of call) { drivers = cond b [] (drivers_for t (call_content call.bottom)) }) (sym skipped);
  asked = subst (λ b. AreAsked (cond b [] (targets_of t (call_content call.bottom))) (map reply_shown call.replies.items) log log) (sym skipped)
      (subst (λ (rs : List ReplyContent). AreAsked [] rs log log) (sym (ap (map reply_shown) replies)) (none_told log));
  held = refl;
  bottom = refl;
  refusal = refl;
  chain = refl;
}

-- what was told of a call that isn't skipped
pub front_due : (t : TerminatorState) (old : OpenCall) (log0 log1 : Log) → is_skipped (opened_of old) ≡ false → FrontAsked (targets_of t (call_content old.bottom)) log0 log1 → FrontAsked (calls_due t old) log0 log1
front_due t old log0 log1 sent f = subst (λ b. FrontAsked (cond b [] (targets_of t (call_content old.bottom))) log0 log1) (sym sent) f
