-- Which threads have an open call.
use Rattle.std.proofs.Common.{◌≡◌, ◌==◌, ℕ, Bool, true, false, cond, Option, Some, None, List, [], ◌∷◌, map, refl, sym, ◌∙◌, ap}
use Rattle.std.specs.Prelude.{find, is_some}
use Rattle.command_tables.specs.Calls.{ReplyContent}
use Rattle.trace_format.specs.Content.{BeginEvent, TraceEvent, Begin, Return}
use Rattle.object_model.specs.History.{Birth, births}
use Rattle.replay_model.specs.Setup.{Setup}
use Rattle.replay_model.specs.Past.{Opened, history, is_of, open_calls}
use Rattle.replay_model.specs.Judged.{judged}
use Rattle.replay_model.specs.Direct.{Sent}
use Rattle.replay_model.proofs.Accepted.{open-threads}
use Rattle.layer_model.specs.Walks.{PartState}
use Rattle.layer_model.proofs.Same.{and_true}
use Rattle.chain_model.specs.Gaps.{IsGapped, may_all_come, may_come}
use Rattle.chain_model.specs.Simulated.{Held, HeldStand}
use Rattle.chain_model.proofs.Answering.{is_nothing}
use Rattle.chain_model.proofs.Coming as coming
use Rattle.session_model.specs.Session.{SessionKept}
use Rattle.session_model.specs.Returning.{held_of_thread, sent_of_thread}
use Rattle.session_model.specs.Stands.{HasCall, HasNoCall, Stands}

sent_as_opened : (thread : ℕ) (cs : List Sent) → is_some (find (λ (c : Sent). is_of thread c.opened) cs) ≡ is_some (find (is_of thread) (map (λ (c : Sent). c.opened) cs))
sent_as_opened thread [] = refl
sent_as_opened thread (c ∷ cs) = go (is_of thread c.opened) (sent_as_opened thread cs)
  where
    go : (t : Bool) → is_some (find (λ (c : Sent). is_of thread c.opened) cs) ≡ is_some (find (is_of thread) (map (λ (c : Sent). c.opened) cs))
        → is_some (cond t (Some c) (find (λ (c : Sent). is_of thread c.opened) cs)) ≡ is_some (cond t (Some c.opened) (find (is_of thread) (map (λ (c : Sent). c.opened) cs)))
    go true ih = refl
    go false ih = ih

held_as_opened : (thread : ℕ) (states : List PartState) (bs : List Birth) (held : List Held) (opens : List Opened) → HeldStand states bs held opens
    → is_some (find (λ (h : Held). h.thread == thread) held) ≡ is_some (find (is_of thread) opens)
held_as_opened thread states bs [] [] st = refl
held_as_opened thread states bs [] (o ∷ opens) st = absurd st
held_as_opened thread states bs (h ∷ held) [] st = absurd st
held_as_opened thread states bs (h ∷ held) (o ∷ opens) st =
    ap (λ (n : ℕ). is_some (cond (n == thread) (Some h) (find (λ (x : Held). x.thread == thread) held))) st.0 ∙ go (o.thread == thread) (held_as_opened thread states bs held opens st.3)
  where
    go : (t : Bool) → is_some (find (λ (x : Held). x.thread == thread) held) ≡ is_some (find (is_of thread) opens)
        → is_some (cond t (Some h) (find (λ (x : Held). x.thread == thread) held)) ≡ is_some (cond t (Some o) (find (is_of thread) opens))
    go true ih = refl
    go false ih = ih

module _ (s : Setup) (k : SessionKept) (events : List TraceEvent) (replies : List ReplyContent) (st : Stands s k events replies) (thread : ℕ) where
  sent_is : is_some (sent_of_thread k thread) ≡ is_some (find (is_of thread) (open_calls (judged s events)))
  sent_is = sent_as_opened thread k.sent ∙ ap (λ os. is_some (find (is_of thread) os)) st.open_calls

  held_is : is_some (held_of_thread k thread) ≡ is_some (find (is_of thread) (open_calls (judged s events)))
  held_is = held_as_opened thread k.chain.states (births (history (judged s events))) k.chain.held (open_calls (judged s events)) st.simulates.chain.held

  pub none_open : find (is_of thread) (open_calls (judged s events)) ≡ None → HasNoCall k thread
  none_open none = record {
    sent = is_nothing (sent_of_thread k thread) (sent_is ∙ ap (λ (f : Option Opened). is_some f) none);
    held = is_nothing (held_of_thread k thread) (held_is ∙ ap (λ (f : Option Opened). is_some f) none);
  }

  pub one_open : is_some (find (is_of thread) (open_calls (judged s events))) ≡ true → HasCall k thread
  one_open there = go (sent_of_thread k thread) refl (held_of_thread k thread) refl
    where
      go : (c : Option Sent) → sent_of_thread k thread ≡ c → (h : Option Held) → held_of_thread k thread ≡ h → HasCall k thread
      go (Some c) p (Some h) q = record { call = c; form = h; sent = p; held = q }
      go None p h q = let no : false ≡ true = ap (λ (f : Option Sent). is_some f) (sym p) ∙ (sent_is ∙ there) in cc
      go (Some c) p None q = let no : false ≡ true = ap (λ (f : Option Held). is_some f) (sym q) ∙ (held_is ∙ there) in cc

pub begins_idle : (s : Setup) (k : SessionKept) (events : List TraceEvent) (e : BeginEvent) (replies : List ReplyContent) → IsGapped (Begin e ∷ events) → Stands s k events replies → HasNoCall k e.thread
begins_idle s k events e replies trace st = none_open s k events replies st e.thread (coming.begins_idle s (Begin e ∷ events) trace.each).0

pub returns_busy : (s : Setup) (k : SessionKept) (events : List TraceEvent) (thread : ℕ) (replies : List ReplyContent) → IsGapped (Return thread ∷ events) → Stands s k events replies → HasCall k thread
returns_busy s k events thread replies trace st =
    one_open s k events replies st thread
    (open-threads s events thread ∙ coming.open_at_return events thread (and_true (may_all_come events) (may_come events (Return thread)) trace.each).1)
