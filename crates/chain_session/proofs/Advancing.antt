-- One event more of a trace.
use Rattle.std.proofs.Common.{◌≡◌, ◌∙◌, ℕ, suc, Option, Some, None, List, [], ◌∷◌, ◌++◌, length, reverse, refl, ap, sym, subst}
use Rattle.std.proofs.lemmas.List.{length-reverse}
use Rattle.command_tables.specs.Calls.{DriverCallContent, ReplyContent}
use Rattle.model_driver.specs.Logs.{Log, logged}
use Rattle.trace_format.specs.Content.{BeginEvent, Begin}
use Rattle.replay_model.specs.Setup.{Setup}
use Rattle.session_model.specs.Session.{SessionKept, nothing_kept}
use Rattle.session_model.specs.Beginning.{calls_told, kept_after_begin}
use Rattle.session_model.specs.Stands.{AreRepliesTo, BeginsWell}
use Rattle.session_model.proofs.Began.{begins_well}
use Rattle.session_model.proofs.Shapes.{begin_steps}
use Rattle.chain_session.specs.declared.kept.Kept.{Kept}
use Rattle.chain_session.specs.Beginning.{BeginsAs, CanBegin, CutShort}
use Rattle.chain_session.specs.Shown.{Shows}
use Rattle.chain_session.specs.Standing.{Advances, CanCome, CutBefore, ShowsOnce}
use Rattle.chain_session.specs.Telling.{FrontAsked}
use Rattle.chain_session.proofs.Told.{none_asked}

pub replies_long : (calls : List DriverCallContent) (own : List ReplyContent) → AreRepliesTo calls own → length own ≡ length calls
replies_long [] [] h = refl
replies_long [] (r ∷ own) h = absurd h
replies_long (c ∷ calls) [] h = absurd h
replies_long (c ∷ calls) (r ∷ own) h = ap suc (replies_long calls own h.1)

-- a begin that can come can be taken
pub can_begin : (s : Setup) (old : Option Kept) (x : Kept) (e : BeginEvent) → ((k : SessionKept) → ShowsOnce s old k → Shows s x k) → CanCome s old (Begin e) → CanBegin s x e
can_begin s old x e shown can = record {
  kept = can.stands.kept;
  shows = shown can.stands.kept can.stands.shows;
  steps = begin_steps s can.stands.kept can.events e can.replies can.trace can.stands.stands;
  begins = can.trace.grammar.0;
}

-- a begin more
pub begin_advances : (s : Setup) (old : Option Kept) (x : Kept) (e : BeginEvent) (new : Kept) (log0 log1 : Log) (lines0 lines1 : List ℕ) → ((k : SessionKept) → ShowsOnce s old k → Shows s x k)
    → BeginsAs s x e new log0 log1 lines0 lines1 → Advances s old (Some new) (Begin e) log0 log1 lines0 lines1
begin_advances s old x e new log0 log1 lines0 lines1 shown b = record {
  replies = reverse b.own;
  stands = λ events before st trace.
      let well : BeginsWell s st.kept events e before = begins_well s st.kept events e before trace st.stands in
      let g = b.begins st.kept (shown st.kept st.shows) in
      record { kept = kept_after_begin s st.kept e b.own g.births; shows = g.shows; stands = well.stands b.own g.births g.answers g.past };
  each = λ events before st trace.
      let well : BeginsWell s st.kept events e before = begins_well s st.kept events e before trace st.stands in
      let g = b.begins st.kept (shown st.kept st.shows) in
      length-reverse b.own ∙ (replies_long (calls_told s st.kept e) b.own g.answers ∙ well.sends);
  told = λ events before st trace.
      let well : BeginsWell s st.kept events e before = begins_well s st.kept events e before trace st.stands in
      let g = b.begins st.kept (shown st.kept st.shows) in
      g.told ∙ ap (logged log0) (well.exchanges b.own g.answers);
  wrote = λ events before st trace.
      let well : BeginsWell s st.kept events e before = begins_well s st.kept events e before trace st.stands in
      let g = b.begins st.kept (shown st.kept st.shows) in
      g.wrote ∙ ap (λ ls. lines0 ++ ls) well.lines;
}

-- or memory cut it short
pub begin_cut : (s : Setup) (old : Option Kept) (x : Kept) (e : BeginEvent) (log0 log1 : Log) → ((k : SessionKept) → ShowsOnce s old k → Shows s x k) → CutShort s x e log0 log1 → CutBefore s old e log0 log1
begin_cut s old x e log0 log1 shown cut = λ events before st trace.
    let well : BeginsWell s st.kept events e before = begins_well s st.kept events e before trace st.stands in
    subst (λ (cs : List DriverCallContent). FrontAsked cs log0 log1) well.told (cut st.kept (shown st.kept st.shows))

-- before anything was told
pub none_begun : (s : Setup) (old : Option Kept) (e : BeginEvent) (log0 log1 : Log) → log1 ≡ log0 → CutBefore s old e log0 log1
none_begun s old e log0 log1 is = λ events before st trace. none_asked _ log0 log1 is

-- ---- what is shown

-- nothing was kept, and it is shown so
pub shown_first : (s : Setup) (old : Option Kept) (x : Kept) → old ≡ None → Shows s x nothing_kept → (k : SessionKept) → ShowsOnce s old k → Shows s x k
shown_first s old x is shows k sh = subst (λ q. Shows s x q) (sym (subst (λ o. ShowsOnce s o k) is sh)) shows

-- so it is where the same is reached in another way
pub shown_in : (s : Setup) (x y : Kept) → y ≡ x → Shows s x nothing_kept → Shows s y nothing_kept
shown_in s x y is shows = subst (λ (k : Kept). Shows s k nothing_kept) (sym is) shows

-- what is kept is shown
pub shown_since : (s : Setup) (old : Option Kept) (x : Kept) → old ≡ Some x → (k : SessionKept) → ShowsOnce s old k → Shows s x k
shown_since s old x is k sh = subst (λ o. ShowsOnce s o k) is sh
