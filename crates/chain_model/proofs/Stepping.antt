-- One event more of an accepted trace.
use Rattle.std.proofs.Common.{◌≡◌, ◌==◌, ℕ, Bool, true, false, not, cond, ◌&&◌, Option, Some, None, List, [], ◌∷◌, map, refl, sym, ◌∙◌, ap, subst, arith}
use Rattle.std.specs.Prelude.{find, nat_le}
use Rattle.std.specs.List.{AllByRecursion}
use Rattle.std.specs.Option.{option_map_or}
use Rattle.replay_model.specs.declared.Born.{Born}
use Rattle.object_model.specs.declared.PartKind.{PartKind}
use Rattle.command_tables.specs.Calls.{ReplyContent}
use Rattle.command_tables.specs.Table.{row_of}
use Rattle.trace_format.specs.Content.{TraceEvent, BeginEvent, Begin, Return}
use Rattle.object_model.specs.History.{Call, Birth, born_in, births, alive}
use Rattle.object_model.specs.Rules.{loader_failures}
use Rattle.object_model.specs.Renaming.{KnowsArgs}
use Rattle.replay_model.specs.Setup.{Setup}
use Rattle.replay_model.specs.Past.{Opened, Past, Returned, is_of, is_skipped, call_of, history, retrievals, open_calls, named, arguments_in}
use Rattle.object_model.specs.Findings.{Findings, is_failing, at_place}
use Rattle.replay_model.specs.ChainPlaces.{reaches, findings, parts_checked, parts_in_force}
use Rattle.replay_model.specs.Judged.{judge, judged, begun_of, made_of, returned_by}
use Rattle.replay_model.specs.Direct.{answers_of, sent}
use Rattle.chain_model.specs.Gaps.{may_all_come}
use Rattle.chain_model.specs.Tokens.{number_in}
use Rattle.chain_model.specs.Stops.{StopOk, IsLifeAt, StopsFit}
use Rattle.chain_model.proofs.Shapes.{AreShaped, AnsweredWell}
use Rattle.layer_model.specs.Walks.{PartState, kind_of}
use Rattle.chain_model.specs.Chained.{form_by, AreForms}
use Rattle.chain_model.proofs.Passing.{AreTyped}
use Rattle.chain_model.specs.Simulated.{Held, ChainKept, base_of, after_reply, after_skipped, IsBottom, HeldStand, ChainStands, no_chain}
use Rattle.chain_model.proofs.Sound.{Sound}
use Rattle.chain_model.proofs.Sounding.{seen_births, all_lives, stop_ok}
use Rattle.chain_model.proofs.Knowing.{asks_born}
use Rattle.chain_model.proofs.Naming.{MadeOf, made_well}
use Rattle.chain_model.proofs.Eventing.{all_found}
use Rattle.chain_model.proofs.Accepted.{IsAccepted, accepted_judged, open_apart}
use Rattle.chain_model.proofs.Simulating.{found_all, returns_sent, returns_skipped}

-- ---- the past is sound

pub sound_of : (events : List TraceEvent) (past : Past) (states : List PartState) → IsAccepted events past → StopsFit (map kind_of states) past → Sound past states
sound_of events past states a fits = record {
  once = a.knowing.once;
  retrieved = a.knowing.retrieved;
  known = a.knowing.seen;
  born = λ k. seen_births k past (a.knowing.unreached k);
  lives = all_lives past a.knowing.unreached states 1 fits;
  open_known = a.knowing.opens;
  open_typed = a.args;
}

-- ---- stops

low_stop : (k : ℕ) → StopOk k (Some 0)
low_stop k = omega arith

-- a begin is stopped at no place below a lifetimes part
pub begin_fits : (s : Setup) (past : Past) (b : BeginEvent) (ps : List PartKind) → parts_in_force s past ≡ ps → StopsFit ps past → StopsFit ps (judge s past (Begin b))
begin_fits s past b ps is fits = λ k life. (stop k life, fits k life)
  where
    call : Call
    call = record { number = (begun_of s past b).opened.number; thread = b.thread; cmd = b.cmd; args = arguments_in (named past) b.args }

    stop : (k : ℕ) → IsLifeAt 1 ps k → StopOk k (begun_of s past b).opened.stop
    stop k life =
        subst (λ (f : Findings). StopOk k f.stop) (sym (found_all past (call_of (begun_of s past b).opened) (parts_checked past (call_of (begun_of s past b).opened) 1 (parts_in_force s past))))
        (at (is_failing (loader_failures (alive (history past)) (row_of b.cmd).params (arguments_in (named past) b.args))))
      where
        at : (u : Bool) → StopOk k (cond u (record { reports = at_place 0 (loader_failures (alive (history past)) (row_of b.cmd).params (arguments_in (named past) b.args)); stop = Some 0 })
            (findings (parts_checked past (call_of (begun_of s past b).opened) 1 (parts_in_force s past)))).stop
        at true = low_stop k
        at false = subst (λ qs. StopOk k (findings (parts_checked past (call_of (begun_of s past b).opened) 1 qs)).stop) (sym is) (stop_ok past (call_of (begun_of s past b).opened) ps 1 k life)

-- ---- a return

-- the held call of a thread is its open call
pub held_found : (states : List PartState) (bs : List Birth) (thread : ℕ) (held : List Held) (opens : List Opened) (h : Held) (o : Opened) → HeldStand states bs held opens → find (λ (x : Held). x.thread == thread) held ≡ Some h → find (is_of thread) opens ≡ Some o
    → AreForms (reaches o) (form_by (number_in bs) (base_of o) o.args) 1 states h.forms × (o.refused ≡ false → o.stop ≡ None → IsBottom bs o h.bottom)
held_found states bs thread [] [] h o s fh fo = cc fh
held_found states bs thread [] (y ∷ opens) h o s fh fo = absurd s
held_found states bs thread (x ∷ held) [] h o s fh fo = absurd s
held_found states bs thread (x ∷ held) (y ∷ opens) h o s fh fo = go (x.thread == thread) refl (held_found states bs thread held opens h o s.3) fh fo
  where
    go : (u : Bool) → (x.thread == thread) ≡ u
        → (find (λ (z : Held). z.thread == thread) held ≡ Some h → find (is_of thread) opens ≡ Some o → AreForms (reaches o) (form_by (number_in bs) (base_of o) o.args) 1 states h.forms × (o.refused ≡ false → o.stop ≡ None → IsBottom bs o h.bottom))
        → cond u (Some x) (find (λ (z : Held). z.thread == thread) held) ≡ Some h → cond (y.thread == thread) (Some y) (find (is_of thread) opens) ≡ Some o
        → AreForms (reaches o) (form_by (number_in bs) (base_of o) o.args) 1 states h.forms × (o.refused ≡ false → o.stop ≡ None → IsBottom bs o h.bottom)
    go true e ih p q =
        let other : (y.thread == thread) ≡ true = ap (λ (n : ℕ). n == thread) (sym s.0) ∙ e in
        let q2 : Some y ≡ Some o = sym (ap (λ u. cond u (Some y) (find (is_of thread) opens)) other) ∙ q in
        let one : x ≡ h = cc in let two : y ≡ o = cc in
        subst (λ (z : Held). AreForms (reaches o) (form_by (number_in bs) (base_of o) o.args) 1 states z.forms × (o.refused ≡ false → o.stop ≡ None → IsBottom bs o z.bottom)) one
        (subst (λ (z : Opened). AreForms (reaches z) (form_by (number_in bs) (base_of z) z.args) 1 states x.forms × (z.refused ≡ false → z.stop ≡ None → IsBottom bs z x.bottom)) two (s.1, s.2))
    go false e ih p q =
        let other : (y.thread == thread) ≡ false = ap (λ (n : ℕ). n == thread) (sym s.0) ∙ e in ih p (sym (ap (λ u. cond u (Some y) (find (is_of thread) opens)) other) ∙ q)

-- the return of a call that was sent
pub step_reply : {X : Type 0} (s : Setup) (k : ChainKept) (events : List TraceEvent) (thread : ℕ) (o : Opened) (h : Held) (lost : List X) (replies : List ReplyContent) → may_all_come events ≡ true → AreShaped events → ChainStands k (judged s events) replies
    → StopsFit (map kind_of k.states) (judged s events) → find (is_of thread) (open_calls (judged s events)) ≡ Some o → find (λ (x : Held). x.thread == thread) k.held ≡ Some h → o.refused ≡ false → o.stop ≡ None
    → AnsweredWell o.cmd (answers_of (sent (judged s events) replies) o.thread) (made_of s (judged s events) o)
    → ChainStands (after_reply k o h (answers_of (sent (judged s events) replies) o.thread) (made_of s (judged s events) o) lost) (judged s (Return thread ∷ events)) replies
step_reply {X = X} s k events thread o h lost replies ok shaped st fits is held goes passes answered =
    let past : Past = judged s events in
    let a : IsAccepted events past = accepted_judged s events ok shaped in
    let so : Sound past k.states = sound_of events past k.states a fits in
    let known : KnowsArgs (born_in (births (history past))) o.args = all_found (λ x. KnowsArgs (born_in (births (history past))) x.args) (is_of thread) (open_calls past) o a.knowing.opens is in
    let typed : AreTyped (row_of o.cmd).params o.args = all_found (λ x. AreTyped (row_of x.cmd).params x.args) (is_of thread) (open_calls past) o a.args is in
    let well : MadeOf (births (history past)) (retrievals past) o (made_of s past o) = made_well (births (history past)) (retrievals past) o a.knowing.retrieved a.kept s.drivers (alive (history past))
    (all_found (λ x. AllByRecursion _ x.results) (is_of thread) (open_calls past) o a.names.fresh is) (open_apart (is_of thread) (open_calls past) o a.names.apart is) in
    let there = held_found k.states (births (history past)) thread k.held (open_calls past) h o st.held held is in
    subst (λ f. ChainStands (after_reply k o h (answers_of (sent past replies) o.thread) (made_of s past o) lost) (returned_by s past f) replies) (sym is)
    (returns_sent k past replies o h (made_of s past o) lost st so typed known there.0 (there.1 goes passes)
    (λ j. ap (λ t. not t && option_map_or (nat_le j) o.stop true) goes ∙ ap (λ (t : Option ℕ). option_map_or (nat_le j) t true) passes)
    (record { asks = asks_born (births (history past)) o.cmd o.payload o.args known; placed = well.placed; apart = well.apart; have = well.have; live = answered.live; sole = answered.sole }))

-- the return of a skipped call
pub step_skipped : {X : Type 0} (s : Setup) (k : ChainKept) (events : List TraceEvent) (thread : ℕ) (o : Opened) (h : Held) (lost : List X) (replies : List ReplyContent) → may_all_come events ≡ true → AreShaped events → ChainStands k (judged s events) replies
    → StopsFit (map kind_of k.states) (judged s events) → find (is_of thread) (open_calls (judged s events)) ≡ Some o → find (λ (x : Held). x.thread == thread) k.held ≡ Some h → is_skipped o ≡ true
    → ChainStands (after_skipped k o h lost) (judged s (Return thread ∷ events)) replies
step_skipped {X = X} s k events thread o h lost replies ok shaped st fits is held skipped =
    let past : Past = judged s events in
    let a : IsAccepted events past = accepted_judged s events ok shaped in
    let so : Sound past k.states = sound_of events past k.states a fits in
    let known : KnowsArgs (born_in (births (history past))) o.args = all_found (λ x. KnowsArgs (born_in (births (history past))) x.args) (is_of thread) (open_calls past) o a.knowing.opens is in
    let typed : AreTyped (row_of o.cmd).params o.args = all_found (λ x. AreTyped (row_of x.cmd).params x.args) (is_of thread) (open_calls past) o a.args is in
    let there = held_found k.states (births (history past)) thread k.held (open_calls past) h o st.held held is in
    let none : made_of s past o ≡ [] = rw skipped refl in
    subst (λ f. ChainStands (after_skipped k o h lost) (returned_by s past f) replies) (sym is)
    (subst (λ (ms : List Born). ChainStands (after_skipped k o h lost) (Returned o ms ∷ past) replies) (sym none)
    (returns_skipped k past replies o h lost st so typed known (asks_born (births (history past)) o.cmd o.payload o.args known) there.0))

-- a return changes no stop
pub return_fits : (s : Setup) (past : Past) (thread : ℕ) (ps : List PartKind) → StopsFit ps past → StopsFit ps (judge s past (Return thread))
return_fits s past thread ps fits = go (find (is_of thread) (open_calls past))
  where
    go : (f : Option Opened) → StopsFit ps (returned_by s past f)
    go None = fits
    go (Some o) = fits

-- ---- nothing yet

pub nothing_stands : ChainStands no_chain [] []
nothing_stands = record { guard = refl; mirror = tt; ids = record { entries = refl; kept = refl }; handed = λ o born. cc born; held = tt; sole = λ o w d. refl }
