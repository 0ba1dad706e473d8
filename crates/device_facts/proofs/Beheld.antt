-- Behind a setup and what the threads did on all devices, a device stands as behind the setup and what they did on it alone.
use Rattle.std.proofs.Common.{◌≡◌, ◌∙◌, ◌==◌, ℕ, Bool, true, false, cond, ◌&&◌, Option, Some, None, List, [], ◌∷◌, ◌++◌, refl, sym, ap, subst, subst₂}
use Rattle.std.specs.Prelude.{⊤, find}
use Rattle.std.specs.List.{AllByRecursion}
use Rattle.std.proofs.lemmas.Bool.{eq-eqb, eqb-true}
use Rattle.trace_format.specs.declared.event.Name.{Name}
use Rattle.trace_format.specs.Accepting.{same_name}
use Rattle.trace_format.specs.Content.{BeginEvent, TraceEvent, Begin, Return}
use Rattle.object_model.specs.History.{alive, births}
use Rattle.replay_model.specs.declared.Born.{Born}
use Rattle.replay_model.specs.Setup.{Setup}
use Rattle.replay_model.specs.Past.{Began, Opened, Past, Returned, history, is_of, open_calls, retrievals}
use Rattle.replay_model.specs.Judged.{begun_of, judge, judged, made_of, returned_by}
use Rattle.replay_model.proofs.Alike.{numbered}
use Rattle.stream_model.specs.Order.{device_named, same_device}
use Rattle.stream_model.specs.Plans.{kept_if}
use Rattle.merge_model.specs.Merges.{events_on, last_on}
use Rattle.device_facts.proofs.Beside.{Beside, begun_alike}
use Rattle.device_facts.proofs.Homes.{FitsOpen, Held, Homes, MadeBy, held_begun, held_returned, made_homes}
use Rattle.device_facts.proofs.Looks.{all_of, all_to, at_found, name_is, or_nothing, or_other}
use Rattle.device_facts.proofs.Making.{On, made_alike, made_at}
use Rattle.device_facts.proofs.Opening.{Elsewhere, Gives, OnDevice, OpenAlike, fits_open, no_calls, none_there, on_open, open_less, open_more}
use Rattle.device_facts.proofs.Steps.{begun_elsewhere, begun_here, returned_elsewhere, returned_here}

-- two pasts that say the same of a device, also of the open calls of the threads whose newest call is there
pub record Beheld (h : Homes) (s : Setup) (device : Name) (past alone : Past) (on : ℕ → Bool) : Type 0 where
  pub held : Held h past
  pub beside : Beside h s device past alone
  pub opens : (t : ℕ) → OpenAlike h device (on t) (find (is_of t) (open_calls past)) (find (is_of t) (open_calls alone))

-- ---- open calls

pub opened_now : (t : ℕ) (cs : List Opened) (o : Opened) → find (is_of t) cs ≡ None → (o.thread == t) ≡ true → find (is_of t) (cs ++ o ∷ []) ≡ Some o
opened_now t cs o none same = open_more t cs o ∙ (ap (λ x. or_other x (cond (o.thread == t) (Some o) None)) none ∙ ap (λ u. cond u (Some o) None) same)

pub opened_other : (t : ℕ) (cs : List Opened) (o : Opened) → (o.thread == t) ≡ false → find (is_of t) (cs ++ o ∷ []) ≡ find (is_of t) cs
opened_other t cs o differ = open_more t cs o ∙ (ap (λ u. or_other (find (is_of t) cs) (cond u (Some o) None)) differ ∙ or_nothing (find (is_of t) cs))

idle_at : (t u : ℕ) (cs : List Opened) → find (is_of u) cs ≡ None → (u == t) ≡ true → find (is_of t) cs ≡ None
idle_at t u cs none same = subst (λ v. find (is_of v) cs ≡ None) (eqb-true u t same) none

-- a call that is another but for its number
pub is_numbered : (o q : Opened) → numbered 0 q ≡ numbered 0 o → q ≡ numbered q.number o
is_numbered o q same = ap (numbered q.number) same

module _ (h : Homes) (s : Setup) (device : Name) where
  -- ---- a begin

  begin_here : (past alone : Past) (on : ℕ → Bool) (b : BeginEvent) → Beheld h s device past alone on → Gives h.name b → OnDevice h.name device b → find (is_of b.thread) (open_calls past) ≡ None
      → Beheld h s device (judge s past (Begin b)) (judge s alone (Begin b)) (λ t. cond (b.thread == t) true (on t))
  begin_here past alone on b w gives there idle = record {
    held = held_begun h past b o (begun_of s past b).reports w.held (fits_open h s past b w.held gives);
    beside =
        subst (λ c. Beside h s device (judge s past (Begin b)) (Began b c (begun_of s alone b).reports ∷ alone)) (sym (is_numbered o q same))
        (begun_here h s device past alone b o q.number (begun_of s past b).reports (begun_of s alone b).reports w.beside (on_open h s past b device w.held there).args);
    opens = λ t. go t (b.thread == t) refl;
  }
    where
      o : Opened
      o = (begun_of s past b).opened

      q : Opened
      q = (begun_of s alone b).opened

      same : numbered 0 q ≡ numbered 0 o
      same = begun_alike h device s past alone b w.held w.beside there.names there.ends

      go : (t : ℕ) (u : Bool) → (b.thread == t) ≡ u → OpenAlike h device (cond u true (on t)) (find (is_of t) (open_calls past ++ o ∷ [])) (find (is_of t) (open_calls alone ++ q ∷ []))
      go t true e =
          let none : find (is_of t) (open_calls past) ≡ None = idle_at t b.thread (open_calls past) idle e in
          let lone : find (is_of t) (open_calls alone) ≡ None = none_there h device (on t) (find (is_of t) (open_calls alone)) (subst (λ f. OpenAlike h device (on t) f (find (is_of t) (open_calls alone))) none (w.opens t)) in
          subst₂ (OpenAlike h device true) (sym (opened_now t (open_calls past) o none e)) (sym (opened_now t (open_calls alone) q lone e)) (on_open h s past b device w.held there, same)
      go t false e = subst₂ (OpenAlike h device (on t)) (sym (opened_other t (open_calls past) o e)) (sym (opened_other t (open_calls alone) q e)) (w.opens t)

  begin_elsewhere : (past alone : Past) (on : ℕ → Bool) (b : BeginEvent) (other : Name) → (other ≡ device → ⊥) → Beheld h s device past alone on → Gives h.name b → OnDevice h.name other b
      → find (is_of b.thread) (open_calls past) ≡ None → Beheld h s device (judge s past (Begin b)) alone (λ t. cond (b.thread == t) false (on t))
  begin_elsewhere past alone on b other apart w gives there idle = record {
    held = held_begun h past b o (begun_of s past b).reports w.held (fits_open h s past b w.held gives);
    beside = begun_elsewhere h s device other apart past alone b o (begun_of s past b).reports w.held w.beside (on_open h s past b other w.held there).args;
    opens = λ t. go t (b.thread == t) refl;
  }
    where
      o : Opened
      o = (begun_of s past b).opened

      go : (t : ℕ) (u : Bool) → (b.thread == t) ≡ u → OpenAlike h device (cond u false (on t)) (find (is_of t) (open_calls past ++ o ∷ [])) (find (is_of t) (open_calls alone))
      go t true e =
          let none : find (is_of t) (open_calls past) ≡ None = idle_at t b.thread (open_calls past) idle e in
          let lone : find (is_of t) (open_calls alone) ≡ None = none_there h device (on t) (find (is_of t) (open_calls alone)) (subst (λ f. OpenAlike h device (on t) f (find (is_of t) (open_calls alone))) none (w.opens t)) in
          subst₂ (OpenAlike h device false) (sym (opened_now t (open_calls past) o none e)) (sym lone) (record { other = other; apart = apart; on = on_open h s past b other w.held there })
      go t false e = subst (λ f. OpenAlike h device (on t) f (find (is_of t) (open_calls alone))) (sym (opened_other t (open_calls past) o e)) (w.opens t)

  -- ---- a return

  fits_found : (past : Past) (t : ℕ) (o : Opened) → Held h past → find (is_of t) (open_calls past) ≡ Some o → AllByRecursion (MadeBy h o) (made_of s past o)
  fits_found past t o held is = made_homes h s.drivers (births (history past)) (alive (history past)) (retrievals past) o held.kept (at_found (FitsOpen h) (is_of t) (open_calls past) o held.opens is).0

  pub made_on : (past : Past) (d : Name) (t : ℕ) (o : Opened) → Held h past → find (is_of t) (open_calls past) ≡ Some o → On h d o
      → AllByRecursion (λ (b : Born). (h.object b.object ≡ Some d) × (h.name b.name ≡ Some d)) (made_of s past o)
  made_on past d t o held is on = made_at h d s.drivers (births (history past)) (alive (history past)) (retrievals past) o on (fits_found past t o held is)

  pub made_same : (past alone : Past) (o q : Opened) → Beside h s device past alone → On h device o → numbered 0 q ≡ numbered 0 o → made_of s alone q ≡ made_of s past o
  made_same past alone o q w on same =
      ap (made_of s alone) (is_numbered o q same)
      ∙ made_alike h device (births (history alone)) (births (history past)) w.born (retrievals alone) (retrievals past) w.kept s.drivers (alive (history alone)) (alive (history past)) o w.living on

  return_here : (past alone : Past) (on : ℕ → Bool) (u : ℕ) → on u ≡ true → Beheld h s device past alone on → Beheld h s device (judge s past (Return u)) (judge s alone (Return u)) on
  return_here past alone on u there w =
      go (find (is_of u) (open_calls past)) (find (is_of u) (open_calls alone)) refl refl (subst (λ v. OpenAlike h device v (find (is_of u) (open_calls past)) (find (is_of u) (open_calls alone))) there (w.opens u))
    where
      both : (o : Opened) (n : ℕ) → find (is_of u) (open_calls past) ≡ Some o → On h device o → Beheld h s device (Returned o (made_of s past o) ∷ past) (Returned (numbered n o) (made_of s past o) ∷ alone) on
      both o n e k = record {
        held = held_returned h past o (made_of s past o) w.held (fits_found past u o w.held e);
        beside = returned_here h s device past alone o n (made_of s past o) w.beside k
            (all_to (λ (b : Born). (h.object b.object ≡ Some device) × (h.name b.name ≡ Some device)) (λ (b : Born). h.object b.object ≡ Some device) (λ b m. m.0) (made_of s past o) (made_on past device u o w.held e k));
        opens = λ t. subst₂ (OpenAlike h device (on t)) (sym (open_less t o.thread (open_calls past))) (sym (open_less t o.thread (open_calls alone))) (left t (t == o.thread));
      }
        where
          left : (t : ℕ) (v : Bool) → OpenAlike h device (on t) (cond v None (find (is_of t) (open_calls past))) (cond v None (find (is_of t) (open_calls alone)))
          left t true = no_calls h device (on t)
          left t false = w.opens t

      go : (f g : Option Opened) → find (is_of u) (open_calls past) ≡ f → find (is_of u) (open_calls alone) ≡ g → OpenAlike h device true f g → Beheld h s device (returned_by s past f) (returned_by s alone g) on
      go None None e i k = w
      go None (Some q) e i k = absurd k
      go (Some o) None e i k = absurd k
      go (Some o) (Some q) e i k =
          subst₂ (λ c made. Beheld h s device (Returned o (made_of s past o) ∷ past) (Returned c made ∷ alone) on) (sym (is_numbered o q k.1)) (sym (made_same past alone o q w.beside k.0 k.1)) (both o q.number e k.0)

  return_elsewhere : (past alone : Past) (on : ℕ → Bool) (u : ℕ) → on u ≡ false → Beheld h s device past alone on → Beheld h s device (judge s past (Return u)) alone on
  return_elsewhere past alone on u away w =
      go (find (is_of u) (open_calls past)) (find (is_of u) (open_calls alone)) refl refl (subst (λ v. OpenAlike h device v (find (is_of u) (open_calls past)) (find (is_of u) (open_calls alone))) away (w.opens u))
    where
      gone : (o : Opened) → find (is_of u) (open_calls past) ≡ Some o → find (is_of u) (open_calls alone) ≡ None → Elsewhere h device o → Beheld h s device (Returned o (made_of s past o) ∷ past) alone on
      gone o e lone k = record {
        held = held_returned h past o (made_of s past o) w.held (fits_found past u o w.held e);
        beside = returned_elsewhere h s device k.other k.apart past alone o (made_of s past o) w.beside k.on (made_on past k.other u o w.held e k.on);
        opens = λ t. subst (λ f. OpenAlike h device (on t) f (find (is_of t) (open_calls alone))) (sym (open_less t o.thread (open_calls past))) (left t (t == o.thread) refl);
      }
        where
          thread : o.thread ≡ u
          thread = eqb-true o.thread u (at_found (λ c. ⊤) (is_of u) (open_calls past) o (all_of (λ c. ⊤) (λ c. tt) (open_calls past)) e).1

          left : (t : ℕ) (v : Bool) → (t == o.thread) ≡ v → OpenAlike h device (on t) (cond v None (find (is_of t) (open_calls past))) (find (is_of t) (open_calls alone))
          left t false i = w.opens t
          left t true i =
              let none : find (is_of t) (open_calls alone) ≡ None = subst (λ v. find (is_of v) (open_calls alone) ≡ None) (sym (eqb-true t o.thread i ∙ thread)) lone in
              subst (λ f. OpenAlike h device (on t) None f) (sym none) (no_calls h device (on t))

      go : (f g : Option Opened) → find (is_of u) (open_calls past) ≡ f → find (is_of u) (open_calls alone) ≡ g → OpenAlike h device false f g → Beheld h s device (returned_by s past f) alone on
      go None g e i k = w
      go (Some o) None e i k = gone o e i k
      go (Some o) (Some q) e i k = absurd k

-- ---- all events

-- behind a setup, each of these events that begins a call does it where its thread has none that is open
abbrev pub IdleAlong : Setup → List TraceEvent → List TraceEvent → Type 0
IdleAlong s setup [] = ⊤
IdleAlong s setup (Begin b ∷ es) = (find (is_of b.thread) (open_calls (judged s (es ++ setup))) ≡ None) × IdleAlong s setup es
IdleAlong s setup (Return thread ∷ es) = IdleAlong s setup es

-- an event of a stream: a begin gives names where their owners are, and is on one device
abbrev pub StreamFits : (Name → Option Name) → TraceEvent → Type 0
StreamFits device_of (Begin b) = Gives device_of b × ((d : Name) × OnDevice device_of d b)
StreamFits device_of (Return thread) = ⊤

same_itself : (n : Name) → same_name n n ≡ true
same_itself n = ap (λ u. u && (n.number == n.number)) (eq-eqb n.thread n.thread refl) ∙ eq-eqb n.number n.number refl

pub named_one : (n : Option Name) (d device : Name) → n ≡ Some d → same_device n (Some device) ≡ true → d ≡ device
named_one n d device is same = name_is d device (sym (ap (λ x. same_device x (Some device)) is) ∙ same)

named_other : (n : Option Name) (d device : Name) → n ≡ Some d → same_device n (Some device) ≡ false → d ≡ device → ⊥
named_other n d device is differ one =
    let bad : same_name d device ≡ false = sym (ap (λ x. same_device x (Some device)) is) ∙ differ in
    let good : same_name d device ≡ true = subst (λ x. same_name d x ≡ true) one (same_itself d) in cc

pub beheld : (h : Homes) (s : Setup) (device : Name) (before : List TraceEvent) → Held h (judged s before) → ((t : ℕ) → find (is_of t) (open_calls (judged s before)) ≡ None) → (es : List TraceEvent)
    → AllByRecursion (StreamFits h.name) es → IdleAlong s before es → Beheld h s device (judged s (es ++ before)) (judged s (events_on h.name device es ++ before)) (λ t. last_on h.name device t es)
beheld h s device before held closed [] fits idle = record {
  held = held;
  beside = record { names = λ n at. refl; born = λ o at. refl; living = λ o at. refl; kept = λ x at. refl; routes = λ o at. refl; parts = refl };
  opens = λ t. subst₂ (OpenAlike h device false) (sym (closed t)) (sym (closed t)) tt;
}
beheld h s device before held closed (Begin b ∷ es) fits idle = go (same_device (device_named h.name b.cmd b.args) (Some device)) refl (beheld h s device before held closed es fits.1 idle.1)
  where
    go : (u : Bool) → same_device (device_named h.name b.cmd b.args) (Some device) ≡ u → Beheld h s device (judged s (es ++ before)) (judged s (events_on h.name device es ++ before)) (λ t. last_on h.name device t es)
        → Beheld h s device (judge s (judged s (es ++ before)) (Begin b)) (judged s (kept_if u (Begin b) (events_on h.name device es) ++ before)) (λ t. cond (b.thread == t) u (last_on h.name device t es))
    go true e w =
        begin_here h s device (judged s (es ++ before)) (judged s (events_on h.name device es ++ before)) (λ t. last_on h.name device t es) b w fits.0.0
        (subst (λ d. OnDevice h.name d b) (named_one (device_named h.name b.cmd b.args) fits.0.1.0 device fits.0.1.1.device e) fits.0.1.1) idle.0
    go false e w =
        begin_elsewhere h s device (judged s (es ++ before)) (judged s (events_on h.name device es ++ before)) (λ t. last_on h.name device t es) b fits.0.1.0
        (named_other (device_named h.name b.cmd b.args) fits.0.1.0 device fits.0.1.1.device e) w fits.0.0 fits.0.1.1 idle.0
beheld h s device before held closed (Return u ∷ es) fits idle = go (last_on h.name device u es) refl (beheld h s device before held closed es fits.1 idle)
  where
    go : (v : Bool) → last_on h.name device u es ≡ v → Beheld h s device (judged s (es ++ before)) (judged s (events_on h.name device es ++ before)) (λ t. last_on h.name device t es)
        → Beheld h s device (judge s (judged s (es ++ before)) (Return u)) (judged s (kept_if v (Return u) (events_on h.name device es) ++ before)) (λ t. last_on h.name device t es)
    go true e w = return_here h s device (judged s (es ++ before)) (judged s (events_on h.name device es ++ before)) (λ t. last_on h.name device t es) u e w
    go false e w = return_elsewhere h s device (judged s (es ++ before)) (judged s (events_on h.name device es ++ before)) (λ t. last_on h.name device t es) u e w
