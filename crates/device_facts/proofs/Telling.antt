-- Behind a setup and what the threads did on all devices, the values that drivers answered for what is on a device are those of the device's own replies.
use Rattle.std.proofs.Common.{◌≡◌, ◌∙◌, ◌==◌, ◌+◌, ◌≤◌, ℕ, Bool, true, false, cond, Option, Some, None, List, [], ◌∷◌, ◌++◌, length, take, refl, sym, subst, subst₂, arith}
use Rattle.std.specs.Prelude.{⊤, find}
use Rattle.std.specs.List.{AllByRecursion}
use Rattle.std.proofs.lemmas.Bool.{eqb-true}
use Rattle.command_tables.specs.Calls.{ReplyContent}
use Rattle.trace_format.specs.declared.event.Name.{Name}
use Rattle.trace_format.specs.Content.{BeginEvent, TraceEvent, Begin, Return}
use Rattle.replay_model.specs.Setup.{Setup}
use Rattle.replay_model.specs.Past.{Began, Opened, Past, Returned, is_of, open_calls}
use Rattle.replay_model.specs.Direct.{before_call, sends_in}
use Rattle.replay_model.specs.Judged.{begun_of, judge, judged, made_of, returned_by}
use Rattle.replay_model.proofs.Alike.{numbered}
use Rattle.stream_model.specs.FileParts.{FileParts}
use Rattle.stream_model.specs.Order.{device_named, same_device}
use Rattle.stream_model.specs.Plans.{device_written, kept_if}
use Rattle.merge_model.specs.Merges.{events_on, last_on}
use Rattle.device_facts.specs.Apart.{replies_on, with_own}
use Rattle.device_facts.proofs.Beheld.{Beheld, IdleAlong, StreamFits, beheld, is_numbered, made_on, made_same, named_one}
use Rattle.device_facts.proofs.Beside.{begun_alike}
use Rattle.device_facts.proofs.Homes.{Held, Homes, homes}
use Rattle.device_facts.proofs.Looks.{all_of, at_found}
use Rattle.device_facts.proofs.Opening.{Elsewhere, OnDevice, OpenAlike, none_there}
use Rattle.device_facts.proofs.Told.{Told, drop_length, told_back, told_back_elsewhere, told_elsewhere, told_here}

same_sends : (s : Setup) (past : Past) (f : Option Opened) → sends_in (returned_by s past f) ≡ sends_in past
same_sends s past None = refl
same_sends s past (Some o) = refl

-- what is found among a thread's calls is its
thread_found : (u : ℕ) (cs : List Opened) (o : Opened) → find (is_of u) cs ≡ Some o → o.thread ≡ u
thread_found u cs o e = eqb-true o.thread u (at_found (λ c. ⊤) (is_of u) cs o (all_of (λ c. ⊤) (λ c. tt) cs) e).1

module _ (h : Homes) (s : Setup) (device : Name) (past alone : Past) (on : ℕ → Bool) (w : Beheld h s device past alone on) (replies own : List ReplyContent) where
  -- ---- a begin

  begin_told : (b : BeginEvent) → OnDevice h.name device b → find (is_of b.thread) (open_calls past) ≡ None → length (begun_of s past b).opened.drivers ≤ length replies
      → Told h device past alone (before_call (begun_of s past b).opened replies) own on
      → Told h device (judge s past (Begin b)) (judge s alone (Begin b)) replies (take (length (begun_of s past b).opened.drivers) replies ++ own) (λ t. cond (b.thread == t) true (on t))
  begin_told b there idle enough told =
      subst (λ c. Told h device (judge s past (Begin b)) (Began b c (begun_of s alone b).reports ∷ alone) replies (take (length o.drivers) replies ++ own) (λ t. cond (b.thread == t) true (on t))) (sym (is_numbered o q same))
      (told_here h s device past alone replies own on b o told q.number (begun_of s past b).reports (begun_of s alone b).reports enough idle
      (none_there h device (on b.thread) (find (is_of b.thread) (open_calls alone)) (subst (λ f. OpenAlike h device (on b.thread) f (find (is_of b.thread) (open_calls alone))) idle (w.opens b.thread))))
    where
      o : Opened
      o = (begun_of s past b).opened

      q : Opened
      q = (begun_of s alone b).opened

      same : numbered 0 q ≡ numbered 0 o
      same = begun_alike h device s past alone b w.held w.beside there.names there.ends

  -- ---- a return

  return_told : (u : ℕ) → on u ≡ true → Told h device past alone replies own on → Told h device (judge s past (Return u)) (judge s alone (Return u)) replies own on
  return_told u there told =
      go (find (is_of u) (open_calls past)) (find (is_of u) (open_calls alone)) refl (subst (λ v. OpenAlike h device v (find (is_of u) (open_calls past)) (find (is_of u) (open_calls alone))) there (w.opens u))
    where
      go : (f g : Option Opened) → find (is_of u) (open_calls past) ≡ f → OpenAlike h device true f g → Told h device (returned_by s past f) (returned_by s alone g) replies own on
      go None None e k = told
      go None (Some q) e k = absurd k
      go (Some o) None e k = absurd k
      go (Some o) (Some q) e k =
          subst₂ (λ c made. Told h device (Returned o (made_of s past o) ∷ past) (Returned c made ∷ alone) replies own on) (sym (is_numbered o q k.1)) (sym (made_same h s device past alone o q w.beside k.0 k.1))
          (told_back h s device past alone replies own on o (made_of s past o) told q.number (subst (λ v. on v ≡ true) (sym (thread_found u (open_calls past) o e)) there))

  return_told_elsewhere : (u : ℕ) → on u ≡ false → Told h device past alone replies own on → Told h device (judge s past (Return u)) alone replies own on
  return_told_elsewhere u away told =
      go (find (is_of u) (open_calls past)) (find (is_of u) (open_calls alone)) refl (subst (λ v. OpenAlike h device v (find (is_of u) (open_calls past)) (find (is_of u) (open_calls alone))) away (w.opens u))
    where
      gone : (o : Opened) → find (is_of u) (open_calls past) ≡ Some o → Elsewhere h device o → Told h device (Returned o (made_of s past o) ∷ past) alone replies own on
      gone o e k =
          told_back_elsewhere h s device past alone replies own on o (made_of s past o) told k.other k.apart (subst (λ v. on v ≡ false) (sym (thread_found u (open_calls past) o e)) away) (made_on h s device past k.other u o w.held e k.on)

      go : (f g : Option Opened) → find (is_of u) (open_calls past) ≡ f → OpenAlike h device false f g → Told h device (returned_by s past f) alone replies own on
      go None g e k = told
      go (Some o) None e k = gone o e k
      go (Some o) (Some q) e k = absurd k

-- ---- all events

pub told : (s : Setup) (file : FileParts) (device : Name) (before : List TraceEvent) → Held (homes (device_written file)) (judged s before) → ((t : ℕ) → find (is_of t) (open_calls (judged s before)) ≡ None) → (es : List TraceEvent)
    → AllByRecursion (StreamFits (device_written file)) es → IdleAlong s before es → (replies : List ReplyContent) → length replies ≡ sends_in (judged s (es ++ before))
    → Told (homes (device_written file)) device (judged s (es ++ before)) (judged s (events_on (device_written file) device es ++ before)) replies (replies_on s file device before es replies) (λ t. last_on (device_written file) device t es)
told s file device before held closed [] fits idle replies enough = record { values = λ o at. refl; answers = λ t is. cc is }
told s file device before held closed (Begin b ∷ es) fits idle replies enough =
    go (same_device (device_named (device_written file) b.cmd b.args) (Some device)) refl (beheld h s device before held closed es fits.1 idle.1)
    (told s file device before held closed es fits.1 idle.1 (before_call o replies) (drop_length (length o.drivers) (sends_in past) replies enough))
  where
    h : Homes
    h = homes (device_written file)

    past : Past
    past = judged s (es ++ before)

    alone : Past
    alone = judged s (events_on (device_written file) device es ++ before)

    o : Opened
    o = (begun_of s past b).opened

    own : List ReplyContent
    own = replies_on s file device before es (before_call o replies)

    room : length o.drivers ≤ length replies
    room = let is : length replies ≡ sends_in past + length o.drivers = enough in omega (arith, is)

    go : (u : Bool) → same_device (device_named (device_written file) b.cmd b.args) (Some device) ≡ u → Beheld h s device past alone (λ t. last_on (device_written file) device t es)
        → Told h device past alone (before_call o replies) own (λ t. last_on (device_written file) device t es)
        → Told h device (judge s past (Begin b)) (judged s (kept_if u (Begin b) (events_on (device_written file) device es) ++ before)) replies (with_own u (length o.drivers) replies own) (λ t. cond (b.thread == t) u (last_on (device_written file) device t es))
    go true e w t =
        begin_told h s device past alone (λ t. last_on (device_written file) device t es) w replies own b
        (subst (λ d. OnDevice (device_written file) d b) (named_one (device_named (device_written file) b.cmd b.args) fits.0.1.0 device fits.0.1.1.device e) fits.0.1.1) idle.0 room t
    go false e w t = told_elsewhere h s device past alone replies own (λ t. last_on (device_written file) device t es) b o t (begun_of s past b).reports
told s file device before held closed (Return u ∷ es) fits idle replies enough =
    go (last_on (device_written file) device u es) refl (beheld h s device before held closed es fits.1 idle)
    (told s file device before held closed es fits.1 idle replies (enough ∙ same_sends s past (find (is_of u) (open_calls past))))
  where
    h : Homes
    h = homes (device_written file)

    past : Past
    past = judged s (es ++ before)

    alone : Past
    alone = judged s (events_on (device_written file) device es ++ before)

    own : List ReplyContent
    own = replies_on s file device before es replies

    go : (v : Bool) → last_on (device_written file) device u es ≡ v → Beheld h s device past alone (λ t. last_on (device_written file) device t es) → Told h device past alone replies own (λ t. last_on (device_written file) device t es)
        → Told h device (judge s past (Return u)) (judged s (kept_if v (Return u) (events_on (device_written file) device es) ++ before)) replies own (λ t. last_on (device_written file) device t es)
    go true e w t = return_told h s device past alone (λ t. last_on (device_written file) device t es) w replies own u e t
    go false e w t = return_told_elsewhere h s device past alone (λ t. last_on (device_written file) device t es) w replies own u e t
