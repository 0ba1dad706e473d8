-- The calls of pairs by the numbers of their devices.
use Rattle.std.proofs.Common.{◌≡◌, ◌∙◌, ◌==◌, ◌<◌, ℕ, zero, suc, Bool, true, false, cond, Option, Some, None, List, [], ◌∷◌, length, refl, sym, ap, subst}
use Rattle.std.specs.Prelude.{is_some, option_map, position, slice_get}
use Rattle.std.specs.List.{AllByRecursion, IsDistinct, cons_option}
use Rattle.std.proofs.lemmas.Bool.{eq-eqb, eqb-true}
use Rattle.std.proofs.lemmas.List.Quantifiers.{position-Some}
use Rattle.std.proofs.lemmas.Map.Keys.{IsDistinct-head, IsDistinct-tail}
use Rattle.std.proofs.lemmas.Option.{slice_get-get_or}
use Rattle.trace_format.specs.declared.event.Name.{Name}
use Rattle.trace_format.specs.Accepting.{same_name}
use Rattle.trace_format.specs.Content.{BeginEvent, TraceEvent, Begin, Return}
use Rattle.stream_model.specs.FileLines.{FileLine}
use Rattle.stream_model.specs.FileParts.{AreInOrder, FileParts, StreamPart, parts}
use Rattle.stream_model.specs.Order.{device_named, refusal_at_end, same_device}
use Rattle.stream_model.specs.Plans.{calls_on, device_written, kept_if}
use Rattle.stream_model.proofs.Comings.{name_is}
use Rattle.merge_model.specs.Planned.{AreCallsOf, AreOnThese, IsOnOne, PlannedCall, calls_at, calls_planned, events_of_calls, number_among}
use Rattle.merge_model.proofs.Paired.{ArePaired, OwnPairs, streams_paired}

-- ---- distinct names

same_self : (n : Name) → same_name n n ≡ true
same_self n = rw (eq-eqb n.thread n.thread refl, eq-eqb n.number n.number refl) refl

all_at : (P : Name → Type 0) (xs : List Name) (k : ℕ) (x : Name) → AllByRecursion P xs → slice_get xs k ≡ Some x → P x
all_at P [] k x ks is = cc is
all_at P (y ∷ xs) zero x ks is = let one : y ≡ x = cc in subst P one ks.0
all_at P (y ∷ xs) (suc k) x ks is = all_at P xs k x ks.1 is

-- a name isn't behind itself
not_behind : (y : Name) (xs : List Name) (k : ℕ) (x : Name) → AllByRecursion (λ z. same_name y z ≡ false) xs → slice_get xs k ≡ Some x → y ≡ x → ⊥
not_behind y xs k x apart is one =
    let other : same_name y x ≡ false = all_at (λ z. same_name y z ≡ false) xs k x apart is in
    let same : same_name y x ≡ true = ap (same_name y) (sym one) ∙ same_self y in cc

-- a name has one place
one_place : (xs : List Name) (n k : ℕ) (x : Name) → IsDistinct same_name xs → slice_get xs n ≡ Some x → slice_get xs k ≡ Some x → n ≡ k
one_place [] n k x distinct p q = cc p
one_place (y ∷ xs) zero zero x distinct p q = refl
one_place (y ∷ xs) zero (suc k) x distinct p q = let one : y ≡ x = cc in absurd (not_behind y xs k x (IsDistinct-head same_name y xs distinct) q one)
one_place (y ∷ xs) (suc n) zero x distinct p q = let one : y ≡ x = cc in absurd (not_behind y xs n x (IsDistinct-head same_name y xs distinct) p one)
one_place (y ∷ xs) (suc n) (suc k) x distinct p q = ap suc (one_place xs n k x (IsDistinct-tail same_name y xs distinct) p q)

-- ---- the number of a device

-- the device stands at its number
number_at : (devices : List Name) (d : Name) (n : ℕ) → position (λ (x : Name). same_name x d) devices ≡ Some n → (n < length devices) × (slice_get devices n ≡ Some d)
number_at devices d n is =
    let at = position-Some (λ (x : Name). same_name x d) devices n d is in
    (at.0, slice_get-get_or devices n d at.0 ∙ ap Some (name_is _ d at.1))

-- a number is one of theirs
pub within_number : (devices : List Name) (o : Option Name) (n : ℕ) → number_among devices o ≡ Some n → n < length devices
within_number devices None n is = cc is
within_number devices (Some d) n is = (number_at devices d n is).0

-- a device has the number of another alone where both are one
pub number_same : (devices : List Name) (k : ℕ) (device : Name) → IsDistinct same_name devices → slice_get devices k ≡ Some device → (o : Option Name) (n : ℕ) → number_among devices o ≡ Some n → (n == k) ≡ same_device o (Some device)
number_same devices k device distinct there None n is = cc is
number_same devices k device distinct there (Some d) n is = go (same_name d device) refl
  where
    at : slice_get devices n ≡ Some d
    at = (number_at devices d n is).1

    apart : (v : Bool) → (n == k) ≡ v → same_name d device ≡ false → v ≡ false
    apart false e other = refl
    apart true e other =
        let both : Some d ≡ Some device = sym at ∙ (ap (slice_get devices) (eqb-true n k e) ∙ there) in
        let one : d ≡ device = cc in
        let same : same_name d device ≡ true = ap (same_name d) (sym one) ∙ same_self d in cc

    go : (u : Bool) → same_name d device ≡ u → (n == k) ≡ u
    go true same = eq-eqb n k (one_place devices n k device distinct (at ∙ ap Some (name_is d device same)) there)
    go false other = apart (n == k) refl other

-- ---- the calls of pairs

module _ (device_of : Name → Option Name) (devices : List Name) (t : ℕ) where
  -- the call of a begin, in front of others
  abbrev with_call : BeginEvent → Option ℕ → List PlannedCall → List PlannedCall
  with_call b o calls = cons_option (option_map (λ (k : ℕ). record { place = k; begin = b }) o) calls

  events_are : (es : List TraceEvent) → OwnPairs t es → AllByRecursion (IsOnOne device_of devices) es → events_of_calls t (calls_planned device_of devices es) ≡ es
  events_are [] pairs on = refl
  events_are (Return u ∷ es) pairs on = absurd pairs
  events_are (Begin b ∷ []) pairs on = absurd pairs
  events_are (Begin b ∷ Begin c ∷ es) pairs on = absurd pairs
  events_are (Begin b ∷ Return u ∷ es) pairs on = put (number_among devices (device_named device_of b.cmd b.args)) on.0 (events_are es pairs.2 on.1.1)
    where
      put : (o : Option ℕ) → is_some o ≡ true → events_of_calls t (calls_planned device_of devices es) ≡ es → events_of_calls t (with_call b o (calls_planned device_of devices es)) ≡ Begin b ∷ Return u ∷ es
      put None is same = cc is
      put (Some n) is same = ap (λ v. Begin b ∷ Return v ∷ events_of_calls t (calls_planned device_of devices es)) (sym pairs.1) ∙ ap (λ fs. Begin b ∷ Return u ∷ fs) same

  events_at : (k : ℕ) (device : Name) → IsDistinct same_name devices → slice_get devices k ≡ Some device → (last : Bool) (es : List TraceEvent) → OwnPairs t es → AllByRecursion (IsOnOne device_of devices) es
      → events_of_calls t (calls_at k (calls_planned device_of devices es)) ≡ calls_on device_of device last es
  events_at k device distinct there last [] pairs on = refl
  events_at k device distinct there last (Return u ∷ es) pairs on = absurd pairs
  events_at k device distinct there last (Begin b ∷ []) pairs on = absurd pairs
  events_at k device distinct there last (Begin b ∷ Begin c ∷ es) pairs on = absurd pairs
  events_at k device distinct there last (Begin b ∷ Return u ∷ es) pairs on =
      put (number_among devices (device_named device_of b.cmd b.args)) (same_device (device_named device_of b.cmd b.args) (Some device)) on.0 (number_same devices k device distinct there (device_named device_of b.cmd b.args))
      (events_at k device distinct there (same_device (device_named device_of b.cmd b.args) (Some device)) es pairs.2 on.1.1)
    where
      rest : List TraceEvent
      rest = events_of_calls t (calls_at k (calls_planned device_of devices es))

      kept : (v here : Bool) (n : ℕ) (kept : List TraceEvent) → v ≡ here → rest ≡ kept
          → events_of_calls t (cond v (record { place = n; begin = b } ∷ calls_at k (calls_planned device_of devices es)) (calls_at k (calls_planned device_of devices es))) ≡ kept_if here (Begin b) (kept_if here (Return u) kept)
      kept true true n es e same = ap (λ v. Begin b ∷ Return v ∷ rest) (sym pairs.1) ∙ ap (λ fs. Begin b ∷ Return u ∷ fs) same
      kept false false n es e same = same
      kept true false n es e same = cc e
      kept false true n es e same = cc e

      put : (o : Option ℕ) (here : Bool) → is_some o ≡ true → ((n : ℕ) → o ≡ Some n → (n == k) ≡ here) → rest ≡ calls_on device_of device here es
          → events_of_calls t (calls_at k (with_call b o (calls_planned device_of devices es))) ≡ kept_if here (Begin b) (kept_if here (Return u) (calls_on device_of device here es))
      put None here is at same = cc is
      put (Some n) here is at same = kept (n == k) here n (calls_on device_of device here es) (at n refl) same

  own_calls : (es : List TraceEvent) → OwnPairs t es → AllByRecursion (λ (c : PlannedCall). c.begin.thread ≡ t) (calls_planned device_of devices es)
  own_calls [] pairs = tt
  own_calls (Return u ∷ es) pairs = absurd pairs
  own_calls (Begin b ∷ []) pairs = absurd pairs
  own_calls (Begin b ∷ Begin c ∷ es) pairs = absurd pairs
  own_calls (Begin b ∷ Return u ∷ es) pairs = put (number_among devices (device_named device_of b.cmd b.args)) (own_calls es pairs.2)
    where
      put : (o : Option ℕ) → AllByRecursion (λ (c : PlannedCall). c.begin.thread ≡ t) (calls_planned device_of devices es) → AllByRecursion (λ (c : PlannedCall). c.begin.thread ≡ t) (with_call b o (calls_planned device_of devices es))
      put None own = own
      put (Some n) own = (pairs.0, own)

  within_calls : (es : List TraceEvent) → AllByRecursion (λ (c : PlannedCall). c.place < length devices) (calls_planned device_of devices es)
  within_calls [] = tt
  within_calls (Return u ∷ es) = within_calls es
  within_calls (Begin b ∷ es) = put (number_among devices (device_named device_of b.cmd b.args)) (within_number devices (device_named device_of b.cmd b.args)) (within_calls es)
    where
      put : (o : Option ℕ) → ((n : ℕ) → o ≡ Some n → n < length devices) → AllByRecursion (λ (c : PlannedCall). c.place < length devices) (calls_planned device_of devices es)
          → AllByRecursion (λ (c : PlannedCall). c.place < length devices) (with_call b o (calls_planned device_of devices es))
      put None at within = within
      put (Some n) at within = (at n refl, within)

-- ---- each stream

each_planned : (file : FileParts) (devices : List Name) → IsDistinct same_name devices → (streams : List StreamPart) → ArePaired streams → AllByRecursion (λ (s : StreamPart). AllByRecursion (IsOnOne (device_written file) devices) s.events) streams
    → AllByRecursion (λ (s : StreamPart). AreCallsOf file devices s (calls_planned (device_written file) devices s.events)) streams
each_planned file devices distinct [] paired on = tt
each_planned file devices distinct (s ∷ streams) paired on = (
  record {
    events = events_are (device_written file) devices s.thread s.events paired.0 on.0;
    each = λ k device there. events_at (device_written file) devices s.thread k device distinct there false s.events paired.0 on.0;
    own = own_calls (device_written file) devices s.thread s.events paired.0;
    within = within_calls (device_written file) devices s.thread s.events;
  },
  each_planned file devices distinct streams paired.1 on.1,
)

pub calls_have_plans : (lines : List FileLine) (devices : List Name) → AreInOrder lines → refusal_at_end lines ≡ None → IsDistinct same_name devices → AreOnThese (parts lines) devices
    → AllByRecursion (λ (s : StreamPart). AreCallsOf (parts lines) devices s (calls_planned (device_written (parts lines)) devices s.events)) (parts lines).streams
calls_have_plans lines devices order whole distinct on = each_planned (parts lines) devices distinct (parts lines).streams (streams_paired lines order whole) on
