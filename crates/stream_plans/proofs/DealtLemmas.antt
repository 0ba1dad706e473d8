-- The events of a stream dealt out to plans, one event after another.
use Rattle.std.proofs.Common.{◌≡◌, ◌∙◌, ◌+◌, ◌<◌, ◌==◌, ℕ, zero, suc, Bool, true, false, ◌||◌, Option, Some, None, List, [], ◌∷◌, ◌++◌, take, length, map, get_or, refl, sym, ap, subst, arith, append_assoc, append-nil}
use Rattle.std.specs.Prelude.{Vec, filter_map, is_some, option_map, slice_get, slice_index_or, slice_set}
use Rattle.std.specs.List.{IsDistinct, list_any}
use Rattle.std.proofs.lemmas.Bool.{eqb-false, eqb-true}
use Rattle.std.proofs.lemmas.List.{get_or-set_other, get_or-set_same, length-map, length-set, map-append, map-set, take_more}
use Rattle.std.proofs.lemmas.List.Elements.{filter_map-append}
use Rattle.trace_format.specs.declared.event.Event.{Event}
use Rattle.trace_format.specs.declared.event.Name.{Name}
use Rattle.trace_format.specs.Accepting.{same_name}
use Rattle.trace_format.specs.Content.{TraceEvent, Begin, Return, content}
use Rattle.stream_model.specs.Order.{device_named, same_device}
use Rattle.stream_model.specs.Plans.{calls_on, kept_if}
use Rattle.stream_model.proofs.Comings.{name_is}
use Rattle.merge_model.specs.Planned.{PlannedCall, calls_planned, number_among, planned_call}
use Rattle.merge_model.proofs.Numbered.{number_same, within_number}
use Rattle.stream_plans.specs.Cuts.{places_planned, stays_on}
use Rattle.stream_plans.specs.Dealt.{IsDealt, dealt_to, events_in, is_at, number_behind, on_behind, place_begun}
use Rattle.stream_plans.proofs.CutLemmas.{calls_first}
use Rattle.stream_plans.proofs.OnThese.{is_numbered, name_self}
use Rattle.stream_plans.proofs.TableLemmas.{one_more}

-- ---- the number of a device

-- one of which a test holds is among those of which it does
any_at : {X : Type 0} (p : X → Bool) (xs : List X) (n : ℕ) (x : X) → slice_get xs n ≡ Some x → p x ≡ true → list_any p xs ≡ true
any_at p [] n x at is = cc at
any_at p (y ∷ xs) zero x at is = let one : x ≡ y = cc in ap (λ u. u || list_any p xs) (sym (ap p one) ∙ is)
any_at p (y ∷ xs) (suc n) x at is = go (p y) (any_at p xs n x at is)
  where
    go : (u : Bool) → list_any p xs ≡ true → (u || list_any p xs) ≡ true
    go true rest = refl
    go false rest = rest

-- a device among these has a number
not_numbered : (devices : List Name) (n : ℕ) (d : Name) → slice_get devices n ≡ Some d → number_among devices (Some d) ≡ None → ⊥
not_numbered devices n d there none =
    let some : is_some (number_among devices (Some d)) ≡ true = is_numbered devices d ∙ any_at (same_name d) devices n d there (name_self d) in
    let not : is_some (number_among devices (Some d)) ≡ false = ap is_some none in cc

-- a device has the number of one of these alone where both are one
own_number : (devices : List Name) (n : ℕ) (d : Name) → IsDistinct same_name devices → slice_get devices n ≡ Some d → (o : Option Name) → is_at (number_among devices o) n ≡ same_device o (Some d)
own_number devices n d apart there None = refl
own_number devices n d apart there (Some x) = go (number_among devices (Some x)) refl
  where
    other : (u : Bool) → same_name x d ≡ u → number_among devices (Some x) ≡ None → false ≡ u
    other false is none = refl
    other true is none = absurd (not_numbered devices n d there (ap (λ y. number_among devices (Some y)) (sym (name_is x d is)) ∙ none))

    go : (o : Option ℕ) → number_among devices (Some x) ≡ o → is_at o n ≡ same_name x d
    go (Some k) is = number_same devices n d apart there (Some x) k is
    go None is = other (same_name x d) refl is

-- an event is on a device where it has the number of the device
stays_at : (f : Name → Option Name) (devices : List Name) (at : Option ℕ) (n : ℕ) (d : Name) (e : TraceEvent) → IsDistinct same_name devices → slice_get devices n ≡ Some d
    → is_at (number_behind f devices at e) n ≡ stays_on f d (is_at at n) e
stays_at f devices at n d (Begin b) apart there = own_number devices n d apart there (device_named f b.cmd b.args)
stays_at f devices at n d (Return thread) apart there = refl

still_within : (f : Name → Option Name) (devices : List Name) (at : Option ℕ) (e : TraceEvent) → ((n : ℕ) → at ≡ Some n → n < length devices) → (n : ℕ) → number_behind f devices at e ≡ Some n → n < length devices
still_within f devices at (Begin b) within n is = within_number devices (device_named f b.cmd b.args) n is
still_within f devices at (Return thread) within n is = within n is

-- the number of a call is the one that it is planned with
begun : (f : Name → Option Name) (devices : List Name) (at : Option ℕ) (e : TraceEvent) → place_begun (number_behind f devices at e) e ≡ places_planned f devices (e ∷ [])
begun f devices at (Return thread) = refl
begun f devices at (Begin b) = go (number_among devices (device_named f b.cmd b.args))
  where
    go : (o : Option ℕ) → place_begun o (Begin b) ≡ map (λ (c : PlannedCall). c.place) (filter_map (λ (p : Option PlannedCall). p) (option_map (λ k. record { place = k; begin = b }) o ∷ []))
    go None = refl
    go (Some k) = refl

-- ---- an event more

-- the calls on a device, by their last event
cut_last : (f : Name → Option Name) (d : Name) (on : Bool) (es : List TraceEvent) (e : TraceEvent) → calls_on f d on (es ++ e ∷ []) ≡ calls_on f d on es ++ kept_if (stays_on f d (on_behind f d on es) e) e []
cut_last f d on [] e = calls_first f d on e [] ∙ append-nil (kept_if (stays_on f d on e) e [])
cut_last f d on (x ∷ es) e =
    let here = stays_on f d on x in
    let last : List TraceEvent = kept_if (stays_on f d (on_behind f d here es) e) e [] in
    calls_first f d on x (es ++ e ∷ [])
    ∙ (ap (λ ys. kept_if here x [] ++ ys) (cut_last f d here es e)
    ∙ (sym (append_assoc (kept_if here x []) (calls_on f d here es) last) ∙ ap (λ ys. ys ++ last) (sym (calls_first f d on x es))))

behind_last : (f : Name → Option Name) (d : Name) (on : Bool) (es : List TraceEvent) (e : TraceEvent) → on_behind f d on (es ++ e ∷ []) ≡ stays_on f d (on_behind f d on es) e
behind_last f d on [] e = refl
behind_last f d on (x ∷ es) e = behind_last f d (stays_on f d on x) es e

-- a part has the event more where it is dealt to it
dealt_at : (at : Option ℕ) (e : TraceEvent) (parts : List (List TraceEvent)) (n : ℕ) → ((k : ℕ) → at ≡ Some k → k < length parts) → slice_index_or (dealt_to at e parts) n [] ≡ slice_index_or parts n [] ++ kept_if (is_at at n) e []
dealt_at None e parts n within = sym (append-nil (slice_index_or parts n []))
dealt_at (Some k) e parts n within = go (k == n) refl
  where
    more : List TraceEvent
    more = slice_index_or parts k [] ++ e ∷ []

    go : (u : Bool) → (k == n) ≡ u → slice_index_or (slice_set parts k more) n [] ≡ slice_index_or parts n [] ++ kept_if u e []
    go true is =
        let one : k ≡ n = eqb-true k n is in
        sym (ap (λ i. slice_index_or (slice_set parts k more) i []) one) ∙ (get_or-set_same parts k more [] (within k refl) ∙ ap (λ i. slice_index_or parts i [] ++ e ∷ []) one)
    go false is = get_or-set_other parts k n more [] (λ one. eqb-false k n is (sym one)) ∙ sym (append-nil (slice_index_or parts n []))

dealt_count : (at : Option ℕ) (e : TraceEvent) (parts : List (List TraceEvent)) → length (dealt_to at e parts) ≡ length parts
dealt_count None e parts = refl
dealt_count (Some k) e parts = length-set parts k (slice_index_or parts k [] ++ e ∷ [])

-- the places of events after events
pub places_both : (f : Name → Option Name) (devices : List Name) (xs ys : List TraceEvent) → places_planned f devices (xs ++ ys) ≡ places_planned f devices xs ++ places_planned f devices ys
places_both f devices xs ys =
    let place = λ (c : PlannedCall). c.place in
    ap (map place) (filter_map-append (planned_call f devices) xs ys) ∙ map-append place (calls_planned f devices xs) (calls_planned f devices ys)

module _ (f : Name → Option Name) (devices : List Name) (apart : IsDistinct same_name devices) where
  dealt_more : (parts : List (List TraceEvent)) (places : List ℕ) (at : Option ℕ) (es : List TraceEvent) (e : TraceEvent) → IsDealt f devices parts places at es
      → IsDealt f devices (dealt_to (number_behind f devices at e) e parts) (places ++ place_begun (number_behind f devices at e) e) (number_behind f devices at e) (es ++ e ∷ [])
  dealt_more parts places at es e was = record {
    count = dealt_count here e parts ∙ was.count;
    within = within;
    each = each;
    last = λ n d there. stays n d there ∙ sym (behind_last f d false es e);
    places = ap (λ ps. ps ++ place_begun here e) was.places ∙ (ap (λ ps. places_planned f devices es ++ ps) (begun f devices at e) ∙ sym (places_both f devices es (e ∷ [])));
  }
    where
      here : Option ℕ
      here = number_behind f devices at e

      within : (n : ℕ) → here ≡ Some n → n < length devices
      within = still_within f devices at e was.within

      stays : (n : ℕ) (d : Name) → slice_get devices n ≡ Some d → is_at here n ≡ stays_on f d (on_behind f d false es) e
      stays n d there = stays_at f devices at n d e apart there ∙ ap (λ u. stays_on f d u e) (was.last n d there)

      each : (n : ℕ) (d : Name) → slice_get devices n ≡ Some d → slice_index_or (dealt_to here e parts) n [] ≡ calls_on f d false (es ++ e ∷ [])
      each n d there =
          dealt_at here e parts n (λ k is. subst (λ m. k < m) (sym was.count) (within k is))
          ∙ (ap (λ ys. ys ++ kept_if (is_at here n) e []) (was.each n d there)
          ∙ (ap (λ u. calls_on f d false es ++ kept_if u e []) (stays n d there) ∙ sym (cut_last f d false es e)))

  pub dealt_next : (parts parts_now : List (List TraceEvent)) (places places_now : List ℕ) (at here : Option ℕ) (xs : List Event) (k : ℕ) (x : Event) → k < length xs → x ≡ get_or xs k x
      → here ≡ number_behind f devices at (content x) → places_now ≡ places ++ place_begun here (content x) → parts_now ≡ dealt_to here (content x) parts
      → IsDealt f devices parts places at (map content (take k xs)) → IsDealt f devices parts_now places_now here (map content (take (k + 1) xs))
  dealt_next parts parts_now places places_now at here xs k x less item is places_are parts_are was =
      let e = content x in
      let es = map content (take k xs) in
      let now : Option ℕ = number_behind f devices at e in
      let all : es ++ e ∷ [] ≡ map content (take (k + 1) xs) = sym (map-append content (take k xs) (x ∷ [])) ∙ ap (map content) (sym (one_more xs k x less item)) in
      let more : IsDealt f devices (dealt_to now e parts) (places ++ place_begun now e) now (es ++ e ∷ []) = dealt_more parts places at es e was in
      let ended : IsDealt f devices (dealt_to now e parts) (places ++ place_begun now e) now (map content (take (k + 1) xs)) = subst (IsDealt f devices (dealt_to now e parts) (places ++ place_begun now e) now) all more in
      let numbered : IsDealt f devices (dealt_to here e parts) (places ++ place_begun here e) here (map content (take (k + 1) xs)) =
      subst (λ (o : Option ℕ). IsDealt f devices (dealt_to o e parts) (places ++ place_begun o e) o (map content (take (k + 1) xs))) (sym is) ended in
      let placed : IsDealt f devices (dealt_to here e parts) places_now here (map content (take (k + 1) xs)) =
      subst (λ (ps : List ℕ). IsDealt f devices (dealt_to here e parts) ps here (map content (take (k + 1) xs))) (sym places_are) numbered in
      subst (λ (ps : List (List TraceEvent)). IsDealt f devices ps places_now here (map content (take (k + 1) xs))) (sym parts_are) placed

-- ---- the first event and the last

-- no events of a device
abbrev pub no_events : Name → List TraceEvent
no_events d = []

none_at : (devices : List Name) (n : ℕ) → slice_index_or (map no_events devices) n [] ≡ []
none_at [] n = refl
none_at (d ∷ devices) zero = refl
none_at (d ∷ devices) (suc n) = none_at devices n

pub dealt_none : (f : Name → Option Name) (devices : List Name) → IsDealt f devices (map no_events devices) [] None []
dealt_none f devices = record { count = length-map devices no_events; within = λ n is. cc is; each = λ n d there. none_at devices n; last = λ n d there. refl; places = refl }

-- lists that are one at each place
same_parts : (g : Name → List TraceEvent) (parts : List (List TraceEvent)) (devices : List Name) → length parts ≡ length devices → ((n : ℕ) (d : Name) → slice_get devices n ≡ Some d → slice_index_or parts n [] ≡ g d) → parts ≡ map g devices
same_parts g [] [] count each = refl
same_parts g [] (d ∷ devices) count each = absurd (omega (arith, count))
same_parts g (p ∷ parts) [] count each = absurd (omega (arith, count))
same_parts g (p ∷ parts) (d ∷ devices) count each =
    ap (λ q. q ∷ parts) (each 0 d refl) ∙ ap (λ ps. g d ∷ ps) (same_parts g parts devices (omega (arith, count)) (λ n x there. each (suc n) x there))

-- all events dealt, each part is what the plan has of the stream
pub dealt_all : (f : Name → Option Name) (devices : List Name) (parts : List (List TraceEvent)) (places : List ℕ) (at : Option ℕ) (es : List TraceEvent) → IsDealt f devices parts places at es
    → parts ≡ map (λ d. calls_on f d false es) devices
dealt_all f devices parts places at es all = same_parts (λ d. calls_on f d false es) parts devices all.count all.each

-- ---- the parts

seen_or : {X Y : Type 0} (f : X → Y) (xs : List X) (i : ℕ) (x : X) (y : Y) → i < length xs → x ≡ get_or xs i x → slice_index_or (map f xs) i y ≡ f x
seen_or f [] i x y less at = absurd (omega (arith, less))
seen_or f (z ∷ xs) zero x y less at = ap f (sym at)
seen_or f (z ∷ xs) (suc i) x y less at = seen_or f xs i x y (omega (arith, less)) at

-- a part with an event more, in its place
pub part_more : {A : Type 0} (parts : List (Vec Event A)) (i : ℕ) (old new : Vec Event A) (e : TraceEvent) → i < length parts → old ≡ get_or parts i old → map content new.items ≡ map content old.items ++ e ∷ []
    → events_in (slice_set parts i new) ≡ dealt_to (Some i) e (events_in parts)
part_more {A = A} parts i old new e less at is =
    let events : Vec Event A → List TraceEvent = λ (p : Vec Event A). map content p.items in
    map-set events parts i new ∙ ap (slice_set (events_in parts) i) (is ∙ ap (λ (es : List TraceEvent). es ++ e ∷ []) (sym (seen_or events parts i old [] less at)))

-- a part more without events
pub empty_more : {A : Type 0} (was now : List (Vec Event A)) (new : Vec Event A) (devices : List Name) (k : ℕ) → k < length devices → now ≡ was ++ new ∷ [] → new.items ≡ []
    → events_in was ≡ map no_events (take k devices) → events_in now ≡ map no_events (take (k + 1) devices)
empty_more {A = A} was now new devices k less is none so_far =
    let events : Vec Event A → List TraceEvent = λ (p : Vec Event A). map content p.items in
    let d : Name = get_or devices k (record { thread = 0; number = 0 }) in
    ap (map events) is ∙ (map-append events was (new ∷ []) ∙ (ap (λ (es : List (List TraceEvent)). es ++ map content new.items ∷ []) so_far ∙ (ap (λ (xs : List Event). map no_events (take k devices) ++ map content xs ∷ []) none
    ∙ (sym (map-append no_events (take k devices) (d ∷ [])) ∙ ap (map no_events) (sym (take_more devices k (record { thread = 0; number = 0 }) less))))))
