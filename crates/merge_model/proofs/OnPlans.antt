-- What the events of turns have of a device is in turn by the device's plan.
use Rattle.std.proofs.Common.{◌≡◌, ◌∙◌, ◌==◌, ℕ, Bool, true, false, cond, Option, Some, List, [], ◌∷◌, ◌++◌, take, drop, refl, sym, ap}
use Rattle.std.specs.Prelude.{find, map, reverse}
use Rattle.std.specs.List.{AllByRecursion}
use Rattle.std.specs.Option.{option_map_or}
use Rattle.std.proofs.lemmas.Bool.{eqb-true}
use Rattle.std.proofs.lemmas.List.{reverse-reverse, take-append-drop}
use Rattle.std.proofs.lemmas.List.Elements.{recursion_from_All}
use Rattle.trace_format.specs.declared.event.Name.{Name}
use Rattle.trace_format.specs.Content.{TraceEvent, Begin, Return}
use Rattle.stream_model.specs.FileLines.{FileLine}
use Rattle.stream_model.specs.FileParts.{AreInOrder, IsOfOneThread, StreamPart, parts}
use Rattle.stream_model.specs.Order.{device_named, event_thread, same_device}
use Rattle.stream_model.specs.Plans.{Along, calls_on, device_written, events_along, events_planned, kept_if, plan_cut, stream_on, turns_of}
use Rattle.stream_model.proofs.OnDevices.{calls_kept, kept_on, last_on as last_kept}
use Rattle.stream_model.proofs.Within.{of_one_thread}
use Rattle.merge_model.specs.Merges.{events_of_thread, events_on, is_on, last_on}
use Rattle.merge_model.proofs.InTurn.{AreInTurn, Begun, begun_in_turn, in_turn_along, in_turn_events}
use Rattle.merge_model.proofs.Taken.{took}

kept_append : (u : Bool) (e : TraceEvent) (xs ys : List TraceEvent) → kept_if u e (xs ++ ys) ≡ kept_if u e xs ++ ys
kept_append true e xs ys = refl
kept_append false e xs ys = refl

-- the events of a thread among some with one more, where it is kept
thread_kept : (t : ℕ) (u : Bool) (e : TraceEvent) (es : List TraceEvent) → events_of_thread t (kept_if u e es) ≡ cond (event_thread e == t) (kept_if u e (events_of_thread t es)) (events_of_thread t es)
thread_kept t true e es = refl
thread_kept t false e es = go (event_thread e == t)
  where
    go : (v : Bool) → events_of_thread t es ≡ cond v (events_of_thread t es) (events_of_thread t es)
    go true = refl
    go false = refl

module _ (device_of : Name → Option Name) (device : Name) where
  -- a plan has of a thread its calls on the device
  planned_on : (streams : List StreamPart) (t : ℕ) → events_planned (map (stream_on device_of device) streams) t ≡ calls_on device_of device false (events_planned streams t)
  planned_on [] t = refl
  planned_on (s ∷ streams) t = go (s.thread == t) (planned_on streams t)
    where
      go : (u : Bool) → events_planned (map (stream_on device_of device) streams) t ≡ calls_on device_of device false (events_planned streams t)
          → option_map_or (λ (r : StreamPart). r.events) (cond u (Some (stream_on device_of device s)) (find (λ (r : StreamPart). r.thread == t) (map (stream_on device_of device) streams))) []
          ≡ calls_on device_of device false (option_map_or (λ (r : StreamPart). r.events) (cond u (Some s) (find (λ (r : StreamPart). r.thread == t) streams)) [])
      go true rest = refl
      go false rest = rest

  -- the calls on the device of the first of some events are the first of all their calls
  calls_cut : (on : Bool) (xs ys : List TraceEvent) → (rest : List TraceEvent) × (calls_on device_of device on (xs ++ ys) ≡ calls_on device_of device on xs ++ rest)
  calls_cut on [] ys = (calls_on device_of device on ys, refl)
  calls_cut on (Begin b ∷ xs) ys =
      let here : Bool = same_device (device_named device_of b.cmd b.args) (Some device) in
      let cut = calls_cut here xs ys in
      (cut.0, ap (kept_if here (Begin b)) cut.1 ∙ kept_append here (Begin b) (calls_on device_of device here xs) cut.0)
  calls_cut on (Return thread ∷ xs) ys =
      let cut = calls_cut on xs ys in
      (cut.0, ap (kept_if on (Return thread)) cut.1 ∙ kept_append on (Return thread) (calls_on device_of device on xs) cut.0)

  -- ---- the events of one thread

  last_own : (t : ℕ) (es : List TraceEvent) → last_on device_of device t es ≡ last_kept device_of device (events_of_thread t es)
  last_own t [] = refl
  last_own t (Begin b ∷ before) = go (b.thread == t) (last_own t before)
    where
      go : (u : Bool) → last_on device_of device t before ≡ last_kept device_of device (events_of_thread t before)
          → cond u (same_device (device_named device_of b.cmd b.args) (Some device)) (last_on device_of device t before) ≡ last_kept device_of device (cond u (Begin b ∷ events_of_thread t before) (events_of_thread t before))
      go true rest = refl
      go false rest = rest
  last_own t (Return thread ∷ before) = go (thread == t) (last_own t before)
    where
      go : (u : Bool) → last_on device_of device t before ≡ last_kept device_of device (events_of_thread t before)
          → last_on device_of device t before ≡ last_kept device_of device (cond u (Return thread ∷ events_of_thread t before) (events_of_thread t before))
      go true rest = rest
      go false rest = rest

  -- a thread's events on the device are those of its own events
  kept_own : (t : ℕ) (es : List TraceEvent) → events_of_thread t (events_on device_of device es) ≡ kept_on device_of device (events_of_thread t es)
  kept_own t [] = refl
  kept_own t (e ∷ before) = thread_kept t (is_on device_of device before e) e (events_on device_of device before) ∙ go e (event_thread e == t) refl (kept_own t before)
    where
      go : (x : TraceEvent) (u : Bool) → (event_thread x == t) ≡ u → events_of_thread t (events_on device_of device before) ≡ kept_on device_of device (events_of_thread t before)
          → cond u (kept_if (is_on device_of device before x) x (events_of_thread t (events_on device_of device before))) (events_of_thread t (events_on device_of device before))
          ≡ kept_on device_of device (cond u (x ∷ events_of_thread t before) (events_of_thread t before))
      go x false other rest = rest
      go (Begin b) true same rest = ap (kept_if (same_device (device_named device_of b.cmd b.args) (Some device)) (Begin b)) rest
      go (Return thread) true same rest =
          let on : last_on device_of device thread before ≡ last_kept device_of device (events_of_thread t before) = ap (λ u. last_on device_of device u before) (eqb-true thread t same) ∙ last_own t before in
          ap (λ u. kept_if u (Return thread) (events_of_thread t (events_on device_of device before))) on ∙ ap (kept_if (last_kept device_of device (events_of_thread t before)) (Return thread)) rest

  -- ---- the plan

  begun_on : (streams : List StreamPart) (turns : List ℕ) → AllByRecursion IsOfOneThread streams → Along streams turns
      → Begun (map (stream_on device_of device) streams) (events_on device_of device (events_along streams turns))
  begun_on streams turns own along = record { rest = λ t. (cut t).0; whole = whole }
    where
      cut : (t : ℕ) → (rest : List TraceEvent) × (calls_on device_of device false (take (turns_of t turns) (events_planned streams t) ++ drop (turns_of t turns) (events_planned streams t))
          ≡ calls_on device_of device false (take (turns_of t turns) (events_planned streams t)) ++ rest)
      cut t = calls_cut false (take (turns_of t turns) (events_planned streams t)) (drop (turns_of t turns) (events_planned streams t))

      front : (t : ℕ) → calls_on device_of device false (take (turns_of t turns) (events_planned streams t)) ≡ reverse (events_of_thread t (events_on device_of device (events_along streams turns)))
      front t =
          let newest : reverse (take (turns_of t turns) (events_planned streams t)) ≡ events_of_thread t (events_along streams turns) =
          sym (ap reverse (took streams t turns own along)) ∙ reverse-reverse (events_of_thread t (events_along streams turns)) in
          sym (reverse-reverse (calls_on device_of device false (take (turns_of t turns) (events_planned streams t))))
          ∙ ap reverse (calls_kept device_of device (take (turns_of t turns) (events_planned streams t)) ∙ (ap (kept_on device_of device) newest ∙ sym (kept_own t (events_along streams turns))))

      whole : (t : ℕ) → events_planned (map (stream_on device_of device) streams) t ≡ reverse (events_of_thread t (events_on device_of device (events_along streams turns))) ++ (cut t).0
      whole t =
          planned_on streams t
          ∙ (sym (ap (calls_on device_of device false) (take-append-drop (turns_of t turns) (events_planned streams t))) ∙ ((cut t).1 ∙ ap (λ es. es ++ (cut t).0) (front t)))

  in_turn_on : (streams : List StreamPart) (turns : List ℕ) → AllByRecursion IsOfOneThread streams → Along streams turns
      → AreInTurn (map (stream_on device_of device) streams) (events_on device_of device (events_along streams turns))
  in_turn_on streams turns own along = begun_in_turn (map (stream_on device_of device) streams) (events_on device_of device (events_along streams turns)) (begun_on streams turns own along)

plan_in_turn : (lines : List FileLine) (device : Name) (turns : List ℕ) → AreInOrder lines → Along (parts lines).streams turns
    → AreInTurn (plan_cut (parts lines) device).streams (events_on (device_written (parts lines)) device (events_along (parts lines).streams turns))
plan_in_turn lines device turns order along =
    in_turn_on (device_written (parts lines)) device (parts lines).streams turns (recursion_from_All IsOfOneThread (parts lines).streams (of_one_thread lines order)) along

pub plan_along : (lines : List FileLine) (device : Name) (turns : List ℕ) → AreInOrder lines → Along (parts lines).streams turns
    → Along (plan_cut (parts lines) device).streams (map event_thread (events_on (device_written (parts lines)) device (events_along (parts lines).streams turns)))
plan_along lines device turns order along =
    in_turn_along (plan_cut (parts lines) device).streams (events_on (device_written (parts lines)) device (events_along (parts lines).streams turns)) (plan_in_turn lines device turns order along)

pub plan_events : (lines : List FileLine) (device : Name) (turns : List ℕ) → AreInOrder lines → Along (parts lines).streams turns
    → events_along (plan_cut (parts lines) device).streams (map event_thread (events_on (device_written (parts lines)) device (events_along (parts lines).streams turns)))
    ≡ events_on (device_written (parts lines)) device (events_along (parts lines).streams turns)
plan_events lines device turns order along =
    in_turn_events (plan_cut (parts lines) device).streams (events_on (device_written (parts lines)) device (events_along (parts lines).streams turns)) (plan_in_turn lines device turns order along)
