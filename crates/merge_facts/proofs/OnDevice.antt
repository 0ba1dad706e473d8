-- What all entries have of a device is what the log of the device says by its plan.
use Rattle.std.proofs.Common.{◌≡◌, ◌∙◌, ◌==◌, ℕ, Bool, true, false, cond, Option, Some, None, List, [], ◌∷◌, ◌++◌, length, take, refl, sym, ap, subst, arith}
use Rattle.std.specs.Prelude.{map, reverse, slice_get}
use Rattle.std.specs.List.{AllByRecursion}
use Rattle.std.proofs.lemmas.Bool.{eq-eqb}
use Rattle.std.proofs.lemmas.List.{reverse-reverse}
use Rattle.std.proofs.lemmas.List.Elements.{recursion_from_All}
use Rattle.stream_log.specs.declared.line.Line.{Line}
use Rattle.trace_format.specs.declared.event.Name.{Name}
use Rattle.trace_format.specs.Content.{TraceEvent}
use Rattle.stream_model.specs.FileLines.{FileLine}
use Rattle.stream_model.specs.FileParts.{IsOfOneThread, parts}
use Rattle.stream_model.specs.Order.{event_thread}
use Rattle.stream_model.specs.Plans.{device_written, events_along, events_planned, kept_if, next_turn, plan_cut, turns_of, with_event}
use Rattle.stream_model.proofs.Within.{of_one_thread}
use Rattle.merge_model.specs.Merges.{events_on, is_on}
use Rattle.merge_model.specs.Planned.{events_of_calls}
use Rattle.merge_model.proofs.InTurn.{reverse_onto}
use Rattle.merge_model.proofs.OnPlans.{plan_events}
use Rattle.merge_model.proofs.Taken.{took}
use Rattle.log_merge.specs.Merged.{IsLogMerge, NumberedLine, lines_of_log}
use Rattle.merge_facts.specs.Logged.{AreLogsOf, LoggedCall, lines_between, turns_behind}
use Rattle.merge_facts.proofs.Behind.{own_of, own_turned, threads_in, turns_counted, turns_turned}
use Rattle.merge_facts.proofs.Entries.{entry_told}
use Rattle.merge_facts.proofs.Merging.{along_back, calls_of, calls_parted, next_there}
use Rattle.merge_facts.proofs.Owners.{Calls}
use Rattle.merge_facts.proofs.Telling.{Tells, all_tell}

-- what puts an event in front of others is that event
newest : (o : Option TraceEvent) (e : TraceEvent) (es : List TraceEvent) → with_event o es ≡ e ∷ es → o ≡ Some e
newest None e es is = let long : length es ≡ length (e ∷ es) = ap length is in absurd (omega (arith, long))
newest (Some f) e es is = let one : f ≡ e = cc in ap Some one

module _ (lines : List FileLine) (devices : List Name) (logs : List (List Line)) (calls : List (List LoggedCall)) (merged : List NumberedLine) (of : AreLogsOf lines devices logs calls) (m : IsLogMerge logs merged) where
  -- the events of turns
  abbrev made : List ℕ → List TraceEvent
  made turns = events_along (parts lines).streams turns

  -- those on a device
  abbrev made_on : Name → List NumberedLine → List TraceEvent
  made_on device back = events_on (device_written (parts lines)) device (made (threads_in back))

  -- The event that an entry is behind others: on a device alone where the entry is of the device's log.
  record IsEvent (back : List NumberedLine) (x : NumberedLine) (k : ℕ) (device : Name) : Type 0 where
    event : TraceEvent
    next : next_turn (parts lines).streams x.line.thread (threads_in back) ≡ Some event
    thread : event_thread event ≡ x.line.thread
    on : is_on (device_written (parts lines)) device (made (threads_in back)) event ≡ (x.log == k)

  event_of : (back rest : List NumberedLine) (x : NumberedLine) (k : ℕ) (device : Name) → merged ≡ reverse back ++ x ∷ rest → slice_get devices k ≡ Some device → IsEvent back x k device
  event_of back rest x k device is there = record { event = found.0; next = found.1; thread = told.0; on = told.1 }
    where
      t : ℕ
      t = x.line.thread

      found : (e : TraceEvent) × (next_turn (parts lines).streams t (threads_in back) ≡ Some e)
      found = next_there lines devices logs calls merged of m back rest x is

      own : Calls (parts lines) devices merged (parts lines).streams t
      own = calls_of lines devices logs calls merged of m back rest x is

      planned : List TraceEvent
      planned = events_of_calls t (map (λ (c : LoggedCall). c.planned) own.calls)

      told : (event_thread found.0 ≡ t) × (is_on (device_written (parts lines)) device (made (threads_in back)) found.0 ≡ (x.log == k))
      told =
          let count : turns_of t (threads_in back) ≡ length (lines_between t (reverse back)) = turns_counted t back in
          entry_told (device_written (parts lines)) device t k [] own.calls (lines_between t (reverse back)) (lines_between t rest) x found.0 (made (threads_in back))
          (subst (AllByRecursion (Tells (device_written (parts lines)) k device)) (sym own.planned)
          (all_tell (device_written (parts lines)) devices k device of.distinct there (events_planned (parts lines).streams t)))
          own.own (calls_parted lines devices logs calls merged of m back rest x is own)
          (ap (λ es. slice_get es (length (lines_between t (reverse back)))) own.events ∙ (ap (slice_get (events_planned (parts lines).streams t)) (sym count) ∙ found.1))
          (took (parts lines).streams t (threads_in back) (recursion_from_All IsOfOneThread (parts lines).streams (of_one_thread lines of.order))
          (along_back lines devices logs calls merged of m back (x ∷ rest) is)
          ∙ (ap (λ n. take n (events_planned (parts lines).streams t)) count ∙ ap (take (length (lines_between t (reverse back)))) (sym own.events)))

  -- ---- newest first

  turns_back : (back rest : List NumberedLine) (k : ℕ) (device : Name) → merged ≡ reverse back ++ rest → slice_get devices k ≡ Some device → map event_thread (made_on device back) ≡ threads_in (own_of k back)
  turns_back [] rest k device is there = refl
  turns_back (x ∷ back) rest k device is there =
      ap (λ o. map event_thread (events_on (device_written (parts lines)) device (with_event o (made (threads_in back))))) here.next
      ∙ (ap (λ u. map event_thread (kept_if u here.event (made_on device back))) here.on ∙ go (x.log == k) (turns_back back (x ∷ rest) k device at there))
    where
      at : merged ≡ reverse back ++ x ∷ rest
      at = is ∙ reverse_onto x back rest

      here : IsEvent back x k device
      here = event_of back rest x k device at there

      go : (u : Bool) → map event_thread (made_on device back) ≡ threads_in (own_of k back) → map event_thread (kept_if u here.event (made_on device back)) ≡ threads_in (cond u (x ∷ own_of k back) (own_of k back))
      go true same = ap (λ u. u ∷ map event_thread (made_on device back)) here.thread ∙ ap (λ us. x.line.thread ∷ us) same
      go false same = same

  events_back : (back rest : List NumberedLine) (k : ℕ) (device : Name) → merged ≡ reverse back ++ rest → slice_get devices k ≡ Some device
      → events_along (plan_cut (parts lines) device).streams (threads_in (own_of k back)) ≡ made_on device back
  events_back back rest k device is there =
      ap (events_along (plan_cut (parts lines) device).streams) (sym (turns_back back rest k device is there))
      ∙ plan_events lines device (threads_in back) of.order (along_back lines devices logs calls merged of m back rest is)

  next_back : (back rest : List NumberedLine) (x : NumberedLine) (device : Name) → merged ≡ reverse back ++ x ∷ rest → slice_get devices x.log ≡ Some device
      → next_turn (parts lines).streams x.line.thread (threads_in back) ≡ next_turn (plan_cut (parts lines) device).streams x.line.thread (threads_in (own_of x.log back))
  next_back back rest x device is there = here.next ∙ sym (newest planned here.event (made_on device back) (sym (ap (with_event planned) earlier) ∙ more))
    where
      planned : Option TraceEvent
      planned = next_turn (plan_cut (parts lines) device).streams x.line.thread (threads_in (own_of x.log back))

      here : IsEvent back x x.log device
      here = event_of back rest x x.log device is there

      own : (x.log == x.log) ≡ true
      own = eq-eqb x.log x.log refl

      earlier : events_along (plan_cut (parts lines) device).streams (threads_in (own_of x.log back)) ≡ made_on device back
      earlier = events_back back (x ∷ rest) x.log device is there

      more : events_along (plan_cut (parts lines) device).streams (x.line.thread ∷ threads_in (own_of x.log back)) ≡ here.event ∷ made_on device back
      more =
          sym (ap (λ u. events_along (plan_cut (parts lines) device).streams (threads_in (cond u (x ∷ own_of x.log back) (own_of x.log back)))) own)
          ∙ (events_back (x ∷ back) rest x.log device (is ∙ sym (reverse_onto x back rest)) there
          ∙ (ap (λ o. events_on (device_written (parts lines)) device (with_event o (made (threads_in back)))) here.next
          ∙ ap (λ u. kept_if u here.event (made_on device back)) (here.on ∙ own)))

-- ---- oldest first

module _ (lines : List FileLine) (devices : List Name) (logs : List (List Line)) (calls : List (List LoggedCall)) (merged front rest : List NumberedLine) where
  turned : (after : List NumberedLine) → merged ≡ front ++ after → merged ≡ reverse (reverse front) ++ after
  turned after is = is ∙ ap (λ xs. xs ++ after) (sym (reverse-reverse front))

  pub same_turns : (k : ℕ) (device : Name) → AreLogsOf lines devices logs calls → IsLogMerge logs merged → merged ≡ front ++ rest → slice_get devices k ≡ Some device
      → map event_thread (events_on (device_written (parts lines)) device (events_along (parts lines).streams (turns_behind front))) ≡ reverse (map (λ (e : Line). e.thread) (lines_of_log k front))
  same_turns k device of m is there =
      ap (λ turns. map event_thread (events_on (device_written (parts lines)) device (events_along (parts lines).streams turns))) (turns_turned front)
      ∙ (turns_back lines devices logs calls merged of m (reverse front) rest k device (turned rest is) there ∙ own_turned k front)

  pub same_events : (k : ℕ) (device : Name) → AreLogsOf lines devices logs calls → IsLogMerge logs merged → merged ≡ front ++ rest → slice_get devices k ≡ Some device
      → events_on (device_written (parts lines)) device (events_along (parts lines).streams (turns_behind front))
      ≡ events_along (plan_cut (parts lines) device).streams (reverse (map (λ (e : Line). e.thread) (lines_of_log k front)))
  same_events k device of m is there =
      ap (λ turns. events_on (device_written (parts lines)) device (events_along (parts lines).streams turns)) (turns_turned front)
      ∙ (sym (events_back lines devices logs calls merged of m (reverse front) rest k device (turned rest is) there) ∙ ap (events_along (plan_cut (parts lines) device).streams) (own_turned k front))

  pub same_next : (x : NumberedLine) (device : Name) → AreLogsOf lines devices logs calls → IsLogMerge logs merged → merged ≡ front ++ x ∷ rest → slice_get devices x.log ≡ Some device
      → next_turn (parts lines).streams x.line.thread (turns_behind front) ≡ next_turn (plan_cut (parts lines) device).streams x.line.thread (reverse (map (λ (e : Line). e.thread) (lines_of_log x.log front)))
  same_next x device of m is there =
      ap (next_turn (parts lines).streams x.line.thread) (turns_turned front)
      ∙ (next_back lines devices logs calls merged of m (reverse front) rest x device (turned (x ∷ rest) is) there ∙ ap (next_turn (plan_cut (parts lines) device).streams x.line.thread) (own_turned x.log front))
