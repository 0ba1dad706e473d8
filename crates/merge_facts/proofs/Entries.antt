-- An entry is of a log alone where its event is on the log's device.
use Rattle.std.proofs.Common.{◌≡◌, ◌∙◌, ◌==◌, ℕ, Bool, true, false, cond, Option, Some, List, [], ◌∷◌, ◌++◌, length, take, sym, ap, append_assoc}
use Rattle.std.specs.Prelude.{map, reverse, slice_get}
use Rattle.std.specs.List.{AllByRecursion}
use Rattle.std.proofs.lemmas.List.{reverse-append, reverse-reverse}
use Rattle.trace_format.specs.declared.event.Name.{Name}
use Rattle.trace_format.specs.Content.{BeginEvent, TraceEvent, Begin, Return}
use Rattle.stream_model.specs.Order.{device_named, event_thread, same_device}
use Rattle.merge_model.specs.Merges.{events_of_thread, is_on, last_on}
use Rattle.merge_model.specs.Planned.{PlannedCall, events_of_calls}
use Rattle.log_merge.specs.Halves.{in_log}
use Rattle.log_merge.specs.Merged.{NumberedLine}
use Rattle.merge_facts.specs.Logged.{LoggedCall, numbered_entries}
use Rattle.merge_facts.proofs.Telling.{Tells}

module _ (device_of : Name → Option Name) (device : Name) (t : ℕ) where
  -- the last call of a thread is on the device where the newest of its events begins it there
  last_begun : (before : List TraceEvent) (b : BeginEvent) (es : List TraceEvent) → events_of_thread t before ≡ Begin b ∷ es → last_on device_of device t before ≡ same_device (device_named device_of b.cmd b.args) (Some device)
  last_begun [] b es is = cc is
  last_begun (Begin c ∷ before) b es is = go (c.thread == t) is (last_begun before b es)
    where
      go : (u : Bool) → cond u (Begin c ∷ events_of_thread t before) (events_of_thread t before) ≡ Begin b ∷ es
          → (events_of_thread t before ≡ Begin b ∷ es → last_on device_of device t before ≡ same_device (device_named device_of b.cmd b.args) (Some device))
          → cond u (same_device (device_named device_of c.cmd c.args) (Some device)) (last_on device_of device t before) ≡ same_device (device_named device_of b.cmd b.args) (Some device)
      go true h rest = let one : c ≡ b = cc in ap (λ (x : BeginEvent). same_device (device_named device_of x.cmd x.args) (Some device)) one
      go false h rest = rest h
  last_begun (Return u ∷ before) b es is = go (u == t) is (last_begun before b es)
    where
      go : (v : Bool) → cond v (Return u ∷ events_of_thread t before) (events_of_thread t before) ≡ Begin b ∷ es
          → (events_of_thread t before ≡ Begin b ∷ es → last_on device_of device t before ≡ same_device (device_named device_of b.cmd b.args) (Some device))
          → last_on device_of device t before ≡ same_device (device_named device_of b.cmd b.args) (Some device)
      go true h rest = cc h
      go false h rest = rest h

  -- an entry's event, behind those of its thread that come before it, some of them in calls before these
  pub entry_told : (k : ℕ) (was : List TraceEvent) (calls : List LoggedCall) (pre post : List NumberedLine) (x : NumberedLine) (e : TraceEvent) (before : List TraceEvent)
      → AllByRecursion (Tells device_of k device) (map (λ (c : LoggedCall). c.planned) calls) → AllByRecursion (λ (c : PlannedCall). c.begin.thread ≡ t) (map (λ (c : LoggedCall). c.planned) calls)
      → numbered_entries calls ≡ pre ++ x ∷ post → slice_get (events_of_calls t (map (λ (c : LoggedCall). c.planned) calls)) (length pre) ≡ Some e
      → reverse (events_of_thread t before) ≡ was ++ take (length pre) (events_of_calls t (map (λ (c : LoggedCall). c.planned) calls))
      → (event_thread e ≡ t) × (is_on device_of device before e ≡ (x.log == k))
  entry_told k was [] pre post x e before tells own is there behind = cc there
  entry_told k was (c ∷ calls) [] post x e before tells own is there behind =
      let one : in_log c.planned.place c.first ≡ x = cc in
      let event : Begin c.planned.begin ≡ e = cc in
      (ap event_thread (sym event) ∙ own.0, ap (is_on device_of device before) (sym event) ∙ (sym tells.0 ∙ ap (λ (z : NumberedLine). z.log == k) one))
  entry_told k was (c ∷ calls) (a ∷ []) post x e before tells own is there behind =
      let one : in_log c.planned.place c.last ≡ x = cc in
      let event : Return t ≡ e = cc in
      let newest : events_of_thread t before ≡ Begin c.planned.begin ∷ reverse was =
      sym (reverse-reverse (events_of_thread t before)) ∙ (ap reverse behind ∙ reverse-append was (Begin c.planned.begin ∷ [])) in
      (ap event_thread (sym event), ap (is_on device_of device before) (sym event) ∙ (last_begun before c.planned.begin (reverse was) newest ∙ (sym tells.0 ∙ ap (λ (z : NumberedLine). z.log == k) one)))
  entry_told k was (c ∷ calls) (a ∷ b ∷ pre) post x e before tells own is there behind =
      let rest : numbered_entries calls ≡ pre ++ x ∷ post = cc in
      entry_told k (was ++ Begin c.planned.begin ∷ Return t ∷ []) calls pre post x e before tells.1 own.1 rest there (behind ∙ sym (append_assoc was (Begin c.planned.begin ∷ Return t ∷ []) _))
