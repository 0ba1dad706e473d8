-- The thread of each entry has a stream, and with it calls.
use Rattle.std.proofs.Common.{◌≡◌, ◌∙◌, ◌==◌, ℕ, zero, suc, Bool, true, false, cond, ◌||◌, Some, List, [], ◌∷◌, refl, sym, ap, subst}
use Rattle.std.specs.Prelude.{filter, find, map}
use Rattle.std.specs.List.{AllByRecursion, list_any, slice_index_or}
use Rattle.std.specs.Option.{option_map_or}
use Rattle.std.proofs.lemmas.Bool.{eq-eqb, eqb-true}
use Rattle.stream_log.specs.declared.line.Line.{Line}
use Rattle.trace_format.specs.declared.event.Name.{Name}
use Rattle.stream_model.specs.FileParts.{FileParts, StreamPart}
use Rattle.stream_model.specs.Plans.{device_written, events_planned}
use Rattle.merge_model.specs.Planned.{AreCallsOf, PlannedCall, calls_planned, events_of_calls}
use Rattle.log_merge.specs.Merged.{IsLogMerge, NumberedLine, lines_of_log}
use Rattle.merge_facts.specs.Logged.{AllLogged, IsOfStream, LoggedCall, lines_between, numbered_entries}
use Rattle.merge_facts.proofs.AsMade.{thread_stands}
use Rattle.merge_facts.proofs.OneOrder.{lines_more}

-- ---- each entry is of a stream

all_within : (P : Line → Type 0) (logs : List (List Line)) (k : ℕ) → AllByRecursion (AllByRecursion P) logs → AllByRecursion P (slice_index_or logs k [])
all_within P [] k all = tt
all_within P (log ∷ logs) zero all = all.0
all_within P (log ∷ logs) (suc k) all = all_within P logs k all.1

all_entries : (P : Line → Type 0) (xs : List NumberedLine) → ((k : ℕ) → AllByRecursion P (lines_of_log k xs)) → AllByRecursion (λ (x : NumberedLine). P x.line) xs
all_entries P [] each = tt
all_entries P (x ∷ xs) each =
    let own = subst (AllByRecursion P) (lines_more x.log x xs (eq-eqb x.log x.log refl)) (each x.log) in (own.0, all_entries P xs (λ k. go k (x.log == k) (each k)))
  where
    go : (k : ℕ) (u : Bool) → AllByRecursion P (map (λ (y : NumberedLine). y.line) (cond u (x ∷ filter (λ (y : NumberedLine). y.log == k) xs) (filter (λ (y : NumberedLine). y.log == k) xs))) → AllByRecursion P (lines_of_log k xs)
    go k true all = all.1
    go k false all = all

pub all_of_streams : (logs : List (List Line)) (merged : List NumberedLine) (streams : List StreamPart) → IsLogMerge logs merged → AllByRecursion (λ (log : List Line). AllByRecursion (IsOfStream streams) log) logs
    → AllByRecursion (λ (x : NumberedLine). IsOfStream streams x.line) merged
all_of_streams logs merged streams m owned = all_entries (IsOfStream streams) merged (λ k. subst (AllByRecursion (IsOfStream streams)) (sym (m.each k)) (all_within (IsOfStream streams) logs k owned))

-- ---- the calls of a thread that has a stream

-- A thread's calls: its entries in one order are theirs, and they are the plan of what it has in the streams.
pub record Calls (file : FileParts) (devices : List Name) (merged : List NumberedLine) (streams : List StreamPart) (t : ℕ) : Type 0 where
  pub calls : List LoggedCall
  pub stands : lines_between t merged ≡ numbered_entries calls
  pub planned : map (λ (c : LoggedCall). c.planned) calls ≡ calls_planned (device_written file) devices (events_planned streams t)
  pub events : events_of_calls t (map (λ (c : LoggedCall). c.planned) calls) ≡ events_planned streams t
  pub own : AllByRecursion (λ (c : PlannedCall). c.begin.thread ≡ t) (map (λ (c : LoggedCall). c.planned) calls)

-- the streams have these calls by the plans
abbrev pub ArePlanned : FileParts → List Name → List StreamPart → Type 0
ArePlanned file devices streams = AllByRecursion (λ (s : StreamPart). AreCallsOf file devices s (calls_planned (device_written file) devices s.events)) streams

module _ (file : FileParts) (devices : List Name) (logs : List (List Line)) (merged : List NumberedLine) (m : IsLogMerge logs merged) where
  pub thread_calls : (streams : List StreamPart) (calls : List (List LoggedCall)) (t : ℕ) → AllLogged file devices logs streams calls → ArePlanned file devices streams → list_any (λ (s : StreamPart). s.thread == t) streams ≡ true
      → Calls file devices merged streams t
  thread_calls [] calls t logged plans there = cc there
  thread_calls (s ∷ streams) [] t logged plans there = absurd logged
  thread_calls (s ∷ streams) (cs ∷ calls) t logged plans there = go (s.thread == t) refl there (thread_calls streams calls t logged.1 plans.1)
    where
      first : Calls file devices merged (s ∷ streams) s.thread
      first =
          let here : events_planned (s ∷ streams) s.thread ≡ s.events =
          ap (λ u. option_map_or (λ (r : StreamPart). r.events) (cond u (Some s) (find (λ (r : StreamPart). r.thread == s.thread) streams)) []) (eq-eqb s.thread s.thread refl) in
          let planned : map (λ (c : LoggedCall). c.planned) cs ≡ calls_planned (device_written file) devices s.events = logged.0.1 in
          record {
            calls = cs;
            stands = thread_stands logs merged s.thread cs m logged.0.0;
            planned = planned ∙ ap (calls_planned (device_written file) devices) (sym here);
            events = ap (events_of_calls s.thread) planned ∙ (plans.0.events ∙ sym here);
            own = subst (AllByRecursion (λ (c : PlannedCall). c.begin.thread ≡ s.thread)) (sym planned) plans.0.own;
          }

      go : (u : Bool) → (s.thread == t) ≡ u → (u || list_any (λ (r : StreamPart). r.thread == t) streams) ≡ true → (list_any (λ (r : StreamPart). r.thread == t) streams ≡ true → Calls file devices merged streams t)
          → Calls file devices merged (s ∷ streams) t
      go true same has rest = subst (Calls file devices merged (s ∷ streams)) (eqb-true s.thread t same) first
      go false other has rest =
          let of = rest has in
          let there : events_planned streams t ≡ events_planned (s ∷ streams) t =
          sym (ap (λ u. option_map_or (λ (r : StreamPart). r.events) (cond u (Some s) (find (λ (r : StreamPart). r.thread == t) streams)) []) other) in
          record {
            calls = of.calls;
            stands = of.stands;
            planned = of.planned ∙ ap (calls_planned (device_written file) devices) there;
            events = of.events ∙ there;
            own = of.own;
          }
