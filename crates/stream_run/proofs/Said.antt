-- What the logs say of calls that were made is a merge, and has of each device what its log says.
use Rattle.std.proofs.Common.{◌≡◌, ◌∙◌, ◌==◌, ℕ, zero, suc, Bool, true, false, cond, ◌||◌, Option, Some, None, List, [], ◌∷◌, ◌++◌, map, refl, sym, ap, subst, append-nil}
use Rattle.std.specs.Prelude.{filter, find, reverse, slice_get}
use Rattle.std.specs.List.{AllByRecursion, AllZip, IsDistinct, flat_map, list_any, slice_index_or}
use Rattle.std.specs.Option.{option_map_or}
use Rattle.std.proofs.lemmas.List.{reverse-append, reverse-reverse}
use Rattle.command_tables.specs.Calls.{ReplyContent}
use Rattle.stream_log.specs.declared.line.Line.{Line}
use Rattle.trace_format.specs.declared.event.Name.{Name}
use Rattle.trace_format.specs.Accepting.{same_name}
use Rattle.trace_format.specs.Content.{TraceEvent}
use Rattle.chain_session.specs.declared.kept.Kept.{Kept}
use Rattle.stream_model.specs.FileLines.{FileLine}
use Rattle.stream_model.specs.FileParts.{AreInOrder, FileParts, StreamPart, parts}
use Rattle.stream_model.specs.Order.{refusal_at_end}
use Rattle.stream_model.specs.Plans.{DevicePlan, device_written, events_along, events_planned, plan_cut, stream_on, turns_of}
use Rattle.merge_model.specs.Merges.{IsMerge, events_on}
use Rattle.merge_model.specs.Planned.{AreOnThese, PlannedCall, calls_planned}
use Rattle.log_merge.specs.Merged.{IsLogMerge, NumberedLine, lines_of_log}
use Rattle.merge_facts.specs.Logged.{AllLogged, AreLoggedBy, AreLogsOf, IsLoggedFor, IsOfStream, LoggedCall, Rise, entries_in, turns_behind}
use Rattle.shard_model.specs.Followed.{Follows, IsNextStep, next_event, turns_in}
use Rattle.device_shard.specs.Closing.{IsClosed}
use Rattle.device_shard.specs.Making.{AreNamedBy}
use Rattle.device_shard.specs.Shards.{ShardName}
use Rattle.stream_merge.specs.Gathered.{events_gathered}
use Rattle.stream_plans.specs.Cuts.{devices_cut}
use Rattle.stream_workers.specs.Calls.{IsMade, MadeCall, RiseBetween, entries_made, planned_of}
use Rattle.stream_run.specs.Gathering.{IsGathered, lines_of}
use Rattle.stream_run.specs.Running.{AllMade, AreMadeBy, IsMadeBy, IsReadyToRun, logged_of, marks_of}
use Rattle.stream_run.proofs.Ready.{DevicesDiffer, OnThese}

-- ---- the calls of a thread

logged_own : (names : List ShardName) (t : ℕ) (calls : List MadeCall) → AllByRecursion (IsMade names t) calls → AllByRecursion (IsLoggedFor t) (map logged_of calls)
logged_own names t [] made = tt
logged_own names t (m ∷ calls) made =
    let here : IsMade names t m = made.0 in (
      record {
        begins = ap (λ (e : Line). e.begins) here.begun.own;
        returns = ap (λ (e : Line). e.begins) here.own;
        first_own = ap (λ (e : Line). e.thread) here.begun.own;
        last_own = ap (λ (e : Line). e.thread) here.own;
      },
      logged_own names t calls made.1,
    )

logged_rise : (names : List ShardName) (t from : ℕ) (calls : List MadeCall) (upto : ℕ) → AllByRecursion (IsMade names t) calls → RiseBetween from calls upto → Rise from (map logged_of calls)
logged_rise names t from [] upto made rise = tt
logged_rise names t from (m ∷ calls) upto made rise = let here : IsMade names t m = made.0 in (rise.0, here.later, logged_rise names t m.entry.time calls upto made.1 rise.1)

logged_entries : (k : ℕ) (calls : List MadeCall) → entries_made k calls ≡ entries_in k (map logged_of calls)
logged_entries k [] = refl
logged_entries k (m ∷ calls) = go (m.begun.place == k) (logged_entries k calls)
  where
    go : (u : Bool) → entries_made k calls ≡ entries_in k (map logged_of calls)
        → flat_map (λ (c : MadeCall). c.begun.entry ∷ c.entry ∷ []) (cond u (m ∷ filter (λ (c : MadeCall). c.begun.place == k) calls) (filter (λ (c : MadeCall). c.begun.place == k) calls))
        ≡ flat_map (λ (c : LoggedCall). c.first ∷ c.last ∷ []) (cond u (logged_of m ∷ filter (λ (c : LoggedCall). c.planned.place == k) (map logged_of calls)) (filter (λ (c : LoggedCall). c.planned.place == k) (map logged_of calls)))
    go true rest = ap (λ (es : List Line). m.begun.entry ∷ m.entry ∷ es) rest
    go false rest = rest

pub logged_by : (names : List ShardName) (logs : List (List Line)) (t : ℕ) (calls : List MadeCall) → IsMadeBy names logs t calls → AreLoggedBy logs t (map logged_of calls)
logged_by names logs t calls by = record {
  own = logged_own names t calls by.made;
  rise = logged_rise names t 0 calls by.upto by.made by.rise;
  each = λ k. by.each k ∙ logged_entries k calls;
}

logged_planned : (calls : List MadeCall) → map (λ (c : LoggedCall). c.planned) (map logged_of calls) ≡ map planned_of calls
logged_planned [] = refl
logged_planned (m ∷ calls) = ap (λ (cs : List PlannedCall). planned_of m ∷ cs) (logged_planned calls)

all_logged : (file : FileParts) (devices : List Name) (names : List ShardName) (logs : List (List Line)) (streams : List StreamPart) (made : List (List MadeCall)) → AreMadeBy names logs streams made
    → map (map planned_of) made ≡ map (λ (s : StreamPart). calls_planned (device_written file) devices s.events) streams → AllLogged file devices logs streams (map (map logged_of) made)
all_logged file devices names logs [] [] by are = tt
all_logged file devices names logs [] (cs ∷ made) by are = absurd by
all_logged file devices names logs (s ∷ streams) [] by are = absurd by
all_logged file devices names logs (s ∷ streams) (cs ∷ made) by are =
    let here : map planned_of cs ≡ calls_planned (device_written file) devices s.events = cc are in
    let rest : map (map planned_of) made ≡ map (λ (t : StreamPart). calls_planned (device_written file) devices t.events) streams = cc are in
    ((logged_by names logs s.thread cs by.0, logged_planned cs ∙ here), all_logged file devices names logs streams made by.1 rest)

-- ---- each entry is of a thread that has a stream

not_found : (f : Name → Option Name) (d : Name) (t : ℕ) (streams : List StreamPart) → list_any (λ (s : StreamPart). s.thread == t) streams ≡ false → find (λ (s : StreamPart). s.thread == t) (map (stream_on f d) streams) ≡ None
not_found f d t [] none = refl
not_found f d t (s ∷ streams) none = go (s.thread == t) none (not_found f d t streams)
  where
    go : (u : Bool) → (u || list_any (λ (x : StreamPart). x.thread == t) streams) ≡ false → (list_any (λ (x : StreamPart). x.thread == t) streams ≡ false → find (λ (x : StreamPart). x.thread == t) (map (stream_on f d) streams) ≡ None)
        → cond u (Some (stream_on f d s)) (find (λ (x : StreamPart). x.thread == t) (map (stream_on f d) streams)) ≡ None
    go true any rest = cc any
    go false any rest = rest any

nothing_at : (n : ℕ) → slice_get {X = TraceEvent} [] n ≡ None
nothing_at zero = refl
nothing_at (suc n) = refl

of_stream : (f : Name → Option Name) (d : Name) (streams : List StreamPart) (e : Line) (before : List Line) → IsNextStep e (next_event (map (stream_on f d) streams) e.thread before) → IsOfStream streams e
of_stream f d streams e before next = go (list_any (λ (s : StreamPart). s.thread == e.thread) streams) refl
  where
    go : (u : Bool) → list_any (λ (s : StreamPart). s.thread == e.thread) streams ≡ u → u ≡ true
    go true any = refl
    go false any =
        let planned : events_planned (map (stream_on f d) streams) e.thread ≡ [] = ap (λ (o : Option StreamPart). option_map_or (λ (s : StreamPart). s.events) o []) (not_found f d e.thread streams any) in
        let turns = turns_of e.thread (turns_in before) in
        let none : next_event (map (stream_on f d) streams) e.thread before ≡ None = ap (λ (es : List TraceEvent). slice_get es turns) planned ∙ nothing_at turns in
        absurd (subst (IsNextStep e) none next)

of_streams : (f : Name → Option Name) (d : Name) (streams : List StreamPart) (entries : List Line) → Follows (map (stream_on f d) streams) entries → AllByRecursion (IsOfStream streams) entries
of_streams f d streams [] follows = tt
of_streams f d streams (e ∷ before) follows = (of_stream f d streams e before follows.0, of_streams f d streams before follows.1)

all_first : {X : Type 0} (P : X → Type 0) (xs ys : List X) → AllByRecursion P (xs ++ ys) → AllByRecursion P xs
all_first P [] ys all = tt
all_first P (x ∷ xs) ys all = (all.0, all_first P xs ys all.1)

all_last : {X : Type 0} (P : X → Type 0) (xs : List X) (y : X) → AllByRecursion P (xs ++ y ∷ []) → P y
all_last P [] y all = all.0
all_last P (x ∷ xs) y all = all_last P xs y all.1

all_turned : {X : Type 0} (P : X → Type 0) (xs : List X) → AllByRecursion P (reverse xs) → AllByRecursion P xs
all_turned P [] all = tt
all_turned P (x ∷ xs) all = let turned = subst (AllByRecursion P) (reverse-append (x ∷ []) xs) all in (all_last P (reverse xs) x turned, all_turned P xs (all_first P (reverse xs) (x ∷ []) turned))

all_owned : (k : Option Kept) (file : FileParts) (devices : List Name) (names : List ShardName) (logs : List (List Line)) → AreNamedBy k (map (plan_cut file) devices) names → AllZip IsClosed names logs
    → AllByRecursion (λ (log : List Line). AllByRecursion (IsOfStream file.streams) log) logs
all_owned k file devices [] [] named closed = tt
all_owned k file devices [] (l ∷ logs) named closed = absurd closed
all_owned k file devices (n ∷ names) [] named closed = absurd closed
all_owned k file [] (n ∷ names) (l ∷ logs) named closed = absurd named
all_owned k file (d ∷ devices) (n ∷ names) (l ∷ logs) named closed =
    let follows : Follows (map (stream_on (device_written file) d) file.streams) (reverse l) = subst (λ (p : DevicePlan). Follows p.streams (reverse l)) named.0.0 closed.0.follows in
    (all_turned (IsOfStream file.streams) l (of_streams (device_written file) d file.streams (reverse l) follows), all_owned k file devices names logs named.1 closed.1)

-- ---- the laws of logs

abbrev pub SayMerge : Type 0
SayMerge =
    (lines : List FileLine) (devices : List Name) (logs : List (List Line)) (calls : List (List LoggedCall)) (merged : List NumberedLine) → AreLogsOf lines devices logs calls → IsLogMerge logs merged
    → IsMerge (parts lines).streams (reverse (events_along (parts lines).streams (turns_behind merged)))

abbrev pub SayDevices : Type 0
SayDevices =
    (lines : List FileLine) (devices : List Name) (logs : List (List Line)) (calls : List (List LoggedCall)) (merged front rest : List NumberedLine) (k : ℕ) (device : Name) → AreLogsOf lines devices logs calls → IsLogMerge logs merged → merged ≡ front ++ rest
    → slice_get devices k ≡ Some device
    → events_on (device_written (parts lines)) device (events_along (parts lines).streams (turns_behind front)) ≡ events_along (plan_cut (parts lines) device).streams (reverse (map (λ (e : Line). e.thread) (lines_of_log k front)))

pub logs_are : (k : Option Kept) (lines : List FileLine) (logs : List (List Line)) (made : List (List MadeCall)) → AreInOrder lines → refusal_at_end lines ≡ None → IsDistinct same_name (devices_cut (parts lines))
    → AreOnThese (parts lines) (devices_cut (parts lines)) → AllMade k (parts lines) logs made → AreLogsOf lines (devices_cut (parts lines)) logs (map (map logged_of) made)
logs_are k lines logs made order whole apart on all = record {
  order = order;
  whole = whole;
  distinct = apart;
  on = on;
  streams = all_logged (parts lines) (devices_cut (parts lines)) all.names logs (parts lines).streams made all.threads all.are;
  owned = all_owned k (parts lines) (devices_cut (parts lines)) all.names logs all.named all.closed;
}

-- for a file that is ready
ready_logs : OnThese → DevicesDiffer → (k : Option Kept) (file : FileParts) (ready : IsReadyToRun k file) (logs : List (List Line)) (made : List (List MadeCall)) → AllMade k (parts ready.lines) logs made
    → AreLogsOf ready.lines (devices_cut (parts ready.lines)) logs (map (map logged_of) made)
ready_logs on apart k file ready logs made all =
    logs_are k ready.lines logs made ready.order ready.whole (apart ready.lines ready.order ready.grammar) (on ready.lines ready.order ready.grammar) all

-- the turns of entries are those of their lines
turns_same : (merged : List NumberedLine) → map (λ (e : Line). e.thread) (lines_of merged) ≡ map (λ (x : NumberedLine). x.line.thread) merged
turns_same [] = refl
turns_same (x ∷ merged) = ap (λ (ts : List ℕ). x.line.thread ∷ ts) (turns_same merged)

events_same : (streams : List StreamPart) (merged : List NumberedLine) → events_gathered streams (lines_of merged) ≡ reverse (events_along streams (turns_behind merged))
events_same streams merged = ap (λ (ts : List ℕ). reverse (events_along streams (reverse ts))) (turns_same merged)

module _ (on : OnThese) (apart : DevicesDiffer) (k : Option Kept) (file : FileParts) (logs : List (List Line)) (made : List (List MadeCall)) (said : List TraceEvent) (replies : List ReplyContent) (ready : IsReadyToRun k file) where
  pub is_merge : SayMerge → AllMade k file logs made → IsGathered file.streams (marks_of made) logs said replies → IsMerge file.streams said
  is_merge say all gathered =
      let there : AllMade k (parts ready.lines) logs made = subst (λ (f : FileParts). AllMade k f logs made) (sym ready.is) all in
      let are = ready_logs on apart k file ready logs made there in
      let merge = say ready.lines (devices_cut (parts ready.lines)) logs (map (map logged_of) made) gathered.merged are gathered.one in
      subst (IsMerge file.streams) (sym (gathered.events_are ∙ events_same file.streams gathered.merged))
      (subst (λ (f : FileParts). IsMerge f.streams (reverse (events_along f.streams (turns_behind gathered.merged)))) ready.is merge)

  pub is_each : SayDevices → (number : ℕ) (device : Name) → AllMade k file logs made → IsGathered file.streams (marks_of made) logs said replies → slice_get (devices_cut file) number ≡ Some device
      → events_on (device_written file) device (reverse said) ≡ events_along (plan_cut file device).streams (reverse (map (λ (e : Line). e.thread) (slice_index_or logs number [])))
  is_each say number device all gathered at =
      let there : AllMade k (parts ready.lines) logs made = subst (λ (f : FileParts). AllMade k f logs made) (sym ready.is) all in
      let are = ready_logs on apart k file ready logs made there in
      let here = ap (λ (f : FileParts). slice_get (devices_cut f) number) ready.is ∙ at in
      let same = say ready.lines (devices_cut (parts ready.lines)) logs (map (map logged_of) made) gathered.merged gathered.merged [] number device are gathered.one (sym (append-nil gathered.merged)) here in
      let turned = ap (λ (es : List TraceEvent). reverse es) (gathered.events_are ∙ events_same file.streams gathered.merged) ∙ reverse-reverse (events_along file.streams (turns_behind gathered.merged)) in
      ap (events_on (device_written file) device) turned
      ∙ (subst (λ (f : FileParts). events_on (device_written f) device (events_along f.streams (turns_behind gathered.merged)) ≡ events_along (plan_cut f device).streams (reverse (map (λ (e : Line). e.thread) (lines_of_log number gathered.merged)))) ready.is same
      ∙ ap (λ (es : List Line). events_along (plan_cut file device).streams (reverse (map (λ (e : Line). e.thread) es))) (gathered.one.each number))
