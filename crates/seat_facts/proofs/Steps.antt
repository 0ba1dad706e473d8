-- Each entry of all logs in one order is the begin or the return of a call, and what is known of the call then.
use Rattle.std.proofs.Common.{◌≡◌, ◌∙◌, ◌==◌, ℕ, suc, Bool, true, false, cond, Option, Some, List, [], ◌∷◌, ◌++◌, length, map, refl, sym, ap, subst}
use Rattle.std.specs.Prelude.{filter, reverse, slice_get}
use Rattle.std.specs.List.{AllByRecursion, IsDistinct, list_any, slice_index_or}
use Rattle.std.proofs.lemmas.Bool.{eq-eqb}
use Rattle.std.proofs.lemmas.List.{length-reverse, map-append, reverse-append, reverse-reverse}
use Rattle.std.proofs.lemmas.List.Elements.{filter-append}
use Rattle.stream_log.specs.declared.line.Line.{Line}
use Rattle.stream_log.specs.Log.{RisesFrom}
use Rattle.trace_format.specs.declared.event.Name.{Name}
use Rattle.trace_format.specs.Accepting.{same_name}
use Rattle.trace_format.specs.Content.{TraceEvent, Begin, Return}
use Rattle.trace_format.specs.Grammar.{IsEvent}
use Rattle.chain_model.specs.Gaps.{IsGapped}
use Rattle.chain_session.specs.declared.kept.Kept.{Kept}
use Rattle.session_model.specs.Stands.{AreRepliesTo}
use Rattle.stream_model.specs.FileLines.{FileLine}
use Rattle.stream_model.specs.FileParts.{AreInOrder, StreamPart, parts}
use Rattle.stream_model.specs.Order.{device_named, events, same_device}
use Rattle.stream_model.specs.Plans.{Along, DevicePlan, device_written, events_along, events_planned, next_turn, plan_cut, turns_of, with_event}
use Rattle.merge_model.specs.Merges.{events_on}
use Rattle.merge_model.specs.Planned.{AreCallsOf, PlannedCall, calls_planned, events_of_calls}
use Rattle.merge_model.proofs.InTurn.{reverse_onto}
use Rattle.merge_model.proofs.Parting.{filter_reverse}
use Rattle.log_merge.specs.Merged.{IsLogMerge, NumberedLine, lines_of_log}
use Rattle.merge_facts.specs.Logged.{AreLoggedBy, LoggedCall, lines_between, numbered_entries, turns_behind}
use Rattle.merge_facts.proofs.Telling.{all_tell}
use Rattle.shard_model.specs.Followed.{Follows, events_of, next_event, turns_in}
use Rattle.shard_model.specs.Replays.{Start, Tells}
use Rattle.device_facts.specs.Apart.{is_call_on}
use Rattle.device_shard.specs.Closing.{IsClosed}
use Rattle.device_shard.specs.Making.{IsStartOf}
use Rattle.device_shard.specs.Shards.{ShardName}
use Rattle.stream_merge.specs.Gathered.{begun_by_thread, next_results}
use Rattle.stream_plans.specs.Cuts.{devices_cut}
use Rattle.stream_workers.specs.Calls.{IsMade, MadeCall, planned_of, results_made}
use Rattle.stream_run.specs.Gathering.{lines_of}
use Rattle.stream_run.specs.Running.{AllMade, StandsIn, logged_of}
use Rattle.stream_run.proofs.Said.{logged_by}
use Rattle.seat_facts.proofs.Lasts.{along_last, follows_last, lines_parted, lines_turned, same_front, turns_along}
use Rattle.seat_facts.proofs.Spots.{BeginsAt, ReturnsAt, Spot, begins, returns, begins_among, count_turned, entries_made_of, last_turned, map_turned, spot}
use Rattle.seat_facts.proofs.Threads.{NamedAt, ThreadHas, all_there, calls_in, closed_at, has_stream_of, named_at, planned_there, thread_has}

-- ---- the laws of all logs in one order, at this order

pub record Known (lines : List FileLine) (devices : List Name) (logs : List (List Line)) (merged : List NumberedLine) : Type 0 where
  pub order : AreInOrder lines
  pub grammar : AllByRecursion IsEvent (events lines)
  pub distinct : IsDistinct same_name devices
  pub one : IsLogMerge logs merged
  pub along : Along (parts lines).streams (turns_behind merged)
  pub stands : (thread : ℕ) (calls : List LoggedCall) → AreLoggedBy logs thread calls → lines_between thread merged ≡ numbered_entries calls
  pub plans : AllByRecursion (λ (s : StreamPart). AreCallsOf (parts lines) devices s (calls_planned (device_written (parts lines)) devices s.events)) (parts lines).streams
  pub events_are : (front rest : List NumberedLine) (n : ℕ) (device : Name) → merged ≡ front ++ rest → slice_get devices n ≡ Some device
      → events_on (device_written (parts lines)) device (events_along (parts lines).streams (turns_behind front)) ≡ events_along (plan_cut (parts lines) device).streams (reverse (map (λ (e : Line). e.thread) (lines_of_log n front)))
  pub next_is : (front rest : List NumberedLine) (x : NumberedLine) (device : Name) → merged ≡ front ++ x ∷ rest → slice_get devices x.log ≡ Some device
      → next_turn (parts lines).streams x.line.thread (turns_behind front) ≡ next_turn (plan_cut (parts lines) device).streams x.line.thread (reverse (map (λ (e : Line). e.thread) (lines_of_log x.log front)))
  pub gapped : (device : Name) (threads : List ℕ) → Along (plan_cut (parts lines) device).streams threads → IsGapped (events_along (plan_cut (parts lines) device).streams threads ++ reverse (parts lines).setup)

-- the threads of entries
abbrev pub threads_in : List NumberedLine → List ℕ
threads_in back = map (λ (x : NumberedLine). x.line.thread) back

-- ---- what is known of a step

-- a call begins behind these entries of its device's log
pub record BeginAt (k : Option Kept) (lines : List FileLine) (device : Name) (thread : ℕ) (entries : List Line) (m : MadeCall) : Type 0 where
  pub next : next_event (plan_cut (parts lines) device).streams thread entries ≡ Some (Begin m.begun.begin)
  pub start : Start
  pub starts : IsStartOf k start
  pub tells : Tells start (plan_cut (parts lines) device).streams entries m.begun.begin m.begun.skip m.begun.told
  pub gapped : IsGapped (Begin m.begun.begin ∷ events_of (plan_cut (parts lines) device).streams entries ++ reverse (parts lines).setup)

-- an entry, behind others, is the begin of this call
pub record BeginStep (k : Option Kept) (lines : List FileLine) (devices : List Name) (made : List (List MadeCall)) (back rest : List NumberedLine) (x : NumberedLine) (m : MadeCall) : Type 0 where
  pub own : m.begun.begin.thread ≡ x.line.thread
  pub begins_is : x.line.begins ≡ true
  pub next : next_turn (parts lines).streams x.line.thread (threads_in back) ≡ Some (Begin m.begun.begin)
  pub place : slice_get (calls_in (parts lines).streams made x.line.thread) (begun_by_thread x.line.thread (lines_of back)) ≡ Some m
  pub results : next_results x.line.thread (lines_of rest) ≡ results_made m
  pub silent : m.begun.skip ≡ true → m.begun.told ≡ []
  pub single : m.begun.skip ≡ false → length m.begun.told ≡ 1
  pub replied : m.begun.skip ≡ false → AreRepliesTo m.begun.told (m.reply ∷ [])
  pub device : Name
  pub there : slice_get devices x.log ≡ Some device
  pub at : BeginAt k lines device x.line.thread (lines_of_log x.log back) m
  pub on : (n : ℕ) (d : Name) → slice_get devices n ≡ Some d → is_call_on (parts lines) d m.begun.begin ≡ (x.log == n)

-- an entry, behind others, is the return of a call
pub record ReturnStep (lines : List FileLine) (devices : List Name) (back : List NumberedLine) (x : NumberedLine) : Type 0 where
  pub next : next_turn (parts lines).streams x.line.thread (threads_in back) ≡ Some (Return x.line.thread)
  pub ends : x.line.begins ≡ false
  pub first : NumberedLine
  pub others : List NumberedLine
  pub behind : lines_between x.line.thread back ≡ first ∷ others
  pub same_log : first.log ≡ x.log
  pub begun : first.line.begins ≡ true
  pub plan_next : (d : Name) → slice_get devices x.log ≡ Some d → next_event (plan_cut (parts lines) d).streams x.line.thread (lines_of_log x.log back) ≡ Some (Return x.line.thread)

pub data Step (k : Option Kept) (lines : List FileLine) (devices : List Name) (made : List (List MadeCall)) (back rest : List NumberedLine) (x : NumberedLine) : Type 0 where
  begun_here : (m : MadeCall) → BeginStep k lines devices made back rest x m → Step k lines devices made back rest x
  returned_here : ReturnStep lines devices back x → Step k lines devices made back rest x

-- ---- turned

turns_back : (back : List NumberedLine) → turns_behind (reverse back) ≡ threads_in back
turns_back back = ap reverse (sym (map_turned (λ (x : NumberedLine). x.line.thread) back)) ∙ reverse-reverse (threads_in back)

turns_parted : (back rest : List NumberedLine) → turns_behind (reverse back ++ rest) ≡ reverse (threads_in rest) ++ threads_in back
turns_parted back rest =
    ap reverse (map-append (λ (x : NumberedLine). x.line.thread) (reverse back) rest)
    ∙ (reverse-append (threads_in (reverse back)) (threads_in rest) ∙ ap (λ (ts : List ℕ). reverse (threads_in rest) ++ ts) (turns_back back))

log_turns : (n : ℕ) (back : List NumberedLine) → reverse (map (λ (e : Line). e.thread) (lines_of_log n (reverse back))) ≡ turns_in (lines_of_log n back)
log_turns n back =
    ap (λ (es : List Line). reverse (map (λ (e : Line). e.thread) es)) (lines_turned n back)
    ∙ (ap reverse (sym (map_turned (λ (e : Line). e.thread) (lines_of_log n back))) ∙ reverse-reverse (turns_in (lines_of_log n back)))

-- a thread has as many turns as entries
turns_own : (t : ℕ) (back : List NumberedLine) → turns_of t (threads_in back) ≡ length (lines_between t back)
turns_own t [] = refl
turns_own t (x ∷ back) = go (x.line.thread == t) (turns_own t back)
  where
    go : (u : Bool) → turns_of t (threads_in back) ≡ length (lines_between t back)
        → length (cond u (x.line.thread ∷ filter (λ v. v == t) (threads_in back)) (filter (λ v. v == t) (threads_in back))) ≡ length (cond u (x ∷ lines_between t back) (lines_between t back))
    go true rest = ap suc rest
    go false rest = rest

turns_counted : (t : ℕ) (back : List NumberedLine) → turns_of t (threads_in back) ≡ length (lines_between t (reverse back))
turns_counted t back =
    turns_own t back ∙ sym (ap length (filter_reverse (λ (x : NumberedLine). x.line.thread == t) back) ∙ length-reverse (lines_between t back))

-- the results of a thread's next entry
results_next : (t : ℕ) (rest : List NumberedLine) (y : NumberedLine) (later : List NumberedLine) → lines_between t rest ≡ y ∷ later → next_results t (lines_of rest) ≡ cond y.line.begins [] y.line.results
results_next t [] y later is = cc is
results_next t (x ∷ rest) y later is = go (x.line.thread == t) is (results_next t rest y later)
  where
    go : (u : Bool) → cond u (x ∷ lines_between t rest) (lines_between t rest) ≡ y ∷ later → (lines_between t rest ≡ y ∷ later → next_results t (lines_of rest) ≡ cond y.line.begins [] y.line.results)
        → cond u (cond x.line.begins [] x.line.results) (next_results t (lines_of rest)) ≡ cond y.line.begins [] y.line.results
    go true h more = let one : x ≡ y = cc in ap (λ (z : NumberedLine). cond z.line.begins [] z.line.results) one
    go false h more = more h

module _ (lines : List FileLine) (devices : List Name) (logs : List (List Line)) (merged : List NumberedLine) (known : Known lines devices logs merged) where
  pub events_back : (back rest : List NumberedLine) (n : ℕ) (device : Name) → merged ≡ reverse back ++ rest → slice_get devices n ≡ Some device
      → events_on (device_written (parts lines)) device (events_along (parts lines).streams (threads_in back)) ≡ events_of (plan_cut (parts lines) device).streams (lines_of_log n back)
  events_back back rest n device is there =
      ap (λ (ts : List ℕ). events_on (device_written (parts lines)) device (events_along (parts lines).streams ts)) (sym (turns_back back))
      ∙ (known.events_are (reverse back) rest n device is there ∙ ap (events_along (plan_cut (parts lines) device).streams) (log_turns n back))

  next_back : (back rest : List NumberedLine) (x : NumberedLine) (device : Name) → merged ≡ reverse back ++ x ∷ rest → slice_get devices x.log ≡ Some device
      → next_turn (parts lines).streams x.line.thread (threads_in back) ≡ next_event (plan_cut (parts lines) device).streams x.line.thread (lines_of_log x.log back)
  next_back back rest x device is there =
      ap (next_turn (parts lines).streams x.line.thread) (sym (turns_back back))
      ∙ (known.next_is (reverse back) rest x device is there ∙ ap (next_turn (plan_cut (parts lines) device).streams x.line.thread) (log_turns x.log back))

  pub along_back : (back rest : List NumberedLine) → merged ≡ reverse back ++ rest → Along (parts lines).streams (threads_in back)
  along_back back rest is = along_last (parts lines).streams (reverse (threads_in rest)) (threads_in back) (subst (Along (parts lines).streams) (ap turns_behind is ∙ turns_parted back rest) known.along)

-- ---- a begin at its log

module _ (k : Option Kept) (lines : List FileLine) (names : List ShardName) (logs : List (List Line)) (merged : List NumberedLine) (known : Known lines (devices_cut (parts lines)) logs merged) where
  module _ (back rest : List NumberedLine) (x : NumberedLine) (m : MadeCall) (own : IsMade names x.line.thread m) (is : merged ≡ reverse back ++ x ∷ rest) (entry : m.begun.entry ≡ x.line) (log : x.log ≡ m.begun.place)
      (stand : StandsIn logs m) (named : NamedAt k (parts lines) (devices_cut (parts lines)) m.begun.place own.begun.name) (closed : IsClosed own.begun.name (slice_index_or logs m.begun.place [])) where
    whole : slice_index_or logs m.begun.place [] ≡ lines_of_log m.begun.place (reverse back) ++ x.line ∷ lines_of_log m.begun.place rest
    whole = sym (known.one.each m.begun.place) ∙ (ap (lines_of_log m.begun.place) is ∙ lines_parted m.begun.place (reverse back) rest x (eq-eqb x.log m.begun.place log))

    before_is : reverse m.begun.before ≡ lines_of_log m.begun.place back
    before_is =
        let both : lines_of_log m.begun.place (reverse back) ++ x.line ∷ lines_of_log m.begun.place rest ≡ m.begun.before ++ x.line ∷ stand.later =
        sym whole ∙ (stand.is ∙ ap (λ (e : Line). m.begun.before ++ e ∷ stand.later) entry) in
        let same : lines_of_log m.begun.place (reverse back) ≡ m.begun.before =
        same_front 0 (lines_of_log m.begun.place (reverse back)) m.begun.before (lines_of_log m.begun.place rest) stand.later x.line (subst (RisesFrom 0) whole closed.rises) both in
        ap reverse (sym same ∙ lines_turned m.begun.place back) ∙ reverse-reverse (lines_of_log m.begun.place back)

    follows_here : Follows (plan_cut (parts lines) named.device).streams (x.line ∷ lines_of_log m.begun.place back)
    follows_here =
        let turned : reverse (slice_index_or logs m.begun.place []) ≡ reverse (lines_of_log m.begun.place rest) ++ x.line ∷ lines_of_log m.begun.place back =
        ap reverse (whole
        ∙ (ap (λ (es : List Line). es ++ x.line ∷ lines_of_log m.begun.place rest) (lines_turned m.begun.place back)
        ∙ sym (reverse_onto x.line (lines_of_log m.begun.place back) (lines_of_log m.begun.place rest))))
        ∙ (reverse-append (reverse (x.line ∷ lines_of_log m.begun.place back)) (lines_of_log m.begun.place rest)
        ∙ ap (λ (es : List Line). reverse (lines_of_log m.begun.place rest) ++ es) (reverse-reverse (x.line ∷ lines_of_log m.begun.place back))) in
        follows_last (plan_cut (parts lines) named.device).streams (reverse (lines_of_log m.begun.place rest)) (x.line ∷ lines_of_log m.begun.place back)
        (subst (Follows (plan_cut (parts lines) named.device).streams) turned
        (subst (λ (p : DevicePlan). Follows p.streams (reverse (slice_index_or logs m.begun.place []))) named.plan closed.follows))

    next_here : next_event (plan_cut (parts lines) named.device).streams x.line.thread (lines_of_log m.begun.place back) ≡ Some (Begin m.begun.begin)
    next_here =
        sym (ap (λ (p : DevicePlan). next_event p.streams x.line.thread (reverse m.begun.before)) named.plan ∙ ap (next_event (plan_cut (parts lines) named.device).streams x.line.thread) before_is)
        ∙ own.begun.came

    pub begin_here : BeginAt k lines named.device x.line.thread (lines_of_log m.begun.place back) m
    begin_here = record {
      next = next_here;
      start = own.begun.name.start;
      starts = named.start;
      tells = subst (λ (es : List Line). Tells own.begun.name.start (plan_cut (parts lines) named.device).streams es m.begun.begin m.begun.skip m.begun.told) before_is
          (subst (λ (p : DevicePlan). Tells own.begun.name.start p.streams (reverse m.begun.before) m.begun.begin m.begun.skip m.begun.told) named.plan own.begun.tells);
      gapped = subst (λ (o : Option TraceEvent). IsGapped (with_event o (events_of (plan_cut (parts lines) named.device).streams (lines_of_log m.begun.place back)) ++ reverse (parts lines).setup)) next_here
          (known.gapped named.device (x.line.thread ∷ turns_in (lines_of_log m.begun.place back)) (turns_along (plan_cut (parts lines) named.device).streams (x.line ∷ lines_of_log m.begun.place back) follows_here));
    }

-- ---- a step

module _ (k : Option Kept) (lines : List FileLine) (logs : List (List Line)) (made : List (List MadeCall)) (merged : List NumberedLine) (all : AllMade k (parts lines) logs made)
    (known : Known lines (devices_cut (parts lines)) logs merged) where
  pub has_thread : (t : ℕ) → list_any (λ (s : StreamPart). s.thread == t) (parts lines).streams ≡ true
      → ThreadHas (device_written (parts lines)) (devices_cut (parts lines)) all.names logs (calls_in (parts lines).streams made t) (events_planned (parts lines).streams t) t
  has_thread t has = thread_has (parts lines) (devices_cut (parts lines)) all.names logs (parts lines).streams made t all.threads all.are known.plans has

  pub stands_there : (t : ℕ) → ThreadHas (device_written (parts lines)) (devices_cut (parts lines)) all.names logs (calls_in (parts lines).streams made t) (events_planned (parts lines).streams t) t
      → lines_between t merged ≡ entries_made_of (calls_in (parts lines).streams made t)
  stands_there t has = known.stands t (map logged_of (calls_in (parts lines).streams made t)) (logged_by all.names logs t (calls_in (parts lines).streams made t) has.by)

  module _ (back rest : List NumberedLine) (x : NumberedLine) (is : merged ≡ reverse back ++ x ∷ rest)
      (has : ThreadHas (device_written (parts lines)) (devices_cut (parts lines)) all.names logs (calls_in (parts lines).streams made x.line.thread) (events_planned (parts lines).streams x.line.thread) x.line.thread) where
    event_is : next_turn (parts lines).streams x.line.thread (threads_in back)
        ≡ slice_get (events_of_calls x.line.thread (map planned_of (calls_in (parts lines).streams made x.line.thread))) (length (lines_between x.line.thread (reverse back)))
    event_is =
        ap (slice_get (events_planned (parts lines).streams x.line.thread)) (turns_counted x.line.thread back)
        ∙ ap (λ (es : List TraceEvent). slice_get es (length (lines_between x.line.thread (reverse back)))) (sym has.events)

    parted : entries_made_of (calls_in (parts lines).streams made x.line.thread) ≡ lines_between x.line.thread (reverse back) ++ x ∷ lines_between x.line.thread rest
    parted =
        sym (stands_there x.line.thread has)
        ∙ (ap (lines_between x.line.thread) is
        ∙ (filter-append (λ (y : NumberedLine). y.line.thread == x.line.thread) (reverse back) (x ∷ rest)
        ∙ ap (λ (u : Bool). lines_between x.line.thread (reverse back) ++ cond u (x ∷ lines_between x.line.thread rest) (lines_between x.line.thread rest)) (eq-eqb x.line.thread x.line.thread refl)))

    begin_step : (m : MadeCall) → BeginsAt x.line.thread (calls_in (parts lines).streams made x.line.thread) (lines_between x.line.thread (reverse back)) x (lines_between x.line.thread rest) m
        → BeginStep k lines (devices_cut (parts lines)) made back rest x m
    begin_step m at = record {
      own = all_there (λ (c : PlannedCall). c.begin.thread ≡ x.line.thread) (map planned_of cs) n (planned_of m) has.own (planned_there cs n m at.place);
      begins_is = ap (λ (y : NumberedLine). y.line.begins) at.is ∙ ap (λ (e : Line). e.begins) own.begun.own;
      next = event_is ∙ at.event;
      place = ap (slice_get cs) (count_turned x.line.thread back) ∙ at.place;
      results = results_next x.line.thread rest _ at.later at.after ∙ ap (λ (e : Line). cond e.begins [] e.results) own.own;
      silent = own.begun.silent;
      single = own.begun.one;
      replied = own.replied;
      device = named.device;
      there = ap (slice_get (devices_cut (parts lines))) log ∙ named.there;
      at = subst (λ (q : ℕ). BeginAt k lines named.device x.line.thread (lines_of_log q back) m) (sym log)
          (begin_here k lines all.names logs merged known back rest x m own is (sym (ap (λ (y : NumberedLine). y.line) at.is)) log
          (all_there (StandsIn logs) cs n m has.by.stand at.place) named (closed_at all.names logs m.begun.place own.begun.name all.closed own.begun.is));
      on = λ j d there. sym (tells j d there) ∙ ap (λ (q : ℕ). q == j) (sym log);
    }
      where
        cs : List MadeCall
        cs = calls_in (parts lines).streams made x.line.thread

        n : ℕ
        n = begins_among (lines_between x.line.thread (reverse back))

        own : IsMade all.names x.line.thread m
        own = all_there (IsMade all.names x.line.thread) cs n m has.by.made at.place

        log : x.log ≡ m.begun.place
        log = ap (λ (y : NumberedLine). y.log) at.is

        named : NamedAt k (parts lines) (devices_cut (parts lines)) m.begun.place own.begun.name
        named = named_at k (parts lines) (devices_cut (parts lines)) all.names m.begun.place own.begun.name all.named own.begun.is

        tells : (j : ℕ) (d : Name) → slice_get (devices_cut (parts lines)) j ≡ Some d → (m.begun.place == j) ≡ same_device (device_named (device_written (parts lines)) m.begun.begin.cmd m.begun.begin.args) (Some d)
        tells j d there =
            all_there (λ (c : PlannedCall). (c.place == j) ≡ same_device (device_named (device_written (parts lines)) c.begin.cmd c.begin.args) (Some d)) (map planned_of cs) n (planned_of m)
            (subst (AllByRecursion (λ (c : PlannedCall). (c.place == j) ≡ same_device (device_named (device_written (parts lines)) c.begin.cmd c.begin.args) (Some d))) (sym has.planned)
            (all_tell (device_written (parts lines)) (devices_cut (parts lines)) j d known.distinct there (events_planned (parts lines).streams x.line.thread)))
            (planned_there cs n m at.place)

    return_step : ReturnsAt x.line.thread (calls_in (parts lines).streams made x.line.thread) (lines_between x.line.thread (reverse back)) x → ReturnStep lines (devices_cut (parts lines)) back x
    return_step at = record {
      next = event_is ∙ at.event;
      ends = at.ends;
      first = at.first;
      others = reverse at.earlier;
      behind = last_turned x.line.thread back at.earlier at.first at.behind;
      same_log = at.same_log;
      begun = at.begun;
      plan_next = λ d there. sym (next_back lines (devices_cut (parts lines)) logs merged known back rest x d is there) ∙ (event_is ∙ at.event);
    }

    either : Spot x.line.thread (calls_in (parts lines).streams made x.line.thread) (lines_between x.line.thread (reverse back)) x (lines_between x.line.thread rest) → Step k lines (devices_cut (parts lines)) made back rest x
    either (begins m at) = begun_here m (begin_step m at)
    either (returns at) = returned_here (return_step at)

    stepped : Step k lines (devices_cut (parts lines)) made back rest x
    stepped = either (spot all.names x.line.thread (calls_in (parts lines).streams made x.line.thread) (lines_between x.line.thread (reverse back)) (lines_between x.line.thread rest) x has.by.made parted)

  pub step : (back rest : List NumberedLine) (x : NumberedLine) → merged ≡ reverse back ++ x ∷ rest → Step k lines (devices_cut (parts lines)) made back rest x
  step back rest x is =
      let along : Along (parts lines).streams (x.line.thread ∷ threads_in back) = along_back lines (devices_cut (parts lines)) logs merged known (x ∷ back) rest (is ∙ sym (reverse_onto x back rest)) in
      stepped back rest x is (has_thread x.line.thread (has_stream_of (parts lines).streams x.line.thread (threads_in back) along.0))
