-- What a file that is ready gives a run.
use Rattle.std.proofs.Common.{◌≡◌, ◌∙◌, ◌≤◌, ◌<◌, ℕ, zero, suc, nat_eq, Option, Some, None, List, [], ◌∷◌, length, map, refl, sym, ap, subst, arith}
use Rattle.std.specs.Prelude.{reverse, slice_get}
use Rattle.std.specs.List.{AllByRecursion, IsDistinct}
use Rattle.std.proofs.lemmas.List.{length-map}
use Rattle.std.proofs.lemmas.Option.{slice_get-map}
use Rattle.std.specs.Option.{option_map}
use Rattle.command_tables.specs.Calls.{ReplyContent}
use Rattle.atomic_table.specs.Seated.{TableId}
use Rattle.object_model.specs.declared.PartKind.{PartKind}
use Rattle.dispatch_chain.specs.Seats.{kinds_of}
use Rattle.trace_format.specs.declared.event.Name.{Name}
use Rattle.trace_format.specs.Accepting.{same_name}
use Rattle.trace_format.specs.Grammar.{IsEvent}
use Rattle.replay_model.specs.Setup.{Setup}
use Rattle.chain_model.specs.Traces.{GivesGuarded}
use Rattle.chain_session.specs.declared.kept.Kept.{Kept}
use Rattle.chain_session.specs.Splitting.{kinds_in_force}
use Rattle.chain_session.specs.Standing.{StandsFor}
use Rattle.stream_model.specs.declared.limits.TheConstants.{MOST_DEVICES}
use Rattle.stream_model.specs.FileLines.{FileLine}
use Rattle.stream_model.specs.FileParts.{AreInOrder, FileParts, StreamPart, parts}
use Rattle.stream_model.specs.Order.{devices_named, events, refusal_at_end, stream_threads}
use Rattle.stream_model.specs.Plans.{DevicePlan, device_written, events_planned, plan_cut, stream_on}
use Rattle.merge_facts.proofs.Apart.{as_headed}
use Rattle.merge_model.specs.Planned.{AreCallsOf, AreOnThese, PlannedCall, calls_planned}
use Rattle.shard_start.specs.Cutting.{AreCutFrom, start_of}
use Rattle.shard_start.specs.Starting.{CanStart}
use Rattle.device_shard.specs.Making.{AreNamedBy}
use Rattle.device_shard.specs.Plans.{plan_content}
use Rattle.device_shard.specs.Sets.{logs_of}
use Rattle.device_shard.specs.Shards.{ShardName, threads_of}
use Rattle.device_shard.proofs.Gathered.{can_all}
use Rattle.device_shard.proofs.Planned.{planned_at}
use Rattle.stream_crew.specs.Crews.{ArePlanned, ArePlannedFor, HaveThreads, places_of}
use Rattle.stream_plans.specs.Cuts.{devices_cut}
use Rattle.stream_workers.specs.Work.{AreRowsOf}
use Rattle.stream_run.specs.declared.prepare.Prepared.{Prepared}
use Rattle.stream_run.specs.Naming.{CanRun, names_from, names_of}
use Rattle.stream_run.specs.Preparing.{IsPrepared, calls_of_file}
use Rattle.stream_run.specs.Running.{IsReadyToRun}
use Rattle.stream_run.proofs.Unbegun.{no_devices, nothing_begun}

-- ---- the laws of a file

abbrev pub ThreadsDiffer : Type 0
ThreadsDiffer = (lines : List FileLine) → AreInOrder lines → IsDistinct nat_eq (stream_threads lines)

abbrev pub DevicesPlanned : Type 0
DevicesPlanned = (lines : List FileLine) → AreInOrder lines → AllByRecursion IsEvent (events lines) → devices_cut (parts lines) ≡ devices_named lines

abbrev pub OnThese : Type 0
OnThese = (lines : List FileLine) → AreInOrder lines → AllByRecursion IsEvent (events lines) → AreOnThese (parts lines) (devices_cut (parts lines))

abbrev pub DevicesDiffer : Type 0
DevicesDiffer = (lines : List FileLine) → AreInOrder lines → AllByRecursion IsEvent (events lines) → IsDistinct same_name (devices_cut (parts lines))

abbrev pub FewDevices : Type 0
FewDevices = (lines : List FileLine) → AreInOrder lines → AllByRecursion IsEvent (events lines) → length (devices_cut (parts lines)) ≤ MOST_DEVICES

abbrev pub HavePlans : Type 0
HavePlans =
    (lines : List FileLine) (devices : List Name) → AreInOrder lines → refusal_at_end lines ≡ None → IsDistinct same_name devices → AreOnThese (parts lines) devices
    → AllByRecursion (λ (s : StreamPart). AreCallsOf (parts lines) devices s (calls_planned (device_written (parts lines)) devices s.events)) (parts lines).streams

abbrev pub PlansStart : Type 0
PlansStart = (k : Kept) (plans : List DevicePlan) → AreCutFrom (Some k) plans → AllByRecursion (λ (p : DevicePlan). CanStart (start_of k) p.streams) plans

-- ---- threads

differ_there : ThreadsDiffer → (lines : List FileLine) → AreInOrder lines → IsDistinct nat_eq (threads_of (parts lines).streams)
differ_there differ lines order = subst (λ (ts : List ℕ). IsDistinct nat_eq ts) (sym (as_headed lines)) (differ lines order)

pub threads_differ : ThreadsDiffer → (k : Option Kept) (file : FileParts) → IsReadyToRun k file → IsDistinct nat_eq (threads_of file.streams)
threads_differ differ k file ready = subst (λ (f : FileParts). IsDistinct nat_eq (threads_of f.streams)) ready.is (differ_there differ ready.lines ready.order)

-- a plan has the threads of its file
pub same_threads : (f : Name → Option Name) (device : Name) (streams : List StreamPart) → threads_of (map (stream_on f device) streams) ≡ threads_of streams
same_threads f device [] = refl
same_threads f device (s ∷ streams) = ap (λ (ts : List ℕ). s.thread ∷ ts) (same_threads f device streams)

pub have_threads : (file : FileParts) (threads : List ℕ) (plans : List DevicePlan) → threads ≡ threads_of file.streams → AllByRecursion (λ (p : DevicePlan). p ≡ plan_cut file p.device) plans → HaveThreads threads plans
have_threads file threads [] own cut = tt
have_threads file threads (p ∷ plans) own cut = (ap (λ (q : DevicePlan). threads_of q.streams) cut.0 ∙ (same_threads (device_written file) p.device file.streams ∙ sym own), have_threads file threads plans own cut.1)

-- ---- plans

pub plans_are : (file : FileParts) (plans : List DevicePlan) (devices : List Name) → AllByRecursion (λ (p : DevicePlan). p ≡ plan_cut file p.device) plans → map (λ (p : DevicePlan). p.device) plans ≡ devices → plans ≡ map (plan_cut file) devices
plans_are file [] [] cut same = refl
plans_are file [] (d ∷ devices) cut same = cc same
plans_are file (p ∷ plans) [] cut same = cc same
plans_are file (p ∷ plans) (d ∷ devices) cut same =
    let here : p.device ≡ d = cc same in
    let rest : map (λ (q : DevicePlan). q.device) plans ≡ devices = cc same in
    ap (λ (q : DevicePlan). q ∷ plans) (cut.0 ∙ ap (plan_cut file) here) ∙ ap (λ (ps : List DevicePlan). plan_cut file d ∷ ps) (plans_are file plans devices cut.1 rest)

pub named_plans : (k : Option Kept) (plans : List DevicePlan) (names : List ShardName) → AreNamedBy k plans names → map (λ (n : ShardName). n.plan) names ≡ plans
named_plans k [] [] are = refl
named_plans k [] (n ∷ names) are = absurd are
named_plans k (p ∷ plans) [] are = absurd are
named_plans k (p ∷ plans) (n ∷ names) are = ap (λ (q : DevicePlan). q ∷ map (λ (m : ShardName). m.plan) names) are.0.0 ∙ ap (λ (qs : List DevicePlan). p ∷ qs) (named_plans k plans names are.1)

-- ---- rows

same_rows : (k : Kept) (plans : List DevicePlan) (names : List ShardName) (rows : List PartKind) → rows ≡ kinds_in_force (Some k) → AreNamedBy (Some k) plans names → AreRowsOf rows names
same_rows k [] [] rows own are = tt
same_rows k [] (n ∷ names) rows own are = absurd are
same_rows k (p ∷ plans) [] rows own are = absurd are
same_rows k (p ∷ plans) (n ∷ names) rows own are = (own ∙ sym (ap (λ s. kinds_of s.parts.states.kept) are.0.1), same_rows k plans names rows own are.1)

pub rows_of : (k : Option Kept) (plans : List DevicePlan) (names : List ShardName) (rows : List PartKind) → rows ≡ kinds_in_force k → AreNamedBy k plans names → AreRowsOf rows names
rows_of None [] [] rows own are = tt
rows_of None [] (n ∷ names) rows own are = absurd are
rows_of None (p ∷ plans) [] rows own are = absurd are
rows_of None (p ∷ plans) (n ∷ names) rows own are = absurd are.0.1
rows_of (Some k) plans names rows own are = same_rows k plans names rows own are

-- ---- calls

from_map : {X Y : Type 0} (g : X → Y) (xs : List X) (k : ℕ) (y : Y) → slice_get (map g xs) k ≡ Some y → (x : X) × (slice_get xs k ≡ Some x) × (y ≡ g x)
from_map g [] k y at = cc at
from_map g (x ∷ xs) zero y at = (x, refl, cc at)
from_map g (x ∷ xs) (suc k) y at = from_map g xs k y at

planned_for : (file : FileParts) (devices : List Name) (i : ℕ) (s : StreamPart) → IsDistinct nat_eq (threads_of file.streams) → slice_get file.streams i ≡ Some s → AreCallsOf file devices s (calls_planned (device_written file) devices s.events)
    → ArePlannedFor (map (plan_cut file) devices) s.thread (calls_planned (device_written file) devices s.events)
planned_for file devices i s differ at are =
    let f = device_written file in
    let calls = calls_planned f devices s.events in
    record {
      own = are.own;
      within = subst (λ (n : ℕ). AllByRecursion (λ (c : PlannedCall). c.place < n) calls) (sym (length-map devices (plan_cut file))) are.within;
      each = λ k p here.
          let from = from_map (plan_cut file) devices k p here in
          let there : slice_get (map (stream_on f from.0) file.streams) i ≡ Some (stream_on f from.0 s) = slice_get-map (stream_on f from.0) file.streams i ∙ ap (option_map (stream_on f from.0)) at in
          let apart : IsDistinct nat_eq (threads_of (map (stream_on f from.0) file.streams)) = subst (λ (ts : List ℕ). IsDistinct nat_eq ts) (sym (same_threads f from.0 file.streams)) differ in
          ap (λ (q : DevicePlan). events_planned q.streams s.thread) from.2
          ∙ (planned_at (map (stream_on f from.0) file.streams) i (stream_on f from.0 s) s.thread apart there refl ∙ sym (are.each k from.0 from.1));
    }

planned_by : (plans : List DevicePlan) (f : StreamPart → List PlannedCall) (streams : List StreamPart) → ((i : ℕ) (s : StreamPart) → slice_get streams i ≡ Some s → ArePlannedFor plans s.thread (f s)) → ArePlanned plans (threads_of streams) (map f streams)
planned_by plans f [] all = tt
planned_by plans f (s ∷ streams) all = (all zero s refl, planned_by plans f streams (λ i t. all (suc i) t))

calls_there : (P : StreamPart → Type 0) (streams : List StreamPart) (i : ℕ) (s : StreamPart) → AllByRecursion P streams → slice_get streams i ≡ Some s → P s
calls_there P [] i s all at = cc at
calls_there P (t ∷ streams) zero s all at = let one : t ≡ s = cc at in subst P one all.0
calls_there P (t ∷ streams) (suc i) s all at = calls_there P streams i s all.1 at

planned_all : (file : FileParts) (devices : List Name) → IsDistinct nat_eq (threads_of file.streams) → AllByRecursion (λ (s : StreamPart). AreCallsOf file devices s (calls_planned (device_written file) devices s.events)) file.streams
    → ArePlanned (map (plan_cut file) devices) (threads_of file.streams) (map (λ (s : StreamPart). calls_planned (device_written file) devices s.events) file.streams)
planned_all file devices differ all =
    planned_by (map (plan_cut file) devices) (λ (s : StreamPart). calls_planned (device_written file) devices s.events) file.streams (
    λ i s at. planned_for file devices i s differ at (calls_there (λ (t : StreamPart). AreCallsOf file devices t (calls_planned (device_written file) devices t.events)) file.streams i s all at)
    )

-- ---- what is prepared can run

places_count : (file : FileParts) (p : Prepared) → IsPrepared file p → length p.places.items ≡ length p.threads.items
places_count file p made =
    let places = length-map p.places.items (λ v. v.items) in
    let same = ap (λ (xss : List (List ℕ)). length xss) made.places in
    let calls = length-map (calls_of_file file) places_of in
    let streams = length-map file.streams (λ (s : StreamPart). calls_planned (device_written file) (devices_cut file) s.events) in
    let threads = ap (λ (ts : List ℕ). length ts) made.threads in
    let own = length-map file.streams (λ (s : StreamPart). s.thread) in
    omega (arith, places, same, calls, streams, threads, own)

module _ (differ : ThreadsDiffer) (on : OnThese) (apart : DevicesDiffer) (few : FewDevices) (have : HavePlans) (start : PlansStart) where
  can_run_lines : (k : Option Kept) (lines : List FileLine) (p : Prepared) (names : List ShardName) → AreCutFrom k (map plan_content p.plans.items) → AreInOrder lines → AllByRecursion IsEvent (events lines) → refusal_at_end lines ≡ None → IsPrepared (parts lines) p
      → AreNamedBy k (map plan_content p.plans.items) names → logs_of names ≡ map (λ l. l.0) p.logs.items → CanRun k (parts lines) p names
  can_run_lines k lines p names cut order grammar whole made named logs =
      let file = parts lines in
      let devices = devices_cut file in
      let plans = map plan_content p.plans.items in
      let are : plans ≡ map (plan_cut file) devices = plans_are file plans devices made.cut made.devices in
      let least : length devices ≤ MOST_DEVICES = few lines order grammar in
      let count = ap (λ (ds : List Name). length ds) made.devices in
      record {
        few = omega (arith, least, count, length-map plans (λ (q : DevicePlan). q.device), length-map p.plans.items plan_content);
        cut = cut;
        logs = made.logs names (named_plans k plans names named) logs;
        named = named;
        plans = named_plans k plans names named;
        starts = can_all k plans names cut named start;
        threads = have_threads file p.threads.items plans made.threads made.cut;
        places = places_count file p made;
        planned = subst (λ (ts : List ℕ). ArePlanned plans ts (calls_of_file file)) (sym made.threads)
            (subst (λ (qs : List DevicePlan). ArePlanned qs (threads_of file.streams) (calls_of_file file)) (sym are)
            (planned_all file devices (differ_there differ lines order) (have lines devices order whole (apart lines order grammar) (on lines order grammar))));
        rows = λ rows own. rows_of k plans names rows own named;
      }

  cut_lines : (k : Option Kept) (lines : List FileLine) (plans : List DevicePlan) (setup : Setup) (replies : List ReplyContent) → AreInOrder lines → AllByRecursion IsEvent (events lines) → refusal_at_end lines ≡ None → GivesGuarded setup
      → StandsFor setup k (reverse (parts lines).setup) replies → AllByRecursion (λ (p : DevicePlan). p ≡ plan_cut (parts lines) p.device) plans → map (λ (p : DevicePlan). p.device) plans ≡ devices_cut (parts lines) → AreCutFrom k plans
  cut_lines k lines plans setup replies order grammar whole guarded stands cut devices = record {
    lines = lines;
    order = order;
    grammar = grammar;
    whole = whole;
    setup = setup;
    guarded = guarded;
    replies = replies;
    stands = stands;
    cut = cut;
    distinct = subst (λ (ds : List Name). IsDistinct same_name ds) (sym devices) (apart lines order grammar);
  }

  pub can_run : (k : Option Kept) (file : FileParts) (p : Prepared) (names : List ShardName) → IsReadyToRun k file → IsPrepared file p → AreNamedBy k (map plan_content p.plans.items) names → logs_of names ≡ map (λ l. l.0) p.logs.items
      → CanRun k file p names
  can_run k file p names ready made named logs =
      let there : IsPrepared (parts ready.lines) p = subst (λ (f : FileParts). IsPrepared f p) (sym ready.is) made in
      let stands = subst (λ (f : FileParts). StandsFor ready.setup k (reverse f.setup) ready.replies) (sym ready.is) ready.stands in
      let cut : AreCutFrom k (map plan_content p.plans.items) = cut_lines k ready.lines (map plan_content p.plans.items) ready.setup ready.replies ready.order ready.grammar ready.whole ready.guarded stands there.cut there.devices in
      subst (λ (f : FileParts). CanRun k f p names) ready.is (can_run_lines k ready.lines p names cut ready.order ready.grammar ready.whole there named logs)

-- ---- names

named_from : (k : Kept) (plans : List DevicePlan) (logs : List TableId) → length logs ≡ length plans → AreNamedBy (Some k) plans (names_from k plans logs)
named_from k [] logs count = tt
named_from k (p ∷ plans) [] count = absurd (omega (arith, count))
named_from k (p ∷ plans) (l ∷ logs) count = ((refl, refl), named_from k plans logs (omega (arith, count)))

logs_from : (k : Kept) (plans : List DevicePlan) (logs : List TableId) → length logs ≡ length plans → logs_of (names_from k plans logs) ≡ logs
logs_from k [] [] count = refl
logs_from k [] (l ∷ logs) count = absurd (omega (arith, count))
logs_from k (p ∷ plans) [] count = absurd (omega (arith, count))
logs_from k (p ∷ plans) (l ∷ logs) count = ap (λ (ls : List TableId). l ∷ ls) (logs_from k plans logs (omega (arith, count)))

no_plans : (plans : List DevicePlan) → map (λ (p : DevicePlan). p.device) plans ≡ [] → plans ≡ []
no_plans [] none = refl
no_plans (p ∷ plans) none = cc none

no_logs : (plans : List DevicePlan) (logs : List TableId) → length logs ≡ length plans → plans ≡ [] → [] ≡ logs
no_logs plans [] count none = refl
no_logs [] (l ∷ logs) count none = absurd (omega (arith, count))
no_logs (p ∷ plans) (l ∷ logs) count none = cc none

-- what is named by the plans, and what by the logs
pub record AreNames (k : Option Kept) (plans : List DevicePlan) (logs : List TableId) : Type 0 where
  pub named : AreNamedBy k plans (names_of k plans logs)
  pub logs_are : logs_of (names_of k plans logs) ≡ logs

names_here : (k : Option Kept) (plans : List DevicePlan) (logs : List TableId) → length logs ≡ length plans → (k ≡ None → plans ≡ []) → AreNames k plans logs
names_here None plans logs count none = record { named = subst (λ (ps : List DevicePlan). AreNamedBy None ps []) (sym (none refl)) tt; logs_are = no_logs plans logs count (none refl) }
names_here (Some k) plans logs count none = record { named = named_from k plans logs count; logs_are = logs_from k plans logs count }

pub are_names : DevicesPlanned → (k : Option Kept) (file : FileParts) (p : Prepared) → IsReadyToRun k file → IsPrepared file p → AreNames k (map plan_content p.plans.items) (map (λ l. l.0) p.logs.items)
are_names planned k file p ready made =
    let plans = map plan_content p.plans.items in
    names_here k plans (map (λ l. l.0) p.logs.items) (length-map p.logs.items (λ l. l.0) ∙ (made.count ∙ sym (length-map p.plans.items plan_content))) (
    λ none.
    let stands = subst (λ (f : FileParts). StandsFor ready.setup None (reverse f.setup) ready.replies) (sym ready.is) (subst (λ (o : Option Kept). StandsFor ready.setup o (reverse file.setup) ready.replies) none ready.stands) in
    let nowhere : devices_cut (parts ready.lines) ≡ [] = planned ready.lines ready.order ready.grammar ∙ no_devices ready.lines ready.order (nothing_begun ready.setup (reverse (parts ready.lines).setup) ready.replies stands) in
    no_plans plans (made.devices ∙ (ap devices_cut (sym ready.is) ∙ nowhere))
    )
