-- What the seats of a run are told, and that the replies are those to the trace's driver calls.
use Rattle.std.proofs.Common.{◌≡◌, ◌∙◌, ◌==◌, ◌≤◌, ℕ, nat_eq, Bool, true, false, ◌||◌, Option, Some, None, List, [], ◌∷◌, ◌++◌, length, map, refl, sym, ap, subst, arith, append-nil, take_all}
use Rattle.std.specs.Prelude.{reverse, slice_get}
use Rattle.std.specs.List.{AllByRecursion, IsDistinct, flat_map, list_any}
use Rattle.std.proofs.lemmas.Bool.{eq-eqb}
use Rattle.std.proofs.lemmas.List.{reverse-reverse}
use Rattle.command_tables.specs.Calls.{ReplyContent}
use Rattle.stream_log.specs.declared.line.Line.{Line}
use Rattle.trace_format.specs.declared.event.Name.{Name}
use Rattle.trace_format.specs.Accepting.{same_name}
use Rattle.trace_format.specs.Content.{TraceEvent}
use Rattle.trace_format.specs.Grammar.{IsEvent}
use Rattle.replay_model.specs.Setup.{Setup}
use Rattle.chain_model.specs.Gaps.{IsGapped}
use Rattle.chain_model.specs.Traces.{GivesGuarded}
use Rattle.session_parts.specs.Parts.{KeepAlike}
use Rattle.chain_session.specs.declared.kept.Kept.{Kept}
use Rattle.chain_session.specs.PartsStanding.{SplitStand}
use Rattle.chain_session.specs.Shown.{Shows}
use Rattle.chain_session.specs.Standing.{StandsFor}
use Rattle.stream_model.specs.FileLines.{FileLine}
use Rattle.stream_model.specs.FileParts.{AreInOrder, FileParts, StreamPart, parts}
use Rattle.stream_model.specs.Order.{events, refusal_at_end}
use Rattle.stream_model.specs.Plans.{Along, device_written, events_along, events_planned, next_turn, plan_cut}
use Rattle.merge_model.specs.Merges.{events_on}
use Rattle.merge_model.specs.Planned.{AreCallsOf, AreOnThese, calls_planned}
use Rattle.log_merge.specs.Merged.{IsLogMerge, NumberedLine, lines_of_log}
use Rattle.merge_facts.specs.Logged.{AreLoggedBy, AreLogsOf, LoggedCall, lines_between, numbered_entries, turns_behind}
use Rattle.merge_facts.proofs.Apart.{streams_apart}
use Rattle.shard_model.specs.Replays.{Start, StartStands}
use Rattle.shard_start.specs.Cutting.{start_of}
use Rattle.device_shard.specs.Making.{IsStartOf}
use Rattle.stream_merge.specs.Gathered.{begun_by_thread, turns_taken}
use Rattle.stream_plans.specs.Cuts.{devices_cut}
use Rattle.stream_workers.specs.Calls.{MadeCall, exchange_made}
use Rattle.stream_run.specs.Gathering.{IsGathered, lines_of}
use Rattle.stream_run.specs.Running.{AllMade, IsReadyToRun, logged_of, marks_of}
use Rattle.stream_run.proofs.Said.{logs_are}
use Rattle.seat_facts.specs.Told.{AreAnswered, told_by_thread}
use Rattle.seat_facts.proofs.Onward.{ByItself, Good, all_good, given_by, said_by}
use Rattle.seat_facts.proofs.Replying.{replies_turned}
use Rattle.seat_facts.proofs.Spots.{begins_all, begins_among, count_turned, map_turned}
use Rattle.seat_facts.proofs.Steps.{Known, has_thread, stands_there, step, threads_in}
use Rattle.seat_facts.proofs.Threads.{ThreadHas, calls_in, each_has_its_own}

-- ---- the laws of a file

abbrev pub ThreadsStand : Type 0
ThreadsStand = (logs : List (List Line)) (merged : List NumberedLine) (thread : ℕ) (calls : List LoggedCall) → IsLogMerge logs merged → AreLoggedBy logs thread calls → lines_between thread merged ≡ numbered_entries calls

abbrev pub SayAlong : Type 0
SayAlong =
    (lines : List FileLine) (devices : List Name) (logs : List (List Line)) (calls : List (List LoggedCall)) (merged : List NumberedLine) → AreLogsOf lines devices logs calls → IsLogMerge logs merged → Along (parts lines).streams (turns_behind merged)

abbrev pub SayEvents : Type 0
SayEvents =
    (lines : List FileLine) (devices : List Name) (logs : List (List Line)) (calls : List (List LoggedCall)) (merged front rest : List NumberedLine) (k : ℕ) (device : Name) → AreLogsOf lines devices logs calls → IsLogMerge logs merged → merged ≡ front ++ rest
    → slice_get devices k ≡ Some device
    → events_on (device_written (parts lines)) device (events_along (parts lines).streams (turns_behind front)) ≡ events_along (plan_cut (parts lines) device).streams (reverse (map (λ (e : Line). e.thread) (lines_of_log k front)))

abbrev pub SayNext : Type 0
SayNext =
    (lines : List FileLine) (devices : List Name) (logs : List (List Line)) (calls : List (List LoggedCall)) (merged front rest : List NumberedLine) (x : NumberedLine) (device : Name) → AreLogsOf lines devices logs calls → IsLogMerge logs merged
    → merged ≡ front ++ x ∷ rest → slice_get devices x.log ≡ Some device
    → next_turn (parts lines).streams x.line.thread (turns_behind front) ≡ next_turn (plan_cut (parts lines) device).streams x.line.thread (reverse (map (λ (e : Line). e.thread) (lines_of_log x.log front)))

abbrev pub HavePlans : Type 0
HavePlans =
    (lines : List FileLine) (devices : List Name) → AreInOrder lines → refusal_at_end lines ≡ None → IsDistinct same_name devices → AreOnThese (parts lines) devices
    → AllByRecursion (λ (s : StreamPart). AreCallsOf (parts lines) devices s (calls_planned (device_written (parts lines)) devices s.events)) (parts lines).streams

abbrev pub FollowSetup : Type 0
FollowSetup =
    (lines : List FileLine) (device : Name) (threads : List ℕ) → AreInOrder lines → AllByRecursion IsEvent (events lines) → Along (plan_cut (parts lines) device).streams threads
    → IsGapped (events_along (plan_cut (parts lines) device).streams threads ++ reverse (parts lines).setup)

abbrev pub OnThese : Type 0
OnThese = (lines : List FileLine) → AreInOrder lines → AllByRecursion IsEvent (events lines) → AreOnThese (parts lines) (devices_cut (parts lines))

abbrev pub DevicesDiffer : Type 0
DevicesDiffer = (lines : List FileLine) → AreInOrder lines → AllByRecursion IsEvent (events lines) → IsDistinct same_name (devices_cut (parts lines))

pub record FileLaws : Type 0 where
  pub split : SplitStand
  pub by_itself : ByItself
  pub stands : ThreadsStand
  pub along : SayAlong
  pub events_are : SayEvents
  pub next_is : SayNext
  pub plans : HavePlans
  pub follow : FollowSetup
  pub on : OnThese
  pub apart : DevicesDiffer

-- ---- the session

start_stands : SplitStand → (k : Option Kept) (s : Setup) (before : List TraceEvent) (replies : List ReplyContent) → GivesGuarded s → StandsFor s k before replies → (start : Start) → IsStartOf k start → StartStands start s before replies
start_stands split None s before replies guarded stands start is = absurd is
start_stands split (Some k) s before replies guarded stands start is =
    let shows : Shows s k stands.kept = stands.shows in
    let same : KeepAlike k.parts k.parts = record { states = refl; ids = refl; routes = refl; drivers = refl; names = refl } in
    let there : StartStands (start_of k) s before replies = record { guarded = guarded; parts = split s k k.parts before replies stands same; calls = sym (shows.calls ∙ stands.stands.calls) } in
    subst (λ (x : Start). StartStands x s before replies) (sym is) there

turns_taken_are : (merged : List NumberedLine) → turns_taken (lines_of merged) ≡ threads_in merged
turns_taken_are [] = refl
turns_taken_are (x ∷ merged) = ap (λ (ts : List ℕ). x.line.thread ∷ ts) (turns_taken_are merged)

or_last : (u v : Bool) → v ≡ true → (u || v) ≡ true
or_last true v is = refl
or_last false v is = is

-- the stream of each is among them
each_is_there : (P : ℕ → Type 0) (streams : List StreamPart) → ((t : ℕ) → list_any (λ (s : StreamPart). s.thread == t) streams ≡ true → P t) → AllByRecursion (λ (x : StreamPart). P x.thread) streams
each_is_there P [] f = tt
each_is_there P (s ∷ streams) f = (
  f s.thread (ap (λ u. u || list_any (λ (x : StreamPart). x.thread == s.thread) streams) (eq-eqb s.thread s.thread refl)),
  each_is_there P streams (λ t any. f t (or_last (s.thread == t) (list_any (λ (x : StreamPart). x.thread == t) streams) any)),
)

map_same : {Y : Type 0} (f g : StreamPart → Y) (xs : List StreamPart) → AllByRecursion (λ (x : StreamPart). f x ≡ g x) xs → map f xs ≡ map g xs
map_same f g [] same = refl
map_same f g (x ∷ xs) same = ap (λ y. y ∷ map f xs) same.0 ∙ ap (λ ys. g x ∷ ys) (map_same f g xs same.1)

map_both : {X Y Z : Type 0} (f : Y → Z) (g : X → Y) (xs : List X) → map (λ x. f (g x)) xs ≡ map f (map g xs)
map_both f g [] = refl
map_both f g (x ∷ xs) = ap (λ zs. f (g x) ∷ zs) (map_both f g xs)

-- ---- the laws of seats

module _ (laws : FileLaws) (s : Setup) (k : Option Kept) (lines : List FileLine) (logs : List (List Line)) (made : List (List MadeCall)) (said : List TraceEvent) (replies first : List ReplyContent) (order : AreInOrder lines) (grammar : AllByRecursion IsEvent (events lines))
    (whole : refusal_at_end lines ≡ None) (all : AllMade k (parts lines) logs made) (gathered : IsGathered (parts lines).streams (marks_of made) logs said replies) (guarded : GivesGuarded s)
    (stands : StandsFor s k (reverse (parts lines).setup) first) where
  are : AreLogsOf lines (devices_cut (parts lines)) logs (map (map logged_of) made)
  are = logs_are k lines logs made order whole (laws.apart lines order grammar) (laws.on lines order grammar) all

  known : Known lines (devices_cut (parts lines)) logs gathered.merged
  known = record {
    order = order;
    grammar = grammar;
    distinct = laws.apart lines order grammar;
    one = gathered.one;
    along = laws.along lines (devices_cut (parts lines)) logs (map (map logged_of) made) gathered.merged are gathered.one;
    stands = λ thread calls by. laws.stands logs gathered.merged thread calls gathered.one by;
    plans = laws.plans lines (devices_cut (parts lines)) order whole (laws.apart lines order grammar) (laws.on lines order grammar);
    events_are = λ front rest n device is there. laws.events_are lines (devices_cut (parts lines)) logs (map (map logged_of) made) gathered.merged front rest n device are gathered.one is there;
    next_is = λ front rest x device is there. laws.next_is lines (devices_cut (parts lines)) logs (map (map logged_of) made) gathered.merged front rest x device are gathered.one is there;
    gapped = λ device threads along. laws.follow lines device threads order grammar along;
  }

  good : Good s lines (devices_cut (parts lines)) made first (reverse gathered.merged) []
  good =
      all_good s k lines (devices_cut (parts lines)) logs made gathered.merged first known guarded (start_stands laws.split k s (reverse (parts lines).setup) first guarded stands) laws.by_itself (step k lines logs made gathered.merged all known)
      stands.stands.each (reverse gathered.merged) [] (sym (append-nil (reverse (reverse gathered.merged)) ∙ reverse-reverse gathered.merged))

  said_are : said_by lines (reverse gathered.merged) ≡ reverse said
  said_are =
      sym (ap reverse gathered.events_are
      ∙ (reverse-reverse (events_along (parts lines).streams (reverse (turns_taken (lines_of gathered.merged))))
      ∙ ap (events_along (parts lines).streams) (ap reverse (turns_taken_are gathered.merged) ∙ map_turned (λ (x : NumberedLine). x.line.thread) gathered.merged)))

  given_are : given_by lines made first (reverse gathered.merged) [] ≡ reverse replies ++ first
  given_are =
      sym (ap (λ (rs : List ReplyContent). reverse rs ++ first) gathered.replies_are
      ∙ (replies_turned (parts lines).streams (marks_of made) first [] gathered.merged ∙ ap (λ (xs : List NumberedLine). given_by lines made first xs []) (append-nil (reverse gathered.merged))))

  pub answered_whole : AreAnswered s (reverse (parts lines).setup) first (reverse said) (reverse replies ++ first)
  answered_whole =
      subst (λ (rs : List ReplyContent). AreAnswered s (reverse (parts lines).setup) first (reverse said) rs) given_are
      (subst (λ (es : List TraceEvent). AreAnswered s (reverse (parts lines).setup) first es (given_by lines made first (reverse gathered.merged) [])) said_are good.answered)

  -- a thread has begun all of its calls
  all_begun : (t : ℕ) → ThreadHas (device_written (parts lines)) (devices_cut (parts lines)) all.names logs (calls_in (parts lines).streams made t) (events_planned (parts lines).streams t) t → begun_by_thread t (lines_of (reverse gathered.merged)) ≡ length (calls_in (parts lines).streams made t)
  all_begun t has =
      count_turned t (reverse gathered.merged)
      ∙ (ap (λ (xs : List NumberedLine). begins_among (lines_between t xs)) (reverse-reverse gathered.merged)
      ∙ (ap begins_among (stands_there k lines logs made gathered.merged all known t has) ∙ begins_all all.names t (calls_in (parts lines).streams made t) has.by.made))

  told_thread : (t : ℕ) → list_any (λ (x : StreamPart). x.thread == t) (parts lines).streams ≡ true → flat_map exchange_made (calls_in (parts lines).streams made t) ≡ told_by_thread s t (reverse (parts lines).setup) (reverse said) (reverse replies ++ first)
  told_thread t any =
      let count = all_begun t (has_thread k lines logs made gathered.merged all known t any) in
      let most : length (calls_in (parts lines).streams made t) ≤ begun_by_thread t (lines_of (reverse gathered.merged)) = omega (arith, count) in
      sym (
      ap (λ (rs : List ReplyContent). told_by_thread s t (reverse (parts lines).setup) (reverse said) rs) (sym given_are)
      ∙ (ap (λ (es : List TraceEvent). told_by_thread s t (reverse (parts lines).setup) es (given_by lines made first (reverse gathered.merged) [])) (sym said_are)
      ∙ (good.told t ∙ ap (flat_map exchange_made) (take_all (begun_by_thread t (lines_of (reverse gathered.merged))) (calls_in (parts lines).streams made t) most))))

  pub told_whole : map (flat_map exchange_made) made ≡ map (λ (x : StreamPart). told_by_thread s x.thread (reverse (parts lines).setup) (reverse said) (reverse replies ++ first)) (parts lines).streams
  told_whole =
      let apart : IsDistinct nat_eq (map (λ (x : StreamPart). x.thread) (parts lines).streams) = streams_apart lines order in
      ap (map (flat_map exchange_made)) (sym (each_has_its_own all.names logs (parts lines).streams made all.threads apart))
      ∙ (sym (map_both (flat_map exchange_made) (λ (x : StreamPart). calls_in (parts lines).streams made x.thread) (parts lines).streams)
      ∙ map_same (λ (x : StreamPart). flat_map exchange_made (calls_in (parts lines).streams made x.thread)) (λ (x : StreamPart). told_by_thread s x.thread (reverse (parts lines).setup) (reverse said) (reverse replies ++ first)) (parts lines).streams
      (each_is_there (λ (t : ℕ). flat_map exchange_made (calls_in (parts lines).streams made t) ≡ told_by_thread s t (reverse (parts lines).setup) (reverse said) (reverse replies ++ first)) (parts lines).streams told_thread))

-- ---- for a file that is ready

module _ (laws : FileLaws) (s : Setup) (k : Option Kept) (file : FileParts) (logs : List (List Line)) (made : List (List MadeCall)) (said : List TraceEvent) (replies first : List ReplyContent) (ready : IsReadyToRun k file) where
  -- what stands of a file
  abbrev Given : FileParts → Type 0
  Given f = AllMade k f logs made × (IsGathered f.streams (marks_of made) logs said replies × StandsFor s k (reverse f.setup) first)

  at_lines : AllMade k file logs made → IsGathered file.streams (marks_of made) logs said replies → StandsFor s k (reverse file.setup) first → Given (parts ready.lines)
  at_lines all gathered stands = subst Given (sym ready.is) (all, (gathered, stands))

  pub seats_told : AllMade k file logs made → IsGathered file.streams (marks_of made) logs said replies → GivesGuarded s → StandsFor s k (reverse file.setup) first
      → map (flat_map exchange_made) made ≡ map (λ (x : StreamPart). told_by_thread s x.thread (reverse file.setup) (reverse said) (reverse replies ++ first)) file.streams
  seats_told all gathered guarded stands =
      let there : Given (parts ready.lines) = at_lines all gathered stands in
      subst (λ (f : FileParts). map (flat_map exchange_made) made ≡ map (λ (x : StreamPart). told_by_thread s x.thread (reverse f.setup) (reverse said) (reverse replies ++ first)) f.streams) ready.is
      (told_whole laws s k ready.lines logs made said replies first ready.order ready.grammar ready.whole there.0 there.1.0 guarded there.1.1)

  pub seats_answered : AllMade k file logs made → IsGathered file.streams (marks_of made) logs said replies → GivesGuarded s → StandsFor s k (reverse file.setup) first
      → AreAnswered s (reverse file.setup) first (reverse said) (reverse replies ++ first)
  seats_answered all gathered guarded stands =
      let there : Given (parts ready.lines) = at_lines all gathered stands in
      subst (λ (f : FileParts). AreAnswered s (reverse f.setup) first (reverse said) (reverse replies ++ first)) ready.is
      (answered_whole laws s k ready.lines logs made said replies first ready.order ready.grammar ready.whole there.0 there.1.0 guarded there.1.1)
