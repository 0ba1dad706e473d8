-- A plan that is cut from a file can be followed from a session that stands for the file's setup.
use Rattle.std.proofs.Common.{◌≡◌, ◌∙◌, ◌+◌, ◌≤◌, ◌<◌, ◌^◌, ℕ, nat_eq, true, Option, Some, None, List, [], ◌∷◌, ◌++◌, length, map, refl, sym, ap, subst, arith, lit<}
use Rattle.std.specs.Prelude.{is_some, reverse}
use Rattle.std.specs.List.{AllByRecursion, IsDistinct}
use Rattle.std.proofs.lemmas.List.{length-reverse}
use Rattle.command_tables.specs.Calls.{ReplyContent}
use Rattle.stream_log.specs.declared.line.Line.{Line}
use Rattle.trace_format.specs.declared.event.Name.{Name}
use Rattle.trace_format.specs.Accepting.{calls_begun}
use Rattle.trace_format.specs.Content.{TraceEvent}
use Rattle.trace_format.specs.Grammar.{IsEvent}
use Rattle.replay_model.specs.Setup.{Setup}
use Rattle.replay_model.proofs.Accepted.{calls-judged}
use Rattle.layer_model.specs.Walks.{PartState}
use Rattle.chain_model.specs.Gaps.{IsGapped}
use Rattle.chain_model.specs.Traces.{GivesGuarded}
use Rattle.stream_model.specs.declared.limits.TheConstants.{MOST_EVENTS}
use Rattle.stream_model.specs.FileLines.{FileLine}
use Rattle.stream_model.specs.FileParts.{AreInOrder, StreamPart, all_events, parts}
use Rattle.stream_model.specs.Order.{events, stream_threads}
use Rattle.stream_model.specs.Plans.{Along, DevicePlan, device_written, events_along, plan_cut, stream_on}
use Rattle.session_parts.specs.Parts.{KeepAlike}
use Rattle.chain_session.specs.declared.kept.Kept.{Kept}
use Rattle.chain_session.specs.PartsStanding.{SplitStand}
use Rattle.chain_session.specs.Shown.{Shows}
use Rattle.chain_session.specs.Standing.{StandsFor}
use Rattle.shard_model.specs.Followed.{Follows, IsNextStep, next_event, turns_in}
use Rattle.shard_model.specs.Replays.{StartStands}
use Rattle.walk_bounds.specs.Bounds.{AllLight}
use Rattle.shard_start.specs.Cutting.{AreCutFrom, IsCut, start_of}
use Rattle.shard_start.specs.Starting.{CanStart, events_in}
use Rattle.shard_start.proofs.Pairs.{each_on_device, each_pairs, fewer_in, same_threads}
use Rattle.shard_start.proofs.Sections.{Settled, begun_few, file_settled, setup_and_streams, threads_are}
use Rattle.shard_start.proofs.Unused.{all_light}

-- ---- the laws of a file

abbrev pub FollowsSetup : Type 0
FollowsSetup =
    (lines : List FileLine) (device : Name) (threads : List ℕ) → AreInOrder lines → AllByRecursion IsEvent (events lines) → Along (plan_cut (parts lines) device).streams threads
    → IsGapped (events_along (plan_cut (parts lines) device).streams threads ++ reverse (parts lines).setup)

abbrev pub ThreadsDiffer : Type 0
ThreadsDiffer = (lines : List FileLine) → AreInOrder lines → IsDistinct nat_eq (stream_threads lines)

abbrev pub EventsInOrder : Type 0
EventsInOrder = (lines : List FileLine) → AreInOrder lines → all_events (parts lines) ≡ reverse (events lines)

abbrev pub EventsFew : Type 0
EventsFew = (lines : List FileLine) → AreInOrder lines → length (events lines) ≤ MOST_EVENTS

-- ---- the session

stands_there : SplitStand → (k : Kept) (s : Setup) (before : List TraceEvent) (replies : List ReplyContent) → GivesGuarded s → StandsFor s (Some k) before replies → StartStands (start_of k) s before replies
stands_there split k s before replies guarded stands =
    let shows : Shows s k stands.kept = stands.shows in
    let same : KeepAlike k.parts k.parts = record { states = refl; ids = refl; routes = refl; drivers = refl; names = refl } in
    record {
      guarded = guarded;
      parts = split s k k.parts before replies stands same;
      calls = sym (shows.calls ∙ stands.stands.calls);
    }

-- ---- the log

-- each entry that follows a plan has an event there
turns_along : (streams : List StreamPart) (entries : List Line) → Follows streams entries → Along streams (turns_in entries)
turns_along streams [] follows = tt
turns_along streams (e ∷ before) follows = (there (next_event streams e.thread before) follows.0, turns_along streams before follows.1)
  where
    there : (o : Option TraceEvent) → IsNextStep e o → is_some o ≡ true
    there None next = absurd next
    there (Some event) next = refl

-- ---- how many calls there are

-- calls are counted in 32 bits, which suffice for as many events as a file may have
events_counted : MOST_EVENTS < 2 ^ 32
events_counted = lit< tt

small : (n : ℕ) → n ≤ MOST_EVENTS → n < 2 ^ 32
small n few = omega (arith, few, events_counted)

few_calls : EventsInOrder → EventsFew → (k : Kept) (s : Setup) (lines : List FileLine) (replies : List ReplyContent) (device : Name) → AreInOrder lines → StandsFor s (Some k) (reverse (parts lines).setup) replies
    → k.calls + events_in (map (stream_on (device_written (parts lines)) device) (parts lines).streams) ≤ MOST_EVENTS
few_calls ordered few k s lines replies device order stands =
    let shows : Shows s k stands.kept = stands.shows in
    let calls : k.calls ≡ calls_begun (reverse (parts lines).setup) = shows.calls ∙ (stands.stands.calls ∙ calls-judged s (reverse (parts lines).setup)) in
    let begun : calls_begun (reverse (parts lines).setup) ≤ length (reverse (parts lines).setup) = begun_few (reverse (parts lines).setup) in
    let setup : length (reverse (parts lines).setup) ≡ length (parts lines).setup = length-reverse (parts lines).setup in
    let kept : events_in (map (stream_on (device_written (parts lines)) device) (parts lines).streams) ≤ events_in (parts lines).streams = fewer_in (device_written (parts lines)) device (parts lines).streams in
    let both : length (parts lines).setup + events_in (parts lines).streams ≤ length (all_events (parts lines)) = setup_and_streams (parts lines) in
    let all : length (all_events (parts lines)) ≡ length (events lines) = ap length (ordered lines order) ∙ length-reverse (events lines) in
    let most : length (events lines) ≤ MOST_EVENTS = few lines order in
    omega (arith, calls, begun, setup, kept, both, all, most)

-- ---- the plans

module _ (split : SplitStand) (follow : FollowsSetup) (differ : ThreadsDiffer) (ordered : EventsInOrder) (few : EventsFew) (k : Kept) (plans : List DevicePlan) (cut : AreCutFrom (Some k) plans) where
  plan_starts : (device : Name) → CanStart (start_of k) (plan_cut (parts cut.lines) device).streams
  plan_starts device =
      let settled : Settled (parts cut.lines) = file_settled cut.lines cut.order cut.grammar cut.whole in
      record {
        setup = cut.setup;
        events = reverse (parts cut.lines).setup;
        replies = cut.replies;
        stands = stands_there split k cut.setup (reverse (parts cut.lines).setup) cut.replies cut.guarded cut.stands;
        goes_on = λ entries follows. follow cut.lines device (turns_in entries) cut.order cut.grammar (turns_along (plan_cut (parts cut.lines) device).streams entries follows);
        distinct = subst (λ (ts : List ℕ). IsDistinct nat_eq ts) (sym (same_threads (device_written (parts cut.lines)) device (parts cut.lines).streams ∙ threads_are cut.lines)) (differ cut.lines cut.order);
        on_device = each_on_device (device_written (parts cut.lines)) device (parts cut.lines).streams;
        pairs = each_pairs (device_written (parts cut.lines)) device (parts cut.lines).streams settled.pairs;
        few = small (k.calls + events_in (map (stream_on (device_written (parts cut.lines)) device) (parts cut.lines).streams))
            (few_calls ordered few k cut.setup cut.lines cut.replies device cut.order cut.stands);
      }

  all_start : (ps : List DevicePlan) → AllByRecursion (IsCut cut.lines) ps → AllByRecursion (λ (p : DevicePlan). CanStart (start_of k) p.streams) ps
  all_start [] are = tt
  all_start (p ∷ ps) are = (subst (λ (q : DevicePlan). CanStart (start_of k) q.streams) (sym are.0) (plan_starts p.device), all_start ps are.1)

  pub plans_start : AllByRecursion (λ (p : DevicePlan). CanStart (start_of k) p.streams) plans
  plans_start = all_start plans cut.cut

-- ---- the session's parts

pub none_busy : FollowsSetup → (k : Kept) (plans : List DevicePlan) (n : ℕ) (threads : List ℕ) → AreCutFrom (Some k) plans → AllLight n threads k.parts.states.kept
none_busy follow k plans n threads cut =
    let shows : Shows cut.setup k cut.stands.kept = cut.stands.shows in
    let settled : Settled (parts cut.lines) = file_settled cut.lines cut.order cut.grammar cut.whole in
    let trace : IsGapped (reverse (parts cut.lines).setup) = follow cut.lines (record { thread = 0; number = 0 }) [] cut.order cut.grammar tt in
    subst (λ (states : List PartState). AllLight n threads states) (sym shows.parts.states)
    (all_light cut.setup cut.stands.kept (reverse (parts cut.lines).setup) cut.replies n threads trace settled.idle cut.stands.stands)
