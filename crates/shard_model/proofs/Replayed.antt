-- The laws of a device's log.
use Rattle.std.proofs.Common.{◌≡◌, ℕ, ◌+◌, true, false, ◌&&◌, Option, Some, List, [], ◌∷◌, ◌++◌, map, refl, sym, ◌∙◌, ap, subst, arith}
use Rattle.std.specs.Prelude.{find}
use Rattle.command_tables.specs.Calls.{CallContent, ReplyContent}
use Rattle.command_tables.specs.Effects.{succeeds}
use Rattle.stream_log.specs.Log.{line}
use Rattle.stream_log.specs.declared.line.Line.{Line}
use Rattle.trace_format.specs.Content.{BeginEvent, TraceEvent, Begin, Return}
use Rattle.layer_model.proofs.Same.{and_true}
use Rattle.replay_model.specs.Judged.{judged}
use Rattle.replay_model.specs.Past.{calls_in}
use Rattle.replay_model.specs.Setup.{Setup}
use Rattle.lifetime_layer.specs.declared.verdict.Verdict.{Verdict}
use Rattle.chain_model.specs.Gaps.{IsGapped, may_all_come, may_come}
use Rattle.dispatch_chain.specs.Holding.{HeldCalls}
use Rattle.session_model.specs.Stands.{AreRepliesTo}
use Rattle.stream_model.specs.FileParts.{StreamPart}
use Rattle.stream_model.specs.Plans.{with_event}
use Rattle.session_parts.specs.declared.parts.SessionParts.{SessionParts}
use Rattle.session_parts.specs.Entering.{CanEnter, Enters}
use Rattle.session_parts.specs.Leaving.{CanLeave, Leaves}
use Rattle.session_parts.specs.Names.{NamesKept}
use Rattle.session_parts.specs.Parts.{KeepAlike}
use Rattle.chain_session.specs.PartsStanding.{EntersAsTraced, EntersTrace, LeavesAsTraced, LeavesTrace, LeftCall, MayEnterTrace, MayLeaveTrace, PartsStand}
use Rattle.shard_model.specs.Followed.{Follows, begins_in, events_of, next_event}
use Rattle.shard_model.specs.Replies.{AreReplies, handles_of, last_replies}
use Rattle.shard_model.specs.Replays.{AreOfThreads, IsOnInstance, IsReplay, IsReplayOf, NoneOf, OpenStep, Start, StartStands, Tells, is_step_of, left_of, open_step, told_by, without_step}
use Rattle.shard_model.proofs.Beginning.{begin_replayed, not_refused, told_is}
use Rattle.shard_model.proofs.Counting.{calls_counted}
use Rattle.shard_model.proofs.Opens.{left_found}
use Rattle.shard_model.proofs.Returning.{chosen, its_own, return_replayed, some_may}

-- ---- an empty log

-- parts that keep the same stand for the same
alike_stand : (s : Setup) (x y : SessionParts) (events : List TraceEvent) (replies : List ReplyContent) (ls : List LeftCall) → KeepAlike y x → PartsStand s x events replies ls → PartsStand s y events replies ls
alike_stand s x y events replies ls alike stood =
    let shows = stood.shows in
    record {
      kept = stood.kept;
      shows = record {
        names = ap (λ (k : NamesKept). k.names) alike.names ∙ shows.names;
        count = ap (λ (k : NamesKept). k.count) alike.names ∙ shows.count;
        births = ap (λ (k : NamesKept). k.births) alike.names ∙ shows.births;
        retrieved = ap (λ (k : NamesKept). k.retrieved) alike.names ∙ shows.retrieved;
        states = alike.states ∙ shows.states;
        ids = alike.ids ∙ shows.ids;
        routes = alike.routes ∙ shows.routes;
        handed = ap (λ (k : NamesKept). k.handed) alike.names ∙ shows.handed;
        drivers = alike.drivers ∙ shows.drivers;
      };
      stands = stood.stands;
      opens = stood.opens;
    }

pub starts_so : (start : Start) (streams : List StreamPart) (x : SessionParts) → KeepAlike x start.parts → IsReplay start streams [] x []
starts_so start streams x alike s events first stands trace =
    record {
      stands = λ replies are. subst (λ (rs : List ReplyContent). PartsStand s x events rs []) (sym are) (alike_stand s start.parts x events first [] alike stands.parts);
      answered = λ replies are. tt;
      some = first;
      some_are = refl;
      any = λ own may. record { replies = first; are = refl; have = tt };
    }

pub alike_so : (start : Start) (streams : List StreamPart) (entries : List Line) (x y : SessionParts) (opens : List OpenStep) → KeepAlike y x → IsReplay start streams entries x opens → IsReplay start streams entries y opens
alike_so start streams entries x y opens alike replay s events first stands trace =
    let old = replay s events first stands trace in
    record {
      stands = λ replies are. alike_stand s x y (events_of streams entries ++ events) replies (map (left_of (judged s (events_of streams entries ++ events)) replies) opens) alike (old.stands replies are);
      answered = old.answered;
      some = old.some;
      some_are = old.some_are;
      any = old.any;
    }

-- ---- events before the last

earlier : (e : TraceEvent) (events : List TraceEvent) → IsGapped (e ∷ events) → IsGapped events
earlier e events trace = record { grammar = trace.grammar.1; each = (and_true (may_all_come events) (may_come events e) trace.each).0 }

-- as many calls as the start and the log have
number_is : (start : Start) (streams : List StreamPart) (entries : List Line) (s : Setup) (events : List TraceEvent) (first : List ReplyContent) → StartStands start s events first → Follows streams entries
    → calls_in (judged s (events_of streams entries ++ events)) ≡ start.calls + begins_in entries
number_is start streams entries s events first stands follows =
    let counted = calls_counted s streams entries events follows in
    let began = stands.calls in
    omega (arith, counted, began)

-- ---- a begin

pub may_begin : MayEnterTrace → (start : Start) (streams : List StreamPart) (entries : List Line) (x : SessionParts) (opens : List OpenStep) (b : BeginEvent) (s : Setup) (events : List TraceEvent) (first : List ReplyContent)
    → StartStands start s events first → IsGapped (Begin b ∷ events_of streams entries ++ events) → IsReplay start streams entries x opens → Follows streams entries → IsOnInstance b → CanEnter x (start.calls + begins_in entries + 1) b
may_begin law start streams entries x opens b s events first stands trace replay follows other =
    let so_far : List TraceEvent = events_of streams entries ++ events in
    let old = replay s events first stands (earlier (Begin b) so_far trace) in
    subst (λ n. CanEnter x (n + 1) b) (number_is start streams entries s events first stands follows)
    (law s x so_far old.some (map (left_of (judged s so_far) old.some) opens) b (old.stands old.some old.some_are) trace (not_refused s b other))

-- what it comes to in each trace
enters_so : EntersAsTraced → (start : Start) (streams : List StreamPart) (entries : List Line) (x : SessionParts) (opens : List OpenStep) (b : BeginEvent) (call : CallContent) (held : HeldCalls) (verdict : Verdict) (y : SessionParts) (s : Setup) (events : List TraceEvent) (first : List ReplyContent)
    → StartStands start s events first → IsGapped (Begin b ∷ events_of streams entries ++ events) → IsReplayOf s events first streams entries x opens → Follows streams entries → IsOnInstance b → Enters x (start.calls + begins_in entries + 1) b call held verdict y
    → (replies : List ReplyContent) → AreReplies s events first streams entries replies
    → EntersTrace s (events_of streams entries ++ events) replies (map (left_of (judged s (events_of streams entries ++ events)) replies) opens) b call held verdict y
enters_so law start streams entries x opens b call held verdict y s events first stands trace old follows other enters replies are =
    let so_far : List TraceEvent = events_of streams entries ++ events in
    law s x y so_far replies (map (left_of (judged s so_far) replies) opens) b call held verdict (old.stands replies are) trace (not_refused s b other)
    (subst (λ n. Enters x (n + 1) b call held verdict y) (sym (number_is start streams entries s events first stands follows)) enters)

-- a begin's trace
with_begin : (streams : List StreamPart) (entries : List Line) (b : BeginEvent) (events : List TraceEvent) → next_event streams b.thread entries ≡ Some (Begin b)
    → IsGapped (with_event (next_event streams b.thread entries) (events_of streams entries) ++ events) → IsGapped (Begin b ∷ events_of streams entries ++ events)
with_begin streams entries b events next trace = subst (λ (o : Option TraceEvent). IsGapped (with_event o (events_of streams entries) ++ events)) next trace

pub begins_so : EntersAsTraced → (start : Start) (streams : List StreamPart) (entries : List Line) (x y : SessionParts) (opens : List OpenStep) (b : BeginEvent) (time : ℕ) (call : CallContent) (held : HeldCalls) (verdict : Verdict)
    → IsReplay start streams entries x opens → Follows streams entries → next_event streams b.thread entries ≡ Some (Begin b) → IsOnInstance b → NoneOf b.thread opens → Enters x (start.calls + begins_in entries + 1) b call held verdict y
    → IsReplay start streams (line b.thread time true [] ∷ entries) y (open_step b call held verdict y ∷ opens)
begins_so law start streams entries x y opens b time call held verdict replay follows next other none enters s events first stands trace =
    let gapped : IsGapped (Begin b ∷ events_of streams entries ++ events) = with_begin streams entries b events next trace in
    let old = replay s events first stands (earlier (Begin b) (events_of streams entries ++ events) gapped) in
    begin_replayed s events first streams entries x opens b time call held verdict y next old none (enters_so law start streams entries x opens b call held verdict y s events first stands gapped old follows other enters)

pub tells_so : EntersAsTraced → (start : Start) (streams : List StreamPart) (entries : List Line) (x y : SessionParts) (opens : List OpenStep) (b : BeginEvent) (call : CallContent) (held : HeldCalls) (verdict : Verdict)
    → IsReplay start streams entries x opens → Follows streams entries → next_event streams b.thread entries ≡ Some (Begin b) → IsOnInstance b → NoneOf b.thread opens → Enters x (start.calls + begins_in entries + 1) b call held verdict y
    → Tells start streams entries b verdict.skip (told_by y call verdict.skip)
tells_so law start streams entries x y opens b call held verdict replay follows next other none enters = record {
  skipped = λ s events first stands trace.
      let old = replay s events first stands (earlier (Begin b) (events_of streams entries ++ events) trace) in
      (enters_so law start streams entries x opens b call held verdict y s events first stands trace old follows other enters old.some old.some_are).skip;
  calls = λ s events first replies stands trace are.
      let old = replay s events first stands (earlier (Begin b) (events_of streams entries ++ events) trace) in
      told_is s events first streams entries x opens b 0 call held verdict y next old none (enters_so law start streams entries x opens b call held verdict y s events first stands trace old follows other enters) replies are;
}

-- ---- a return

with_return : (streams : List StreamPart) (entries : List Line) (thread : ℕ) (events : List TraceEvent) → next_event streams thread entries ≡ Some (Return thread)
    → IsGapped (with_event (next_event streams thread entries) (events_of streams entries) ++ events) → IsGapped (Return thread ∷ events_of streams entries ++ events)
with_return streams entries thread events next trace = subst (λ (o : Option TraceEvent). IsGapped (with_event o (events_of streams entries) ++ events)) next trace

leaves_so : LeavesAsTraced → (start : Start) (streams : List StreamPart) (entries : List Line) (x y : SessionParts) (opens : List OpenStep) (thread : ℕ) (o : OpenStep) (own : List ReplyContent) (count : ℕ) (s : Setup) (events : List TraceEvent) (first : List ReplyContent)
    → StartStands start s events first → IsGapped (events_of streams entries ++ events) → IsReplayOf s events first streams entries x opens → find (is_step_of thread) opens ≡ Some o → IsOnInstance o.begin → Leaves x o.begin o.call o.held o.skip own y count
    → (replies : List ReplyContent) → AreReplies s events first streams entries replies → last_replies (judged s (events_of streams entries ++ events)) replies o.begin.thread ≡ own
    → LeavesTrace s (events_of streams entries ++ events) replies (map (left_of (judged s (events_of streams entries ++ events)) replies) opens) thread y count
leaves_so law start streams entries x y opens thread o own count s events first stands trace old is other leaves replies are had =
    let so_far : List TraceEvent = events_of streams entries ++ events in
    law s x y so_far replies (map (left_of (judged s so_far) replies) opens) thread (left_of (judged s so_far) replies o) count stands.guarded trace (old.stands replies are) (left_found (judged s so_far) replies thread opens o is)
    (λ sent. ap (λ t. t && succeeds o.begin.cmd o.begin.code) other) (subst (λ (rs : List ReplyContent). Leaves x o.begin o.call o.held o.skip rs y count) (sym had) leaves)

pub may_return : MayLeaveTrace → (start : Start) (streams : List StreamPart) (entries : List Line) (x : SessionParts) (opens : List OpenStep) (thread : ℕ) (o : OpenStep) (own : List ReplyContent) (s : Setup) (events : List TraceEvent) (first : List ReplyContent)
    → StartStands start s events first → IsGapped (events_of streams entries ++ events) → IsReplay start streams entries x opens → find (is_step_of thread) opens ≡ Some o → AreOfThreads opens → IsOnInstance o.begin → AreRepliesTo o.told own
    → CanLeave x o.begin o.call o.held o.skip own
may_return law start streams entries x opens thread o own s events first stands trace replay is apart other may =
    let so_far : List TraceEvent = events_of streams entries ++ events in
    let old = replay s events first stands trace in
    let rest = some_may s events first streams entries x opens thread o own old is apart may in
    let others : ℕ → List ReplyContent = last_replies (judged s so_far) old.some in
    let w = chosen s events first streams entries x opens thread o own old is apart may others rest in
    let had = its_own s events first streams entries x opens thread o own old is apart may others rest in
    subst (λ (rs : List ReplyContent). CanLeave x o.begin o.call o.held o.skip rs) had
    (law s x so_far w.replies (map (left_of (judged s so_far) w.replies) opens) thread (left_of (judged s so_far) w.replies o) stands.guarded trace (old.stands w.replies w.are) (left_found (judged s so_far) w.replies thread opens o is)
    (λ sent. ap (λ t. t && succeeds o.begin.cmd o.begin.code) other))

pub returns_so : LeavesAsTraced → (start : Start) (streams : List StreamPart) (entries : List Line) (x y : SessionParts) (opens : List OpenStep) (thread time : ℕ) (o : OpenStep) (own : List ReplyContent) (count : ℕ)
    → IsReplay start streams entries x opens → next_event streams thread entries ≡ Some (Return thread) → find (is_step_of thread) opens ≡ Some o → AreOfThreads opens → IsOnInstance o.begin → AreRepliesTo o.told own
    → Leaves x o.begin o.call o.held o.skip own y count → IsReplay start streams (line thread time false (handles_of own) ∷ entries) y (without_step thread opens)
returns_so law start streams entries x y opens thread time o own count replay next is apart other may leaves s events first stands trace =
    let gapped : IsGapped (Return thread ∷ events_of streams entries ++ events) = with_return streams entries thread events next trace in
    let before = earlier (Return thread) (events_of streams entries ++ events) gapped in
    let old = replay s events first stands before in
    return_replayed s events first streams entries x opens thread time o own y count next old is apart may (leaves_so law start streams entries x y opens thread o own count s events first stands before old is other leaves)
