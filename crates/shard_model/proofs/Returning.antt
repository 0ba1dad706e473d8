-- A return more in a log.
use Rattle.std.proofs.Common.{◌≡◌, ℕ, Bool, false, cond, not, Option, Some, List, [], ◌∷◌, ◌++◌, map, sym, ◌∙◌, ap, subst}
use Rattle.std.specs.Prelude.{filter, find}
use Rattle.std.specs.List.{AllByRecursion}
use Rattle.std.proofs.lemmas.Bool.{eqb-true}
use Rattle.command_tables.specs.Calls.{ReplyContent}
use Rattle.stream_log.specs.Log.{line}
use Rattle.stream_log.specs.declared.line.Line.{Line}
use Rattle.trace_format.specs.Content.{TraceEvent, Return}
use Rattle.replay_model.specs.Judged.{judged}
use Rattle.replay_model.specs.Past.{Past, is_of, open_calls}
use Rattle.replay_model.specs.Setup.{Setup}
use Rattle.session_model.specs.Stands.{AreRepliesTo}
use Rattle.stream_model.specs.FileParts.{StreamPart}
use Rattle.stream_model.specs.Plans.{with_event}
use Rattle.session_parts.specs.declared.parts.SessionParts.{SessionParts}
use Rattle.chain_session.specs.PartsStanding.{LeavesTrace, LeftCall, PartsStand, is_left_by}
use Rattle.shard_model.specs.Followed.{events_of, next_event}
use Rattle.shard_model.specs.Replies.{AreReplies, RepliesAt, handles_of, last_replies}
use Rattle.shard_model.specs.Replays.{AllMay, AreOfThreads, IsReplayOf, OpenStep, RepliesWith, is_step_of, left_of, without_step}
use Rattle.shard_model.proofs.Lasting.{last_returned, same_replies}
use Rattle.shard_model.proofs.Opens.{found_thread, left_filter, left_same, may_with, of_found, of_others, others_have, with_own}

-- replies in which the call has its own, and the others any that they may have
module _ (s : Setup) (events : List TraceEvent) (first : List ReplyContent) (streams : List StreamPart) (entries : List Line) (x : SessionParts) (opens : List OpenStep) (thread : ℕ) (o : OpenStep) (own : List ReplyContent)
    (old : IsReplayOf s events first streams entries x opens) (is : find (is_step_of thread) opens ≡ Some o) (apart : AreOfThreads opens) (may : AreRepliesTo o.told own) where
  pub its_thread : o.begin.thread ≡ thread
  its_thread = eqb-true o.begin.thread thread (found_thread thread opens o is)

  pub chosen : (f : ℕ → List ReplyContent) → AllMay f (without_step thread opens) → RepliesWith s events first streams entries opens (with_own thread own f)
  chosen f all = old.any (with_own thread own f) (may_with thread own f opens o apart is may all)

  pub its_own : (f : ℕ → List ReplyContent) (all : AllMay f (without_step thread opens)) → last_replies (judged s (events_of streams entries ++ events)) (chosen f all).replies o.begin.thread ≡ own
  its_own f all =
      let had : last_replies (judged s (events_of streams entries ++ events)) (chosen f all).replies o.begin.thread ≡ with_own thread own f o.begin.thread =
      of_found (λ q. last_replies (judged s (events_of streams entries ++ events)) (chosen f all).replies q.begin.thread ≡ with_own thread own f q.begin.thread) thread opens o is (chosen f all).have in
      had ∙ ap (λ (t : Bool). cond t own (f o.begin.thread)) (found_thread thread opens o is)

  -- what was replied to the others so far
  pub some_may : AllMay (last_replies (judged s (events_of streams entries ++ events)) old.some) (without_step thread opens)
  some_may = of_others (λ p. AreRepliesTo p.told (last_replies (judged s (events_of streams entries ++ events)) old.some p.begin.thread)) thread opens (old.answered old.some old.some_are)

-- the log with its return
module _ (s : Setup) (events : List TraceEvent) (first : List ReplyContent) (streams : List StreamPart) (entries : List Line) (x : SessionParts) (opens : List OpenStep) (thread time : ℕ) (o : OpenStep) (own : List ReplyContent) (y : SessionParts) (count : ℕ)
    (next : next_event streams thread entries ≡ Some (Return thread)) (old : IsReplayOf s events first streams entries x opens) (is : find (is_step_of thread) opens ≡ Some o) (apart : AreOfThreads opens) (may : AreRepliesTo o.told own)
    (leaves : (replies : List ReplyContent) → AreReplies s events first streams entries replies → last_replies (judged s (events_of streams entries ++ events)) replies o.begin.thread ≡ own
    → LeavesTrace s (events_of streams entries ++ events) replies (map (left_of (judged s (events_of streams entries ++ events)) replies) opens) thread y count) where
  abbrev so_far : List TraceEvent
  so_far = events_of streams entries ++ events

  abbrev past : Past
  past = judged s so_far

  abbrev new_past : Past
  new_past = judged s (Return thread ∷ so_far)

  abbrev Before : List ReplyContent → Type 0
  Before = AreReplies s events first streams entries

  -- what was replied to others
  last_same : (replies : List ReplyContent) (t : ℕ) → last_replies new_past replies t ≡ last_replies past replies t
  last_same replies t = last_returned s past (find (is_of thread) (open_calls past)) replies t

  all_same : (replies : List ReplyContent) (os : List OpenStep) → AllByRecursion (λ q. last_replies new_past replies q.begin.thread ≡ last_replies past replies q.begin.thread) os
  all_same replies [] = tt
  all_same replies (q ∷ os) = (last_same replies q.begin.thread, all_same replies os)

  -- what was replied to the call is known by its handles
  own_is : (replies : List ReplyContent) → Before replies → handles_of (last_replies past replies thread) ≡ handles_of own → last_replies past replies o.begin.thread ≡ own
  own_is replies are handles =
      let told : AreRepliesTo o.told (last_replies past replies o.begin.thread) = of_found (λ q. AreRepliesTo q.told (last_replies past replies q.begin.thread)) thread opens o is (old.answered replies are) in
      same_replies o.told (last_replies past replies o.begin.thread) own told may (ap (λ t. handles_of (last_replies past replies t)) (its_thread s events first streams entries x opens thread o own old is apart may) ∙ handles)

  stands_then : (after : List ReplyContent) → Before after × (handles_of (last_replies past after thread) ≡ handles_of own) → PartsStand s y (Return thread ∷ so_far) after (map (left_of new_past after) (without_step thread opens))
  stands_then after q =
      let stood = (leaves after q.0 (own_is after q.0 q.1)).stands in
      let lists : filter (λ l. not (is_left_by thread l)) (map (left_of past after) opens) ≡ map (left_of new_past after) (without_step thread opens) =
      left_filter past after thread opens ∙ sym (left_same past new_past after after (without_step thread opens) (all_same after (without_step thread opens))) in
      subst (λ (ls : List LeftCall). PartsStand s y (Return thread ∷ so_far) after ls) lists stood

  may_still : (replies : List ReplyContent) (os : List OpenStep) → AllMay (last_replies past replies) os → AllMay (last_replies new_past replies) os
  may_still replies [] all = tt
  may_still replies (q ∷ os) all = (subst (λ (rs : List ReplyContent). AreRepliesTo q.told rs) (sym (last_same replies q.begin.thread)) all.0, may_still replies os all.1)

  answered_then : (after : List ReplyContent) → Before after × (handles_of (last_replies past after thread) ≡ handles_of own) → AllMay (last_replies new_past after) (without_step thread opens)
  answered_then after q = may_still after (without_step thread opens) (of_others (λ p. AreRepliesTo p.told (last_replies past after p.begin.thread)) thread opens (old.answered after q.0))

  abbrev picked : (f : ℕ → List ReplyContent) → AllMay f (without_step thread opens) → RepliesWith s events first streams entries opens (with_own thread own f)
  picked f all = chosen s events first streams entries x opens thread o own old is apart may f all

  abbrev rest_may : AllMay (last_replies past old.some) (without_step thread opens)
  rest_may = some_may s events first streams entries x opens thread o own old is apart may

  handles_are : (f : ℕ → List ReplyContent) (all : AllMay f (without_step thread opens)) → handles_of (last_replies past (picked f all).replies thread) ≡ handles_of own
  handles_are f all =
      ap (λ t. handles_of (last_replies past (picked f all).replies t)) (sym (its_thread s events first streams entries x opens thread o own old is apart may))
      ∙ ap handles_of (its_own s events first streams entries x opens thread o own old is apart may f all)

  have_still : (replies : List ReplyContent) (f : ℕ → List ReplyContent) (os : List OpenStep) → AllByRecursion (λ q. last_replies past replies q.begin.thread ≡ f q.begin.thread) os
      → AllByRecursion (λ q. last_replies new_past replies q.begin.thread ≡ f q.begin.thread) os
  have_still replies f [] have = tt
  have_still replies f (q ∷ os) have = (last_same replies q.begin.thread ∙ have.0, have_still replies f os have.1)

  abbrev AnyAt : Option TraceEvent → Type 0
  AnyAt e = (f : ℕ → List ReplyContent) → AllMay f (without_step thread opens)
      → (replies : List ReplyContent) × (RepliesAt s past (line thread time false (handles_of own)) e Before replies
      × AllByRecursion (λ q. last_replies (judged s (with_event e (events_of streams entries) ++ events)) replies q.begin.thread ≡ f q.begin.thread) (without_step thread opens))

  any_then : AnyAt (Some (Return thread))
  any_then f all =
      let w = picked f all in
      (w.replies, ((w.are, handles_are f all), have_still w.replies f (without_step thread opens) (others_have thread own f (last_replies past w.replies) opens w.have)))

  -- the log with the return
  pub return_replayed : IsReplayOf s events first streams (line thread time false (handles_of own) ∷ entries) y (without_step thread opens)
  return_replayed = record {
    stands = subst (λ (e : Option TraceEvent). (after : List ReplyContent) → RepliesAt s past (line thread time false (handles_of own)) e Before after
        → PartsStand s y (with_event e (events_of streams entries) ++ events) after (map (left_of (judged s (with_event e (events_of streams entries) ++ events)) after) (without_step thread opens))) (sym next) stands_then;
    answered = subst (λ (e : Option TraceEvent). (after : List ReplyContent) → RepliesAt s past (line thread time false (handles_of own)) e Before after
        → AllMay (last_replies (judged s (with_event e (events_of streams entries) ++ events)) after) (without_step thread opens)) (sym next) answered_then;
    some = (picked (last_replies past old.some) rest_may).replies;
    some_are = subst (λ (e : Option TraceEvent). RepliesAt s past (line thread time false (handles_of own)) e Before (picked (last_replies past old.some) rest_may).replies) (sym next)
        ((picked (last_replies past old.some) rest_may).are, handles_are (last_replies past old.some) rest_may);
    any = λ f all. let w = subst AnyAt (sym next) any_then f all in record { replies = w.0; are = w.1.0; have = w.1.1 };
  }
