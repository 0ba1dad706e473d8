-- A begin more in a log.
use Rattle.std.proofs.Common.{◌≡◌, ◌==◌, ℕ, Bool, true, false, cond, ◌&&◌, Option, Some, List, [], ◌∷◌, ◌++◌, map, reverse, refl, sym, ◌∙◌, ap, subst, eq-eqb}
use Rattle.std.specs.Prelude.{is_some}
use Rattle.std.specs.List.{AllByRecursion}
use Rattle.std.proofs.lemmas.Bool.{eqb-false, ne_eqb}
use Rattle.command_tables.specs.Calls.{CallContent, DriverCallContent, ReplyContent}
use Rattle.stream_log.specs.Log.{line}
use Rattle.stream_log.specs.declared.line.Line.{Line}
use Rattle.trace_format.specs.Content.{BeginEvent, TraceEvent, Begin}
use Rattle.object_model.specs.Objects.{first_in}
use Rattle.object_model.specs.Routes.{receivers}
use Rattle.replay_model.specs.Direct.{driver_call, driver_calls, valued}
use Rattle.replay_model.specs.Judged.{Begun, begun_of, is_refused, judged}
use Rattle.replay_model.specs.Past.{Past, arguments_in, is_skipped, named, routed}
use Rattle.replay_model.specs.Setup.{Setup, refusal_of}
use Rattle.lifetime_layer.specs.declared.verdict.Verdict.{Verdict}
use Rattle.dispatch_chain.specs.Holding.{HeldCalls}
use Rattle.session_model.specs.Stands.{AreRepliesTo}
use Rattle.stream_model.specs.FileParts.{StreamPart}
use Rattle.stream_model.specs.Plans.{with_event}
use Rattle.session_parts.specs.declared.parts.SessionParts.{SessionParts}
use Rattle.chain_session.specs.PartsStanding.{EntersTrace, LeftCall, PartsStand}
use Rattle.shard_model.specs.Followed.{events_of, next_event}
use Rattle.shard_model.specs.Replies.{AreReplies, BeginReplies, RepliesAt, last_replies}
use Rattle.shard_model.specs.Replays.{AllMay, IsOnInstance, IsReplayOf, NoneOf, OpenStep, left_of, open_step, told_by}
use Rattle.shard_model.proofs.Lasting.{drivers_long, last_other, last_own, some_replies}
use Rattle.shard_model.proofs.Opens.{left_same}

pub not_refused : (s : Setup) (b : BeginEvent) → IsOnInstance b → is_refused s b.cmd b.payload ≡ false
not_refused s b other = ap (λ t. t && is_some (refusal_of (s.outcome b.payload))) other

swapped : (a b : ℕ) → (a == b) ≡ false → (b == a) ≡ false
swapped a b e = ne_eqb b a (λ same. eqb-false a b e (sym same))

module _ (s : Setup) (events : List TraceEvent) (first : List ReplyContent) (streams : List StreamPart) (entries : List Line) (x : SessionParts) (opens : List OpenStep) (b : BeginEvent) (time : ℕ) (call : CallContent) (held : HeldCalls) (verdict : Verdict) (y : SessionParts)
    (next : next_event streams b.thread entries ≡ Some (Begin b)) (old : IsReplayOf s events first streams entries x opens) (none : NoneOf b.thread opens)
    (enters : (replies : List ReplyContent) → AreReplies s events first streams entries replies
    → EntersTrace s (events_of streams entries ++ events) replies (map (left_of (judged s (events_of streams entries ++ events)) replies) opens) b call held verdict y) where
  abbrev so_far : List TraceEvent
  so_far = events_of streams entries ++ events

  abbrev past : Past
  past = judged s so_far

  abbrev begun : Begun
  begun = begun_of s past b

  abbrev new_past : Past
  new_past = judged s (Begin b ∷ so_far)

  abbrev step : OpenStep
  step = open_step b call held verdict y

  abbrev Before : List ReplyContent → Type 0
  Before = AreReplies s events first streams entries

  -- what the drivers are told
  pub told_is : (replies : List ReplyContent) → Before replies → driver_calls (valued past replies) begun.opened ≡ told_by y call verdict.skip
  told_is replies are = go verdict.skip refl
    where
      go : (t : Bool) → verdict.skip ≡ t → driver_calls (valued past replies) begun.opened ≡ told_by y call verdict.skip
      go true skips =
          let skipped : is_skipped begun.opened ≡ true = sym (enters replies are).skip ∙ skips in
          let no_drivers : begun.opened.drivers ≡ [] = ap (λ t. cond t [] (receivers s.drivers (routed past) (first_in (arguments_in (named past) b.args) 0))) skipped in
          rw skips (ap (λ ds. map (driver_call (valued past replies) begun.opened) ds) no_drivers)
      go false sends = rw sends (sym ((enters replies are).told sends))

  -- the begin's own replies, and what was replied to others
  own_is : (own before : List ReplyContent) → AreRepliesTo (driver_calls (valued past before) begun.opened) own → last_replies new_past (reverse own ++ before) b.thread ≡ own
  own_is own before may = last_own b begun.opened begun.reports past own before b.thread (eq-eqb b.thread b.thread refl) (drivers_long (valued past before) begun.opened own may)

  other_is : (own before : List ReplyContent) (thread : ℕ) → AreRepliesTo (driver_calls (valued past before) begun.opened) own → (thread == b.thread) ≡ false → last_replies new_past (reverse own ++ before) thread ≡ last_replies past before thread
  other_is own before thread may apart = last_other b begun.opened begun.reports past own before thread (swapped thread b.thread apart) (drivers_long (valued past before) begun.opened own may)

  others_are : (own before : List ReplyContent) → AreRepliesTo (driver_calls (valued past before) begun.opened) own → (os : List OpenStep) → NoneOf b.thread os
      → AllByRecursion (λ o. last_replies new_past (reverse own ++ before) o.begin.thread ≡ last_replies past before o.begin.thread) os
  others_are own before may [] apart = tt
  others_are own before may (o ∷ os) apart = (other_is own before o.begin.thread may apart.0, others_are own before may os apart.1)

  stands_then : (after : List ReplyContent) → BeginReplies s past b Before after → PartsStand s y (Begin b ∷ so_far) after (map (left_of new_past after) (step ∷ opens))
  stands_then after q =
      let stood = (enters q.before q.earlier).stands q.own q.may in
      let one : record { begin = b; call = call; held = held; skip = verdict.skip; replies = q.own } ∷ map (left_of past q.before) opens ≡ map (left_of new_past (reverse q.own ++ q.before)) (step ∷ opens) =
      ap (λ (rs : List ReplyContent). record { begin = b; call = call; held = held; skip = verdict.skip; replies = rs } ∷ map (left_of past q.before) opens) (sym (own_is q.own q.before q.may))
      ∙ ap (λ (ls : List LeftCall). left_of new_past (reverse q.own ++ q.before) step ∷ ls) (sym (left_same past new_past q.before (reverse q.own ++ q.before) opens (others_are q.own q.before q.may opens none))) in
      subst (λ (rs : List ReplyContent). PartsStand s y (Begin b ∷ so_far) rs (map (left_of new_past rs) (step ∷ opens))) (sym q.are)
      (subst (λ (ls : List LeftCall). PartsStand s y (Begin b ∷ so_far) (reverse q.own ++ q.before) ls) one stood)

  may_then : (own before : List ReplyContent) → AreRepliesTo (driver_calls (valued past before) begun.opened) own → (os : List OpenStep) → NoneOf b.thread os → AllMay (last_replies past before) os → AllMay (last_replies new_past (reverse own ++ before)) os
  may_then own before may [] apart all = tt
  may_then own before may (o ∷ os) apart all =
      (subst (λ (rs : List ReplyContent). AreRepliesTo o.told rs) (sym (other_is own before o.begin.thread may apart.0)) all.0, may_then own before may os apart.1 all.1)

  answered_then : (after : List ReplyContent) → BeginReplies s past b Before after → AllMay (last_replies new_past after) (step ∷ opens)
  answered_then after q =
      subst (λ (rs : List ReplyContent). AllMay (last_replies new_past rs) (step ∷ opens)) (sym q.are)
      ((
        subst (λ (rs : List ReplyContent). AreRepliesTo step.told rs) (sym (own_is q.own q.before q.may)) (subst (λ (cs : List DriverCallContent). AreRepliesTo cs q.own) (told_is q.before q.earlier) q.may),
        may_then q.own q.before q.may opens none (old.answered q.before q.earlier),
      ))

  -- some replies of the begin's drivers
  abbrev own_some : List ReplyContent
  own_some = (some_replies (driver_calls (valued past old.some) begun.opened)).0

  some_then : BeginReplies s past b Before (reverse own_some ++ old.some)
  some_then = record { before = old.some; own = own_some; earlier = old.some_are; may = (some_replies (driver_calls (valued past old.some) begun.opened)).1; are = refl }

  -- any replies that they may have
  have_then : (own before : List ReplyContent) (f : ℕ → List ReplyContent) → AreRepliesTo (driver_calls (valued past before) begun.opened) own → (os : List OpenStep) → NoneOf b.thread os
      → AllByRecursion (λ o. last_replies past before o.begin.thread ≡ f o.begin.thread) os → AllByRecursion (λ o. last_replies new_past (reverse own ++ before) o.begin.thread ≡ f o.begin.thread) os
  have_then own before f may [] apart have = tt
  have_then own before f may (o ∷ os) apart have = (other_is own before o.begin.thread may apart.0 ∙ have.0, have_then own before f may os apart.1 have.1)

  abbrev AnyAt : Option TraceEvent → Type 0
  AnyAt o = (f : ℕ → List ReplyContent) → AllMay f (step ∷ opens)
      → (replies : List ReplyContent) × (RepliesAt s past (line b.thread time true []) o Before replies × AllByRecursion (λ q. last_replies (judged s (with_event o (events_of streams entries) ++ events)) replies q.begin.thread ≡ f q.begin.thread) (step ∷ opens))

  any_then : AnyAt (Some (Begin b))
  any_then f may =
      let w = old.any f may.1 in
      let own : List ReplyContent = f b.thread in
      let told : AreRepliesTo (driver_calls (valued past w.replies) begun.opened) own = subst (λ (cs : List DriverCallContent). AreRepliesTo cs own) (sym (told_is w.replies w.are)) may.0 in
      (reverse own ++ w.replies, (record { before = w.replies; own = own; earlier = w.are; may = told; are = refl }, (own_is own w.replies told, have_then own w.replies f told opens none w.have)))

  -- the log with the begin
  pub begin_replayed : IsReplayOf s events first streams (line b.thread time true [] ∷ entries) y (step ∷ opens)
  begin_replayed = record {
    stands = subst (λ (o : Option TraceEvent). (after : List ReplyContent) → RepliesAt s past (line b.thread time true []) o Before after
        → PartsStand s y (with_event o (events_of streams entries) ++ events) after (map (left_of (judged s (with_event o (events_of streams entries) ++ events)) after) (step ∷ opens))) (sym next) stands_then;
    answered = subst (λ (o : Option TraceEvent). (after : List ReplyContent) → RepliesAt s past (line b.thread time true []) o Before after
        → AllMay (last_replies (judged s (with_event o (events_of streams entries) ++ events)) after) (step ∷ opens)) (sym next) answered_then;
    some = reverse own_some ++ old.some;
    some_are = subst (λ (o : Option TraceEvent). RepliesAt s past (line b.thread time true []) o Before (reverse own_some ++ old.some)) (sym next) some_then;
    any = λ f may. let w = subst AnyAt (sym next) any_then f may in record { replies = w.0; are = w.1.0; have = w.1.1 };
  }
