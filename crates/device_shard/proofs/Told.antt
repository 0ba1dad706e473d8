-- What a begin told is known by the log before it.
use Rattle.std.proofs.Common.{◌≡◌, Bool, true, Option, Some, None, List, [], ◌∷◌, ◌++◌, refl, sym, ◌∙◌, ap, subst}
use Rattle.command_tables.specs.Calls.{DriverCallContent, ReplyContent}
use Rattle.stream_log.specs.Log.{line}
use Rattle.stream_log.specs.declared.line.Line.{Line}
use Rattle.trace_format.specs.Content.{BeginEvent, TraceEvent, Begin, Return}
use Rattle.replay_model.specs.Judged.{judged}
use Rattle.replay_model.specs.Setup.{Setup}
use Rattle.chain_model.specs.Gaps.{IsGapped}
use Rattle.stream_model.specs.FileParts.{StreamPart}
use Rattle.stream_model.specs.Plans.{with_event}
use Rattle.session_parts.specs.declared.parts.SessionParts.{SessionParts}
use Rattle.shard_model.specs.Followed.{Follows, IsNextStep, events_of, next_event}
use Rattle.shard_model.specs.Replies.{AreReplies, RepliesAt}
use Rattle.shard_model.specs.Replays.{IsReplay, OpenStep, Start, Tells}
use Rattle.shard_start.specs.Starting.{CanStart}

-- a log's beginning follows the plan too
pub follows_before : (streams : List StreamPart) (later entries : List Line) → Follows streams (later ++ entries) → Follows streams entries
follows_before streams [] entries follows = follows
follows_before streams (e ∷ later) entries follows = follows_before streams later entries follows.1

-- and there were replies then
pub record SomeReplies (s : Setup) (events : List TraceEvent) (first : List ReplyContent) (streams : List StreamPart) (entries : List Line) : Type 0 where
  pub replies : List ReplyContent
  pub are : AreReplies s events first streams entries replies

replies_before : (s : Setup) (events : List TraceEvent) (first : List ReplyContent) (streams : List StreamPart) (later entries : List Line) (replies : List ReplyContent) → AreReplies s events first streams (later ++ entries) replies
    → SomeReplies s events first streams entries
replies_before s events first streams [] entries replies are = record { replies = replies; are = are }
replies_before s events first streams (e ∷ later) entries replies are = go (replies_before s events first streams later entries) (next_event streams e.thread (later ++ entries)) are
  where
    go : ((rs : List ReplyContent) → AreReplies s events first streams (later ++ entries) rs → SomeReplies s events first streams entries) → (o : Option TraceEvent) → RepliesAt s (judged s (events_of streams (later ++ entries) ++ events)) e o (AreReplies s events first streams (later ++ entries)) replies → SomeReplies s events first streams entries
    go rest None at = absurd at
    go rest (Some (Begin b)) at = rest at.before at.earlier
    go rest (Some (Return t)) at = rest replies at.0

-- the begin may come behind the log
pub begin_gapped : (start : Start) (streams : List StreamPart) (can : CanStart start streams) (entries : List Line) (b : BeginEvent) → Follows streams entries → next_event streams b.thread entries ≡ Some (Begin b)
    → IsGapped (Begin b ∷ events_of streams entries ++ can.events)
begin_gapped start streams can entries b follows next =
    let more : Follows streams (line b.thread 0 true [] ∷ entries) = (subst (IsNextStep (line b.thread 0 true [])) (sym next) (refl, refl), follows) in
    subst IsGapped (ap (λ (o : Option TraceEvent). with_event o (events_of streams entries) ++ can.events) next) (can.goes_on (line b.thread 0 true [] ∷ entries) more)

-- two say the same of a begin behind the same beginning of a log
module _ (start : Start) (streams : List StreamPart) (can : CanStart start streams) (later entries : List Line) (x : SessionParts) (opens : List OpenStep) (follows : Follows streams (later ++ entries)) (replay : IsReplay start streams (later ++ entries) x opens)
    (b : BeginEvent) (next : next_event streams b.thread entries ≡ Some (Begin b)) where
  gapped : IsGapped (Begin b ∷ events_of streams entries ++ can.events)
  gapped = begin_gapped start streams can entries b (follows_before streams later entries follows) next

  pub skip_alike : (skip other : Bool) (told others : List DriverCallContent) → Tells start streams entries b skip told → Tells start streams entries b other others → skip ≡ other
  skip_alike skip other told others mine his = mine.skipped can.setup can.events can.replies can.stands gapped ∙ sym (his.skipped can.setup can.events can.replies can.stands gapped)

  pub told_alike : (skip other : Bool) (told others : List DriverCallContent) → Tells start streams entries b skip told → Tells start streams entries b other others → told ≡ others
  told_alike skip other told others mine his =
      let now = replay can.setup can.events can.replies can.stands (can.goes_on (later ++ entries) follows) in
      let then_ = replies_before can.setup can.events can.replies streams later entries now.some now.some_are in
      sym (mine.calls can.setup can.events can.replies then_.replies can.stands gapped then_.are) ∙ his.calls can.setup can.events can.replies then_.replies can.stands gapped then_.are
