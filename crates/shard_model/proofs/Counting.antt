-- The calls of a log are counted behind those before it.
use Rattle.std.proofs.Common.{◌≡◌, suc, ◌+◌, Bool, cond, Option, Some, None, List, [], ◌∷◌, ◌++◌, length, refl, ap, arith}
use Rattle.std.specs.Prelude.{filter, find}
use Rattle.stream_log.specs.declared.line.Line.{Line}
use Rattle.trace_format.specs.Content.{TraceEvent, Begin, Return}
use Rattle.replay_model.specs.Judged.{judged, returned_by}
use Rattle.replay_model.specs.Past.{Opened, Past, calls_in, is_of, open_calls}
use Rattle.replay_model.specs.Setup.{Setup}
use Rattle.stream_model.specs.FileParts.{StreamPart}
use Rattle.stream_model.specs.Plans.{with_event}
use Rattle.shard_model.specs.Followed.{Follows, IsNextStep, begins_in, events_of, next_event}

same_calls : (s : Setup) (past : Past) (f : Option Opened) → calls_in (returned_by s past f) ≡ calls_in past
same_calls s past None = refl
same_calls s past (Some o) = refl

pub calls_counted : (s : Setup) (streams : List StreamPart) (entries : List Line) (events : List TraceEvent) → Follows streams entries
    → calls_in (judged s (events_of streams entries ++ events)) ≡ calls_in (judged s events) + begins_in entries
calls_counted s streams [] events follows = omega arith
calls_counted s streams (e ∷ before) events follows = go (next_event streams e.thread before) follows.0 (calls_counted s streams before events follows.1)
  where
    go : (o : Option TraceEvent) → IsNextStep e o → calls_in (judged s (events_of streams before ++ events)) ≡ calls_in (judged s events) + begins_in before
        → calls_in (judged s (with_event o (events_of streams before) ++ events)) ≡ calls_in (judged s events) + begins_in (e ∷ before)
    go None next ih = absurd next
    go (Some (Begin b)) next ih =
        let one : begins_in (e ∷ before) ≡ suc (begins_in before) = ap (λ (t : Bool). length (cond t (e ∷ filter (λ x. x.begins) before) (filter (λ x. x.begins) before))) next.0 in
        omega (arith, ih, one)
    go (Some (Return thread)) next ih =
        let none : begins_in (e ∷ before) ≡ begins_in before = ap (λ (t : Bool). length (cond t (e ∷ filter (λ x. x.begins) before) (filter (λ x. x.begins) before))) next in
        let same = same_calls s (judged s (events_of streams before ++ events)) (find (is_of thread) (open_calls (judged s (events_of streams before ++ events)))) in
        omega (arith, ih, none, same)
