use Rattle.std.proofs.Common.{◌<◌, ◌∙◌, ◌++◌, ◌∷◌, [], ℕ, Global, Vec, Some, None, length, map, set, sym, ap, subst, arith, append-nil}
use Rattle.std.proofs.lemmas.List.{length-map, map-append}
use Rattle.trace_format.specs.declared.event.Event.{Event}
use Rattle.trace_format.specs.Content.{content}
use Rattle.threaded_replay.specs.Files.{stream_part}
use Rattle.stream_merge.specs.Passing.{Turned}
use Rattle.stream_merge.proofs.Counts.{place_within, turn_at}
use Rattle.stream_merge.proofs.events.take_turn.Goals as goal

pub returns-in_ok-push : goal.returns-in_ok-push
returns-in_ok-push c =
    let within : c.in-Some.place < length c.args.streams.now =
    omega (arith, place_within (map stream_part c.args.streams.now) c.args.thread c.in-Some.place (sym c.in-Some.ensures), length-map c.args.streams.now stream_part) in
    subst (λ o. Turned o (map stream_part c.args.streams.now) c.args.counts.now (map content c.args.events.now.items) (set c.args.counts.now c.in-Some.place c.next_event.new.count) (map content c.push.new.self.items)) c.in-Some.ensures
    (turn_at c.args.streams.now c.in-Some.place c.index-streams-place.result c.args.counts.now c.next_event.new.count (map content c.args.events.now.items) (map content c.push.new.self.items) c.deref.result.now
    (Some (content c.in-Some-next_event.event.now)) within c.index-streams-place.is (c.deref.ensures.value ∙ ap (λ (x : ℕ × Vec Event Global). x.1.items) (sym c.index-streams-place.is)) c.next_event.ensures.count c.in-Some-next_event.ensures.event
    (ap (map content) c.in_ok-push.ensures.items ∙ (map-append content c.args.events.now.items (c.in_ok-copy_event.field-0 ∷ []) ∙ ap (λ x. map content c.args.events.now.items ++ x ∷ []) c.in_ok-copy_event.ensures)))

pub returns-in_default-next_event : goal.returns-in_default-next_event
returns-in_default-next_event c =
    let within : c.in-Some.place < length c.args.streams.now =
    omega (arith, place_within (map stream_part c.args.streams.now) c.args.thread c.in-Some.place (sym c.in-Some.ensures), length-map c.args.streams.now stream_part) in
    subst (λ o. Turned o (map stream_part c.args.streams.now) c.args.counts.now (map content c.args.events.now.items) (set c.args.counts.now c.in-Some.place c.next_event.new.count) (map content c.args.events.now.items)) c.in-Some.ensures
    (turn_at c.args.streams.now c.in-Some.place c.index-streams-place.result c.args.counts.now c.next_event.new.count (map content c.args.events.now.items) (map content c.args.events.now.items) c.deref.result.now
    None within c.index-streams-place.is (c.deref.ensures.value ∙ ap (λ (x : ℕ × Vec Event Global). x.1.items) (sym c.index-streams-place.is)) c.next_event.ensures.count c.in_default-next_event.ensures.event
    (sym (append-nil (map content c.args.events.now.items))))
