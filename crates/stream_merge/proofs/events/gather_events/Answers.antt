use Rattle.std.proofs.Common.{◌≡◌, ◌+◌, ◌∙◌, ◌++◌, ◌∷◌, [], Bor, length, map, position, take, sym, ap, subst, arith}
use Rattle.std.proofs.lemmas.List.{map_more}
use Rattle.stream_log.specs.declared.entry.Entry.{Entry}
use Rattle.stream_log.specs.Log.{line_of}
use Rattle.trace_format.specs.Content.{content}
use Rattle.threaded_replay.specs.Files.{stream_part}
use Rattle.stream_merge.specs.Passing.{Turned}
use Rattle.stream_merge.proofs.Counts.{EventsPassed, events_step, is_of, whole_slice}
use Rattle.stream_merge.proofs.events.gather_events.Goals as goal

pub loop-entry-preserved : goal.loop-entry-preserved
loop-entry-preserved c =
    let shown = λ (x : Bor Entry). line_of x.now in
    let streams = map stream_part c.args.file.now.streams.items in
    let e = line_of c.entry-item.result.now in
    let more = map content c.take_turn.new.events.items in
    let before = map content c.loop-entry.events.items in
    let grown : map shown (take (c.loop-entry.entry-index + 1) c.args.entries.now) ≡ map shown (take c.loop-entry.entry-index c.args.entries.now) ++ e ∷ [] =
    map_more shown c.args.entries.now c.loop-entry.entry-index c.entry-item.result (omega arith)
    ∙ ap (λ x. map shown (take c.loop-entry.entry-index c.args.entries.now) ++ shown x ∷ []) (sym c.entry-item.is) in
    let moved : Turned (position (is_of e.thread) streams) streams c.loop-entry.counts.items before c.take_turn.new.counts more =
    subst (λ cs. Turned (position (is_of e.thread) streams) streams cs before c.take_turn.new.counts more) c.deref_mut.ensures.value
    (subst (λ ss. Turned (position (is_of e.thread) (map stream_part ss)) (map stream_part ss) c.deref_mut.result.now before c.take_turn.new.counts more) c.deref.ensures.value c.in_ok-take_turn.ensures) in
    let next : EventsPassed streams (map shown (take (c.loop-entry.entry-index + 1) c.args.entries.now)) c.take_turn.new.counts more =
    subst (λ d. EventsPassed streams d c.take_turn.new.counts more) (sym grown)
    (events_step streams (map shown (take c.loop-entry.entry-index c.args.entries.now)) e c.loop-entry.counts.items c.take_turn.new.counts before more c.loop-entry.invariant moved) in
    subst (λ cs. EventsPassed streams (map shown (take (c.loop-entry.entry-index + 1) c.args.entries.now)) cs more)
    (sym (whole_slice c.loop-entry.counts.len c.take_turn.new.counts c.loop-entry.counts.items
    (omega (arith, c.take_turn.auto.counts, ap length c.deref_mut.ensures.value, c.loop-entry.counts.ok.0)) (omega (arith, c.loop-entry.counts.ok.0)))) next
