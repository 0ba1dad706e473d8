use Rattle.std.proofs.Common.{◌≡◌, ◌+◌, ◌∙◌, ◌++◌, ◌∷◌, [], Bool, Bor, Global, Vec, length, map, position, take, sym, ap, subst, arith}
use Rattle.std.proofs.lemmas.List.{map_more}
use Rattle.stream_log.specs.declared.entry.Entry.{Entry}
use Rattle.stream_log.specs.Log.{line_of}
use Rattle.model_driver.specs.Driver.{reply_shown}
use Rattle.threaded_replay.specs.Files.{stream_part}
use Rattle.stream_merge.specs.Passing.{Moved}
use Rattle.stream_merge.proofs.Counts.{is_of, whole_slice}
use Rattle.stream_merge.proofs.Passed.{Passed, passed_step}
use Rattle.stream_merge.proofs.replies.gather_replies.Goals as goal

pub loop-entry-preserved : goal.loop-entry-preserved
loop-entry-preserved c =
    let shown = λ (x : Bor Entry). line_of x.now in
    let streams = map stream_part c.args.file.now.streams.items in
    let marks = map (λ (s : Vec Bool Global). s.items) c.args.sent.now in
    let e = line_of c.entry-item.result.now in
    let more = map reply_shown c.pass.new.replies.items in
    let before = map reply_shown c.loop-entry.replies.items in
    let grown : map shown (take (c.loop-entry.entry-index + 1) c.args.entries.now) ≡ map shown (take c.loop-entry.entry-index c.args.entries.now) ++ e ∷ [] =
    map_more shown c.args.entries.now c.loop-entry.entry-index c.entry-item.result (omega arith)
    ∙ ap (λ x. map shown (take c.loop-entry.entry-index c.args.entries.now) ++ shown x ∷ []) (sym c.entry-item.is) in
    let moved : Moved (position (is_of e.thread) streams) streams marks e c.loop-entry.cursors.items before c.pass.new.cursors more =
    subst (λ cs. Moved (position (is_of e.thread) streams) streams marks e cs before c.pass.new.cursors more) c.deref_mut.ensures.value
    (subst (λ ss. Moved (position (is_of e.thread) (map stream_part ss)) (map stream_part ss) marks e c.deref_mut.result.now before c.pass.new.cursors more) c.deref.ensures.value c.in_ok-pass.ensures) in
    let next : Passed streams marks (map shown (take (c.loop-entry.entry-index + 1) c.args.entries.now)) c.pass.new.cursors more =
    subst (λ d. Passed streams marks d c.pass.new.cursors more) (sym grown)
    (passed_step streams marks (map shown (take c.loop-entry.entry-index c.args.entries.now)) e c.loop-entry.cursors.items c.pass.new.cursors before more c.loop-entry.invariant moved) in
    subst (λ cs. Passed streams marks (map shown (take (c.loop-entry.entry-index + 1) c.args.entries.now)) cs more)
    (sym (whole_slice c.loop-entry.cursors.len c.pass.new.cursors c.loop-entry.cursors.items
    (omega (arith, c.pass.auto.cursors, ap length c.deref_mut.ensures.value, c.loop-entry.cursors.ok.0)) (omega (arith, c.loop-entry.cursors.ok.0)))) next
