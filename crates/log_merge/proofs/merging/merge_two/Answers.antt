use Rattle.std.proofs.Common.{◌⊎◌, inl, inr, ◌∙◌, length, ◌≤◌}
use Rattle.log_merge.proofs.Entries.{took_left, took_right, rest_follows, two_rests}
use Rattle.log_merge.proofs.merging.merge_two.Goals as goal
use Rattle.log_merge.proofs.merging.merge_two.Goals.{then-loop-i-test+else-j-ys, else-loop-i-test}

pub loop-i-preserved-then-comes_first : goal.loop-i-preserved-then-comes_first
loop-i-preserved-then-comes_first c =
    let l = c.loop-i in
    took_left c.args.xs.now c.args.ys.now l.merged.items c.push.new.self.items l.i l.j c.index-xs-i.result c.index-ys-j.result c.index-xs-i-then-comes_first.result l.invariant
    c.loop-i-test.true c.if-j-ys.true c.index-xs-i.is c.index-ys-j.is c.index-xs-i-then-comes_first.is c.if-comes_first.ensures c.in_ok-push.ensures.items

pub loop-i-preserved : goal.loop-i-preserved
loop-i-preserved c =
    let l = c.loop-i in
    took_right c.args.xs.now c.args.ys.now l.merged.items c.push-else-comes_first.new.self.items l.i l.j c.index-xs-i.result c.index-ys-j.result c.index-ys-j-else-comes_first.result l.invariant
    c.loop-i-test.true c.if-j-ys.true c.index-xs-i.is c.index-ys-j.is c.index-ys-j-else-comes_first.is c.if-comes_first.ensures c.in_ok-push-2.ensures.items

pub returns : goal.returns
returns c =
    let l = c.loop-i in
    let past : (length c.args.xs.now ≤ l.i) ⊎ (length c.args.ys.now ≤ l.j) =
    elim c.loop-i-test.branch [ then-loop-i-test+else-j-ys w ↦ inr w.if-j-ys.false | else-loop-i-test w ↦ inl w.loop-i-test.false ] in
    rest_follows c.args.xs.now c.args.ys.now l.merged.items c.extend_from_slice-2.new.self.items l.i l.j l.invariant past
    (c.in_ok-extend_from_slice-2.ensures.items ∙ two_rests c.args.xs.now c.args.ys.now l.merged.items c.extend_from_slice.new.self.items l.i l.j c.in_ok-extend_from_slice.ensures.items)
