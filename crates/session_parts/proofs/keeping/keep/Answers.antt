use Rattle.std.proofs.Common.{length, arith}
use Rattle.object_model.specs.Keys.{key_payload}
use Rattle.replay_model.specs.Past.{is_new, retrieval}
use Rattle.session_parts.specs.Opened.{returning_shown}
use Rattle.session_parts.proofs.Passing.{bytes_left, bytes_more, passed_more}
use Rattle.session_parts.proofs.keeping.keep.Goals as goal

pub loop-b-preserved : goal.loop-b-preserved
loop-b-preserved c = record {
  kept = passed_more (retrieval (returning_shown c.args.call) c.args.owner) (is_new c.args.births.now.births) c.args.made.now c.loop-b.b-index _ c.args.table.now.kept c.loop-b.table.kept c.keep_new.new.table.kept c.loop-b-test.true c.loop-b.invariant.kept
      c.in_ok-keep_new.ensures.kept;
  spare = omega (arith, c.loop-b.invariant.spare, c.in_ok-keep_new.ensures.spare);
  bytes = bytes_more c.args.table.now.bytes c.loop-b.table.bytes c.keep_new.new.table.bytes c.loop-b.b-index (length (key_payload c.args.call.cmd c.args.call.payload.now)) c.loop-b.invariant.bytes c.in_ok-keep_new.ensures.bytes;
}

pub returns-in_err-keep_new-clause-succeeds : goal.returns-in_err-keep_new-clause-succeeds
returns-in_err-keep_new-clause-succeeds c = λ few bytes.
    let i = c.loop-b.b-index in
    let n = length c.args.made.now in
    let d = length (key_payload c.args.call.cmd c.args.call.payload.now) in
    let wrong = c.in_err-keep_new.ensures.succeeds (omega (arith, few, c.loop-b.invariant.spare, c.loop-b-test.true)) (bytes_left c.args.table.now.bytes c.loop-b.table.bytes i n d c.loop-b.invariant.bytes c.loop-b-test.true bytes) in
    cc wrong
