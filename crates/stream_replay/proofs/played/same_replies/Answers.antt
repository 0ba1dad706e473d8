use Rattle.std.proofs.Common.{IsTrue, false, arith}
use Rattle.stream_replay.proofs.PlayingLists.{one_differs}
use Rattle.stream_replay.proofs.played.same_replies.Goals as goal

pub returns-then-not-same_reply : goal.returns-then-not-same_reply
returns-then-not-same_reply c = (
  λ (none : IsTrue false). cc none,
  λ same.
      let k = c.loop-k.k in
      let alike = one_differs c.args.some.now c.args.others.now k c.index-some-k.result c.index-others-k.result c.loop-k-test.true (omega (arith, c.loop-k-test.true, c.if-some-others.false)) c.index-some-k.is c.index-others-k.is same in
      let yes : IsTrue c.same_reply.result = c.same_reply.ensures.1 alike in
      cc (yes, c.if-not-same_reply.true),
)
