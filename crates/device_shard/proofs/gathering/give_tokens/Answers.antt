use Rattle.std.proofs.Common.{◌∙◌, List, ap}
use Rattle.stream_log.specs.Log.{OwnerView, seen_view}
use Rattle.stream_log.specs.declared.line.Line.{Line}
use Rattle.device_shard.proofs.Gathered.{given_still, gives_next, tokens_more}
use Rattle.device_shard.proofs.gathering.give_tokens.Goals as goal

pub give-token-requires : goal.give-token-requires
give-token-requires c = record {
  log = ap (λ (o : OwnerView). o.log) c.loop-stream.invariant.owner ∙ c.requires.log;
  held = (gives_next c.args.streams.now c.loop-stream.stream-index c.stream-item.result c.loop-stream.owner.held c.loop-stream-test.true c.stream-item.is c.loop-stream.invariant.held c.loop-stream.invariant.distinct).has;
}

pub loop-stream-preserved : goal.loop-stream-preserved
loop-stream-preserved c =
    let next = gives_next c.args.streams.now c.loop-stream.stream-index c.stream-item.result c.loop-stream.owner.held c.loop-stream-test.true c.stream-item.is c.loop-stream.invariant.held c.loop-stream.invariant.distinct in
    record {
      owner = given_still c.loop-stream.owner c.args.owner.now c.give-token.new.self c.stream-item.result.0 c.loop-stream.invariant.owner c.give-token.ensures.owner;
      held = ap (λ (o : OwnerView). o.held) c.give-token.ensures.owner ∙ next.rest;
      distinct = next.distinct;
      tokens = tokens_more c.args.device c.args.log.now c.args.streams.now c.loop-stream.stream-index c.stream-item.result c.args.tokens.now.items c.loop-stream.tokens.items c.push.new.self.items c.give-token.result c.loop-stream-test.true
          c.stream-item.is c.loop-stream.invariant.tokens
          (c.give-token.ensures.token ∙ ap (λ (es : List Line). seen_view c.args.log.now c.stream-item.result.0 es) (ap (λ (o : OwnerView). o.list) c.loop-stream.invariant.owner ∙ c.requires.list)) c.in_ok-push.ensures.items;
    }
