use Rattle.std.proofs.Common.{◌≡◌, [], ◌++◌, ◌∙◌, ap, map, nat_eq, subst, sym}
use Rattle.std.specs.List.{IsDistinct}
use Rattle.stream_log.specs.Log.{seen_view}
use Rattle.stream_model.specs.FileParts.{StreamPart}
use Rattle.stream_model.specs.Plans.{DevicePlan}
use Rattle.device_shard.specs.Plans.{plan_content, stream_planned}
use Rattle.device_shard.specs.Shards.{threads_of}
use Rattle.device_shard.proofs.Gathered.{gathered_more, owner_still}
use Rattle.device_shard.proofs.gathering.add_plan.Goals as goal

pub give_tokens-requires : goal.give_tokens-requires
give_tokens-requires g c =
    let named = c.requires.named in
    let same : threads_of named.0.plan.streams ≡ threads_of (map stream_planned c.deref.result.now) =
    ap (λ (p : DevicePlan). threads_of p.streams) named.1 ∙ ap (λ xs. threads_of (map stream_planned xs)) (sym c.deref.ensures.value) in
    record { log = named.2.owner.log ∙ sym named.2.log; held = named.2.held ∙ same; distinct = subst (IsDistinct nat_eq) same named.3.distinct; list = named.2.owner.list }

pub returns-clause-gathered : goal.returns-clause-gathered
returns-clause-gathered g c = λ names n same start can log old.
    gathered_more c.args.clock.now names n (plan_content c.args.plan.now) c.args.given.0 c.args.made.now (record { devices = c.push.new.self; logs = c.push-2.new.self; tokens = c.give_tokens.new.tokens; shards = c.push-3.new.self })
    c.in_ok-fresh.fresh same log.log old (c.in_ok-fresh.ensures.fresh n same start can (owner_still n c.args.given.1 c.give_tokens.new.owner c.give_tokens.ensures.owner log.owner)) c.in_ok-push.ensures.items c.in_ok-push-2.ensures.items
    (c.in_ok-give_tokens.ensures.tokens
    ∙ ap (λ xs. c.args.made.now.tokens.items ++ map (λ (s : StreamPart). (c.args.plan.now.device, seen_view c.args.given.0 s.thread [])) (map stream_planned xs)) c.deref.ensures.value)
    c.in_ok-push-3.ensures.items
