use Rattle.std.proofs.Common.{◌∙◌, ap, reverse, arith}
use Rattle.std.proofs.lemmas.List.{length-map, reverse-reverse}
use Rattle.stream_crew.specs.Dealing.{items_of}
use Rattle.stream_crew.proofs.Dealt.{dealt_all, dealt_first, dealt_on, enough}
use Rattle.stream_crew.proofs.dealing.deal.Goals as goal

pub loop-plan-init : goal.loop-plan-init
loop-plan-init c =
    dealt_first c.args.tokens.items c.reverse.new.self.items c.args.plans c.args.streams (items_of c.in_ok-slots.slots.items) c.in_ok-slots.ensures (ap (λ ts. reverse ts) c.reverse.ensures.items ∙ reverse-reverse c.args.tokens.items)

pub deal_one_each-requires : goal.deal_one_each-requires
deal_one_each-requires c =
    let some = enough c.args.tokens.items c.args.plans c.args.streams c.loop-plan._plan (items_of c.loop-plan.slots.items) c.loop-plan.tokens.items c.requires.0 c.requires.1 c.requires.2 c.requires.3 c.requires.4 c.requires.5 c.loop-plan-test.true
    c.loop-plan.invariant in
    omega (arith, some, length-map c.loop-plan.slots.items (λ v. v.items))

pub loop-plan-preserved : goal.loop-plan-preserved
loop-plan-preserved c =
    dealt_on c.args.tokens.items c.args.plans c.args.streams c.loop-plan._plan (items_of c.loop-plan.slots.items) (items_of c.deal_one_each.new.slots.items) c.loop-plan.tokens.items c.deal_one_each.new.tokens.items c.loop-plan-test.true c.loop-plan.invariant (
    λ round rest all count.
    let many = count ∙ length-map c.loop-plan.slots.items (λ v. v.items) in (c.in_ok-deal_one_each.ensures.slots round rest all many, c.in_ok-deal_one_each.ensures.tokens round rest all many)
    )

pub returns : goal.returns
returns c = λ names threads many count have given.
    dealt_all c.args.tokens.items c.args.plans c.args.streams c.loop-plan._plan (items_of c.loop-plan.slots.items) c.loop-plan.tokens.items names threads many count have given c.loop-plan-test.false c.loop-plan.invariant
