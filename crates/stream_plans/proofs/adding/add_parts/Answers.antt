use Rattle.std.proofs.Common.{◌≡◌, ◌∙◌, ◌++◌, ◌∷◌, [], arith, ap, length, map, sym}
use Rattle.std.specs.Prelude.{option_to_list}
use Rattle.std.proofs.lemmas.List.{length-append, length-map}
use Rattle.stream_plans.specs.Contents.{plan_content}
use Rattle.stream_plans.specs.Dealt.{events_in, with_parts}
use Rattle.stream_plans.proofs.AddedLemmas.{no_parts, none_left, part_next}
use Rattle.stream_plans.proofs.adding.add_parts.Goals as goal

pub loop-part-preserved : goal.loop-part-preserved
loop-part-preserved c =
    let part = c.in-Some.part in
    let left = c.pop.new.self.items in
    let plans = c.loop-part.plans.items in
    let now = c.add_part.new.plans.items in
    let is : c.loop-part.parts.items ≡ left ++ part ∷ [] = c.pop.ensures.items ∙ ap (λ o. left ++ option_to_list o) c.in-Some.is in
    let long : length c.loop-part.parts.items ≡ length (left ++ part ∷ []) = ap (λ xs. length xs) is in
    let next = part_next c.args.thread plans now c.loop-part.parts.items left part c.len.result is (c.len.ensures ∙ c.pop.new.self.ok.0) c.loop-part.invariant.fits c.in_ok-add_part.ensures in
    record {
      fits = omega (arith, long, length-append left (part ∷ []), next.count, length-map plans plan_content, length-map now plan_content, c.loop-part.invariant.fits);
      added = next.same ∙ c.loop-part.invariant.added;
    }

pub returns : goal.returns
returns c =
    let plans = map plan_content c.loop-part.plans.items in
    let none : c.loop-part.parts.items ≡ [] = none_left c.loop-part.parts.items c.pop.result c.in_default.is (λ some. c.pop.ensures.variant.1 (omega (arith, some, c.loop-part.parts.ok.0))) in
    sym (no_parts c.args.thread plans) ∙ (ap (λ parts. with_parts c.args.thread plans (events_in parts)) (sym none) ∙ c.loop-part.invariant.added)
