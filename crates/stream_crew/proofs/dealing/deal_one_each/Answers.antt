use Rattle.std.proofs.Common.{◌≡◌, ◌<◌, ◌++◌, [], ◌∷◌, ◌∙◌, ap, length, refl, sym, arith}
use Rattle.std.specs.Prelude.{option_to_list}
use Rattle.std.proofs.lemmas.List.{length-map, length_push}
use Rattle.stream_crew.specs.Dealing.{items_of}
use Rattle.stream_crew.proofs.Dealt.{deal_step, dealt_none, same_count}
use Rattle.stream_crew.proofs.dealing.deal_one_each.Goals as goal

pub loop-number-init : goal.loop-number-init
loop-number-init c = record { count = refl; left = omega arith; dealt = λ round rest all count. (sym (dealt_none (items_of c.args.slots.now.items)), all) }

pub loop-number-preserved : goal.loop-number-preserved
loop-number-preserved c =
    let popped : c.loop-number.tokens.items ≡ c.pop.new.self.items ++ c.unwrap-token.result ∷ [] = c.pop.ensures.items ∙ ap (λ o. c.pop.new.self.items ++ option_to_list o) c.unwrap-token.ensures in
    let fewer = ap (λ ts. length ts) popped in
    let less : c.loop-number.number < length c.args.slots.now.items = omega (arith, c.loop-number-test.true, c.len-number-end.ensures, c.args.slots.now.ok.0) in
    record {
      count = same_count c.loop-number.slots.items c.add_slot.new.slots.items c.loop-number.number _ c.in_ok-add_slot.ensures ∙ c.loop-number.invariant.count;
      left = omega (arith, fewer, length_push c.pop.new.self.items c.unwrap-token.result, c.loop-number.invariant.left);
      dealt = λ round rest all count.
          let was = c.loop-number.invariant.dealt round rest all count in
          deal_step (items_of c.args.slots.now.items) (items_of c.loop-number.slots.items) (items_of c.add_slot.new.slots.items) round rest c.loop-number.tokens.items c.pop.new.self.items c.loop-number.number c.unwrap-token.result
          (omega (arith, less, length-map c.args.slots.now.items (λ v. v.items))) (count ∙ sym (length-map c.args.slots.now.items (λ v. v.items))) popped c.in_ok-add_slot.ensures was.0 was.1;
    }
