use Rattle.std.proofs.Common.{◌<◌, ℕ, List, length, unwrap_or, ap, ◌∙◌, arith, get_or}
use Rattle.command_tables.specs.Handles.{list_at}
use Rattle.handle_map.specs.Pairs.{values_of}
use Rattle.unique_layer.proofs.Places.{replaced_more, room_on}
use Rattle.unique_layer.proofs.state.UniqueState.replace.Goals as goal

pub loop-k-preserved : goal.loop-k-preserved
loop-k-preserved c =
    let less : c.loop-k.k < length (list_at c.args.args.now.lists c.args.p) = omega (arith, ap (λ (xs : List ℕ). length xs) c.param-k-end.ensures, c.loop-k-test.true) in
    record {
      lists = c.set.ensures.lists ∙ replaced_more (λ h. unwrap_or (values_of c.args.self.now.ids.entries c.args.ty h) 0) c.args.args.now.lists c.loop-k.args.lists c.args.p c.loop-k.k c.value_below.result c.requires c.loop-k.invariant.lists less
          (c.value_below.ensures ∙ ap (λ (xs : List ℕ). unwrap_or (values_of c.args.self.now.ids.entries c.args.ty (get_or xs c.loop-k.k 0)) 0) c.param.ensures);
      marks = c.set.ensures.marks ∙ c.loop-k.invariant.marks;
      room = room_on c.args.args.now c.loop-k.args c.set.new.self c.loop-k.invariant.room c.set.ensures.room;
    }
