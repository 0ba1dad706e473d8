use Rattle.std.proofs.Common.{◌≡◌, unwrap_or, slice_set}
use Rattle.command_tables.specs.Handles.{HasRoom, list_at}
use Rattle.handle_map.specs.Pairs.{values_of}
use Rattle.unique_layer.specs.Shown.{mapped}
use Rattle.unique_layer.proofs.state.UniqueState.replace.Given as goal

abbrev pub invariant-loop-k : goal.invariant-loop-k
invariant-loop-k l = record {
  lists : l.args.lists ≡ slice_set l.fn.args.lists l.fn.p (mapped (λ h. unwrap_or (values_of l.self.ids.entries l.fn.ty h) 0) l.k (list_at l.fn.args.lists l.fn.p));
  marks : l.args.marks ≡ l.fn.args.marks;
  room : HasRoom l.args l.fn.args.slots l.fn.args.room;
}
