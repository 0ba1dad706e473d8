use Rattle.std.proofs.Common.{◌≡◌, map}
use Rattle.command_tables.specs.Handles.{HasRoom}
use Rattle.command_tables.specs.Table.{seen_param}
use Rattle.unique_layer.specs.Shown.{entered}
use Rattle.unique_layer.proofs.state.UniqueState.enter_params.Given as goal

abbrev pub invariant-loop-p : goal.invariant-loop-p
invariant-loop-p l = record {
  lists : l.args.lists ≡ entered l.self.ids l.p (map seen_param l.params) l.fn.args.lists;
  marks : l.args.marks ≡ l.fn.args.marks;
  room : HasRoom l.args l.fn.args.slots l.fn.args.room;
}
