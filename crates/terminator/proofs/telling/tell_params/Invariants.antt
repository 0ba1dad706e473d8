use Rattle.std.proofs.Common.{◌≡◌, map}
use Rattle.command_tables.specs.Handles.{HasRoom}
use Rattle.command_tables.specs.Table.{seen_param}
use Rattle.terminator.specs.Shown.{params_so_far}
use Rattle.terminator.proofs.telling.tell_params.Given as goal

abbrev pub invariant-loop-p : goal.invariant-loop-p
invariant-loop-p l = (l.args.lists ≡ params_so_far l.issued.ids l.fn.driver l.p (map seen_param l.params) l.fn.args.lists) × HasRoom l.args l.fn.args.slots l.fn.args.room
