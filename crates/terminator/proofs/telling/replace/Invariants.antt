use Rattle.std.proofs.Common.{◌≡◌, [], unwrap_or, slice_set}
use Rattle.command_tables.specs.Handles.{HasRoom, list_at}
use Rattle.handle_map.specs.Pairs.{values_of}
use Rattle.object_model.specs.Values.{value_for}
use Rattle.terminator.specs.Shown.{told_so_far}
use Rattle.terminator.proofs.telling.replace.Given as goal

abbrev pub invariant-loop-k : goal.invariant-loop-k
invariant-loop-k l = (l.args.lists ≡ slice_set l.fn.args.lists l.fn.p (told_so_far (λ h. value_for l.fn.driver (unwrap_or (values_of l.issued.ids.entries l.fn.ty h) [])) l.k (list_at l.fn.args.lists l.fn.p))) × HasRoom l.args l.fn.args.slots l.fn.args.room
