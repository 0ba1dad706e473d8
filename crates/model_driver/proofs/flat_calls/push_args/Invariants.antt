use Rattle.std.proofs.Common.{◌≡◌, ◌+◌, ◌≤◌, ◌++◌, take}
use Rattle.command_tables.specs.Handles.{count_in}
use Rattle.model_driver.proofs.flat_calls.push_args.Given as goal

abbrev pub invariant-loop-p : goal.invariant-loop-p
invariant-loop-p l = record {
  lists : l.lists.lists ≡ l.initial.lists.lists ++ take l.p l.args.lists;
  count : l.lists.count ≡ l.initial.lists.count + count_in (take l.p l.args.lists);
  slots : l.initial.lists.slots ≤ l.lists.slots + l.p;
  room : l.initial.lists.room ≤ l.lists.room + count_in (take l.p l.args.lists);
}
