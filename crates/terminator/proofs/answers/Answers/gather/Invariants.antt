use Rattle.std.proofs.Common.{◌≡◌, ◌≤◌, length, map, take}
use Rattle.std.specs.Prelude.{vec_capacity}
use Rattle.model_driver.specs.Driver.{reply_shown}
use Rattle.object_model.specs.Values.{values_answered}
use Rattle.terminator.specs.Calls.{answered}
use Rattle.terminator.specs.Shown.{drivers_named}
use Rattle.terminator.specs.Table.{value_of}
use Rattle.terminator.proofs.answers.Answers.gather.Given as goal

abbrev pub invariant-loop-k : goal.invariant-loop-k
invariant-loop-k l = record {
  values : map value_of l.values.items ≡ values_answered l.fn.self.cmd (answered (drivers_named l.fn.self.receivers) (map reply_shown (take l.k l.fn.self.replies.now))) l.fn.place;
  count : length l.values.items ≤ l.k;
  room : vec_capacity l.fn.values ≤ vec_capacity l.values;
}
