use Rattle.std.proofs.Common.{◌≡◌, length, map, take}
use Rattle.command_tables.specs.Calls.{call_content}
use Rattle.layer_model.specs.Terminator.{told_call}
use Rattle.model_driver.specs.Driver.{call_shown}
use Rattle.terminator.specs.Shown.{drivers_named}
use Rattle.terminator.proofs.terminator.Terminator.tell_each.Given as goal

abbrev pub invariant-loop-place : goal.invariant-loop-place
invariant-loop-place l = record {
  told : map call_shown (take l.place l.out.items) ≡ map (told_call l.self.ids (call_content l.call)) (take l.place (drivers_named l.fn.receivers));
  count : length l.out.items ≡ length (drivers_named l.fn.receivers);
}
