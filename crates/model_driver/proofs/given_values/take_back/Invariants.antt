use Rattle.std.proofs.Common.{◌≡◌, ℕ, length, drop, vec_capacity}
use Rattle.std.specs.Prelude.{is_some}
use Rattle.model_driver.specs.Books.{HasHeapRoom, HasBook}
use Rattle.model_driver.specs.Policies.{with_all_back}
use Rattle.model_driver.proofs.given_values.take_back.Given as goal

abbrev pub invariant-loop-value : goal.invariant-loop-value
invariant-loop-value l = record {
  all : with_all_back l.back.items (drop l.value-index l.values) ≡ with_all_back l.initial.back.items l.values;
  heap : is_some l.free ≡ is_some l.initial.free;
  book : HasBook l.back.items l.free;
  long : length l.back.items ≡ length l.initial.back.items;
  room : vec_capacity l.back ≡ vec_capacity l.initial.back;
  free : (room : ℕ) → HasHeapRoom l.initial.free room → HasHeapRoom l.free room;
}
