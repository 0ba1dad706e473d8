use Rattle.std.proofs.Common.{◌≡◌, ℕ, ◌≤◌, ◌+◌, ◌-◌, ◌++◌, length, vec_capacity}
use Rattle.std.specs.Prelude.{is_some}
use Rattle.model_driver.specs.Books.{HasHeapRoom, HasBook}
use Rattle.model_driver.specs.Policies.{after_giving, values_given}
use Rattle.model_driver.proofs.given_values.give.Given as goal

abbrev pub invariant-loop-turn : goal.invariant-loop-turn
invariant-loop-turn l = record {
  values : l.handles.items ++ values_given l.policy l.back.items (l.count - l._turn) ≡ l.initial.handles.items ++ values_given l.policy l.initial.back.items l.count;
  behind : after_giving l.policy l.back.items (l.count - l._turn) ≡ after_giving l.policy l.initial.back.items l.count;
  heap : is_some l.free ≡ is_some l.initial.free;
  book : HasBook l.back.items l.free;
  room : length l.back.items + (l.count - l._turn) ≤ vec_capacity l.back;
  grown : length l.back.items + (l.count - l._turn) ≤ length l.initial.back.items + l.count;
  capacity : vec_capacity l.initial.back ≤ vec_capacity l.back;
  free : (room : ℕ) → HasHeapRoom l.initial.free room → HasHeapRoom l.free room;
  answered : vec_capacity l.initial.handles ≤ vec_capacity l.handles;
  handles : length l.handles.items + (l.count - l._turn) ≤ vec_capacity l.handles;
}
