use Rattle.std.proofs.Common.{◌≤◌, length, take}
use Rattle.std.specs.BinaryHeap.{heap_capacity, heap_items, heap_len}
use Rattle.model_driver.specs.Books.{IsBook}
use Rattle.model_driver.proofs.given_values.heap_of.Given as goal

abbrev pub invariant-loop-place : goal.invariant-loop-place
invariant-loop-place l = record {
  book : IsBook (take l.place l.back) (heap_items l.free) (heap_len l.free);
  few : heap_len l.free ≤ l.place;
  room : length l.back ≤ heap_capacity l.free;
}
