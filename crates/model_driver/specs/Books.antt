-- How what has come back is kept: beside the list, where values are given again, a heap with just the values that have come
-- back. Source: this project.
use Rattle.std.specs.Prelude.{◌≡◌, ℕ, Bool, if◌then◌else◌, ◌==◌, ◌≤◌, List, Option, IfSome, sum_by}
use Rattle.std.specs.declared.cmp.Ordering.{Ordering}
use Rattle.std.specs.declared.cmp.Reverse.{Reverse}
use Rattle.std.specs.Ordering.{nat_cmp}
use Rattle.std.specs.declared.collections.binary_heap.BinaryHeap.{BinaryHeap}
use Rattle.std.specs.BinaryHeap.{IsHeap, heap_capacity, heap_items, heap_len}
use Rattle.model_driver.specs.Policies.{is_back}

-- the lesser value comes first
abbrev pub by_least : Reverse ℕ → Reverse ℕ → Ordering
by_least a b = nat_cmp b.0 a.0

-- how often a value is in the heap
abbrev pub times : ℕ → List (Reverse ℕ) → ℕ
times value items = sum_by (λ r. if r.0 == value then 1 else 0) items

-- how many values have come back
abbrev pub count_back : List Bool → ℕ
count_back back = sum_by (λ b. if b then 1 else 0) back

-- the heap holds just the values that have come back, each once, and so many
pub record IsBook (back : List Bool) (items : List (Reverse ℕ)) (count : ℕ) : Type 0 where
  pub heap : IsHeap by_least items
  pub each : (value : ℕ) → times value items ≡ (if is_back back value then 1 else 0)
  pub size : count ≡ count_back back

module _ {A : Type 0} where
  -- the heap, where there is one, holds what has come back
  abbrev pub HasBook : List Bool → Option (BinaryHeap (Reverse ℕ) A) → Type 0
  HasBook back free = IfSome free (λ heap. IsBook back (heap_items heap) (heap_len heap))

  -- the heap, where there is one, has room for so many values in all
  abbrev pub HasHeapRoom : Option (BinaryHeap (Reverse ℕ) A) → ℕ → Type 0
  HasHeapRoom free room = IfSome free (λ heap. room ≤ heap_capacity heap)
