use Rattle.std.proofs.Common.{◌≡◌, ◌-◌, ◌<◌, ◌≤◌, false, length, get_or, ◌∙◌, arith}
use Rattle.std.specs.BinaryHeap.{heap_capacity, heap_items, heap_len}
use Rattle.model_driver.specs.Books.{IsBook}
use Rattle.model_driver.proofs.Backs.{back_already, book_back_at, never_given, null_back, room_for, seen}
use Rattle.model_driver.proofs.given_values.take_back_one.Goals as goal
use Rattle.model_driver.proofs.given_values.take_back_one.Goals.{else-value-ne0-via-then-value-ne0+then-value-len+else-not-index, else-value-ne0-via-then-value-ne0+else-value-len, else-value-ne0-via-else-value-ne0}

pub unwrap-requires : goal.unwrap-requires
unwrap-requires c =
    let within : c.args.value - 1 < length c.args.back.now.items = omega arith in
    let out : get_or c.args.back.now.items (c.args.value - 1) false ≡ false = seen c.args.back.now.items (c.args.value - 1) c.index.result.now within c.index.ensures ∙ c.if-not-index.true in
    let few : heap_len c.in-Some.free < length c.args.back.now.items = room_for c.args.back.now.items (heap_items c.in-Some.free) (heap_len c.in-Some.free) (c.args.value - 1) (rw c.in-Some.is at c.requires.book) within out in
    let room : length c.args.back.now.items ≤ heap_capacity c.in-Some.free = rw c.in-Some.is at c.requires.room in
    c.push.ensures.succeeds (omega arith)

pub returns-in-Some-clause-book : goal.returns-in-Some-clause-book
returns-in-Some-clause-book c =
    let within : c.args.value - 1 < length c.args.back.now.items = omega arith in
    let out : get_or c.args.back.now.items (c.args.value - 1) false ≡ false = seen c.args.back.now.items (c.args.value - 1) c.index.result.now within c.index.ensures ∙ c.if-not-index.true in
    let book : IsBook c.args.back.now.items (heap_items c.in-Some.free) (heap_len c.in-Some.free) = rw c.in-Some.is at c.requires.book in
    book_back_at c.args.back.now.items (heap_items c.in-Some.free) (heap_items c.push.new.self) (heap_len c.in-Some.free) (heap_len c.push.new.self) c.args.value book c.if-value-ne0.true (omega arith) out
    (rw c.unwrap.ensures at c.push.ensures.permutation) ((rw c.unwrap.ensures at c.push.ensures.heap_order) book.heap) (rw c.unwrap.ensures at c.push.ensures.len)

pub returns-else-value-ne0-clause-back : goal.returns-else-value-ne0-clause-back
returns-else-value-ne0-clause-back c =
    elim c.else-value-ne0.branch [
      | else-value-ne0-via-then-value-ne0+then-value-len+else-not-index w ↦
          let within : c.args.value - 1 < length c.args.back.now.items = omega arith in
          back_already c.args.back.now.items c.args.value (seen c.args.back.now.items (c.args.value - 1) w.index.result.now within w.index.ensures ∙ w.if-not-index.false)
      | else-value-ne0-via-then-value-ne0+else-value-len w ↦ never_given c.args.back.now.items c.args.value (omega arith)
      | else-value-ne0-via-else-value-ne0 w ↦ null_back c.args.back.now.items c.args.value w.if-value-ne0.false
    ]
