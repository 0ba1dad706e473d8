use Rattle.std.proofs.Common.{sym, ◌∙◌, arith}
use Rattle.std.specs.BinaryHeap.{heap_items, heap_len}
use Rattle.model_driver.proofs.Backs.{back_within, book_less, given_again, least_new, top_back, top_least}
use Rattle.model_driver.proofs.given_values.give_least.Goals as goal

pub overflow_sub-value : goal.overflow_sub-value
overflow_sub-value c =
    (back_within c.args.back.now.items c.in-Some.field-0.0 (top_back c.args.back.now.items (heap_items c.args.free.now) (heap_items c.pop.new.self) (heap_len c.args.free.now) c.in-Some.field-0.0 c.requires.book c.in-Some.ensures.permutation)).0

pub index_mut-requires : goal.index_mut-requires
index_mut-requires c =
    let in_range = back_within c.args.back.now.items c.in-Some.field-0.0 (top_back c.args.back.now.items (heap_items c.args.free.now) (heap_items c.pop.new.self) (heap_len c.args.free.now) c.in-Some.field-0.0 c.requires.book c.in-Some.ensures.permutation) in
    omega (arith, in_range.0, in_range.1)

pub returns-in-Some-clause-value : goal.returns-in-Some-clause-value
returns-in-Some-clause-value c =
    sym (top_least c.args.back.now.items (heap_items c.args.free.now) (heap_items c.pop.new.self) (heap_len c.args.free.now) c.in-Some.field-0.0 c.requires.book c.in-Some.ensures.permutation (c.in-Some.ensures.below_top c.requires.book.heap))

pub returns-in-Some-clause-back : goal.returns-in-Some-clause-back
returns-in-Some-clause-back c =
    given_again c.args.back.now.items c.in-Some.field-0.0 (top_back c.args.back.now.items (heap_items c.args.free.now) (heap_items c.pop.new.self) (heap_len c.args.free.now) c.in-Some.field-0.0 c.requires.book c.in-Some.ensures.permutation)

pub returns-in-Some-clause-book : goal.returns-in-Some-clause-book
returns-in-Some-clause-book c =
    book_less c.args.back.now.items (heap_items c.args.free.now) (heap_items c.pop.new.self) (heap_len c.args.free.now) (heap_len c.pop.new.self) c.in-Some.field-0.0 c.requires.book c.in-Some.ensures.permutation (c.in-Some.ensures.heap_order c.requires.book.heap).0 c.in-Some.ensures.len

pub returns-in-None-clause-value : goal.returns-in-None-clause-value
returns-in-None-clause-value c = c.give_new.ensures.value ∙ sym (least_new c.args.back.now.items (sym c.requires.book.size ∙ c.in-None.ensures.none))
