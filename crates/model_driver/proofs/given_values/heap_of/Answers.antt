use Rattle.std.proofs.Common.{◌≡◌, ◌+◌, ◌++◌, ◌∷◌, [], ◌∙◌, true, false, ap, arith, length, take}
use Rattle.std.proofs.lemmas.List.{length-take-le, take_more}
use Rattle.std.specs.BinaryHeap.{heap_items, heap_len}
use Rattle.model_driver.proofs.Backs.{book_more, book_more_back}
use Rattle.model_driver.proofs.given_values.heap_of.Goals as goal
use Rattle.model_driver.proofs.given_values.heap_of.Goals.{then-back-place, else-back-place}

pub loop-place-preserved : goal.loop-place-preserved
loop-place-preserved c =
    let before = c.loop-place.invariant in
    let done = take c.loop-place.place c.args.back.now in
    let more = take_more c.args.back.now c.loop-place.place false (omega arith) in
    elim c.if-back-place.branch [
      | then-back-place w ↦
          let next : take (c.loop-place.place + 1) c.args.back.now ≡ done ++ true ∷ [] = more ∙ ap (λ b. done ++ b ∷ []) w.if-back-place.true in
          let long : length done ≡ c.loop-place.place = length-take-le c.loop-place.place c.args.back.now (omega arith) in
          let pushed = rw w.unwrap.ensures at w.push.ensures in
          rw (next, w.free-is) record {
            book = book_more_back done (heap_items c.loop-place.free) (heap_items w.push.new.self) (heap_len c.loop-place.free) (heap_len w.push.new.self) (c.loop-place.place + 1) before.book (omega (arith, long)) pushed.permutation
                (pushed.heap_order before.book.heap) pushed.len;
            few = omega (arith, pushed.len, before.few);
            room = omega (arith, w.push.ensures.capacity, before.room);
          }
      | else-back-place w ↦
          let next : take (c.loop-place.place + 1) c.args.back.now ≡ done ++ false ∷ [] = more ∙ ap (λ b. done ++ b ∷ []) w.if-back-place.false in
          rw (next, w.free-is) record {
            book = book_more done (heap_items c.loop-place.free) (heap_len c.loop-place.free) before.book;
            few = omega (arith, before.few);
            room = before.room;
          }
    ]
