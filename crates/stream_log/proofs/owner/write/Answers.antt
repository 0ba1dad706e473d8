use Rattle.std.proofs.Common.{arith, sym, ap, ◌∙◌}
use Rattle.std.proofs.lemmas.List.{length-take-le}
use Rattle.stream_log.proofs.LogMoves.{writes_as, writing_on}
use Rattle.stream_log.proofs.owner.write.Goals as goal

pub overflow_add-at : goal.overflow_add-at
overflow_add-at c =
    let i = c.loop-i.invariant in
    let wide = c.log.invariant.2 in
    let room = c.requires.room in
    let same = ap (λ z. z.words) c.log.view_is in
    let lt = c.loop-i-test.true in
    record { fits = omega arith }

pub store-requires : goal.store-requires
store-requires c =
    let i = c.loop-i.invariant in
    let room = c.requires.room in
    let same = ap (λ z. z.words) c.log.view_is in
    let key = c.log.invariant.0 in
    let lt = c.loop-i-test.true in (
      i.1 ∙ c.requires.log ∙ sym c.log.view_is,
      omega arith,
      writes_as _ _ _ _ _ _ _ _ i.3 (writing_on _ _ _ _ c.requires.at (length-take-le c.loop-i.i c.args.words.now i.0)) (omega arith),
    )
