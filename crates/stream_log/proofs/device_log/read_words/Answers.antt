use Rattle.std.proofs.Common.{arith, ℕ, List, [], ◌∷◌, ◌++◌, sym, ◌∙◌, ap}
use Rattle.stream_log.proofs.Reading.{more_read}
use Rattle.stream_log.proofs.device_log.read_words.Goals as goal

pub loop-i-preserved : goal.loop-i-preserved
loop-i-preserved c =
    let i = c.loop-i.invariant in
    let t = c.loop-i-test.true in (
      omega arith,
      c.in_ok-push.ensures.items ∙ ap (λ (l : List ℕ). l ++ c.word.result ∷ []) i.1 ∙ sym (more_read _ c.args.from c.loop-i.i c.word.result c.word.ensures),
    )
