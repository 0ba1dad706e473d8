use Rattle.std.proofs.Common.{◌≡◌, ◌∙◌, ap, None, Some, arith, ◌+◌, drop}
use Rattle.std.specs.Prelude.{string_bytes}
use Rattle.program_words.specs.Content.{given_pairs, known_of, word_if_any, words_of}
use Rattle.program_words.specs.Words.{next_option}
use Rattle.program_words.proofs.Steps.{pushed, waits, turn, at_end_none, at_end_some}
use Rattle.program_words.proofs.check.options_from.Goals as goal
use Rattle.program_words.proofs.check.options_from.Goals.{in-Some-value+in_ok-push-in-Some-value, in-None}

pub returns-in_default : goal.returns-in_default
returns-in_default c =
    let known = known_of c.args.known.now in
    let given = given_pairs c.loop-word.given.items in
    let waiting = word_if_any c.loop-word.waiting in
    let word = string_bytes c.word-item.result in
    let e : None ≡ next_option known given waiting word = grind arith in
    turn known given waiting c.args.words.now c.loop-word.word-index c.word-item.result None c.loop-word-test.true c.word-item.is e ∙ c.loop-word.invariant

pub loop-word-preserved : goal.loop-word-preserved
loop-word-preserved c =
    let known = known_of c.args.known.now in
    let given = given_pairs c.loop-word.given.items in
    let waiting = word_if_any c.loop-word.waiting in
    let word = string_bytes c.word-item.result in
    let rest = words_of (drop (c.loop-word.word-index + 1) c.args.words.now) in
    let name = c.in-Some.name in
    elim c.match-value.branch [
      | in-Some-value+in_ok-push-in-Some-value w ↦
          let v = w.in-Some-value.value in
          let e : Some (name.now, Some v.now) ≡ next_option known given waiting word = grind arith in
          pushed known rest c.match-value.given.items c.loop-word.given.items name v c.match-value.waiting
          (ap (λ v. v.items) w.given-is ∙ w.in_ok-push-in-Some-value.ensures.items) w.waiting-is
          ∙ turn known given waiting c.args.words.now c.loop-word.word-index c.word-item.result (Some (name.now, Some v.now)) c.loop-word-test.true c.word-item.is e
          ∙ c.loop-word.invariant
      | in-None w ↦
          let e : Some (name.now, None) ≡ next_option known given waiting word = grind arith in
          waits known rest c.match-value.given.items c.loop-word.given.items name c.match-value.waiting (ap (λ v. v.items) w.given-is) w.waiting-is
          ∙ turn known given waiting c.args.words.now c.loop-word.word-index c.word-item.result (Some (name.now, None)) c.loop-word-test.true c.word-item.is e
          ∙ c.loop-word.invariant
    ]

pub returns-in-Some-waiting : goal.returns-in-Some-waiting
returns-in-Some-waiting c =
    at_end_some _ (given_pairs c.loop-word.given.items) c.loop-word.waiting c.in-Some-waiting.field-0 c.args.words.now c.loop-word.word-index c.loop-word-test.false c.in-Some-waiting.is
    ∙ c.loop-word.invariant

pub returns : goal.returns
returns c =
    at_end_none _ (given_pairs c.loop-word.given.items) c.loop-word.waiting c.args.words.now c.loop-word.word-index c.loop-word-test.false c.in-None-waiting.is
    ∙ c.loop-word.invariant
