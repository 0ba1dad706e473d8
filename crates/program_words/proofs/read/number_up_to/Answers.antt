use Rattle.std.proofs.Common.{◌≡◌, ◌∙◌, sym, true, arith}
use Rattle.program_words.specs.Asked.{is_numeral}
use Rattle.program_words.proofs.Numbers.{none_if_refused}
use Rattle.program_words.proofs.read.number_up_to.Goals as goal

pub returns-in_default-2 : goal.returns-in_default-2
returns-in_default-2 c =
    let numeral : is_numeral c.args.word.now ≡ true = sym c.is_numeral.ensures ∙ c.if-not-is_numeral.false in
    none_if_refused c.args.most c.args.word.now c.in_default.field-0 numeral (omega arith) c.in_default.ensures.value.0
