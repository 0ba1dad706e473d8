use Rattle.std.proofs.Common.{◌∙◌, ap}
use Rattle.program_words.specs.Asked.{number_up_to}
use Rattle.program_words.proofs.Numbers.{is_spelling, of_spelling}
use Rattle.program_words.proofs.laws.a_number_is_its_spelling.Goals as goal

pub returns : goal.returns
returns c most number word fits = (
  is_spelling most number word fits,
  λ p. ap (number_up_to most) p.0 ∙ of_spelling most number fits p.1,
)
