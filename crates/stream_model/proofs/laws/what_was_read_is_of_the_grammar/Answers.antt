use Rattle.stream_model.proofs.ReadEvents.{read_grammar}
use Rattle.stream_model.proofs.laws.what_was_read_is_of_the_grammar.Goals as goal

pub returns : goal.returns
returns c = read_grammar
