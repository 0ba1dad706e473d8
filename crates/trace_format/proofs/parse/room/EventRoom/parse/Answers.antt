use Rattle.std.proofs.Common.{◌∙◌, sym}
use Rattle.trace_format.proofs.AnswerLemmas.{event_is_of_the_grammar}
use Rattle.trace_format.proofs.parse.room.EventRoom.parse.Goals as goal

pub returns-clause-grammar : goal.returns-clause-grammar
returns-clause-grammar c = event_is_of_the_grammar c.args.line.now c.by_letter.result (sym c.is_ascii.ensures ∙ c.if-not-is_ascii.false) c.by_letter.ensures
