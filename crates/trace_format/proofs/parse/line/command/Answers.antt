use Rattle.trace_format.proofs.CommandLemmas.{found_by_name}
use Rattle.trace_format.proofs.parse.line.command.Goals as goal

pub returns : goal.returns
returns c = found_by_name c.args.word.now c.find.result c.find.ensures.found c.find.ensures.none
