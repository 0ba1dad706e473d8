use Rattle.trace_format.proofs.ReadLemmas.{less_left}
use Rattle.trace_format.proofs.parse.arguments.names_between.Goals as goal

pub loop-rest-smaller : goal.loop-rest-smaller
loop-rest-smaller c = less_left c.split_piece.result.1 c.loop-rest.rest c.in-Some.bytes c.in-Some.is c.split_piece.ensures.shorter
