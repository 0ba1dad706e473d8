use Rattle.std.proofs.Common.{◌∙◌, sym}
use Rattle.trace_format.proofs.WordLemmas.{one_piece, more_pieces, rest_is_shorter}
use Rattle.trace_format.proofs.parse.words.split_piece.Goals as goal

pub returns-in-None-clause-pieces : goal.returns-in-None-clause-pieces
returns-in-None-clause-pieces c = let e = one_piece c.args.bytes.now (rw c.split_before.ensures.rest at c.in-None.ensures.cases) in cc

pub returns-in-Some-clause-pieces : goal.returns-in-Some-clause-pieces
returns-in-Some-clause-pieces c = let e = more_pieces c.args.bytes.now _ _ (sym c.split_before.ensures.rest ∙ c.in-Some.ensures.cases.0) in cc

pub returns-in-Some-clause-shorter : goal.returns-in-Some-clause-shorter
returns-in-Some-clause-shorter c = rest_is_shorter c.args.bytes.now _ _ (sym c.split_before.ensures.rest ∙ c.in-Some.ensures.cases.0)
