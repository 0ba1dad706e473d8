use Rattle.std.proofs.Common.{sym}
use Rattle.trace_format.proofs.NameLemmas.{too_long}
use Rattle.trace_format.proofs.parse.names.number.Goals as goal

pub returns-then-word-gt7 : goal.returns-then-word-gt7
returns-then-word-gt7 c = sym (too_long c.args.limit c.args.word.now c.requires c.if-word-gt7.true)
