use Rattle.std.proofs.Common.{◌<◌, lit<, sym}
use Rattle.trace_format.specs.declared.limits.TheConstants.{MAX_THREADS}
use Rattle.trace_format.proofs.NameLemmas.{too_long}
use Rattle.threaded_replay.proofs.thread.thread.Goals as goal

-- a longer word has too many digits only because of this
seven_digits : MAX_THREADS < 10000000
seven_digits = lit< tt

pub returns-then-word-gt7 : goal.returns-then-word-gt7
returns-then-word-gt7 c = sym (too_long MAX_THREADS c.args.word.now seven_digits c.if-word-gt7.true)
