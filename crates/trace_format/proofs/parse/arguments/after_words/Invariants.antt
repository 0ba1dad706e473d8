use Rattle.std.proofs.Common.{◌≡◌, drop}
use Rattle.trace_format.proofs.RestLemmas.{rest_after}
use Rattle.trace_format.proofs.parse.arguments.after_words.Given as goal

abbrev pub invariant-loop-param : goal.invariant-loop-param
invariant-loop-param l = rest_after l.params l.bytes ≡ rest_after (drop l._param-index l.params) l.rest
