use Rattle.std.proofs.Common.{◌≡◌, option_copied}
use Rattle.trace_format.specs.Words.{all_of, name_of, pieces}
use Rattle.trace_format.specs.Steps.{pieces_after}
use Rattle.trace_format.proofs.ReadLemmas.{with_front, left_of}
use Rattle.trace_format.proofs.parse.results.names_between.Given as goal

abbrev pub invariant-loop-rest : goal.invariant-loop-rest
invariant-loop-rest l = all_of name_of (pieces l.word) ≡ with_front l.names.items (all_of name_of (pieces_after (option_copied l.rest)))

abbrev pub decreases-loop-rest : goal.decreases-loop-rest
decreases-loop-rest l = left_of l.rest
