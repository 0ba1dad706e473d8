use Rattle.std.proofs.Common.{◌≡◌, map, drop}
use Rattle.trace_format.specs.Content.{arg_content}
use Rattle.trace_format.proofs.ReadLemmas.{with_front, args_here}
use Rattle.trace_format.proofs.parse.arguments.all_arguments.Given as goal

abbrev pub invariant-loop-param : goal.invariant-loop-param
invariant-loop-param l = args_here l.params l.bytes ≡ with_front (map arg_content l.args.items) (args_here (drop l.param-index l.params) l.rest)
