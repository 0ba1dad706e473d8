use Rattle.std.proofs.Common.{◌≡◌, ◌++◌, take, codes}
use Rattle.std.specs.List.{flat_map}
use Rattle.trace_format.specs.Content.{arg_content}
use Rattle.trace_format.specs.Grammar.{arg_text}
use Rattle.trace_format.proofs.print.put_arguments.Given as goal

abbrev pub invariant-loop-arg : goal.invariant-loop-arg
invariant-loop-arg l = l.out.items ≡ l.fn.out.items ++ flat_map (λ a. codes " " ++ arg_text (arg_content a)) (take l.arg-index l.args)
