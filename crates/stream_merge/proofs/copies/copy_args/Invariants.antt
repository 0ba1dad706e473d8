use Rattle.std.proofs.Common.{◌≡◌, map, take}
use Rattle.trace_format.specs.Content.{arg_content}
use Rattle.stream_merge.proofs.copies.copy_args.Given as goal

abbrev pub invariant-loop-arg : goal.invariant-loop-arg
invariant-loop-arg l = map arg_content l.copies.items ≡ map arg_content (take l.arg-index l.args)
