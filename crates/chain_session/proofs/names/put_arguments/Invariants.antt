use Rattle.std.proofs.Common.{◌≡◌, length, map, take}
use Rattle.trace_format.specs.Content.{arg_content}
use Rattle.replay_model.specs.Past.{arguments_in}
use Rattle.session_tables.specs.Shown.{args_shown}
use Rattle.chain_session.proofs.names.put_arguments.Given as goal

abbrev pub invariant-loop-k : goal.invariant-loop-k
invariant-loop-k l = (length l.all.items ≡ length l.args) × (args_shown (take l.k l.all.items) ≡ arguments_in l.names.names (map arg_content (take l.k l.args)))
