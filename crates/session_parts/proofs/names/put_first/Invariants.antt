use Rattle.std.proofs.Common.{◌≡◌, ◌≤◌, length, map, take, vec_capacity}
use Rattle.trace_format.specs.Content.{arg_content}
use Rattle.replay_model.specs.Past.{arguments_in}
use Rattle.session_tables.specs.Shown.{args_shown}
use Rattle.session_parts.specs.Scratch.{KeepLists}
use Rattle.session_parts.proofs.names.put_first.Given as goal

abbrev pub invariant-loop-k : goal.invariant-loop-k
invariant-loop-k l = record {
  count : length l.args ≤ length l.all.items;
  args : args_shown (take l.k l.all.items) ≡ arguments_in l.names.names (map arg_content (take l.k l.args));
  room : KeepLists (map (λ v. vec_capacity v) l.initial.all.items) (map (λ v. vec_capacity v) l.all.items);
}
