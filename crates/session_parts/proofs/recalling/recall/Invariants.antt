use Rattle.std.proofs.Common.{◌≡◌, length, map, take, vec_capacity}
use Rattle.session_tables.specs.Shown.{args_shown}
use Rattle.session_parts.specs.Leaving.{recalled}
use Rattle.session_parts.proofs.recalling.recall.Given as goal

abbrev pub invariant-loop-p : goal.invariant-loop-p
invariant-loop-p l = record {
  count : length l.args.items ≡ length l.initial.args.items;
  args : args_shown l.args.items ≡ recalled (take l.p l.marks.marks) (args_shown l.initial.args.items);
  room : map (λ v. vec_capacity v) l.args.items ≡ map (λ v. vec_capacity v) l.initial.args.items;
}
