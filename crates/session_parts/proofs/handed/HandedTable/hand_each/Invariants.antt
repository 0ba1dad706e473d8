use Rattle.std.proofs.Common.{◌≡◌, ◌≤◌, ◌+◌, drop, length}
use Rattle.object_model.specs.declared.Object.{Object}
use Rattle.chain_model.specs.Handed.{hand_all, handle_in}
use Rattle.session_parts.proofs.handed.HandedTable.hand_each.Given as goal

abbrev pub invariant-loop-born : goal.invariant-loop-born
invariant-loop-born l = record {
  handed : (q : Object) → handle_in (hand_all l.self.handed (drop (length l.yielded) l.made) (drop (length l.yielded) l.handles)) q ≡ handle_in (hand_all l.initial.self.handed l.made l.handles) q;
  spare : l.initial.self.spare ≤ l.self.spare + length l.yielded;
}
