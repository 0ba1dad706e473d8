use Rattle.std.proofs.Common.{◌≡◌}
use Rattle.chain_session.proofs.open_calls.take_first.Given as goal

abbrev pub invariant-loop-at : goal.invariant-loop-at
invariant-loop-at l = l.calls ≡ l.initial.calls
