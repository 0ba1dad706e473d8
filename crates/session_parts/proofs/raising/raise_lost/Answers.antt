use Rattle.std.proofs.Common.{◌≡◌, ◌+◌, ℕ, List, ap, arith, length, subst, sym}
use Rattle.dispatch_chain.proofs.Stepping.{on_ok}
use Rattle.dispatch_chain.specs.Room.{AllHaveBirths}
use Rattle.session_parts.proofs.raising.raise_lost.Goals as goal

pub returns-clause-births : goal.returns-clause-births
returns-clause-births g c =
    let size = λ (xs : List ℕ). length xs in
    let n : length c.deref_mut.result.now ≡ length c.args.lost.now = omega (arith, ap size c.deref_mut.ensures.value, c.in_ok-flag_lost.ensures.count, ap size c.clear.ensures.items) in
    on_ok c.walk_leave.result (λ births m h. births m (subst (λ l. AllHaveBirths (m + l) c.args.states.now.rooms) (sym n) h)) c.walk_leave.ensures.births
