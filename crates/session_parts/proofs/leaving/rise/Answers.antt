use Rattle.std.proofs.Common.{◌≡◌, ◌∙◌, ◌+◌, ℕ, List, ap, length, subst, sym}
use Rattle.dispatch_chain.proofs.Stepping.{on_ok}
use Rattle.dispatch_chain.specs.Room.{AllHaveBirths}
use Rattle.session_parts.proofs.leaving.rise.Goals as goal

pub returns-clause-births : goal.returns-clause-births
returns-clause-births g c =
    let n : length c.deref_mut.result.now ≡ length c.args.made.now + length c.args.lost.now = ap (λ (xs : List ℕ). length xs) c.deref_mut.ensures.value ∙ c.in_ok-put_flags.ensures.count in
    on_ok c.rise_flagged.result (λ births m h. births m (subst (λ l. AllHaveBirths (m + l) c.args.parts.now.states.rooms) (sym n) h)) c.rise_flagged.ensures.births
