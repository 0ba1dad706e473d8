use Rattle.std.proofs.Common.{◌-◌, ◌≤◌, length, arith}
use Rattle.handle_map.specs.KeptPairs.{pairs_in}
use Rattle.handle_map.proofs.Listed.{pairs_length}
use Rattle.handle_map.proofs.pair_list.PairList.reserve.Goals as goal

pub returns-clause-few : goal.returns-clause-few
returns-clause-few c =
    let few : c.args.n ≤ 4294967295 - length (pairs_in c.self.inside.wide.items c.self.inside.kept.items)
    = omega (arith, pairs_length c.self.inside.wide.items c.self.inside.kept.items) in
    rw (← c.self.view_is) few
