use Rattle.std.proofs.Common.{◌≡◌, ◌≤◌, arith}
use Rattle.std.proofs.lemmas.Bool.{leb-true}
use Rattle.object_records.specs.Links.{last_link}
use Rattle.object_records.proofs.Passing.{front_passed}
use Rattle.object_records.proofs.ends.is_front.Goals as goal

pub returns-then-last_owned-eq0 : goal.returns-then-last_owned-eq0
returns-then-last_owned-eq0 c = λ yes.
    let leaf : last_link c.args.table.now.records c.args.place ≡ 0 = omega (arith, c.last_owned.ensures.link, c.if-last_owned-eq0.true) in
    let under : c.previous-link.result ≤ c.passed-before.result = leb-true c.previous-link.result c.passed-before.result yes in
    front_passed c.args.table.now.records c.args.above c.args.place c.previous-link.result c.passed-before.result c.requires.place c.passed-before.ensures c.previous-link.ensures under c.requires.dead leaf
