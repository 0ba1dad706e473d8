use Rattle.std.proofs.Common.{◌-◌, length}
use Rattle.env_filters.proofs.GlobLemmas.{ends-lowered, tail_range}
use Rattle.env_filters.proofs.glob.stops_with.Goals as goal

pub returns-then-name-part : goal.returns-then-name-part
returns-then-name-part c =
    let name = c.args.name.now in
    ends-lowered _ name c.args.part.now (rw (tail_range (length name - length c.args.part.now) name) at c.eq_ignore_ascii_case.ensures.test)
