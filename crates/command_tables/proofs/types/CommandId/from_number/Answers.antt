use Rattle.std.proofs.Common.{◌≡◌, ◌+◌, ◌-◌, arith}
use Rattle.command_tables.proofs.Named.{number_at}
use Rattle.command_tables.proofs.types.CommandId.from_number.Goals as goal

pub returns-clause-found : goal.returns-clause-found
returns-clause-found c =
    let e : 1 + (c.args.n - 1) ≡ c.args.n = omega arith in
    rw c.command_at.ensures (rw e at (number_at (c.args.n - 1)))
