use Rattle.std.proofs.Common.{◌≤◌, length, arith}
use Rattle.session_tables.proofs.Rows.{all_copied}
use Rattle.session_tables.proofs.dense.copy_rows.Goals as goal

pub returns : goal.returns
returns g c =
    let all : length c.args.rows.now ≤ c.loop-row.row-index = omega (arith, c.loop-row-test.false) in
    all_copied c.loop-row.copies.items c.args.rows.now c.loop-row.row-index all c.loop-row.invariant
