use Rattle.std.proofs.Common.{◌≡◌, ◌↔◌, length, drop, map}
use Rattle.command_tables.specs.Table.{seen_param}
use Rattle.model_driver.specs.Driver.{FitsRow}
use Rattle.model_driver.proofs.shape.fits_row.Given as goal

abbrev pub invariant-loop-p : goal.invariant-loop-p
invariant-loop-p l = record {
  same : length l.params ≡ length l.args.lists;
  rest : FitsRow (map seen_param (drop l.p l.params)) (drop l.p l.args.lists) ↔ FitsRow (map seen_param l.params) l.args.lists;
}
