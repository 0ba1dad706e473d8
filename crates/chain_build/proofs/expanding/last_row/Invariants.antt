use Rattle.std.proofs.Common.{◌≡◌, map, vec_len}
use Rattle.chain_build.specs.Holding.{listed_layer, IsRow}
use Rattle.chain_build.proofs.expanding.last_row.Given as goal

-- the row of so many levels
abbrev pub invariant-loop-level : goal.invariant-loop-level
invariant-loop-level l = record {
  row : IsRow l._level (map listed_layer l.known.layers.items) l.row.items;
  len : vec_len l.row ≡ vec_len l.known.layers;
}
