use Rattle.std.proofs.Common.{◌≡◌, map, take, List, vec_len}
use Rattle.chain_build.specs.Expanding.{ListedLayer, expansion}
use Rattle.chain_build.specs.Holding.{listed_layer, names_content}
use Rattle.chain_build.proofs.expanding.plain_row.Given as goal

-- what each layer so far stands for
abbrev pub invariant-loop-listed : goal.invariant-loop-listed
invariant-loop-listed l = record {
  row : (all : List ListedLayer) → map names_content l.row.items ≡ map (λ k. expansion all 0 k.layer) (map listed_layer (take l.listed-index l.layers));
  len : vec_len l.row ≡ l.listed-index;
}
