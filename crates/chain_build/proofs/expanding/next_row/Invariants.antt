use Rattle.std.proofs.Common.{◌≡◌, map, take, ℕ, suc, vec_len}
use Rattle.chain_build.specs.Expanding.{expansion}
use Rattle.chain_build.specs.Holding.{listed_layer, names_content, IsRow}
use Rattle.chain_build.proofs.expanding.next_row.Given as goal

-- what each layer so far stands for
abbrev pub invariant-loop-listed : goal.invariant-loop-listed
invariant-loop-listed l = record {
  row : (levels : ℕ) → IsRow levels (map listed_layer l.known.layers.items) l.row
      → map names_content l.next.items ≡ map (λ k. expansion (map listed_layer l.known.layers.items) (suc levels) k.layer) (map listed_layer (take l.listed-index l.listed-items));
  len : vec_len l.next ≡ l.listed-index;
}
