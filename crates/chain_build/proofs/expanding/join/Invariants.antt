use Rattle.std.proofs.Common.{◌≡◌, ℕ, ◌++◌, map, drop, string_bytes, option_map}
use Rattle.chain_build.specs.Expanding.{expand_to, joined}
use Rattle.chain_build.specs.Holding.{listed_layer, texts_of, IsRow}
use Rattle.chain_build.proofs.expanding.join.Given as goal

-- the names so far, and what the rest gives, are what all give
abbrev pub invariant-loop-component : goal.invariant-loop-component
invariant-loop-component l = (levels : ℕ) → IsRow levels (map listed_layer l.known.layers.items) l.row
    → joined (map (expand_to (map listed_layer l.known.layers.items) levels) (map string_bytes l.components))
    ≡ option_map (λ rest. texts_of l.names.items ++ rest) (joined (map (expand_to (map listed_layer l.known.layers.items) levels) (map string_bytes (drop l.component-index l.components))))
