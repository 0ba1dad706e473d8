use Rattle.std.proofs.Common.{◌≡◌, take}
use Rattle.layer_search.specs.Order.{firsts}
use Rattle.chain_build.specs.Holding.{texts_of}
use Rattle.chain_build.proofs.expanding.first_names.Given as goal

-- the names so far, each once, of which the set knows each
abbrev pub invariant-loop-name : goal.invariant-loop-name
invariant-loop-name l = record {
  known : texts_of l.seen.keys ≡ texts_of l.kept.items;
  kept : texts_of l.kept.items ≡ firsts (λ name. name) (texts_of (take l.name-index l.names));
}
