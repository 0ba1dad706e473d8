use Rattle.std.proofs.Common.{◌∙◌, ◌++◌, [], ap, map}
use Rattle.env_filters.specs.declared.filters.LayerKindBit.TheVariants.{Explicit, Implicit}
use Rattle.layer_search.specs.Contents.{found_layer}
use Rattle.layer_search.specs.Order.{firsts}
use Rattle.chain_build.specs.Expanding.{known_layers, listed, name_of}
use Rattle.chain_build.proofs.expansions.known.Goals as goal

pub returns : goal.returns
unfolding known_layers
returns c =
    c.in_ok-all.ensures (map (listed Explicit) (map found_layer c.deref.result.now)) (c.in_ok-explicit.ensures [] c.new.ensures)
    ∙ (ap (λ xs. firsts name_of (map (listed Explicit) (map found_layer xs) ++ map (listed Implicit) (map found_layer c.deref-2.result.now))) c.deref.ensures.value
    ∙ ap (λ xs. firsts name_of (map (listed Explicit) (map found_layer c.args.setup.now.explicit.list.items) ++ map (listed Implicit) (map found_layer xs))) c.deref-2.ensures.value)
