use Rattle.std.proofs.Common.{◌∙◌, ap, map, rules}
use borrow.Author.Tests.{tests}
use Rattle.std.proofs.lemmas.Fn.{filter_same}
use Rattle.layer_search.specs.Contents.{found_layer}
use Rattle.layer_search.proofs.Joins.{map_filtered}
use Rattle.chain_build.specs.Override.{is_other}
use Rattle.chain_build.proofs.override_layer.drop_override.Goals as goal

pub returns : goal.returns
returns c =
    ap (λ layers. map found_layer layers) (filter_same _ (λ layer. is_other (found_layer layer)) _ (λ x b f' k. search (rules, tests)) _ _ c.retain.ensures.filtered)
    ∙ map_filtered found_layer is_other c.args.layers.now.items
