use Rattle.std.proofs.Common.{◌∙◌, ap, map, rules}
use borrow.Author.Tests.{tests}
use Rattle.std.proofs.lemmas.Fn.{filter_same}
use Rattle.layer_search.specs.Contents.{found_driver}
use Rattle.layer_search.specs.Found.{stays}
use Rattle.layer_search.proofs.Joins.{map_filtered}
use Rattle.layer_search.proofs.drivers.retain.Goals as goal

pub returns-clause-kept : goal.returns-clause-kept
returns-clause-kept c =
    ap (λ drivers. map found_driver drivers) (filter_same _ (λ driver. stays c.args.selected.now c.args.disabled.now (found_driver driver)) _ (λ x b f' k. search (rules, tests)) _ _ c.retain.ensures.filtered)
    ∙ map_filtered found_driver (stays c.args.selected.now c.args.disabled.now) c.args.drivers.now.items
