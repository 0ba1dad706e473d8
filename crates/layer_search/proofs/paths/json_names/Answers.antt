use Rattle.std.proofs.Common.{◌∙◌, ap, filter}
use Rattle.layer_search.specs.Places.{is_json}
use Rattle.layer_search.proofs.Ordered.{listed}
use Rattle.layer_search.proofs.paths.json_names.Goals as goal

pub returns-clause-names : goal.returns-clause-names
returns-clause-names g c = λ files told.
    c.in_ok-put_in_order.ensures ∙ ap (filter is_json) (listed _ files _ _ _ told c.in_ok-list.ensures.names (c.as_str.ensures.value ∙ c.in_ok-at.ensures))
