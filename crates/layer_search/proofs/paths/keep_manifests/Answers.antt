use Rattle.std.proofs.Common.{◌∙◌, ap, map, string_bytes, rules}
use borrow.Author.Tests.{tests}
use Rattle.std.proofs.lemmas.Fn.{filter_same}
use Rattle.layer_search.specs.Places.{is_json}
use Rattle.layer_search.proofs.Joins.{map_filtered}
use Rattle.layer_search.proofs.paths.keep_manifests.Goals as goal

pub returns : goal.returns
returns c =
    ap (λ names. map string_bytes names) (filter_same _ (λ name. is_json (string_bytes name)) _ (λ x b f' k. search (rules, tests)) _ _ c.retain.ensures.filtered)
    ∙ map_filtered string_bytes is_json c.args.names.now.items
