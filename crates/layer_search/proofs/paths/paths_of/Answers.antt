use Rattle.std.proofs.Common.{◌∙◌}
use Rattle.std.proofs.lemmas.Result.{err_from_is_err_and}
use Rattle.layer_search.specs.Paths.{paths_at}
use Rattle.layer_search.specs.Places.{place_content}
use Rattle.layer_search.proofs.Limits.{limit_in_pieces}
use Rattle.layer_search.proofs.paths.paths_of.Goals as goal

pub returns-in_err-add_place-clause-limit : goal.returns-in_err-add_place-clause-limit
returns-in_err-add_place-clause-limit g c =
    let p = err_from_is_err_and c.from_residual.result c.from_residual.ensures.1 in
    λ files told. rw (p.1, p.2) (limit_in_pieces (paths_at files c.args.root.now) place_content c.args.places.now c.loop-place.place-index c.place-item.result _ c.loop-place-test.true c.place-item.is (c.in_err-add_place.ensures.limit files (c.loop-place.invariant.same ∙ told) _ (c.loop-place.invariant.told files told)))
