use Rattle.std.proofs.Common.{◌≡◌, ◌∙◌, arith, take, string_bytes}
use Rattle.std.proofs.lemmas.Grind.{common_steps}
use Rattle.layer_search.specs.Found.{path_layers, layer_notes, layers_at}
use Rattle.layer_search.proofs.Joins.{piece_is}
use Rattle.layer_search.proofs.layers.found_layers.Goals as goal

pub loop-path-preserved : goal.loop-path-preserved
loop-path-preserved g c = record {
  told = λ files told.
      let read = c.in_ok-read.ensures.layers files (c.loop-path.invariant.same ∙ told) in
      rw (
        piece_is path_layers (layers_at c.args.kind files c.args.root.now) string_bytes c.args.paths.now c.loop-path.path-index c.path-item.result _ _ _ c.loop-path-test.true c.path-item.is c.deref-in-loop-path.ensures c.deref.ensures read,
        piece_is layer_notes (layers_at c.args.kind files c.args.root.now) string_bytes c.args.paths.now c.loop-path.path-index c.path-item.result _ _ _ c.loop-path-test.true c.path-item.is c.deref-in-loop-path.ensures c.deref.ensures read,
      ) (c.in_ok-add.ensures _ _ (c.loop-path.invariant.told files told));
  same = c.layers_at.ensures.same ∙ c.loop-path.invariant.same;
  stood = c.in_ok-read.ensures.cause.stood ∙ c.loop-path.invariant.stood;
}

pub returns-clause-layers : goal.returns-clause-layers
returns-clause-layers g c =
    let whole : take c.loop-path.path-index c.args.paths.now ≡ c.args.paths.now = grind (arith, common_steps) in
    λ files told.
    let all = rw whole at (c.loop-path.invariant.told files told) in
    let list = all.kept in
    let notes = all.noted in
    cc
