use Rattle.std.proofs.Common.{◌≡◌, ◌∙◌, arith, take, string_bytes}
use Rattle.std.proofs.lemmas.Grind.{common_steps}
use Rattle.layer_search.specs.Found.{path_drivers, driver_notes, driver_at}
use Rattle.layer_search.proofs.Joins.{piece_is, more_is}
use Rattle.layer_search.proofs.drivers.drivers_at.Goals as goal

pub loop-path-preserved : goal.loop-path-preserved
loop-path-preserved g c = record {
  list = λ files told. more_is _ _ _ _ _ c.in_ok-add.ensures.list (c.loop-path.invariant.list files told) ((piece_is path_drivers (driver_at files c.args.root.now) string_bytes c.args.paths.now c.loop-path.path-index c.path-item.result _ _ _ c.loop-path-test.true c.path-item.is c.deref-in-loop-path.ensures c.deref.ensures (c.in_ok-read.ensures.driver files (c.loop-path.invariant.same ∙ told))));
  notes = λ files told. more_is _ _ _ _ _ c.in_ok-add.ensures.notes (c.loop-path.invariant.notes files told) ((piece_is driver_notes (driver_at files c.args.root.now) string_bytes c.args.paths.now c.loop-path.path-index c.path-item.result _ _ _ c.loop-path-test.true c.path-item.is c.deref-in-loop-path.ensures c.deref.ensures (c.in_ok-read.ensures.driver files (c.loop-path.invariant.same ∙ told))));
  reasons = c.in_ok-add.ensures.reasons c.in_ok-read.ensures.reason c.loop-path.invariant.reasons;
  few = omega (arith, c.in_ok-add.ensures.few);
  same = c.driver_at.ensures.same ∙ c.loop-path.invariant.same;
  stood = c.in_ok-read.ensures.cause.stood ∙ c.loop-path.invariant.stood;
}

pub returns-clause-drivers : goal.returns-clause-drivers
returns-clause-drivers g c =
    let whole : take c.loop-path.path-index c.args.paths.now ≡ c.args.paths.now = grind (arith, common_steps) in
    λ files told.
    let list = rw whole at (c.loop-path.invariant.list files told) in
    let notes = rw whole at (c.loop-path.invariant.notes files told) in
    cc
