use Rattle.std.proofs.Common.{◌≡◌, length, arith, ◌∙◌}
use Rattle.std.specs.Prelude.{IsOk}
use Rattle.terminator.specs.Shown.{answers_in, bytes_of, drivers_named, key_asked}
use Rattle.terminator.proofs.Issuing.{Issuing, all_issued, all_routed}
use Rattle.terminator.proofs.Room.{IsUsedUp, one_fits, on_err, only_first}
use Rattle.terminator.proofs.terminator.Terminator.issue_each.Goals as goal
use Rattle.terminator.proofs.terminator.Terminator.issue_each.Goals.{After-from_residual}

pub returns-clause-ids : goal.returns-clause-ids
returns-clause-ids c =
    let i : Issuing = record { key = key_asked c.args.key; ty = c.args.ty; cmd = c.args.answers.cmd; answers = answers_in c.args.answers; drivers = drivers_named c.args.answers.receivers } in
    all_issued i c.loop-place.self.ids c.args.self.now.ids c.loop-place.self.routes c.args.self.now.routes c.loop-place.place c.args.results.now c.loop-place.results (omega arith) c.loop-place.invariant.left

pub returns-clause-routes : goal.returns-clause-routes
returns-clause-routes c =
    let i : Issuing = record { key = key_asked c.args.key; ty = c.args.ty; cmd = c.args.answers.cmd; answers = answers_in c.args.answers; drivers = drivers_named c.args.answers.receivers } in
    all_routed i c.loop-place.self.ids c.args.self.now.ids c.loop-place.self.routes c.args.self.now.routes c.loop-place.place c.args.results.now c.loop-place.results (omega arith) c.loop-place.invariant.left

used : (c : After-from_residual) → IsUsedUp c.args.self.now c.loop-place.self c.loop-place.place (length (drivers_named c.args.answers.receivers)) (bytes_of (key_asked c.args.key))
used c = record { spare = c.loop-place.invariant.spare; values = c.loop-place.invariant.values; bytes = c.loop-place.invariant.bytes }

-- only the first result can fail
at_first : (c : After-from_residual) → c.loop-place.place ≡ 0
at_first c =
    only_first c.args.self.now c.loop-place.self (length c.args.results.now) c.loop-place.place (length (drivers_named c.args.answers.receivers)) (bytes_of (key_asked c.args.key)) (omega arith) (used c) c.requires.room
    (λ spare values bytes few. let wrong = c.in_err-results.ensures.succeeds spare values bytes few in cc wrong)

pub returns-in_err-results-clause-err : goal.returns-in_err-results-clause-err
returns-in_err-results-clause-err c = on_err c.from_residual.result (c.issue_one.new.self.ids ≡ c.args.self.now.ids) (c.in_err-results.ensures.err ∙ c.loop-place.invariant.first (at_first c))

pub returns-in_err-results-clause-err_routes : goal.returns-in_err-results-clause-err_routes
returns-in_err-results-clause-err_routes c = on_err c.from_residual.result (c.issue_one.new.self.routes ≡ c.args.self.now.routes) (c.in_err-results.ensures.err_routes ∙ c.loop-place.invariant.first_routes (at_first c))

pub returns-in_err-results-clause-same : goal.returns-in_err-results-clause-same
returns-in_err-results-clause-same c = on_err c.from_residual.result (c.loop-place.results ≡ c.args.results.now) (c.loop-place.invariant.unchanged (at_first c))

pub returns-in_err-results-clause-succeeds : goal.returns-in_err-results-clause-succeeds
returns-in_err-results-clause-succeeds c = λ room.
    one_fits (IsOk c.from_residual.result) c.args.self.now c.loop-place.self (length c.args.results.now) c.loop-place.place (length (drivers_named c.args.answers.receivers)) (bytes_of (key_asked c.args.key)) (omega arith) (used c) room
    (λ spare values bytes few. let wrong = c.in_err-results.ensures.succeeds spare values bytes few in cc wrong)
