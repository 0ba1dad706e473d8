use Rattle.std.proofs.Common.{◌∙◌, ap, map, take, ◌++◌, string_bytes}
use Rattle.std.proofs.lemmas.Result.{err_from_is_err_and}
use Rattle.replay_base.specs.Files.{path_in}
use Rattle.layer_search.proofs.Limits.{limit_in_map}
use Rattle.layer_search.proofs.path_list.PathList.add_names.Goals as goal

pub returns-in_err-add-clause-limit : goal.returns-in_err-add-clause-limit
returns-in_err-add-clause-limit c =
    let p = err_from_is_err_and c.from_residual-in_err-add.result c.from_residual-in_err-add.ensures.1 in
    let done = map (path_in c.args.folder.now) (map string_bytes (take c.loop-name.name-index c.args.names.now)) in
    rw (p.1, p.2) (λ met h. limit_in_map (path_in c.args.folder.now) string_bytes met c.args.names.now c.loop-name.name-index c.name-item.result _ _ c.loop-name-test.true c.name-item.is (c.in_ok-path_in.ensures ∙ ap (path_in c.args.folder.now) c.deref.ensures) (c.in_err-add.ensures.limit (met ++ done) (c.loop-name.invariant met h)))
