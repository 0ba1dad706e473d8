use Rattle.std.proofs.Common.{◌∙◌, ap, map}
use Rattle.std.proofs.lemmas.Result.{err_from_is_err_and}
use Rattle.layer_search.specs.Contents.{LayersFound, found_layer}
use Rattle.layer_search.specs.Paths.{most_paths}
use Rattle.chain_build.specs.Override.{active_override, folders_again}
use Rattle.chain_build.specs.Switches.{filters_of}
use Rattle.chain_build.proofs.Limits.{meets, driver_within, explicit_within, implicit_within, again_within, most_within}
use Rattle.chain_build.proofs.override_layer.read_setup.Goals as goal

pub returns-in_err-drivers-clause-too_many : goal.returns-in_err-drivers-clause-too_many
returns-in_err-drivers-clause-too_many g c = λ files told.
    let p = err_from_is_err_and c.from_residual-in_err-drivers.result c.from_residual-in_err-drivers.ensures.1 in
    rw (p.1, p.2) (meets _ _ _ (driver_within files c.args.env.now c.args.root.now c.args.exe.now) (c.in_err-drivers.ensures.too_many files told))

pub returns-in_err-first-clause-too_many : goal.returns-in_err-first-clause-too_many
returns-in_err-first-clause-too_many g c = λ files told.
    let told1 = c.find_drivers.ensures.same ∙ told in
    let p = err_from_is_err_and c.from_residual-in_err-first.result c.from_residual-in_err-first.ensures.1 in
    rw (p.1, p.2) (meets _ _ _ (explicit_within files c.args.env.now c.args.root.now c.args.exe.now) (c.in_err-first.ensures.too_many files told1))

pub returns-in_err-implicit-clause-too_many : goal.returns-in_err-implicit-clause-too_many
returns-in_err-implicit-clause-too_many g c = λ files told.
    let told1 = c.find_drivers.ensures.same ∙ told in
    let told2 = c.find_layers.ensures.same ∙ told1 in
    let p = err_from_is_err_and c.from_residual-in_err-implicit.result c.from_residual-in_err-implicit.ensures.1 in
    rw (p.1, p.2) (meets _ _ _ (implicit_within files c.args.env.now c.args.root.now c.args.exe.now) (c.in_err-implicit.ensures.too_many files told2))

pub returns-in_err-explicit-clause-too_many : goal.returns-in_err-explicit-clause-too_many
returns-in_err-explicit-clause-too_many g c = λ files told.
    let told1 = c.find_drivers.ensures.same ∙ told in
    let told2 = c.find_layers.ensures.same ∙ told1 in
    let told3 = c.find_layers-2.ensures.same ∙ told2 in
    let env = c.args.env.now in
    let exe = c.args.exe.now in
    let again = c.folders_again-folders.ensures ∙ ap folders_again (c.in_ok-over.ensures ∙ (ap (λ f. active_override f env exe (map found_layer c.deref.result.now)) c.in_ok-filters.ensures
    ∙ ap (active_override (filters_of env) env exe) (ap (map found_layer) c.deref.ensures.value ∙ ap (λ (l : LayersFound). l.list) (c.in_ok-implicit.ensures.found files told2)))) in
    let p = err_from_is_err_and c.from_residual-in_err-explicit.result c.from_residual-in_err-explicit.ensures.1 in
    rw (p.1, p.2) (meets _ _ _ (again_within files env c.args.root.now exe _ again) (c.in_err-explicit.ensures.too_many files told3))

pub returns-clause-within : goal.returns-clause-within
returns-clause-within g c = λ files told.
    let told1 = c.find_drivers.ensures.same ∙ told in
    let told2 = c.find_layers.ensures.same ∙ told1 in
    let told3 = c.find_layers-2.ensures.same ∙ told2 in
    let env = c.args.env.now in
    let exe = c.args.exe.now in
    let again = c.folders_again-folders.ensures ∙ ap folders_again (c.in_ok-over.ensures ∙ (ap (λ f. active_override f env exe (map found_layer c.deref.result.now)) c.in_ok-filters.ensures
    ∙ ap (active_override (filters_of env) env exe) (ap (map found_layer) c.deref.ensures.value ∙ ap (λ (l : LayersFound). l.list) (c.in_ok-implicit.ensures.found files told2)))) in
    most_within files env c.args.root.now exe _ most_paths again (c.in_ok-drivers.ensures.within files told) (c.in_ok-first.ensures.within files told1) (c.in_ok-implicit.ensures.within files told2) (c.in_ok-explicit.ensures.within files told3)
