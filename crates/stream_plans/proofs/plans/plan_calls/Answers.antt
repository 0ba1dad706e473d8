use Rattle.std.proofs.Common.{◌≡◌, ◌∙◌, ℕ, Global, List, Vec, ap, map, subst, sym}
use Rattle.std.specs.List.{AllByRecursion}
use Rattle.trace_format.specs.declared.event.Event.{Event}
use Rattle.stream_model.specs.FileParts.{FileParts, StreamPart}
use Rattle.stream_model.specs.Plans.{DevicePlan, device_written, plan_cut}
use Rattle.stream_plans.specs.Contents.{parts_of, plan_content}
use Rattle.stream_plans.specs.Cuts.{devices_cut, places_planned}
use Rattle.stream_plans.proofs.NamedLemmas.{devices_first}
use Rattle.stream_plans.proofs.plans.plan_calls.Goals as goal

-- the same sections are the same parts
same_parts : (a b : List Event) (xs ys : List (ℕ × Vec Event Global)) (u v : List Event) → a ≡ b → xs ≡ ys → u ≡ v → parts_of {A = Global} a xs u ≡ parts_of {A = Global} b ys v
same_parts a b xs ys u v setup streams teardown =
    ap (λ es. parts_of {A = Global} es xs u) setup ∙ (ap (λ ss. parts_of {A = Global} b ss u) streams ∙ ap (λ es. parts_of {A = Global} b ys es) teardown)

pub returns-clause-cut : goal.returns-clause-cut
returns-clause-cut c =
    let f = c.args.file.now in
    let same = same_parts c.deref.result.now f.setup.items c.deref-2.result.now f.streams.items c.deref-3.result.now f.teardown.items c.deref.ensures.value c.deref-2.ensures.value c.deref-3.ensures.value in
    subst (λ (file : FileParts). AllByRecursion (λ (p : DevicePlan). p ≡ plan_cut file p.device) (map plan_content c.in_ok-planned.planned.plans.items)) same c.in_ok-planned.ensures.cut

pub returns-clause-devices : goal.returns-clause-devices
returns-clause-devices c =
    let f = c.args.file.now in
    let same = same_parts c.deref.result.now f.setup.items c.deref-2.result.now f.streams.items c.deref-3.result.now f.teardown.items c.deref.ensures.value c.deref-2.ensures.value c.deref-3.ensures.value in
    c.in_ok-planned.ensures.devices ∙ ap devices_cut same

pub returns-clause-named : goal.returns-clause-named
returns-clause-named c = λ lines order grammar are.
    let f = c.args.file.now in
    let same = same_parts c.deref.result.now f.setup.items c.deref-2.result.now f.streams.items c.deref-3.result.now f.teardown.items c.deref.ensures.value c.deref-2.ensures.value c.deref-3.ensures.value in
    c.in_ok-planned.ensures.devices ∙ (ap devices_cut (same ∙ sym are) ∙ devices_first lines order grammar)

pub returns-clause-places : goal.returns-clause-places
returns-clause-places c =
    let f = c.args.file.now in
    let same = same_parts c.deref.result.now f.setup.items c.deref-2.result.now f.streams.items c.deref-3.result.now f.teardown.items c.deref.ensures.value c.deref-2.ensures.value c.deref-3.ensures.value in
    c.in_ok-planned.ensures.places ∙ ap (λ (file : FileParts). map (λ (s : StreamPart). places_planned (device_written file) (devices_cut file) s.events) file.streams) same
