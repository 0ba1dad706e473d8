use Rattle.std.proofs.Common.{map}
use Rattle.stream_model.specs.FileParts.{FileParts}
use Rattle.stream_plans.specs.Contents.{parts_of, plan_content}
use Rattle.stream_plans.specs.Tables.{device_in}
use Rattle.stream_plans.proofs.CutLemmas.{devices_are, plans_cut}
use Rattle.stream_plans.proofs.PlaceLemmas.{places_are}
use Rattle.stream_plans.proofs.plans.plans_of.Goals as goal

pub returns-clause-cut : goal.returns-clause-cut
returns-clause-cut c =
    let file : FileParts = parts_of c.args.setup.now c.args.streams.now c.args.teardown.now in
    plans_cut c.in_ok-table.table.rows.items file (map plan_content c.in_ok-planned.planned.plans.items) c.in_ok-devices.devices.names.items c.in_ok-table.ensures c.in_ok-planned.ensures.plans

pub returns-clause-devices : goal.returns-clause-devices
returns-clause-devices c =
    let file : FileParts = parts_of c.args.setup.now c.args.streams.now c.args.teardown.now in
    devices_are c.in_ok-table.table.rows.items file (map plan_content c.in_ok-planned.planned.plans.items) c.in_ok-devices.devices.names.items c.in_ok-table.ensures c.in_ok-planned.ensures.plans c.in_ok-devices.ensures.names

pub returns-clause-places : goal.returns-clause-places
returns-clause-places c =
    let file : FileParts = parts_of c.args.setup.now c.args.streams.now c.args.teardown.now in
    let f = device_in c.in_ok-table.table.rows.items in
    places_are c.in_ok-table.table.rows.items file c.in_ok-devices.devices.names.items (map (λ p. p.items) c.in_ok-planned.planned.places.items) c.in_ok-table.ensures c.in_ok-devices.ensures.names c.in_ok-planned.ensures.places
