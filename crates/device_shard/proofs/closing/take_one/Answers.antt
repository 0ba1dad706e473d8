use Rattle.std.proofs.Common.{◌≡◌, Some, length, map, get_or, is_some, refl, sym, ◌∙◌, ap}
use Rattle.std.specs.Prelude.{position, slice_get}
use Rattle.std.proofs.lemmas.Option.{slice_get-get_or, slice_get_read}
use Rattle.stream_log.specs.Log.{OwnerView}
use Rattle.trace_format.specs.declared.event.Name.{Name}
use Rattle.trace_format.specs.Accepting.{same_name}
use Rattle.device_shard.proofs.Lists.{one}
use Rattle.device_shard.proofs.Taken.{has_place, kept_set, place_there, same_log, seen_at, to_place}
use Rattle.device_shard.proofs.closing.take_one.Goals as goal

pub unwrap-place-requires : goal.unwrap-place-requires
unwrap-place-requires c = ap is_some c.place_in.ensures ∙ place_there c.args.logs.now (position (λ (d : Name). same_name d c.args.device) c.args.devices.now) c.args.seen.log c.requires.token

pub bounds-owners-place : goal.bounds-owners-place
bounds-owners-place c =
    let at = position (λ (d : Name). same_name d c.args.device) c.args.devices.now in
    let place = c.unwrap-place.result in
    let there = sym c.place_in.ensures ∙ c.unwrap-place.ensures in
    let has = has_place c.args.logs.now c.args.owners.now at place c.args.seen.log there c.requires.owners c.requires.token in
    has.inside

pub bounds-logs-place : goal.bounds-logs-place
bounds-logs-place c =
    let at = position (λ (d : Name). same_name d c.args.device) c.args.devices.now in
    let place = c.unwrap-place.result in
    let there = sym c.place_in.ensures ∙ c.unwrap-place.ensures in
    let has = has_place c.args.logs.now c.args.owners.now at place c.args.seen.log there c.requires.owners c.requires.token in
    has.within

pub take-requires : goal.take-requires
take-requires c =
    let at = position (λ (d : Name). same_name d c.args.device) c.args.devices.now in
    let place = c.unwrap-place.result in
    let there = sym c.place_in.ensures ∙ c.unwrap-place.ensures in
    let has = has_place c.args.logs.now c.args.owners.now at place c.args.seen.log there c.requires.owners c.requires.token in
    let it = get_or c.args.owners.now place c.index-owners-place.result in
    let owner = slice_get-get_or c.args.owners.now place c.index-owners-place.result has.inside in
    let log : slice_get c.args.logs.now place ≡ Some c.index-logs-place.result = slice_get_read c.args.logs.now (length c.args.logs.now) place c.index-logs-place.result refl has.within c.index-logs-place.is in
    record { log = (same_log c.args.owners.now c.args.logs.now place it c.index-logs-place.result c.requires.owners owner log, one c.args.seen.log c.index-logs-place.result (sym has.here ∙ log)) }

pub returns-clause-logs : goal.returns-clause-logs
returns-clause-logs c =
    let at = position (λ (d : Name). same_name d c.args.device) c.args.devices.now in
    let place = c.unwrap-place.result in
    let there = sym c.place_in.ensures ∙ c.unwrap-place.ensures in
    let has = has_place c.args.logs.now c.args.owners.now at place c.args.seen.log there c.requires.owners c.requires.token in
    let it = get_or c.args.owners.now place c.index-owners-place.result in
    let owner = slice_get-get_or c.args.owners.now place c.index-owners-place.result has.inside in
    kept_set (λ (o : OwnerView). o.log) c.args.owners.now place it c.take.new.self owner (ap (λ (o : OwnerView). o.log) c.take.ensures.owner)

pub returns-clause-lists : goal.returns-clause-lists
returns-clause-lists c =
    let at = position (λ (d : Name). same_name d c.args.device) c.args.devices.now in
    let place = c.unwrap-place.result in
    let there = sym c.place_in.ensures ∙ c.unwrap-place.ensures in
    let has = has_place c.args.logs.now c.args.owners.now at place c.args.seen.log there c.requires.owners c.requires.token in
    let it = get_or c.args.owners.now place c.index-owners-place.result in
    let owner = slice_get-get_or c.args.owners.now place c.index-owners-place.result has.inside in
    kept_set (λ (o : OwnerView). o.list) c.args.owners.now place it c.take.new.self owner (ap (λ (o : OwnerView). o.list) c.take.ensures.owner)

pub returns-clause-past : goal.returns-clause-past
returns-clause-past c =
    let at = position (λ (d : Name). same_name d c.args.device) c.args.devices.now in
    let place = c.unwrap-place.result in
    let there = sym c.place_in.ensures ∙ c.unwrap-place.ensures in
    let has = has_place c.args.logs.now c.args.owners.now at place c.args.seen.log there c.requires.owners c.requires.token in
    let it = get_or c.args.owners.now place c.index-owners-place.result in
    let owner = slice_get-get_or c.args.owners.now place c.index-owners-place.result has.inside in
    record {
      whole = it.list;
      is = to_place (map (λ (o : OwnerView). o.list) c.args.owners.now) at place it.list there (seen_at (λ (o : OwnerView). o.list) c.args.owners.now place it owner);
      past = c.take.ensures.past;
    }
