use Rattle.std.proofs.Common.{◌∙◌, length, map, sym}
use Rattle.std.specs.Prelude.{vec_capacity}
use Rattle.std.proofs.lemmas.List.{length-map}
use Rattle.device_shard.specs.Plans.{stream_planned}
use Rattle.device_shard.specs.Rooms.{needs_of}
use Rattle.device_shard.proofs.Roomy.{is_ready}
use Rattle.device_shard.proofs.room.room_for.Goals as goal

pub returns : goal.returns
returns g c =
    is_ready _ (map stream_planned c.args.streams.now) c.in_ok-parts.parts c.reserve.new.parts c.in_ok-lanes.lanes.items (needs_of c.in_ok-measure.measure) (length c.args.streams.now) c.in_ok-due.due c.args.held c.count_parts.result
    (vec_capacity c.in_ok-results.results) c.light_parts_are_roomy.ensures.reserved c.requires c.in_ok-parts.ensures.parts c.in_ok-parts.ensures.kinds c.in_ok-reserve.ensures.kept c.in_ok-reserve.ensures.room
    (sym (length-map c.args.streams.now stream_planned)) c.in_ok-due.ensures c.in_ok-measure.ensures.results (c.in_ok-measure.ensures.born ∙ c.in_ok-born.ensures) c.in_ok-measure.ensures.within c.in_ok-lanes.ensures.count c.count_parts.ensures
    c.in_ok-lanes.ensures.unused c.in_ok-results.ensures.capacity
