use Rattle.std.proofs.Common.{◌*◌, ◌∙◌, ap, refl, arith}
use Rattle.std.specs.Prelude.{vec_capacity}
use Rattle.device_shard.specs.Rooms.{needs_of}
use Rattle.device_shard.proofs.Roomy.{call_room}
use Rattle.device_shard.proofs.room.new_lane.Goals as goal

pub returns : goal.returns
returns c = record {
  steps = refl;
  room = call_room (needs_of c.args.measure) c.args.parts c.in_ok-call.call c.in_ok-held.held (vec_capacity c.in_ok-verdict.verdict.findings) c.in_ok-found.found c.in_ok-call.ensures.handles c.in_ok-call.ensures.bytes c.in_ok-held.ensures.rooms
      (c.in_ok-found.ensures ∙ ap (λ n. c.args.parts * n) c.in_ok-each.ensures) (omega (arith, c.max.ensures, c.in_ok-verdict.ensures.room));
}
