use Rattle.std.proofs.Common.{◌≡◌, ◌≤◌, ap, map, refl, subst, sym}
use Rattle.trace_format.specs.Content.{BeginEvent, Begin, arg_content, content}
use Rattle.shard_room.specs.Needs.{IsWithinAt}
use Rattle.device_shard.specs.Rooms.{needs_of}
use Rattle.device_shard.specs.Shards.{results_at}
use Rattle.device_shard.proofs.measure.with_event.Goals as goal

pub returns-in_ok-most-in-Begin-clause-within : goal.returns-in_ok-most-in-Begin-clause-within
returns-in_ok-most-in-Begin-clause-within c =
    let b : BeginEvent =
    record { thread = c.in-Begin.thread; cmd = c.in-Begin.cmd; args = map arg_content c.in-Begin.args.items; results = c.in-Begin.results.items; code = c.in-Begin.code; payload = c.in-Begin.payload.items } in
    let now : content c.args.event.now ≡ Begin b = ap content c.in-Begin.is in
    subst (IsWithinAt (needs_of c.in_ok-most-in-Begin.most)) (sym now)
    (c.in_ok-most-in-Begin.ensures.within b refl (ap (map arg_content) (sym c.deref.ensures.value)) (sym c.deref-in-Begin.ensures.value) (subst (λ e. results_at e ≤ c.args.measure.results) now c.requires))
