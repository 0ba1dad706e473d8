use Rattle.std.proofs.Common.{◌≡◌, Some, List, length, refl, sym, ◌∙◌, subst, map-id}
use Rattle.std.specs.List.{AllByRecursion}
use Rattle.std.proofs.lemmas.Iterator.Adapters.{YieldsList-from_vec}
use Rattle.std.proofs.lemmas.Iterator.Consumers.{YieldsList-end, YieldsList-turn}
use Rattle.std.proofs.lemmas.Option.{slice_get_read}
use Rattle.stream_log.specs.declared.line.Line.{Line}
use Rattle.stream_log.specs.Log.{SeenView}
use Rattle.trace_format.specs.declared.event.Name.{Name}
use Rattle.device_shard.specs.Closing.{IsSeenIn, at_device, lists_of}
use Rattle.device_shard.proofs.Lists.{all_at}
use Rattle.device_shard.proofs.Taken.{all_pushed}
use Rattle.device_shard.proofs.closing.take_all.Goals as goal

pub take_one-requires : goal.take_one-requires
take_one-requires c =
    let made = c.into_iter-device-iterator.ensures.into_iter_gives in
    let road = YieldsList-from_vec {s = c.into_iter-device-iterator.result} c.args.tokens.items made.0 (made.1 ∙ c.args.tokens.ok.0) in
    let turn = YieldsList-turn road c.loop-device.yielded c.loop-device.device-iterator c.loop-device.yielded_by _ c.next.new.self (c.in-Some.device, c.in-Some.seen) c.in-Some.is c.next.ensures.steps in
    record {
      owners = c.loop-device.invariant.logs ∙ c.requires.owners;
      token = all_at (λ (t : Name × SeenView). at_device c.args.devices.now c.args.logs.now t.0 ≡ Some t.1.log) c.args.tokens.items (length c.loop-device.yielded) (c.in-Some.device, c.in-Some.seen) c.requires.tokens
          (slice_get_read c.args.tokens.items (length c.args.tokens.items) (length c.loop-device.yielded) (c.in-Some.device, c.in-Some.seen) refl turn.0 turn.1);
    }

pub loop-device-preserved : goal.loop-device-preserved
loop-device-preserved c =
    let lists = c.loop-device.invariant.lists in
    record {
      logs = c.take_one.ensures.logs ∙ c.loop-device.invariant.logs;
      lists = c.take_one.ensures.lists ∙ lists;
      past = all_pushed (λ (t : Name × SeenView). IsSeenIn (at_device c.args.devices.now (lists_of c.args.owners.now) t.0) t.1) c.loop-device.yielded (c.in-Some.device, c.in-Some.seen) c.loop-device.invariant.past
          (subst (λ (ls : List (List Line)). IsSeenIn (at_device c.args.devices.now ls c.in-Some.device) c.in-Some.seen) lists c.take_one.ensures.past);
    }

pub returns-clause-past : goal.returns-clause-past
returns-clause-past c =
    let made = c.into_iter-device-iterator.ensures.into_iter_gives in
    let road = YieldsList-from_vec {s = c.into_iter-device-iterator.result} c.args.tokens.items made.0 (made.1 ∙ c.args.tokens.ok.0) in
    let end = YieldsList-end road c.loop-device.yielded c.loop-device.device-iterator c.loop-device.yielded_by _ c.next.new.self c.in-None.is c.next.ensures.steps in
    let whole : c.loop-device.yielded ≡ c.args.tokens.items = sym (map-id c.loop-device.yielded) ∙ end.0 in
    subst (λ (ts : List (Name × SeenView)). AllByRecursion (λ (t : Name × SeenView). IsSeenIn (at_device c.args.devices.now (lists_of c.args.owners.now) t.0) t.1) ts) whole c.loop-device.invariant.past
