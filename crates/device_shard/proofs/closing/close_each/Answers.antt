use Rattle.std.proofs.Common.{◌≡◌, Global, Vec, List, length, map, refl, sym, ◌∙◌, ap, subst, map-id}
use Rattle.std.specs.List.{AllByRecursion, zip}
use Rattle.std.proofs.lemmas.Iterator.{YieldsList-from_zip}
use Rattle.std.proofs.lemmas.Iterator.Adapters.{YieldsList-from_vec}
use Rattle.std.proofs.lemmas.Iterator.Consumers.{YieldsList-at, YieldsList-end, YieldsList-turn}
use Rattle.std.proofs.lemmas.Option.{slice_get_read}
use Rattle.atomic_table.specs.Seated.{TableId}
use Rattle.stream_log.specs.declared.entry.Entry.{Entry}
use Rattle.stream_log.specs.Log.{OwnerView, RisesFrom}
use Rattle.trace_format.specs.declared.event.Name.{Name}
use Rattle.device_shard.specs.Closing.{closed_list}
use Rattle.device_shard.proofs.Lists.{all_at}
use Rattle.device_shard.proofs.Zipped.{both_pushed, devices_paired, lists_paired, logs_paired, rises_pushed}
use Rattle.device_shard.proofs.closing.close_each.Goals as goal

pub close-requires : goal.close-requires
close-requires c =
    let pairs = YieldsList-from_zip (YieldsList-at c.zip-pairs.ensures.first (YieldsList-from_vec c.args.logs.items c.into_iter.ensures.rest (c.into_iter.ensures.len ∙ c.args.logs.ok.0)))
    (YieldsList-from_vec c.args.owners.items c.zip-pairs.ensures.second.0 (c.zip-pairs.ensures.second.1 ∙ c.args.owners.ok.0)) in
    let road = YieldsList-at c.into_iter-device-iterator.ensures.into_iter_gives (
    YieldsList-from_zip (YieldsList-at c.zip-device-items.ensures.first (YieldsList-from_vec c.args.devices.items c.into_iter-2.ensures.rest (c.into_iter-2.ensures.len ∙ c.args.devices.ok.0))) (YieldsList-at c.zip-device-items.ensures.second pairs)
    ) in
    let all = zip c.args.devices.items (zip c.args.logs.items c.args.owners.items) in
    let x : Name × (TableId × OwnerView) = (c.in-Some.device, (c.in-Some.log, c.in-Some.owner)) in
    let turn = YieldsList-turn road c.loop-device.yielded c.loop-device.device-iterator c.loop-device.yielded_by _ c.next.new.self x c.in-Some.is c.next.ensures.steps in
    all_at (λ (y : Name × (TableId × OwnerView)). y.1.1.log ≡ y.1.0) all (length c.loop-device.yielded) x (logs_paired c.args.devices.items c.args.logs.items c.args.owners.items c.requires.owners)
    (slice_get_read all (length all) (length c.loop-device.yielded) x refl turn.0 turn.1)

pub loop-device-preserved : goal.loop-device-preserved
loop-device-preserved c =
    let x : Name × (TableId × OwnerView) = (c.in-Some.device, (c.in-Some.log, c.in-Some.owner)) in
    let y : Name × Vec Entry Global = (c.in-Some.device, c.in-Ok.entries) in
    let was = c.loop-device.closed.items in
    let pushed = c.in_ok-push.ensures.items in
    record {
      devices = ap (map (λ (z : Name × Vec Entry Global). z.0)) pushed ∙ both_pushed (λ (z : Name × Vec Entry Global). z.0) (λ (z : Name × (TableId × OwnerView)). z.0) was c.loop-device.yielded y x c.loop-device.invariant.devices refl;
      lists = ap (map (closed_list {A = Global})) pushed ∙ both_pushed (closed_list {A = Global}) (λ (z : Name × (TableId × OwnerView)). z.1.1.list) was c.loop-device.yielded y x c.loop-device.invariant.lists c.in-Ok.ensures.entries;
      rises = subst (λ (vs : List (Name × Vec Entry Global)). AllByRecursion (RisesFrom 0) (map (closed_list {A = Global}) vs)) (sym pushed)
          (rises_pushed (closed_list {A = Global}) was y c.loop-device.invariant.rises (subst (RisesFrom 0) (sym c.in-Ok.ensures.entries) c.in-Ok.ensures.rises));
    }

pub returns-clause-devices : goal.returns-clause-devices
returns-clause-devices c =
    let pairs = YieldsList-from_zip (YieldsList-at c.zip-pairs.ensures.first (YieldsList-from_vec c.args.logs.items c.into_iter.ensures.rest (c.into_iter.ensures.len ∙ c.args.logs.ok.0)))
    (YieldsList-from_vec c.args.owners.items c.zip-pairs.ensures.second.0 (c.zip-pairs.ensures.second.1 ∙ c.args.owners.ok.0)) in
    let road = YieldsList-at c.into_iter-device-iterator.ensures.into_iter_gives (
    YieldsList-from_zip (YieldsList-at c.zip-device-items.ensures.first (YieldsList-from_vec c.args.devices.items c.into_iter-2.ensures.rest (c.into_iter-2.ensures.len ∙ c.args.devices.ok.0))) (YieldsList-at c.zip-device-items.ensures.second pairs)
    ) in
    let end = YieldsList-end road c.loop-device.yielded c.loop-device.device-iterator c.loop-device.yielded_by _ c.next.new.self c.in-None.is c.next.ensures.steps in
    let whole : c.loop-device.yielded ≡ zip c.args.devices.items (zip c.args.logs.items c.args.owners.items) = sym (map-id c.loop-device.yielded) ∙ end.0 in
    c.loop-device.invariant.devices ∙ (ap (map (λ (z : Name × (TableId × OwnerView)). z.0)) whole ∙ devices_paired c.args.devices.items c.args.logs.items c.args.owners.items c.requires.owners c.requires.devices)

pub returns-clause-lists : goal.returns-clause-lists
returns-clause-lists c =
    let pairs = YieldsList-from_zip (YieldsList-at c.zip-pairs.ensures.first (YieldsList-from_vec c.args.logs.items c.into_iter.ensures.rest (c.into_iter.ensures.len ∙ c.args.logs.ok.0)))
    (YieldsList-from_vec c.args.owners.items c.zip-pairs.ensures.second.0 (c.zip-pairs.ensures.second.1 ∙ c.args.owners.ok.0)) in
    let road = YieldsList-at c.into_iter-device-iterator.ensures.into_iter_gives (
    YieldsList-from_zip (YieldsList-at c.zip-device-items.ensures.first (YieldsList-from_vec c.args.devices.items c.into_iter-2.ensures.rest (c.into_iter-2.ensures.len ∙ c.args.devices.ok.0))) (YieldsList-at c.zip-device-items.ensures.second pairs)
    ) in
    let end = YieldsList-end road c.loop-device.yielded c.loop-device.device-iterator c.loop-device.yielded_by _ c.next.new.self c.in-None.is c.next.ensures.steps in
    let whole : c.loop-device.yielded ≡ zip c.args.devices.items (zip c.args.logs.items c.args.owners.items) = sym (map-id c.loop-device.yielded) ∙ end.0 in
    c.loop-device.invariant.lists ∙ (ap (map (λ (z : Name × (TableId × OwnerView)). z.1.1.list)) whole ∙ lists_paired c.args.devices.items c.args.logs.items c.args.owners.items c.requires.owners c.requires.devices)
