use Rattle.std.proofs.Common.{◌≡◌, Global, Vec, List, length, map, sym, ◌∙◌, ap, subst}
use Rattle.std.specs.List.{AllByRecursion, AllZip}
use Rattle.std.proofs.lemmas.List.{length-map, with_items_is}
use Rattle.std.proofs.lemmas.Result.{IfOk-weaker}
use Rattle.atomic_table.specs.Seated.{TableId}
use Rattle.stream_log.specs.declared.entry.Entry.{Entry}
use Rattle.stream_log.specs.declared.line.Line.{Line}
use Rattle.stream_log.specs.Log.{OwnerView, RisesFrom}
use Rattle.trace_format.specs.declared.event.Name.{Name}
use Rattle.device_shard.specs.Closing.{IsClosed, IsOwnerOf, closed_list, lists_of}
use Rattle.device_shard.specs.Sets.{devices_of, logs_of}
use Rattle.device_shard.specs.Shards.{ShardName}
use Rattle.device_shard.proofs.Owners.{both_ok, closed_all, first_held, last_held, logs_owned, owners_whole}
use Rattle.device_shard.proofs.Taken.{owners_same, same_count, seen_same, tokens_same}
use Rattle.device_shard.proofs.set.ShardSet.close.Goals as goal

pub first_owners-requires : goal.first_owners-requires
first_owners-requires g c = first_held g.N.ShardNames.shards _ _ _ _ _ _ _ _ _ _ _ _ _ _ _ _ c.args.self.held_are

pub add_last_owners-requires-clause-held : goal.add_last_owners-requires-clause-held
add_last_owners-requires-clause-held g c = last_held g.N.ShardNames.shards _ _ _ _ _ _ _ _ _ _ _ _ _ _ _ _ c.args.self.held_are

pub take_all-requires : goal.take_all-requires
take_all-requires g c =
    let names = g.N.ShardNames.shards in
    let set = c.args.self in
    let owners = c.add_last_owners.new.owners in
    let all = owners_whole names set.devices.items owners.items set.devices_are set.few c.in_ok-add_last_owners.ensures in
    record {
      owners = ap (map (λ (o : OwnerView). o.log)) c.deref_mut.ensures.value ∙ (logs_owned names owners.items all ∙ (sym set.logs_are ∙ sym c.deref-2.ensures.value));
      tokens = tokens_same (devices_of names) c.deref.result.now (logs_of names) c.deref-2.result.now c.args.tokens.items (sym set.devices_are ∙ sym c.deref.ensures.value) (sym set.logs_are ∙ sym c.deref-2.ensures.value) c.requires;
    }

pub close_each-requires : goal.close_each-requires
close_each-requires g c =
    let names = g.N.ShardNames.shards in
    let set = c.args.self in
    let owners = c.add_last_owners.new.owners in
    let all = owners_whole names set.devices.items owners.items set.devices_are set.few c.in_ok-add_last_owners.ensures in
    let new = c.take_all.new.owners in
    let count : length new ≡ owners.len = same_count c.deref_mut.result.now new c.take_all.ensures.lists ∙ (ap (λ (os : List OwnerView). length os) c.deref_mut.ensures.value ∙ sym owners.ok.0) in
    record {
      owners = ap (map (λ (o : OwnerView). o.log)) (with_items_is owners new count) ∙ (c.take_all.ensures.logs ∙ (ap (map (λ (o : OwnerView). o.log)) c.deref_mut.ensures.value ∙ (logs_owned names owners.items all ∙ sym set.logs_are)));
      devices = ap (λ (ds : List Name). length ds) set.devices_are ∙ (length-map names (λ (n : ShardName). n.plan.device) ∙ (sym (length-map names (λ (n : ShardName). n.log)) ∙ sym (ap (λ (ids : List TableId). length ids) set.logs_are)));
    }

pub returns-clause-devices : goal.returns-clause-devices
returns-clause-devices g c = IfOk-weaker c.close_each.result _ _ (λ v h. h ∙ c.args.self.devices_are) c.close_each.ensures.devices

pub returns-clause-past : goal.returns-clause-past
returns-clause-past g c =
    let owners = c.add_last_owners.new.owners in
    let new = c.take_all.new.owners in
    let count : length new ≡ owners.len = same_count c.deref_mut.result.now new c.take_all.ensures.lists ∙ (ap (λ (os : List OwnerView). length os) c.deref_mut.ensures.value ∙ sym owners.ok.0) in
    let lists = sym c.take_all.ensures.lists ∙ sym (ap lists_of (with_items_is owners new count)) in
    IfOk-weaker c.close_each.result _ _
    (λ v h. seen_same c.deref.result.now (map (λ (x : Name × Vec Entry Global). x.0) v.items) (lists_of c.deref_mut.result.now) (map (closed_list {A = Global}) v.items) c.args.tokens.items (c.deref.ensures.value ∙ sym h.0) (lists ∙ sym h.1)
    c.take_all.ensures.past) (both_ok c.close_each.result _ _ c.close_each.ensures.devices c.close_each.ensures.lists)

pub returns-clause-follows : goal.returns-clause-follows
returns-clause-follows g c =
    let names = g.N.ShardNames.shards in
    let set = c.args.self in
    let owners = c.add_last_owners.new.owners in
    let before = owners_whole names set.devices.items owners.items set.devices_are set.few c.in_ok-add_last_owners.ensures in
    let new = c.take_all.new.owners in
    let count : length new ≡ owners.len = same_count c.deref_mut.result.now new c.take_all.ensures.lists ∙ (ap (λ (os : List OwnerView). length os) c.deref_mut.ensures.value ∙ sym owners.ok.0) in
    let whole = ap lists_of (with_items_is owners new count) in
    let all : AllZip IsOwnerOf names new = owners_same names c.deref_mut.result.now new (subst (λ (os : List OwnerView). AllZip IsOwnerOf names os) (sym c.deref_mut.ensures.value) before) c.take_all.ensures.logs c.take_all.ensures.lists in
    IfOk-weaker c.close_each.result _ _
    (λ v h. subst (λ (ls : List (List Line)). AllZip IsClosed names ls) (sym (h.0 ∙ whole)) (closed_all names new all (subst (λ (ls : List (List Line)). AllByRecursion (RisesFrom 0) ls) (h.0 ∙ whole) h.1)))
    (both_ok c.close_each.result _ _ c.close_each.ensures.lists c.close_each.ensures.rises)
