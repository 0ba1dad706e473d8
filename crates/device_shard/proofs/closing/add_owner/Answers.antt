use Rattle.std.proofs.Common.{sym, ◌∙◌, ap, is_some, length, ltb-false, ltb-true}
use Rattle.device_shard.proofs.Owners.{owners_all, owners_more}
use Rattle.device_shard.proofs.closing.add_owner.Goals as goal

pub returns-in_default : goal.returns-in_default
returns-in_default g c =
    let names = g.N.ShardNames.shards in
    owners_all names g.row.K c.args.owners.now.items c.requires.before (ltb-false g.row.K (length names) (sym c.requires.held ∙ ap is_some c.in_default.is))

pub returns : goal.returns
returns g c =
    let names = g.N.ShardNames.shards in
    rw c.in_ok-push.ensures.items
    (owners_more names g.row.K c.args.owners.now.items c.into_owner.result c.requires.before (ltb-true g.row.K (length names) (sym c.requires.held ∙ ap is_some c.in-Some.is)) c.into_owner.ensures)
