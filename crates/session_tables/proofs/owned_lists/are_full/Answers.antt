use Rattle.std.proofs.Common.{◌-◌, length, min, vec_capacity}
use Rattle.std.proofs.lemmas.Bool.{ltb-true}
use Rattle.session_tables.specs.Placed.{table_room}
use Rattle.session_tables.proofs.Listing.{room_short}
use Rattle.session_tables.proofs.owned_lists.are_full.Goals as goal

pub returns : goal.returns
returns c = λ full.
    let lists = c.args.lists.now in
    room_short (min (vec_capacity lists.nodes) 4294967295 - length lists.nodes.items) (table_room lists.heads) c.node_room.result c.args.n c.node_room.ensures (ltb-true c.node_room.result c.args.n full)
