use Rattle.std.proofs.Common.{◌≡◌, ◌≤◌, ◌+◌, ◌-◌, ap, arith, length, refl, vec_capacity}
use Rattle.session_tables.specs.Placed.{table_room}
use Rattle.session_tables.proofs.Listing.{chained_same, listed_same, room_made, room_new, same_room}
use Rattle.session_tables.proofs.owned_lists.OwnedLists.reserve.Goals as goal

pub returns-in_err-reserve-clause-listed : goal.returns-in_err-reserve-clause-listed
returns-in_err-reserve-clause-listed c =
    let lists = c.args.self.now in
    listed_same lists.heads lists.heads lists.nodes.items c.reserve.new.self.items refl c.in_err-reserve.ensures.items

pub returns-in_err-reserve-clause-room : goal.returns-in_err-reserve-clause-room
returns-in_err-reserve-clause-room c =
    let lists = c.args.self.now in
    room_made (vec_capacity lists.nodes) (vec_capacity c.reserve.new.self) (length lists.nodes.items) (length c.reserve.new.self.items) (table_room lists.heads) (table_room lists.heads) (ap length c.in_err-reserve.ensures.items) c.in_err-reserve.ensures.capacity (same_room (table_room lists.heads))

pub returns-in_err-reserve-clause-chained : goal.returns-in_err-reserve-clause-chained
returns-in_err-reserve-clause-chained c =
    let lists = c.args.self.now in
    chained_same lists.heads lists.heads lists.nodes.items c.reserve.new.self.items c.requires c.requires.placed refl c.in_err-reserve.ensures.items

pub returns-in_err-reserve-2-clause-listed : goal.returns-in_err-reserve-2-clause-listed
returns-in_err-reserve-2-clause-listed c =
    let lists = c.args.self.now in
    listed_same lists.heads c.reserve-2.new.self lists.nodes.items c.reserve.new.self.items c.in_err-reserve-2.ensures.entries c.in_ok-reserve.ensures.items

pub returns-in_err-reserve-2-clause-room : goal.returns-in_err-reserve-2-clause-room
returns-in_err-reserve-2-clause-room c =
    let lists = c.args.self.now in
    room_made (vec_capacity lists.nodes) (vec_capacity c.reserve.new.self) (length lists.nodes.items) (length c.reserve.new.self.items) (table_room lists.heads) (table_room c.reserve-2.new.self) (ap length c.in_ok-reserve.ensures.items) c.in_ok-reserve.ensures.capacity c.in_err-reserve-2.ensures.room

pub returns-in_err-reserve-2-clause-chained : goal.returns-in_err-reserve-2-clause-chained
returns-in_err-reserve-2-clause-chained c =
    let lists = c.args.self.now in
    chained_same lists.heads c.reserve-2.new.self lists.nodes.items c.reserve.new.self.items c.requires c.in_err-reserve-2.ensures.placed c.in_err-reserve-2.ensures.entries c.in_ok-reserve.ensures.items

pub returns-clause-listed : goal.returns-clause-listed
returns-clause-listed c =
    let lists = c.args.self.now in
    listed_same lists.heads c.reserve-2.new.self lists.nodes.items c.reserve.new.self.items c.in_ok-reserve-2.ensures.entries c.in_ok-reserve.ensures.items

pub returns-clause-room : goal.returns-clause-room
returns-clause-room c =
    let lists = c.args.self.now in
    room_made (vec_capacity lists.nodes) (vec_capacity c.reserve.new.self) (length lists.nodes.items) (length c.reserve.new.self.items) (table_room lists.heads) (table_room c.reserve-2.new.self) (ap length c.in_ok-reserve.ensures.items) c.in_ok-reserve.ensures.capacity c.in_ok-reserve-2.ensures.room

pub returns-clause-chained : goal.returns-clause-chained
returns-clause-chained c =
    let lists = c.args.self.now in
    chained_same lists.heads c.reserve-2.new.self lists.nodes.items c.reserve.new.self.items c.requires c.in_ok-reserve-2.ensures.placed c.in_ok-reserve-2.ensures.entries c.in_ok-reserve.ensures.items

pub returns-clause-ok : goal.returns-clause-ok
returns-clause-ok c =
    let lists = c.args.self.now in
    let news = c.reserve.new.self in
    let long : length news.items ≡ length lists.nodes.items = ap length c.in_ok-reserve.ensures.items in
    let there : length news.items + c.args.n ≤ vec_capacity news = omega (arith, c.in_ok-reserve.ensures.ok, news.ok.0) in
    let few : c.args.n ≤ 4294967295 - length news.items = omega (arith, long, lists.nodes.ok.0) in
    room_new c.args.n (vec_capacity news) (length news.items) (table_room c.reserve-2.new.self) there few c.in_ok-reserve-2.ensures.ok
