use Rattle.std.proofs.Common.{◌+◌, length}
use Rattle.session_tables.specs.Owned.{lists_room}
use Rattle.session_tables.proofs.Relisting.{two_steps}
use Rattle.session_tables.proofs.owned_lists.list_at_each.Goals as goal

pub returns-clause-succeeds : goal.returns-clause-succeeds
returns-clause-succeeds c = λ room. c.list_at_all.ensures.succeeds (two_steps (length c.args.owners.now) (lists_room c.args.lists.now) (lists_room c.make_room.new.lists) room c.make_room.ensures.room)

pub returns-clause-room : goal.returns-clause-room
returns-clause-room c = two_steps (lists_room c.args.lists.now) (lists_room c.make_room.new.lists) (lists_room c.list_at_all.new.lists + length c.args.owners.now) c.make_room.ensures.room c.list_at_all.ensures.room
