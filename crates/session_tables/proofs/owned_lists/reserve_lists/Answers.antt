use Rattle.std.proofs.Common.{◌∙◌, ap}
use Rattle.object_model.specs.Objects.{is_in}
use Rattle.session_tables.specs.Owned.{lists_room}
use Rattle.session_tables.proofs.Relisting.{two_steps}
use Rattle.session_tables.proofs.owned_lists.reserve_lists.Goals as goal

pub returns-clause-stays : goal.returns-clause-stays
returns-clause-stays c = λ w o owned is. ap (λ xs. is_in xs o) (c.reserve.ensures.listed w) ∙ c.make_room.ensures.stays w o owned is

pub returns-clause-room : goal.returns-clause-room
returns-clause-room c = two_steps (lists_room c.args.lists.now) (lists_room c.make_room.new.lists) (lists_room c.reserve.new.self) c.make_room.ensures.room c.reserve.ensures.room
