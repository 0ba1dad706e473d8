use Rattle.std.proofs.Common.{◌+◌, ◌∙◌, arith, length, sym, take, get_or}
use Rattle.std.proofs.lemmas.List.Folds.{list_any_more}
use Rattle.command_tables.specs.declared.types.ObjectType.TheVariants as ty
use Rattle.object_model.specs.declared.Object.{Object}
use Rattle.object_model.specs.Objects.{same, is_in}
use Rattle.session_tables.specs.Owned.{listed_in, lists_room}
use Rattle.session_tables.proofs.Listing.{all_listed, enough_left, left_more_room, listed_more, never, none_listed}
use Rattle.session_tables.proofs.owned_lists.list_at_all.Goals as goal

pub returns-in_err-list_owned-clause-stays : goal.returns-in_err-list_owned-clause-stays
returns-in_err-list_owned-clause-stays c = λ w o is. c.in_err-list_owned.ensures.stays w o (c.loop-owner.invariant.stays w o is)

pub loop-owner-preserved : goal.loop-owner-preserved
loop-owner-preserved c =
    let none : Object = record { ty = ty.Instance; number = 0 } in
    let i = c.loop-owner.owner-index in
    let xs = c.args.owners.now in
    record {
      done = λ w is.
          listed_more (listed_in c.loop-owner.lists) (listed_in c.list_owned.new.lists) (is_in (take i xs) w) (get_or xs i none) c.args.object w (c.loop-owner.invariant.done w) (c.in_ok-list_owned.ensures.stays w c.args.object)
          c.in_ok-list_owned.ensures.ok (sym (list_any_more (λ (x : Object). same x w) xs i none c.loop-owner-test.true) ∙ is);
      stays = λ w o is. c.in_ok-list_owned.ensures.stays w o (c.loop-owner.invariant.stays w o is);
      room = left_more_room (lists_room c.args.lists.now) (lists_room c.loop-owner.lists) (lists_room c.list_owned.new.lists) i c.loop-owner.invariant.room c.in_ok-list_owned.ensures.room;
      chained = c.in_ok-list_owned.ensures.chained;
    }

pub loop-owner-init : goal.loop-owner-init
loop-owner-init c = record { done = λ w is. cc is; stays = λ w o is. is; room = none_listed (lists_room c.args.lists.now); chained = c.requires }

pub returns-in_err-list_owned-clause-succeeds : goal.returns-in_err-list_owned-clause-succeeds
returns-in_err-list_owned-clause-succeeds c = λ room.
    never (c.in_err-list_owned.ensures.succeeds (enough_left (lists_room c.args.lists.now) (lists_room c.loop-owner.lists) c.loop-owner.owner-index (length c.args.owners.now) c.loop-owner-test.true room c.loop-owner.invariant.room))

pub returns-in_err-list_owned-clause-room : goal.returns-in_err-list_owned-clause-room
returns-in_err-list_owned-clause-room c =
    all_listed (lists_room c.args.lists.now) (lists_room c.list_owned.new.lists) (c.loop-owner.owner-index + 1) (length c.args.owners.now) (omega (arith, c.loop-owner-test.true))
    (left_more_room (lists_room c.args.lists.now) (lists_room c.loop-owner.lists) (lists_room c.list_owned.new.lists) c.loop-owner.owner-index c.loop-owner.invariant.room c.in_err-list_owned.ensures.room)

pub returns-clause-room : goal.returns-clause-room
returns-clause-room c = all_listed (lists_room c.args.lists.now) (lists_room c.loop-owner.lists) c.loop-owner.owner-index (length c.args.owners.now) (omega arith) c.loop-owner.invariant.room
