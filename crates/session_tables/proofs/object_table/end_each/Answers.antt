use Rattle.std.proofs.Common.{◌≡◌, ◌∙◌, ◌-◌, ◌&&◌, ap, arith, get_or, refl}
use Rattle.std.proofs.Math.Nat.{le_trans}
use Rattle.command_tables.specs.declared.types.ObjectType.TheVariants as ty
use Rattle.object_model.specs.declared.Object.{Object}
use Rattle.object_model.specs.Objects.{same, is_in}
use Rattle.object_model.specs.History.{owners_in}
use Rattle.session_tables.specs.declared.owned_lists.OwnedNode.{OwnedNode}
use Rattle.session_tables.specs.Owned.{objects_from}
use Rattle.session_tables.specs.Placed.{table_room}
use Rattle.session_tables.proofs.Listing.{chain_next, left_owners, none_owned, same_room, walk_begun, walk_ended, walk_more}
use Rattle.session_tables.proofs.object_table.end_each.Goals as goal

pub loop-link-init : goal.loop-link-init
loop-link-init c = record {
  within = c.requires.within;
  walked = walk_begun c.args.births.now.births (objects_from c.args.nodes.now c.args.head) c.args.named;
  heads = λ w apart. refl;
  fewer = λ w. omega arith;
  spare = omega arith;
  room = same_room (table_room c.args.heads.now);
  placed = c.requires.placed;
}

pub loop-link-preserved : goal.loop-link-preserved
loop-link-preserved c =
    let none : OwnedNode = record { object = record { ty = ty.Instance; number = 0 }; before = 0 } in
    let nodes = c.args.nodes.now in
    let link = c.loop-link.link in
    let x : OwnedNode = get_or nodes (link - 1) none in
    let before = c.args.births.now.births in
    let mid = c.loop-link.births.births in
    let named = c.args.named in
    let walked = c.loop-link.invariant.walked in
    let next = chain_next nodes link none c.requires.down c.loop-link-test.true c.loop-link.invariant.within in
    record {
      within = omega (arith, next.1, c.loop-link.invariant.within);
      walked = walk_more before mid c.end_owned.new.births.births (objects_from nodes c.args.head) (objects_from nodes link) (objects_from nodes x.before) x.object named walked next.0 c.end_owned.ensures.left;
      heads = λ w apart.
          c.end_owned.ensures.heads w (none_owned (same x.object w) (is_in (owners_in mid w) named) (left_owners before mid (λ (o : Object). is_in walked.done o && is_in (owners_in before o) named) w named walked.left apart)) ∙ c.loop-link.invariant.heads w apart;
      fewer = λ w. omega (arith, c.end_owned.ensures.fewer w, c.loop-link.invariant.fewer w);
      spare = omega (arith, c.end_owned.ensures.spare, c.loop-link.invariant.spare);
      room = le_trans c.loop-link.invariant.room c.end_owned.ensures.room;
      placed = c.end_owned.ensures.placed;
    }

pub returns-clause-left : goal.returns-clause-left
returns-clause-left c =
    let none : c.loop-link.link ≡ 0 = omega (arith, c.loop-link-test.false) in
    let nodes = c.args.nodes.now in
    walk_ended c.args.births.now.births c.loop-link.births.births (objects_from nodes c.args.head) (objects_from nodes c.loop-link.link) c.args.named c.loop-link.invariant.walked (ap (objects_from nodes) none)
