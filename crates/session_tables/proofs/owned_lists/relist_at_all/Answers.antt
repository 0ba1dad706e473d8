use Rattle.std.proofs.Common.{◌∙◌, get_or, length, sym, take, vec_capacity}
use Rattle.std.proofs.lemmas.List.Folds.{list_any_more}
use Rattle.command_tables.specs.declared.types.ObjectType.TheVariants as ty
use Rattle.object_model.specs.declared.Object.{Object}
use Rattle.object_model.specs.Objects.{same, is_in}
use Rattle.session_tables.specs.Owned.{has_head, listed_in}
use Rattle.session_tables.specs.Placed.{table_room}
use Rattle.session_tables.proofs.Relisting.{one_more_node, relisted_at, two_steps}
use Rattle.session_tables.proofs.owned_lists.relist_at_all.Goals as goal

pub loop-owner-preserved : goal.loop-owner-preserved
loop-owner-preserved c =
    let none : Object = record { ty = ty.Instance; number = 0 } in
    let i = c.loop-owner.owner-index in
    let xs = c.args.owners.now in
    let lists = c.args.lists.now in
    let now = c.loop-owner.lists in
    let new = c.relist_owned.new.lists in
    record {
      listed = λ w has is.
          relisted_at (listed_in new) (has_head now.heads) (is_in (take i xs) w) (get_or xs i none) c.args.object w (λ b. c.relist_owned.ensures.stays w c.args.object (c.loop-owner.invariant.listed w has b)) c.relist_owned.ensures.listed
          (c.loop-owner.invariant.heads w ∙ has) (sym (list_any_more (λ (x : Object). same x w) xs i none c.loop-owner-test.true) ∙ is);
      stays = λ w o is. c.relist_owned.ensures.stays w o (c.loop-owner.invariant.stays w o is);
      heads = λ w. c.relist_owned.ensures.heads w ∙ c.loop-owner.invariant.heads w;
      few = one_more_node (length new.nodes.items) (length now.nodes.items) (length lists.nodes.items) i c.relist_owned.ensures.few c.loop-owner.invariant.few;
      capacity = two_steps (vec_capacity lists.nodes) (vec_capacity now.nodes) (vec_capacity new.nodes) c.loop-owner.invariant.capacity c.relist_owned.ensures.capacity;
      room = two_steps (table_room lists.heads) (table_room now.heads) (table_room new.heads) c.loop-owner.invariant.room c.relist_owned.ensures.room;
      chained = c.relist_owned.ensures.chained;
    }
