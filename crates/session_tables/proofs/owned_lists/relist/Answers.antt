use Rattle.std.proofs.Common.{◌∙◌, arith, vec_capacity}
use Rattle.session_tables.specs.Owned.{listed_in}
use Rattle.session_tables.specs.Placed.{table_room}
use Rattle.session_tables.proofs.Relisting.{links_more, relisted_more, two_steps}
use Rattle.session_tables.proofs.owned_lists.relist.Goals as goal

pub loop-birth-preserved : goal.loop-birth-preserved
loop-birth-preserved c =
    let births = c.args.births.now in
    let i = c.loop-birth.birth-index in
    let p = c.birth-item.result in
    let owners = c.as_slice.result.now in
    let now = c.loop-birth.lists in
    let new = c.relist_at_all.new.lists in
    let more = links_more births i p owners c.loop-birth-test.true c.birth-item.is c.as_slice.ensures in
    record {
      listed = λ w o has owned.
          relisted_more births i p owners (listed_in now w) (listed_in new w) w (λ x is. c.loop-birth.invariant.listed w x has is) c.loop-birth-test.true c.birth-item.is c.as_slice.ensures (λ x is. c.relist_at_all.ensures.stays w x is)
          (λ mine. c.relist_at_all.ensures.listed w (c.loop-birth.invariant.heads w ∙ has) mine) o owned;
      heads = λ w. c.relist_at_all.ensures.heads w ∙ c.loop-birth.invariant.heads w;
      few = omega (arith, more, c.loop-birth.invariant.few, c.relist_at_all.ensures.few);
      capacity = two_steps (vec_capacity c.clear.new.self) (vec_capacity now.nodes) (vec_capacity new.nodes) c.loop-birth.invariant.capacity c.relist_at_all.ensures.capacity;
      room = two_steps (table_room c.unlink.new.heads) (table_room now.heads) (table_room new.heads) c.loop-birth.invariant.room c.relist_at_all.ensures.room;
      chained = c.relist_at_all.ensures.chained;
    }
