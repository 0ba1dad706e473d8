use Rattle.std.proofs.Common.{◌<◌, length, arith}
use Rattle.object_records.proofs.Added.{added_longer, added_more, once_more}
use Rattle.object_records.proofs.births.add_births.Goals as goal

pub loop-k-preserved : goal.loop-k-preserved
loop-k-preserved c =
    let less : c.loop-k.k < length c.args.results.now = omega (arith, c.loop-k-test.true) in record {
      records = added_more c.args.is_created c.args.owner c.args.ty c.args.results.now c.loop-k.k c.loop-k.table.records c.add_birth.new.table.records _ less c.add_birth.ensures.records c.loop-k.invariant.once c.loop-k.invariant.records;
      once = once_more c.args.is_created c.args.owner c.args.ty c.args.results.now c.loop-k.k c.loop-k.table.records c.add_birth.new.table.records less c.add_birth.ensures.records c.loop-k.invariant.once;
      room = omega (arith, c.loop-k.invariant.room, c.add_birth.ensures.spare);
      spare = omega (arith, c.loop-k.invariant.spare, c.add_birth.ensures.spare);
      within = added_longer c.loop-k.table.records c.add_birth.new.table.records _ _ c.add_birth.ensures.records c.loop-k.invariant.within;
    }
