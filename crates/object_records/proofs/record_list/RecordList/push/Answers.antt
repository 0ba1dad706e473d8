use Rattle.object_records.proofs.Compacted.{pushed_compact, pushed_records}
use Rattle.object_records.proofs.record_list.RecordList.push.Goals as goal

pub invariant_of-self : goal.invariant_of-self
invariant_of-self c =
    pushed_compact c.self.inside.strays.items c.keep-kept.new.strays.items c.self.inside.index.pairs c.add.new.self.pairs c.self.inside.kept.items c.push.new.self.items c.args.added c.self.invariant (record {
      strays_are = c.keep-kept.ensures.strays;
      pairs_are = rw c.unwrap.ensures at c.add.ensures.ok;
      one = c.keep-kept.result;
      one_is = c.keep-kept.ensures.kept;
      kept_are = rw c.unwrap-2.ensures at c.push.ensures.items;
    })

pub returns-clause-records : goal.returns-clause-records
returns-clause-records c =
    rw (← c.self.view_is)
    (pushed_records c.self.inside.strays.items c.keep-kept.new.strays.items c.self.inside.index.pairs c.add.new.self.pairs c.self.inside.kept.items c.push.new.self.items c.args.added c.self.invariant (record {
      strays_are = c.keep-kept.ensures.strays;
      pairs_are = rw c.unwrap.ensures at c.add.ensures.ok;
      one = c.keep-kept.result;
      one_is = c.keep-kept.ensures.kept;
      kept_are = rw c.unwrap-2.ensures at c.push.ensures.items;
    }))
