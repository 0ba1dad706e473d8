use Rattle.object_records.proofs.Compacted.{ended_compact, ended_read}
use Rattle.object_records.proofs.record_list.RecordList.end_at.Goals as goal

pub invariant_of-self : goal.invariant_of-self
invariant_of-self c = ended_compact c.self.inside.strays.items c.self.inside.index.pairs c.self.inside.kept.items c.args.place c.index_mut.result.now c.index_mut.ensures.value c.self.invariant

pub returns-clause-records : goal.returns-clause-records
returns-clause-records c = rw (← c.self.view_is) (ended_read c.self.inside.strays.items c.self.inside.index.pairs c.self.inside.kept.items c.args.place c.index_mut.result.now c.index_mut.ensures.value)
