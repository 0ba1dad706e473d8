use Rattle.std.proofs.Common.{subst, sym}
use Rattle.object_records.specs.Table.{LivesAt, TableState}
use Rattle.object_records.proofs.Linking.{counted_child}
use Rattle.object_records.proofs.Tables.{ended_table, living_there}
use Rattle.object_records.proofs.record_table.RecordTable.end_at.Goals as goal

pub unlink-requires : goal.unlink-requires
unlink-requires c =
    let rs = c.self.inside.records.records in
    let lives : LivesAt rs c.args.place = subst (λ (s : TableState). LivesAt s.records c.args.place) (sym c.self.view_is) c.requires in
    λ created. counted_child rs c.self.inside.links.links c.args.place c.get-kept.result c.self.invariant.linked c.get-kept.ensures.found (living_there rs c.args.place c.get-kept.result c.get-kept.ensures.found lives) created

pub invariant_of-self : goal.invariant_of-self
invariant_of-self c =
    let rs = c.self.inside.records.records in
    let lives : LivesAt rs c.args.place = subst (λ (s : TableState). LivesAt s.records c.args.place) (sym c.self.view_is) c.requires in
    ended_table rs c.end_at.new.self.records c.self.inside.links.links c.unlink.new.self.links c.self.inside.queues.items c.self.inside.passed.items c.self.inside.has_strays c.args.place c.get-kept.result c.self.invariant lives
    c.get-kept.ensures.found c.end_at.ensures.records c.unlink.ensures.links
