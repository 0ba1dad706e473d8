use Rattle.std.proofs.Common.{sym, subst}
use Rattle.object_records.specs.Passed.{IsPassed}
use Rattle.object_records.specs.Table.{TableState}
use Rattle.object_records.proofs.Passing.{noted_passed}
use Rattle.object_records.proofs.record_table.RecordTable.pass_over.Goals as goal

pub invariant_of-self : goal.invariant_of-self
invariant_of-self c =
    let passes : IsPassed c.self.inside.records.records c.args.place c.args.before = subst (λ (s : TableState). IsPassed s.records c.args.place c.args.before) (sym c.self.view_is) c.requires.passed in record {
      owners = c.self.invariant.owners;
      linked = c.self.invariant.linked;
      queued = c.self.invariant.queued;
      short = c.self.invariant.short;
      passing = noted_passed c.self.inside.records.records c.self.inside.passed.items c.note.new.passed.items c.args.place c.args.before c.self.invariant.passing passes c.note.ensures;
      stray = c.self.invariant.stray;
    }
