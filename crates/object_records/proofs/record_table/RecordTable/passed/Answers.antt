use Rattle.std.proofs.Common.{◌∙◌, ℕ, List, get_or, ap, sym, subst}
use Rattle.object_records.specs.Passed.{IsPassed}
use Rattle.object_records.proofs.Passing.{passed_read}
use Rattle.object_records.proofs.record_table.RecordTable.passed.Goals as goal

pub returns : goal.returns
returns c =
    rw (← c.self.view_is)
    (subst (λ n. IsPassed c.self.inside.records.records c.args.place n) (sym (c.noted_at.ensures ∙ ap (λ (xs : List ℕ). get_or xs c.args.place 0) c.as_slice.ensures.value))
    (passed_read c.self.inside.records.records c.self.inside.passed.items c.args.place c.self.invariant.passing))
