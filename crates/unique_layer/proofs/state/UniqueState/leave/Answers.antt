use Rattle.std.proofs.Common.{◌≡◌, ℕ, sym, ◌∙◌, subst}
use Rattle.std.specs.Prelude.{OnOk}
use Rattle.layer_model.specs.Ids.{IssuedAll}
use Rattle.unique_layer.specs.Shown.{key_asked}
use Rattle.unique_layer.proofs.Keeping.{named_type}
use Rattle.unique_layer.proofs.Payloads.{leave_by}
use Rattle.unique_layer.proofs.state.UniqueState.leave.Goals as goal

pub returns-in-Some-clause-ids : goal.returns-in-Some-clause-ids
returns-in-Some-clause-ids c =
    let by = leave_by c.args.self.now.ids c.args.upper.now c.args.results.now c.in-Some.ty c.row-row.result.now (key_asked c.key_of-key.result) c.row-row.ensures (sym c.in-Some.ensures) (sym c.wraps.ensures ∙ c.if-wraps.true) c.key_of-key.ensures in
    let P : IssuedAll ℕ → Type 0 = λ all. OnOk c.issue_all_or_none.result (record { results = c.issue_all_or_none.new.results; ids = c.issue_all_or_none.new.self.ids } ≡ all) in
    subst P by c.issue_all_or_none.ensures.ids

pub issue_all_or_none-requires : goal.issue_all_or_none-requires
issue_all_or_none-requires c = rw c.key_of-key.ensures (named_type _ c.row-row.result.now.effect c.in-Some.ty (sym c.in-Some.ensures))
