use Rattle.std.proofs.Common.{IsTrue, false, sym, ◌∙◌}
use Rattle.model_driver.proofs.Rows.{row_long}
use Rattle.model_driver.proofs.shape.fits_row.Goals as goal

pub returns-then-params-len : goal.returns-then-params-len
returns-then-params-len c = (λ (none : IsTrue false). cc none, λ fit. absurd (c.if-params-len.true (row_long c.args.params.now c.args.args.now.lists fit ∙ sym c.len.ensures.count)))
