use Rattle.std.proofs.Common.{◌++◌, ℕ, List, ap}
use Rattle.std.proofs.lemmas.Result.{IfOk-equal}
use Rattle.report_text.proofs.Ids.{id_of_row}
use Rattle.chain_session.proofs.Lines.{return_of_opened}
use Rattle.chain_session.proofs.reporting.put_return.Goals as goal

pub returns : goal.returns
returns c s o h =
    IfOk-equal c.return_line.result _ _ _ c.return_line.ensures
    (ap (λ (t : List ℕ). c.args.lines.now.items ++ t)
    (return_of_opened s o c.args.call c.row.result.now.id c.answer.result c.args.born h (id_of_row c.row.result.now c.args.call.cmd c.row.ensures) c.answer.ensures))
