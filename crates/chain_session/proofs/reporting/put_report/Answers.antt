use Rattle.report_text.proofs.Ids.{id_of_row}
use Rattle.chain_session.proofs.reporting.put_report.Goals as goal

pub returns : goal.returns
returns c = rw (id_of_row c.row.result.now c.args.cmd c.row.ensures, c.written-name.ensures) at c.report_line.ensures
