use Rattle.report_text.proofs.Pieces.{two_pieces}
use Rattle.report_text.proofs.chains.put_no_driver.Goals as goal

pub returns : goal.returns
returns c = two_pieces _ _ _ _ _ c.in_ok-put_call.ensures c.in_ok-put.ensures
