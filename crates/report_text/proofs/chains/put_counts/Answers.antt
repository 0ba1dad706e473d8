use Rattle.report_text.proofs.Pieces.{three_counts}
use Rattle.report_text.proofs.chains.put_counts.Goals as goal

pub returns : goal.returns
returns c =
    three_counts _ _ _ _ _ _ _ _ _ _ _ _ _ _ c.in_ok-put_call.ensures c.in_ok-put_count.ensures c.in_ok-put_count-2.ensures c.in_ok-put_count-3.ensures c.in_ok-put.ensures
