use Rattle.report_text.specs.Chains.{chain_lines}
use Rattle.report_text.proofs.Pieces.{five_pieces}
use Rattle.report_text.proofs.chains.put_lists.Goals as goal

pub returns : goal.returns
unfolding chain_lines
returns c =
    five_pieces _ _ _ _ _ _ _ _ _ _ _ c.in_ok-put_head.ensures c.in_ok-put_notes.ensures c.in_ok-put_layers.ensures c.in_ok-put_parts.ensures c.in_ok-put_drivers.ensures
