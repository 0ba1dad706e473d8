use Rattle.chain_session.proofs.Payloads.{text_of_printable}
use Rattle.chain_session.proofs.creation.text_of.Goals as goal

pub unreachable-requires : goal.unreachable-requires
unreachable-requires c = c.in-Err.ensures.cases.0 (text_of_printable c.args.payload.now c.requires)
