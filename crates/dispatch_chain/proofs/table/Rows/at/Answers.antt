use Rattle.dispatch_chain.proofs.Rows.{row_read}
use Rattle.dispatch_chain.proofs.table.Rows.at.Goals as goal

pub returns : goal.returns
returns c = row_read _ c.args.self.now _ _ c.args.cmd c.number.result c.row_at.result.now c.self.invariant c.self.view_is c.deref.ensures.value c.number.ensures c.row_at.ensures
