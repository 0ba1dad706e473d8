use Rattle.std.proofs.Common.{rules}
use Rattle.dispatch_chain.proofs.kit.Kit.leave_unique.Goals as goal

pub returns-clause-left : goal.returns-clause-left
returns-clause-left g c = let k = c.args.self.now.unique_leaves _ _ _ _ _ _ c.unique_leave.ensures.0 in search rules

pub returns-clause-succeeds : goal.returns-clause-succeeds
returns-clause-succeeds g c = let k = c.args.self.now.unique_leaves _ _ _ _ _ _ c.unique_leave.ensures.0 in search rules

pub returns-clause-spare : goal.returns-clause-spare
returns-clause-spare g c = let k = c.args.self.now.unique_leaves _ _ _ _ _ _ c.unique_leave.ensures.0 in search rules
