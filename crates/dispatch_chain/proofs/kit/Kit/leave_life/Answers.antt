use Rattle.std.proofs.Common.{rules}
use Rattle.dispatch_chain.proofs.kit.Kit.leave_life.Goals as goal

pub returns-clause-kept : goal.returns-clause-kept
returns-clause-kept g c = let k = c.args.self.now.life_leaves _ _ _ _ _ c.requires.shape c.requires.once c.life_leave.ensures.0 in search rules

pub returns-clause-place : goal.returns-clause-place
returns-clause-place g c = let k = c.args.self.now.life_leaves _ _ _ _ _ c.requires.shape c.requires.once c.life_leave.ensures.0 in search rules

pub returns-clause-succeeds : goal.returns-clause-succeeds
returns-clause-succeeds g c = let k = c.args.self.now.life_leaves _ _ _ _ _ c.requires.shape c.requires.once c.life_leave.ensures.0 in search rules

pub returns-clause-spare : goal.returns-clause-spare
returns-clause-spare g c = let k = c.args.self.now.life_leaves _ _ _ _ _ c.requires.shape c.requires.once c.life_leave.ensures.0 in search rules
