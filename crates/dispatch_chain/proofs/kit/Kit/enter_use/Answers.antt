use Rattle.std.proofs.Common.{rules}
use Rattle.dispatch_chain.proofs.kit.Kit.enter_use.Goals as goal

pub returns-clause-found : goal.returns-clause-found
returns-clause-found g c = let k = c.args.self.now.use_enters _ _ _ _ _ _ _ _ c.requires.shape c.requires.few c.use_enter.ensures.0 in search rules

pub returns-clause-kept : goal.returns-clause-kept
returns-clause-kept g c = let k = c.args.self.now.use_enters _ _ _ _ _ _ _ _ c.requires.shape c.requires.few c.use_enter.ensures.0 in search rules

pub returns-clause-skip : goal.returns-clause-skip
returns-clause-skip g c = let k = c.args.self.now.use_enters _ _ _ _ _ _ _ _ c.requires.shape c.requires.few c.use_enter.ensures.0 in search rules

pub returns-clause-place : goal.returns-clause-place
returns-clause-place g c = let k = c.args.self.now.use_enters _ _ _ _ _ _ _ _ c.requires.shape c.requires.few c.use_enter.ensures.0 in search rules

pub returns-clause-spare : goal.returns-clause-spare
returns-clause-spare g c = let k = c.args.self.now.use_enters _ _ _ _ _ _ _ _ c.requires.shape c.requires.few c.use_enter.ensures.0 in search rules

pub returns-clause-room : goal.returns-clause-room
returns-clause-room g c = let k = c.args.self.now.use_enters _ _ _ _ _ _ _ _ c.requires.shape c.requires.few c.use_enter.ensures.0 in search rules

pub returns-clause-findings_room : goal.returns-clause-findings_room
returns-clause-findings_room g c = let k = c.args.self.now.use_enters _ _ _ _ _ _ _ _ c.requires.shape c.requires.few c.use_enter.ensures.0 in search rules

pub returns-clause-succeeds : goal.returns-clause-succeeds
returns-clause-succeeds g c = let k = c.args.self.now.use_enters _ _ _ _ _ _ _ _ c.requires.shape c.requires.few c.use_enter.ensures.0 in search rules
