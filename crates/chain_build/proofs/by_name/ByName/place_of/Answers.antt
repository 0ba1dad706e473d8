use Rattle.chain_build.proofs.Names.{found_at}
use Rattle.chain_build.proofs.by_name.ByName.place_of.Goals as goal

pub returns-clause-place : goal.returns-clause-place
returns-clause-place c = found_at c.args.name.now c.args.self.now.names.keys _ _ c.args.self.now.paired c.get_index_of.ensures.index
