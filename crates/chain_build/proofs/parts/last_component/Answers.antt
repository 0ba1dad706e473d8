use Rattle.layer_search.proofs.FileNames.{name_whole, name_behind}
use Rattle.chain_build.proofs.parts.last_component.Goals as goal

pub returns-in-Some : goal.returns-in-Some
returns-in-Some c = name_behind _ _ _ c.in-Some.ensures.cases

pub returns-in-None : goal.returns-in-None
returns-in-None c = name_whole _ c.in-None.ensures.cases
