use Rattle.layer_search.proofs.FileNames.{name_whole, name_behind}
use Rattle.layer_search.proofs.drivers.file_name.Goals as goal

pub returns-in-Some : goal.returns-in-Some
returns-in-Some c = name_behind _ _ _ c.in-Some.ensures.cases

pub returns-in-None : goal.returns-in-None
returns-in-None c = name_whole _ c.in-None.ensures.cases
