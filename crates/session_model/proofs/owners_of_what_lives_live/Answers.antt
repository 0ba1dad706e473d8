use Rattle.session_model.proofs.Depth.{three_owners}
use Rattle.session_model.proofs.Laws.{owners_live}
use Rattle.session_model.proofs.owners_of_what_lives_live.Goals as goal

pub returns-clause-live : goal.returns-clause-live
returns-clause-live c = λ s events x y trace lives owns. owners_live s events trace x y lives owns

pub returns-clause-three : goal.returns-clause-three
returns-clause-three c = λ s events x trace. three_owners s events trace x
