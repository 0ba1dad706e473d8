use Rattle.session_model.proofs.Laws.{ends_enough, given_enough, loader_enough, made_enough, retrieved_enough}
use Rattle.session_model.proofs.Retrievals.{retrievals_enough}
use Rattle.session_model.proofs.births_of_what_lives_are_enough.Goals as goal

pub returns-clause-calls : goal.returns-clause-calls
returns-clause-calls c = λ s events ls trace living. record { loader = loader_enough s events trace ls living; ends = ends_enough s events trace ls living }

pub returns-clause-returns : goal.returns-clause-returns
returns-clause-returns c = λ s events ls thread o trace living is. record {
  made = made_enough s events trace thread o is ls living;
  given = given_enough s events trace thread o is ls living;
  retrieved = retrieved_enough s events trace thread o is ls living;
}

pub returns-clause-retrievals : goal.returns-clause-retrievals
returns-clause-retrievals c = λ s events o trace. retrievals_enough s events trace o
