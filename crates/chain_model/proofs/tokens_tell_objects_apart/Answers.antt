use Rattle.chain_model.proofs.tokens_tell_objects_apart.Goals as goal
use Rattle.chain_model.proofs.OneToOne.{one_to_one}
use Rattle.chain_model.proofs.Positions.{token_grown}

pub returns : goal.returns
returns c = record { one_to_one = one_to_one; stay = token_grown }
