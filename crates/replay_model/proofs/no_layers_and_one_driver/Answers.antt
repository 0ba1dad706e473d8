use Rattle.replay_model.proofs.LessLemmas.{no_parts}
use Rattle.replay_model.proofs.OneDriver.{driver_in-one}
use Rattle.replay_model.proofs.no_layers_and_one_driver.Goals as goal

pub returns : goal.returns
returns c = record { parts = no_parts; driver = driver_in-one }
