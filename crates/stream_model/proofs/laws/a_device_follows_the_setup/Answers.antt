use Rattle.stream_model.proofs.Following.{follows_setup}
use Rattle.stream_model.proofs.laws.a_device_follows_the_setup.Goals as goal

pub returns : goal.returns
returns c = follows_setup
