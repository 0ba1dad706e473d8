-- By computation.
use Rattle.std.proofs.Common.{refl}
use Rattle.shard_model.proofs.samples.two_threads_follow_their_plan.Goals as goal

pub returns : goal.returns
returns c = record { first = refl; other_began = refl; began = refl; ended = refl; without_a_stream = refl; events = refl; follows = (refl, (refl, ((refl, refl), ((refl, refl), tt)))) }
