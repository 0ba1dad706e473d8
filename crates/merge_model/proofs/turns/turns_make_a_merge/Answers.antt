use Rattle.merge_model.proofs.Taken.{merge_along, merge_events, merge_taken, turns_merge}
use Rattle.merge_model.proofs.turns.turns_make_a_merge.Goals as goal

pub returns : goal.returns
returns c = record { made = turns_merge; along = merge_along; taken = merge_taken; events = merge_events }
