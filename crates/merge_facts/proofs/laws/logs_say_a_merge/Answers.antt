use Rattle.merge_facts.proofs.Merging.{all_along, all_taken, whole_merge}
use Rattle.merge_facts.proofs.laws.logs_say_a_merge.Goals as goal

pub returns : goal.returns
returns c = record { along = all_along; taken = all_taken; merge = whole_merge }
