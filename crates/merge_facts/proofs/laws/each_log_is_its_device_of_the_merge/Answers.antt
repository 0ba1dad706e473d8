use Rattle.merge_facts.proofs.OnDevice.{same_events, same_next, same_turns}
use Rattle.merge_facts.proofs.laws.each_log_is_its_device_of_the_merge.Goals as goal

pub returns : goal.returns
returns c = record { turns = same_turns; events = same_events; next = same_next }
