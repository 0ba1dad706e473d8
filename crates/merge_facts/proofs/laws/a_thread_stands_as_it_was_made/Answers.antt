use Rattle.merge_facts.proofs.AsMade.{thread_stands}
use Rattle.merge_facts.proofs.laws.a_thread_stands_as_it_was_made.Goals as goal

pub returns : goal.returns
returns c = thread_stands
