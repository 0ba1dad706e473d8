use Rattle.stream_run.proofs.Said.{is_each, is_merge}
use Rattle.stream_run.proofs.laws.what_was_made_is_a_merge.Goals as goal

pub returns-clause-merge : goal.returns-clause-merge
returns-clause-merge c = λ k file logs made events replies ready all gathered.
    is_merge c.each_call_is_on_a_planned_device.ensures.on c.each_call_is_on_a_planned_device.ensures.distinct k file logs made events replies ready c.logs_say_a_merge.ensures.merge all gathered

pub returns-clause-each : goal.returns-clause-each
returns-clause-each c = λ k file logs made events replies number device ready all gathered at.
    is_each c.each_call_is_on_a_planned_device.ensures.on c.each_call_is_on_a_planned_device.ensures.distinct k file logs made events replies ready c.each_log_is_its_device_of_the_merge.ensures.events number device all gathered at
