use Rattle.stream_run.proofs.Ready.{are_names, can_run, threads_differ}
use Rattle.stream_run.proofs.laws.a_ready_file_can_be_run.Goals as goal

pub returns-clause-distinct : goal.returns-clause-distinct
returns-clause-distinct c = threads_differ c.a_stream_is_of_one_thread.ensures.distinct

pub returns-clause-named : goal.returns-clause-named
returns-clause-named c = λ k file p ready made. (are_names c.each_device_is_planned.ensures k file p ready made).named

pub returns-clause-logs : goal.returns-clause-logs
returns-clause-logs c = λ k file p ready made. (are_names c.each_device_is_planned.ensures k file p ready made).logs_are

pub returns-clause-can : goal.returns-clause-can
returns-clause-can c =
    can_run c.a_stream_is_of_one_thread.ensures.distinct c.each_call_is_on_a_planned_device.ensures.on c.each_call_is_on_a_planned_device.ensures.distinct c.each_call_is_on_a_planned_device.ensures.few
    c.each_call_has_its_plan.ensures c.a_cut_plan_can_start.ensures.starts
