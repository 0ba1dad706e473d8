use Rattle.shard_start.proofs.Starts.{none_busy, plans_start}
use Rattle.shard_start.proofs.cutting.a_cut_plan_can_start.Goals as goal

pub returns-clause-starts : goal.returns-clause-starts
returns-clause-starts c =
    plans_start c.parts_follow_a_trace.ensures.split c.a_device_follows_the_setup.ensures c.a_stream_is_of_one_thread.ensures.distinct c.a_stream_file_is_a_trace.ensures.order
    c.a_stream_file_is_within_its_limits.ensures.events

pub returns-clause-idle : goal.returns-clause-idle
returns-clause-idle c = none_busy c.a_device_follows_the_setup.ensures
