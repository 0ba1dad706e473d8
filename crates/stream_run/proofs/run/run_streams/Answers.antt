use Rattle.threaded_replay.specs.Files.{file_parts}
use Rattle.stream_run.proofs.run.run_streams.Goals as goal

pub prepare-requires : goal.prepare-requires
prepare-requires g c = c.a_ready_file_can_be_run.ensures.distinct _ (file_parts c.args.file.now) c.requires.ready

pub run_on-requires-clause-names : goal.run_on-requires-clause-names
run_on-requires-clause-names g c κs within = c.a_ready_file_can_be_run.ensures.named _ (file_parts c.args.file.now) c.in_ok-prepared.prepared c.requires.ready c.in_ok-prepared.ensures

pub run_on-requires-clause-logs : goal.run_on-requires-clause-logs
run_on-requires-clause-logs g c κs within = c.a_ready_file_can_be_run.ensures.logs _ (file_parts c.args.file.now) c.in_ok-prepared.prepared c.requires.ready c.in_ok-prepared.ensures
