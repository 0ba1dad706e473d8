use Rattle.std.proofs.Common.{map}
use Rattle.std.specs.Option.{option_map}
use Rattle.device_shard.specs.Plans.{plan_content}
use Rattle.stream_run.specs.Naming.{names_of}
use Rattle.stream_run.proofs.run.run_streams.Given as goal

-- each plan's log names its shard, which starts from what the session keeps
abbrev pub ghosts-run_on : goal.ghosts-run_on
ghosts-run_on g a = record {
  shards = names_of (option_map (λ x. x.value.kept) a.session.now.started) (map plan_content a.prepared.plans.items) (map (λ l. l.0) a.prepared.logs.items);
  clock = a.prepared.clock;
}
