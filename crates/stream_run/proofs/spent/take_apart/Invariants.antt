use Rattle.std.proofs.Common.{◌≡◌, map}
use Rattle.std.specs.List.{flat_map}
use Rattle.device_shard.specs.Plans.{plan_content}
use Rattle.stream_run.specs.Spending.{tokens_held}
use Rattle.stream_run.proofs.spent.take_apart.Given as goal

-- what the workers so far leave
abbrev pub invariant-loop-worker : goal.invariant-loop-worker
invariant-loop-worker g l = record {
  tokens : l.tokens.items ≡ flat_map (λ w. tokens_held (map (λ p. p.device) (map plan_content l.plans)) w.tokens.items) l.yielded;
  seats : l.seats.items ≡ map (λ w. w.seat) l.yielded;
  sent : map (λ v. v.items) l.sent.items ≡ map (λ w. w.sent.items) l.yielded;
}
