use Rattle.std.proofs.Common.{◌≡◌, ◌≤◌, length, map, vec_len}
use Rattle.stream_plans.specs.Contents.{plan_content}
use Rattle.stream_plans.specs.Dealt.{events_in, with_parts}
use Rattle.stream_plans.proofs.adding.add_parts.Given as goal

-- the parts that are left, added to the plans as they are, make of them what all parts would have made of them first
abbrev pub invariant-loop-part : goal.invariant-loop-part
invariant-loop-part l = record {
  fits : length l.parts.items ≤ length l.plans.items;
  added : with_parts l.thread (map plan_content l.plans.items) (events_in l.parts.items) ≡ with_parts l.thread (map plan_content l.initial.plans.items) (events_in l.initial.parts.items);
}

abbrev pub decreases-loop-part : goal.decreases-loop-part
decreases-loop-part l = vec_len l.parts
