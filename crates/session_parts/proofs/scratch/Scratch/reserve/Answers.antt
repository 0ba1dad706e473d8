use Rattle.std.proofs.Common.{arith, map, vec_capacity}
use Rattle.session_parts.proofs.Capacities.{keeps_same, keeps_then}
use Rattle.session_parts.proofs.scratch.Scratch.reserve.Goals as goal

pub returns-in_err-reserve-clause-room : goal.returns-in_err-reserve-clause-room
returns-in_err-reserve-clause-room c = record {
  lists = keeps_same (map (λ v. vec_capacity v) c.args.self.now.args.items);
  handles = omega (arith, c.clear.ensures.capacity, c.in_err-reserve.ensures.capacity);
  results = omega arith;
}

pub returns-in_err-reserve-2-clause-room : goal.returns-in_err-reserve-2-clause-room
returns-in_err-reserve-2-clause-room c = record {
  lists = keeps_same (map (λ v. vec_capacity v) c.args.self.now.args.items);
  handles = omega (arith, c.clear.ensures.capacity, c.in_ok-reserve.ensures.capacity);
  results = omega (arith, c.clear-2.ensures.capacity, c.in_err-reserve-2.ensures.capacity);
}

pub returns-clause-room : goal.returns-clause-room
returns-clause-room c = record {
  lists = keeps_then (map (λ v. vec_capacity v) c.args.self.now.args.items) (map (λ v. vec_capacity v) c.add_lists.new.all.items) (map (λ v. vec_capacity v) c.widen.new.all.items) c.in_ok-add_lists.ensures.room c.widen.ensures.room;
  handles = omega (arith, c.clear.ensures.capacity, c.in_ok-reserve.ensures.capacity);
  results = omega (arith, c.clear-2.ensures.capacity, c.in_ok-reserve-2.ensures.capacity);
}
