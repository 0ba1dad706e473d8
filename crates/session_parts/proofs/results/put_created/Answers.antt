use Rattle.std.proofs.Common.{ℕ, arith}
use Rattle.trace_format.specs.declared.event.Name.{Name}
use Rattle.replay_model.specs.Births.{own_object}
use Rattle.session_parts.proofs.Retrieving.{placed_more}
use Rattle.session_parts.proofs.results.put_created.Goals as goal

pub loop-k-preserved : goal.loop-k-preserved
loop-k-preserved c =
    let first : Name = record { thread = 0; number = 0 } in
    record {
      made = placed_more (λ (place : ℕ) (name : Name). own_object c.args.ty name) c.args.names.now c.loop-k.k first c.loop-k.all.items c.push.new.self.items _ c.loop-k-test.true c.loop-k.invariant.made
          c.in_ok-push.ensures.items c.own_object.ensures;
      count = omega (arith, c.loop-k.invariant.count, c.in_ok-push.ensures.len, c.loop-k.all.ok.0, c.push.new.self.ok.0);
      room = omega (arith, c.loop-k.invariant.room, c.in_ok-push.ensures.capacity);
    }
