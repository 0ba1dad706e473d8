use Rattle.std.proofs.Common.{◌+◌, ◌∙◌, ap, subst, sym, arith}
use Rattle.dispatch_chain.specs.Room.{AllCanOpen}
use Rattle.session_parts.specs.Names.{CanKeep}
use Rattle.device_shard.proofs.Roomy.{one_value_each}
use Rattle.device_shard.proofs.room.reserve.Goals as goal

pub returns-clause-kept : goal.returns-clause-kept
returns-clause-kept c = record { states = c.reserve-2.ensures.kept; ids = c.reserve-3.ensures.ids; routes = c.reserve-3.ensures.routes; drivers = c.reserve-3.ensures.drivers; names = c.reserve.ensures.kept }

pub returns-clause-room : goal.returns-clause-room
returns-clause-room c = record {
  scratch = c.in_ok-reserve.ensures.scratch;
  names = subst (λ n. CanKeep c.args.due n c.reserve.new.self.room) c.in_ok-bytes.ensures c.in_ok-reserve.ensures.ok;
  births = c.in_ok-reserve-2.ensures.births;
  uses = subst (λ n. AllCanOpen n c.reserve-2.new.self.kept c.reserve-2.new.self.rooms) (c.in_ok-uses.ensures ∙ ap (λ n. c.args.threads + n) c.in_ok-each.ensures)
      (subst (λ states. AllCanOpen c.in_ok-uses.uses states c.reserve-2.new.self.rooms) (sym c.reserve-2.ensures.kept) c.in_ok-reserve-2.ensures.uses);
  ids = c.in_ok-reserve-3.ensures.ok_births;
  values = one_value_each c.args.due c.args.parts.now.terminator.drivers c.reserve-3.new.self.values c.in_ok-reserve-3.ensures.ok_values;
  bytes = omega (arith, c.in_ok-bytes.ensures, c.in_ok-reserve-3.ensures.ok_bytes);
  few = omega (arith, c.if-due.false);
}
