use Rattle.std.proofs.Common.{◌∙◌, ◌<◌, arith, length, map, refl, vec_capacity}
use Rattle.session_parts.proofs.Capacities.{keeps_put, keeps_same, put_long, wide_all, wide_more, wide_none}
use Rattle.session_parts.proofs.scratch.widen.Goals as goal

pub loop-k-init : goal.loop-k-init
loop-k-init c = record {
  count = refl;
  wide = wide_none (λ v. vec_capacity v) c.args.n c.args.all.now.items;
  room = keeps_same (map (λ v. vec_capacity v) c.args.all.now.items);
}

pub returns-in_err-widen_one-clause-room : goal.returns-in_err-widen_one-clause-room
returns-in_err-widen_one-clause-room c =
    let within : c.loop-k.k < length c.loop-k.all.items = omega (arith, c.loop-k-test.true, c.len-k-end.ensures, c.args.all.now.ok.0, c.loop-k.invariant.count) in
    keeps_put (λ v. vec_capacity v) (map (λ v. vec_capacity v) c.args.all.now.items) c.loop-k.all.items c.loop-k.k c.index_mut.result.now c.widen_one.new.places c.loop-k.invariant.room within c.index_mut.ensures.value c.in_err-widen_one.ensures.room

pub loop-k-preserved : goal.loop-k-preserved
loop-k-preserved c =
    let within : c.loop-k.k < length c.loop-k.all.items = omega (arith, c.loop-k-test.true, c.len-k-end.ensures, c.args.all.now.ok.0, c.loop-k.invariant.count) in
    record {
      count = put_long c.loop-k.all.items c.loop-k.k c.widen_one.new.places ∙ c.loop-k.invariant.count;
      wide = wide_more (λ v. vec_capacity v) c.args.n c.loop-k.k c.loop-k.all.items c.widen_one.new.places within c.in_ok-widen_one.ensures.wide c.loop-k.invariant.wide;
      room = keeps_put (λ v. vec_capacity v) (map (λ v. vec_capacity v) c.args.all.now.items) c.loop-k.all.items c.loop-k.k c.index_mut.result.now c.widen_one.new.places c.loop-k.invariant.room within c.index_mut.ensures.value c.in_ok-widen_one.ensures.room;
    }

pub returns-clause-wide : goal.returns-clause-wide
returns-clause-wide c =
    wide_all (λ v. vec_capacity v) c.args.n c.loop-k.k c.loop-k.all.items (omega (arith, c.loop-k-test.false, c.len-k-end.ensures, c.args.all.now.ok.0, c.loop-k.invariant.count)) c.loop-k.invariant.wide
