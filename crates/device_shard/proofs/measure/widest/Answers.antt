use Rattle.std.proofs.Common.{◌≡◌, length, subst, arith}
use Rattle.session_parts.specs.Scratch.{AreWithin}
use Rattle.device_shard.proofs.Measured.{names_taken, wide_more}
use Rattle.device_shard.proofs.measure.widest.Goals as goal

pub loop-arg-preserved : goal.loop-arg-preserved
loop-arg-preserved c =
    let long : c.len.result ≡ length c.arg-item.result.names.items = omega (arith, c.len.ensures, c.arg-item.result.names.ok.0) in
    wide_more c.args.args.now c.loop-arg.arg-index c.arg-item.result c.loop-arg.wide c.max-wide.result c.loop-arg-test.true c.arg-item.is c.loop-arg.invariant (omega (arith, c.max-wide.ensures)) (omega (arith, long, c.max-wide.ensures))

pub returns : goal.returns
returns c = subst (AreWithin c.loop-arg.wide) (names_taken c.args.args.now c.loop-arg.arg-index c.loop-arg-test.false) c.loop-arg.invariant
