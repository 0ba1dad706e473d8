use Rattle.std.proofs.Common.{ℕ, leb, cond, bit_or, refl, arith}
use Rattle.std.proofs.lemmas.Simd.{zip2_splat, length-chunk}
use lib.Lanes.{chunk}
use Rattle.trace_format.specs.Grammar.{is_printable}
use Rattle.trace_format.proofs.Lanes.{joined, from_splat, all_pass}
use Rattle.trace_format.proofs.parse.printable.is_block.Goals as goal

pub returns : goal.returns
returns c none =
    let v = chunk c.args.at 16 c.args.line.now in
    let long = length-chunk c.args.at 16 c.args.line.now c.requires in
    all_pass is_printable c.args.line.now c.args.at 16 _ c.requires (omega arith) c.type_inv.line none _
    (joined bit_or _ _ v (zip2_splat {Y = ℕ} _ v 16 32 long) (from_splat (λ a b. cond (leb a b) 255 0) v 16 127 long)) refl
