use Rattle.std.proofs.Common.{◌≡◌, ◌++◌, map, take}
use Rattle.chain_build.proofs.parts.add_parts.Given as goal

abbrev pub invariant-loop-part : goal.invariant-loop-part
invariant-loop-part l = l.placed.items ≡ l.initial.placed.items ++ map (λ part. (part, l.place)) (take l.part-index l.parts)
