use Rattle.std.proofs.Common.{◌≡◌, ◌++◌, ◌∷◌, take}
use Rattle.std.specs.List.{flat_map}
use Rattle.trace_format.specs.Grammar.{one_text}
use Rattle.trace_format.proofs.print.put_further_places.Given as goal

abbrev pub invariant-loop-place : goal.invariant-loop-place
invariant-loop-place l = l.out.items ≡ l.fn.out.items ++ flat_map (λ o. 44 ∷ one_text o) (take l.place-index l.places)
