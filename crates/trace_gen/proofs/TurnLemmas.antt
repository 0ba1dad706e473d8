-- One turn of a generator.
use Rattle.std.proofs.Common.{◌≡◌, ◌∷◌, ◌+◌, ℕ, add-one, refl}
use Rattle.trace_gen.specs.declared.call.Call.{Call}
use Rattle.trace_gen.specs.declared.turns.Stage.{Stage}
use Rattle.trace_gen.specs.declared.turns.Stage.TheVariants as stage
use Rattle.trace_gen.specs.Turns.{Between, turn, turns}
use Rattle.trace_gen.specs.Left.{left_from}

-- the first turn's call comes before the calls of the others
turn_first : (n m : ℕ) (before after : Between) (call : Call) → m + 1 ≡ n → call ≡ (turn before).call → after ≡ (turn before).after → turns n before ≡ call ∷ turns m after
turn_first n m before after call less is then = rw (← less, add-one, is, then) refl

-- so it is in the stage of turns
pub turn_left : (s t : Stage) (n m : ℕ) (before after : Between) (call : Call) → s ≡ stage.Turns → t ≡ s → m + 1 ≡ n → call ≡ (turn before).call → after ≡ (turn before).after → left_from s n before ≡ call ∷ left_from t m after
turn_left s t n m before after call here same less is then = rw (same, here) (turn_first n m before after call less is then)
