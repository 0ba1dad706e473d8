-- How many handles a call takes.
use Rattle.std.proofs.Common.{ℕ, ◌+◌, ◌*◌, ◌≤◌, ◌<◌, Bool, true, false, if◌then◌else◌, List, [], ◌∷◌, length, take, arith}
use Rattle.std.proofs.lemmas.List.Sums.{sum_by-cons}
use Rattle.command_tables.specs.Calls.{DriverCallContent}
use Rattle.command_tables.specs.declared.types.Effect.{Effect}
use Rattle.command_tables.specs.declared.types.Effect.TheVariants as eff
use Rattle.command_tables.specs.Effects.{succeeds}
use Rattle.command_tables.specs.Handles.{count_in, list_at}
use Rattle.command_tables.specs.Table.{ParamSpec, row_of}
use Rattle.model_driver.specs.Driver.{FitsAsked, FitsRow, HasShape, handles_due}
use Rattle.model_driver.proofs.Flats.{count_within}

asked_few : (e : Effect) (n : ℕ) → FitsAsked e n → n ≤ 1024
asked_few eff.None n h = omega (arith, h)
asked_few (eff.Create t owner false) n h = omega (arith, h)
asked_few (eff.Create t owner true) n h = h
asked_few (eff.Retrieve t owner false) n h = omega (arith, h)
asked_few (eff.Retrieve t owner true) n h = h
asked_few (eff.Destroy p) n h = omega (arith, h)
asked_few (eff.Free p) n h = omega (arith, h)
asked_few (eff.Reset p) n h = omega (arith, h)

due_few : (c : DriverCallContent) → HasShape c → handles_due c ≤ 1024
due_few c shape = go (succeeds c.cmd c.code)
  where
    few : c.asked ≤ 1024
    few = asked_few (row_of c.cmd).effect c.asked shape.asked

    go : (b : Bool) → (if b then c.asked else 0) ≤ 1024
    go true = few
    go false = omega arith

lists_few : (ps : List ParamSpec) (args : List (List ℕ)) → FitsRow ps args → count_in args ≤ 1024 * length args
lists_few [] [] h = omega arith
lists_few [] (a ∷ args) h = absurd h
lists_few (p ∷ ps) [] h = absurd h
lists_few (p ∷ ps) (a ∷ args) h = omega (arith, sum_by-cons (λ (xs : List ℕ). length xs) a args, h.0.most, lists_few ps args h.1)

-- what is due, and the handles up to a parameter and of it
pub taken_few : (c : DriverCallContent) (p : ℕ) → HasShape c → length c.args ≤ 6 → p < length c.args → handles_due c + (count_in (take p c.args) + length (list_at c.args p)) ≤ 7168
taken_few c p shape six within = omega (arith, due_few c shape, count_within c.args p within, lists_few (row_of c.cmd).params c.args shape.params, six)
