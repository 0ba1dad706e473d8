-- A call bears no more than its results.
use Rattle.std.proofs.Common.{◌≡◌, ◌∙◌, ◌≤◌, ℕ, Bool, true, false, cond, Option, Some, None, List, [], ◌∷◌, arith, length, map, zero, suc, take}
use Rattle.std.proofs.lemmas.List.{length-map}
use Rattle.std.proofs.lemmas.List.FromFn.{length-enumerate_from}
use Rattle.std.specs.List.{enumerate_from}
use Rattle.std.specs.Option.{option_map_or}
use Rattle.command_tables.specs.Effects.{type_made}
use Rattle.command_tables.specs.Table.{row_of}
use Rattle.command_tables.specs.Tests.{same_command}
use Rattle.command_tables.specs.declared.types.CommandId.TheVariants as cmd
use Rattle.object_model.specs.declared.Object.{Object}
use Rattle.object_model.specs.History.{Birth}
use Rattle.replay_model.specs.Past.{Opened, Retrieval}
use Rattle.replay_model.specs.Births.{bearable, bears, born_with, made_by}

fewer : {X : Type 0} (n : ℕ) (xs : List X) → length (take n xs) ≤ length xs
fewer zero xs = omega arith
fewer (suc n) [] = omega arith
fewer (suc n) (x ∷ xs) = let rest : length (take n xs) ≤ length xs = fewer n xs in omega (arith, rest)

few_of : {X : Type 0} (b : Bool) (n : ℕ) (xs : List X) → length (cond b (take n xs) xs) ≤ length xs
few_of true n xs = fewer n xs
few_of false n xs = omega arith

pub bearable_few : (drivers : ℕ) (o : Opened) → length (bearable drivers o) ≤ length o.results
bearable_few drivers o = few_of (same_command o.cmd cmd.EnumeratePhysicalDevices) drivers o.results

as_many : {T X Y : Type 0} (f : T → ℕ × X → Y) (t : Option T) (xs : List X) → length (option_map_or (λ s. map (f s) (enumerate_from 0 xs)) t []) ≤ length xs
as_many f None xs = omega arith
as_many f (Some t) xs = let n : length (map (f t) (enumerate_from 0 xs)) ≡ length xs = length-map (enumerate_from 0 xs) (f t) ∙ length-enumerate_from 0 xs in omega (arith, n)

none_or : {X : Type 0} (b : Bool) (xs : List X) (n : ℕ) → length xs ≤ n → length (cond b xs []) ≤ n
none_or true xs n few = few
none_or false xs n few = omega arith

pub made_few : (drivers : ℕ) (births : List Birth) (living : Object → Bool) (kept : List Retrieval) (o : Opened) → length (made_by drivers births living kept o) ≤ length o.results
made_few drivers births living kept o =
    let names = bearable drivers o in
    let some : length (born_with births kept o names) ≤ length names = as_many _ (type_made (row_of o.cmd).effect) names in
    let few : length names ≤ length o.results = bearable_few drivers o in
    none_or (bears births living o) (born_with births kept o names) (length o.results) (omega (arith, some, few))
