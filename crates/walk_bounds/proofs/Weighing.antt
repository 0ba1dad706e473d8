-- What arguments weigh, on the way down and as they are read.
use Rattle.std.proofs.Common.{◌≡◌, ◌≤◌, ◌+◌, ◌*◌, ℕ, zero, suc, Bool, true, false, cond, List, [], ◌∷◌, length, map, unwrap_or, refl, ap, ◌∙◌, arith}
use Rattle.std.proofs.lemmas.List.{length-append, length-map}
use Rattle.command_tables.specs.declared.types.ObjectType.{ObjectType}
use Rattle.command_tables.specs.Table.{ParamSpec}
use Rattle.object_model.specs.declared.Argument.{Argument}
use Rattle.object_model.specs.Rules.{places_from, params_from}
use Rattle.handle_map.specs.Pairs.{values_of}
use Rattle.layer_model.specs.Ids.{IdMap, is_wrapped}
use Rattle.layer_model.specs.Parts.{below_handles, below_params}
use Rattle.layer_model.specs.Reading.{read_handles, read_params}
use Rattle.walk_bounds.specs.Bounds.{weigh}

-- a product that grows with its first factor
pub more_times : (a b m : ℕ) → a ≤ b → a * m ≤ b * m
more_times zero b m less = omega arith
more_times (suc a) zero m less = absurd (omega (arith, less))
more_times (suc a) (suc b) m less = let rest = more_times a b m (omega (arith, less)) in omega (arith, rest)

-- what each of a parameter's arguments gives
places_few : {X : Type 0} (f : ℕ → Argument → List X) (m : ℕ) → ((k : ℕ) (a : Argument) → length (f k a) ≤ m) → (k : ℕ) (args : List Argument) → length (places_from f k args) ≤ length args * m
places_few f m few k [] = omega arith
places_few f m few k (a ∷ args) =
    let one = few k a in
    let rest = places_few f m few (k + 1) args in
    let all = length-append (f k a) (places_from f (k + 1) args) in
    omega (arith, one, rest, all)

-- what each argument gives
pub params_few : {X : Type 0} (f : ℕ → ParamSpec → ℕ → Argument → List X) (w : ParamSpec → ℕ) → ((i : ℕ) (p : ParamSpec) (k : ℕ) (a : Argument) → length (f i p k a) ≤ w p)
    → (i : ℕ) (params : List ParamSpec) (parts : List (List Argument)) → length (params_from f i params parts) ≤ weigh w params parts
params_few f w few i [] parts = omega arith
params_few f w few i (p ∷ params) [] = omega arith
params_few f w few i (p ∷ params) (args ∷ parts) =
    let one = places_few (f i p) (w p) (few i p) 0 args in
    let rest = params_few f w few (i + 1) params parts in
    let all = length-append (places_from (f i p) 0 args) (params_from f (i + 1) params parts) in
    omega (arith, one, rest, all)

-- handles as they are read
read_few : (t : ObjectType) (hs : List ℕ) (marks : List Bool) → length (read_handles t hs marks) ≤ length hs
read_few t [] marks = omega arith
read_few t (h ∷ hs) [] = omega arith
read_few t (h ∷ hs) (m ∷ marks) = let rest = read_few t hs marks in omega (arith, rest)

pub read_weighs : (w : ParamSpec → ℕ) (params : List ParamSpec) (lists : List (List ℕ)) (marks : List (List Bool)) → weigh w params (read_params params lists marks) ≤ weigh w params lists
read_weighs w [] lists marks = omega arith
read_weighs w (p ∷ params) [] marks = omega arith
read_weighs w (p ∷ params) (hs ∷ lists) [] = omega arith
read_weighs w (p ∷ params) (hs ∷ lists) (ms ∷ marks) =
    let one = more_times (length (read_handles p.ty hs ms)) (length hs) (w p) (read_few p.ty hs ms) in
    let rest = read_weighs w params lists marks in
    omega (arith, one, rest)

-- handles below a unique part
below_long : (m : IdMap ℕ) (t : ObjectType) (hs : List ℕ) → length (below_handles m t hs) ≡ length hs
below_long m t hs = go (is_wrapped t)
  where
    go : (b : Bool) → length (cond b (map (λ h. unwrap_or (values_of m.entries t h) 0) hs) hs) ≡ length hs
    go true = length-map hs (λ h. unwrap_or (values_of m.entries t h) 0)
    go false = refl

pub below_weighs : (w : ParamSpec → ℕ) (m : IdMap ℕ) (params : List ParamSpec) (lists : List (List ℕ)) → weigh w params (below_params m params lists) ≡ weigh w params lists
below_weighs w m [] lists = refl
below_weighs w m (p ∷ params) [] = refl
below_weighs w m (p ∷ params) (hs ∷ lists) =
    ap (λ n. n * w p + weigh w params (below_params m params lists)) (below_long m p.ty hs) ∙ ap (λ n. length hs * w p + n) (below_weighs w m params lists)
