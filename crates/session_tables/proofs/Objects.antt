-- Lists of objects.
use Rattle.std.proofs.Common.{◌≡◌, ◌==◌, ℕ, Bool, true, false, cond, ◌&&◌, ◌||◌, List, [], ◌∷◌, ◌++◌, refl, ◌∙◌, ap}
use Rattle.std.proofs.lemmas.Bool.{eqb-true, eq-eqb}
use Rattle.std.specs.List.{list_any, find}
use Rattle.std.specs.Option.{option_map_or}
use Rattle.std.specs.Prelude.{Some}
use denote.Enum.Bare.{same_true, true_same}
use Rattle.command_tables.specs.contracts.types.ObjectType as type
use Rattle.command_tables.specs.declared.types.ObjectType.{ObjectType}
use Rattle.command_tables.specs.Tests.{same_type}
use Rattle.object_model.specs.declared.Object.{Object}
use Rattle.object_model.specs.Objects.{same}
use Rattle.object_model.specs.History.{Birth, owners_in, born_in}

and_true : (a b : Bool) → a && b ≡ true → (a ≡ true) × (b ≡ true)
and_true true true e = (refl, refl)
and_true true false e = (refl, e)
and_true false b e = (e, cc)

joined : (a b : Object) → a.ty ≡ b.ty → a.number ≡ b.number → a ≡ b
joined a b t n = ap (λ (x : ObjectType). record { ty = x; number = a.number }) t ∙ ap (λ (y : ℕ). record { ty = b.ty; number = y }) n

-- types that are the same are one
pub type_is : (a b : ObjectType) → same_type a b ≡ true → a ≡ b
unfolding same_type
type_is a b e = same_true type.the_type tt a b e

-- the test decides equality
pub same-true : (a b : Object) → same a b ≡ true → a ≡ b
unfolding same_type
same-true a b e =
    let parts = and_true (same_type a.ty b.ty) (a.number == b.number) e in
    let t : a.ty ≡ b.ty = same_true type.the_type tt a.ty b.ty parts.0 in
    let n : a.number ≡ b.number = eqb-true a.number b.number parts.1 in
    joined a b t n

pub list_any-append : {X : Type 0} (p : X → Bool) (xs ys : List X) → list_any p (xs ++ ys) ≡ (list_any p xs || list_any p ys)
list_any-append p [] ys = refl
list_any-append p (x ∷ xs) ys = go (p x) (list_any-append p xs ys)
  where
    go : (t : Bool) → list_any p (xs ++ ys) ≡ (list_any p xs || list_any p ys) → (t || list_any p (xs ++ ys)) ≡ ((t || list_any p xs) || list_any p ys)
    go true ih = refl
    go false ih = ih

-- ---- owners, as births are added

pub owners_joined : (bs news : List Birth) (o : Object) → owners_in (bs ++ news) o ≡ cond (born_in bs o) (owners_in bs o) (owners_in news o)
owners_joined [] news o = refl
owners_joined (b ∷ bs) news o = go (same b.object o) (owners_joined bs news o)
  where
    go : (t : Bool) → owners_in (bs ++ news) o ≡ cond (born_in bs o) (owners_in bs o) (owners_in news o)
        → option_map_or (λ (x : Birth). x.owners) (cond t (Some b) (find (λ x. same x.object o) (bs ++ news))) []
        ≡ cond (t || born_in bs o) (option_map_or (λ (x : Birth). x.owners) (cond t (Some b) (find (λ x. same x.object o) bs)) []) (owners_in news o)
    go true ih = refl
    go false ih = ih

-- an object is the same as itself
pub same_self : (o : Object) → same o o ≡ true
unfolding same_type
same_self o = ap (λ t. t && o.number == o.number) (true_same type.the_type o.ty o.ty refl) ∙ eq-eqb o.number o.number refl
