-- Looking into births.
use Rattle.std.proofs.Common.{◌≡◌, ℕ, zero, suc, ◌+◌, Bool, true, false, cond, ◌&&◌, ◌||◌, List, [], ◌∷◌, ◌++◌, map, length, take, refl, sym, ap, ◌∙◌, arith, append_assoc, add-one}
use Rattle.std.specs.Prelude.{filter, slice_get, unwrap_or}
use Rattle.std.specs.List.{filter_map, list_any}
use Rattle.std.specs.Option.{option_map_or}
use Rattle.command_tables.specs.declared.types.ObjectType.{ObjectType}
use Rattle.command_tables.specs.Handles.{list_at}
use Rattle.command_tables.specs.Tests.{same_type}
use Rattle.object_model.specs.declared.Object.{Object}
use Rattle.object_model.specs.declared.Argument.{Argument}
use Rattle.object_model.specs.declared.Argument.TheVariants.{Null, Unborn, The}
use Rattle.object_model.specs.Objects.{object_of, objects_in}
use Rattle.object_model.specs.History.{Birth, children_in, is_owned_by}
use Rattle.object_model.specs.Uses.{owned_in}
use Rattle.object_records.specs.Records.{is_child, owned_at}

children_next : (living : Object → Bool) (o : Object) (bs : List Birth) (i : ℕ) → length (children_in (take (suc i) bs) living o) ≡ length (children_in (take i bs) living o) + cond (option_map_or (is_child living o) (slice_get bs i) false) 1 0
children_next living o [] zero = refl
children_next living o [] (suc i) = refl
children_next living o (b ∷ bs) zero = go (is_child living o b)
  where
    go : (u : Bool) → length (map (λ (x : Birth). x.object) (cond u (b ∷ []) [])) ≡ 0 + cond u 1 0
    go true = refl
    go false = refl
children_next living o (b ∷ bs) (suc i) = go (is_child living o b) (children_next living o bs i)
  where
    go : (u : Bool) → length (children_in (take (suc i) bs) living o) ≡ length (children_in (take i bs) living o) + cond (option_map_or (is_child living o) (slice_get bs i) false) 1 0
        → length (map (λ (x : Birth). x.object) (cond u (b ∷ filter (is_child living o) (take (suc i) bs)) (filter (is_child living o) (take (suc i) bs))))
        ≡ length (map (λ (x : Birth). x.object) (cond u (b ∷ filter (is_child living o) (take i bs)) (filter (is_child living o) (take i bs)))) + cond (option_map_or (is_child living o) (slice_get bs i) false) 1 0
    go true ih = omega (arith, ih)
    go false ih = ih

-- one birth more among the children
pub children_more : (living : Object → Bool) (o : Object) (bs : List Birth) (i : ℕ) → length (children_in (take (i + 1) bs) living o) ≡ length (children_in (take i bs) living o) + cond (option_map_or (is_child living o) (slice_get bs i) false) 1 0
children_more living o bs i = ap (λ n. length (children_in (take n bs) living o)) (add-one i) ∙ children_next living o bs i

-- a birth of this type and owner
abbrev pub is_owned : ObjectType → Object → Birth → Bool
is_owned t o b = same_type b.object.ty t && is_owned_by o b

pub owned_next : (t : ObjectType) (o : Object) (bs : List Birth) (i : ℕ) → owned_in (take (suc i) bs) t o ≡ owned_in (take i bs) t o ++ owned_at bs t o i
owned_next t o [] zero = refl
owned_next t o [] (suc i) = refl
owned_next t o (b ∷ bs) zero = go (is_owned t o b)
  where
    go : (u : Bool) → map (λ (x : Birth). x.object) (cond u (b ∷ []) []) ≡ [] ++ cond u (b.object ∷ []) []
    go true = refl
    go false = refl
owned_next t o (b ∷ bs) (suc i) = go (is_owned t o b) (owned_next t o bs i)
  where
    go : (u : Bool) → owned_in (take (suc i) bs) t o ≡ owned_in (take i bs) t o ++ owned_at bs t o i
        → map (λ (x : Birth). x.object) (cond u (b ∷ filter (is_owned t o) (take (suc i) bs)) (filter (is_owned t o) (take (suc i) bs)))
        ≡ map (λ (x : Birth). x.object) (cond u (b ∷ filter (is_owned t o) (take i bs)) (filter (is_owned t o) (take i bs))) ++ owned_at bs t o i
    go true ih = ap (λ os. b.object ∷ os) ih
    go false ih = ih

-- one birth more among what is owned
pub owned_more : (t : ObjectType) (o : Object) (bs : List Birth) (i : ℕ) (start now next : List Object) → now ≡ start ++ owned_in (take i bs) t o → next ≡ now ++ owned_at bs t o i → next ≡ start ++ owned_in (take (i + 1) bs) t o
owned_more t o bs i start now next is more =
    more ∙ (ap (λ os. os ++ owned_at bs t o i) is ∙ (append_assoc start (owned_in (take i bs) t o) (owned_at bs t o i) ∙ (ap (λ os. start ++ os) (sym (owned_next t o bs i)) ∙ ap (λ n. start ++ owned_in (take n bs) t o) (sym (add-one i)))))

-- a test of what is named
pub any_named : (p : Object → Bool) (xs : List Argument) → list_any p (filter_map object_of xs) ≡ list_any (λ a. option_map_or p (object_of a) false) xs
any_named p [] = refl
any_named p (Null ∷ xs) = any_named p xs
any_named p (Unborn ∷ xs) = any_named p xs
any_named p (The o ∷ xs) = ap (λ t. p o || t) (any_named p xs)

-- the places of a parameter as a lookup has them
places_same : (args : List (List Argument)) (p : ℕ) → unwrap_or (slice_get args p) [] ≡ list_at args p
places_same [] p = refl
places_same (xs ∷ args) zero = refl
places_same (xs ∷ args) (suc p) = places_same args p

-- a test of what a parameter names
pub any_in : (q : Object → Bool) (args : List (List Argument)) (p : ℕ) → list_any q (objects_in args p) ≡ list_any (λ a. option_map_or q (object_of a) false) (list_at args p)
any_in q args p = ap (λ (xs : List Argument). list_any q (filter_map object_of xs)) (places_same args p) ∙ any_named q (list_at args p)
