-- Results of which no two are the same.
use Rattle.std.proofs.Common.{◌≡◌, ℕ, Bool, true, false, cond, ◌&&◌, Option, Some, None, List, [], ◌∷◌, refl}
use Rattle.std.specs.Prelude.{filter, ◌==◌}
use Rattle.std.specs.List.{IsDistinct, AllByRecursion}
use Rattle.command_tables.specs.declared.types.ObjectType.{ObjectType}
use Rattle.command_tables.specs.Tests.{same_type}
use Rattle.object_model.specs.declared.Object.{Object}
use Rattle.object_model.specs.Objects.{same}
use Rattle.object_model.specs.History.{Birth}
use Rattle.layer_model.specs.Reading.{read_made}
use Rattle.object_records.specs.Shape.{AreNewOnce}

all_filter : (p : Object → Bool) (t : Object → Bool) (xs : List Object) → AllByRecursion (λ y. t y ≡ false) xs → AllByRecursion (λ y. t y ≡ false) (filter p xs)
all_filter p t [] h = tt
all_filter p t (x ∷ xs) h = go (p x) (all_filter p t xs h.1)
  where
    go : (u : Bool) → AllByRecursion (λ y. t y ≡ false) (filter p xs) → AllByRecursion (λ y. t y ≡ false) (cond u (x ∷ filter p xs) (filter p xs))
    go true a = (h.0, a)
    go false a = a

-- a part of what is distinct is distinct
pub distinct_part : (p : Object → Bool) (xs : List Object) → IsDistinct same xs → IsDistinct same (filter p xs)
unfolding IsDistinct
distinct_part p [] h = tt
distinct_part p (x ∷ xs) h = go (p x) (all_filter p (same x) xs h.0) (distinct_part p xs h.1)
  where
    go : (u : Bool) → AllByRecursion (λ y. same x y ≡ false) (filter p xs) → IsDistinct same (filter p xs) → IsDistinct same (cond u (x ∷ filter p xs) (filter p xs))
    go true a d = (a, d)
    go false a d = d

-- one result is the same as no other
pub one_once : (births : List Birth) (t : Option ObjectType) (h : ℕ) → AreNewOnce births (read_made t (h ∷ []))
unfolding IsDistinct
one_once births t h = distinct_part _ (read_made t (h ∷ [])) (one t)
  where
    at : (u : Bool) (o : Object) → IsDistinct same (cond u [] (o ∷ []))
    at true o = tt
    at false o = (tt, tt)

    one : (v : Option ObjectType) → IsDistinct same (read_made v (h ∷ []))
    one None = tt
    one (Some ty) = at (h == 0) (record { ty = ty; number = h })

-- nor are two with other handles
pub two_once : (births : List Birth) (t : Option ObjectType) → AreNewOnce births (read_made t (5 ∷ 0 ∷ 6 ∷ []))
unfolding IsDistinct
two_once births t = distinct_part _ (read_made t (5 ∷ 0 ∷ 6 ∷ [])) (two t)
  where
    and_false : (u : Bool) → (u && false) ≡ false
    and_false true = refl
    and_false false = refl

    two : (v : Option ObjectType) → IsDistinct same (read_made v (5 ∷ 0 ∷ 6 ∷ []))
    two None = tt
    two (Some ty) = ((and_false (same_type ty ty), tt), (tt, tt))
