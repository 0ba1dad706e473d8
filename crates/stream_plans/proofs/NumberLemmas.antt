-- The numbers of devices, with one device more.
use Rattle.std.proofs.Common.{◌≡◌, ◌∙◌, ◌+◌, ℕ, Bool, true, false, cond, Option, Some, None, List, [], ◌∷◌, ◌++◌, length, refl, sym, ap, subst, arith}
use Rattle.std.specs.Prelude.{Vec, is_some}
use Rattle.std.specs.List.{IsDistinct, list_any, position_from}
use Rattle.std.proofs.lemmas.Iterator.Adapters.{position_from-zero}
use Rattle.std.proofs.lemmas.Map.Keys.{IsDistinct-push}
use Rattle.trace_format.specs.declared.event.Name.{Name}
use Rattle.trace_format.specs.Accepting.{same_name}
use Rattle.stream_model.specs.Order.{with_device}
use Rattle.stream_model.proofs.Comings.{name_is}
use Rattle.merge_model.specs.Planned.{number_among}
use Rattle.stream_plans.specs.Tables.{value_in}
use Rattle.stream_plans.proofs.OnThese.{is_numbered, names_equiv, none_apart}

-- the place of an element behind others of which the test doesn't hold
last_place : {X : Type 0} (p : X → Bool) (i : ℕ) (xs : List X) (x : X) → p x ≡ true → position_from p i xs ≡ None → position_from p i (xs ++ x ∷ []) ≡ Some (i + length xs)
last_place p i [] x is none = ap (λ u. cond u (Some i) None) is ∙ ap Some (omega arith)
last_place p i (y ∷ xs) x is none = go (p y) none (last_place p (i + 1) xs x is)
  where
    go : (u : Bool) → cond u (Some i) (position_from p (i + 1) xs) ≡ None → (position_from p (i + 1) xs ≡ None → position_from p (i + 1) (xs ++ x ∷ []) ≡ Some (i + 1 + length xs))
        → cond u (Some i) (position_from p (i + 1) (xs ++ x ∷ [])) ≡ Some (i + length (y ∷ xs))
    go true before rest = cc before
    go false before rest = rest before ∙ ap Some (omega arith)

-- one of which the test doesn't hold moves no place
place_stays : {X : Type 0} (p : X → Bool) (i : ℕ) (xs : List X) (x : X) → p x ≡ false → position_from p i (xs ++ x ∷ []) ≡ position_from p i xs
place_stays p i [] x is = ap (λ u. cond u (Some i) None) is
place_stays p i (y ∷ xs) x is = ap (λ o. cond (p y) (Some i) o) (place_stays p (i + 1) xs x is)

-- the numbers of names among devices with one more
number_pushed : (devices : List Name) (d n : Name) → number_among devices (Some d) ≡ None → number_among (devices ++ d ∷ []) (Some n) ≡ cond (same_name d n) (Some (length devices)) (number_among devices (Some n))
number_pushed devices d n another = position_from-zero test (devices ++ d ∷ []) ∙ go (same_name d n) refl
  where
    test : Name → Bool
    test x = same_name x n

    none : same_name d n ≡ true → position_from test 0 devices ≡ None
    none is = sym (position_from-zero test devices) ∙ (ap (λ m. number_among devices (Some m)) (sym (name_is d n is)) ∙ another)

    go : (u : Bool) → same_name d n ≡ u → position_from test 0 (devices ++ d ∷ []) ≡ cond u (Some (length devices)) (number_among devices (Some n))
    go true is = last_place test 0 devices d is (none is) ∙ ap Some (omega arith)
    go false is = place_stays test 0 devices d is ∙ sym (position_from-zero test devices)

-- a table that had the numbers has them with one device more
pub numbers_pushed : {A : Type 0} (old new : List (Vec (Option ℕ) A)) (devices : List Name) (d : Name) (count : ℕ) → number_among devices (Some d) ≡ None → count ≡ length devices → ((n : Name) → value_in old n ≡ number_among devices (Some n))
    → ((n : Name) → value_in new n ≡ cond (same_name d n) (Some count) (value_in old n)) → (n : Name) → value_in new n ≡ number_among (devices ++ d ∷ []) (Some n)
numbers_pushed old new devices d count another long are put n = put n ∙ (ap (λ k. cond (same_name d n) (Some k) (value_in old n)) long ∙ (ap (cond (same_name d n) (Some (length devices))) (are n) ∙ sym (number_pushed devices d n another)))

-- a device without a number is another than these
pub is_another : (devices : List Name) (d : Name) → number_among devices (Some d) ≡ None → list_any (same_name d) devices ≡ false
is_another devices d none = sym (is_numbered devices d) ∙ ap is_some none

-- then they stay distinct
pub apart_pushed : (devices : List Name) (d : Name) → IsDistinct same_name devices → number_among devices (Some d) ≡ None → IsDistinct same_name (devices ++ d ∷ [])
apart_pushed devices d apart none = IsDistinct-push names_equiv devices d apart (is_another devices d none)

pub added_another : (devices : List Name) (d : Name) → number_among devices (Some d) ≡ None → with_device (Some d) devices ≡ devices ++ d ∷ []
added_another devices d none = ap (λ u. cond u devices (devices ++ d ∷ [])) (is_another devices d none)

pub added_again : (devices : List Name) (d : Name) (n : ℕ) → number_among devices (Some d) ≡ Some n → with_device (Some d) devices ≡ devices
added_again devices d n some = ap (λ u. cond u devices (devices ++ d ∷ [])) (sym (is_numbered devices d) ∙ ap is_some some)

-- ---- no devices

pub none_apart_in : (devices : List Name) → devices ≡ [] → IsDistinct same_name devices
none_apart_in devices none = subst (IsDistinct same_name) (sym none) none_apart

pub none_numbered : {A : Type 0} (rows : List (Vec (Option ℕ) A)) (devices : List Name) → rows ≡ [] → devices ≡ [] → (d : Name) → value_in rows d ≡ number_among devices (Some d)
none_numbered rows devices empty none d = ap (λ rs. value_in rs d) empty ∙ ap (λ (ds : List Name). number_among ds (Some d)) (sym none)
