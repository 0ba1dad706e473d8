-- What is out.
use Rattle.std.proofs.Common.{◌≡◌, ◌≢◌, ◌≤◌, ◌<◌, ◌↔◌, ◌⊎◌, ℕ, zero, suc, ◌+◌, ◌-◌, ◌∙◌, Bool, true, false, cond, List, [], ◌∷◌, ◌++◌, length, refl, ap, sym, subst, arith, eq-eqb, inl, inr, length-append}
use Rattle.std.specs.Prelude.{nat_le, nat_eq}
use Rattle.std.proofs.Math.ListN.{set, length-set}
use Rattle.std.proofs.lemmas.Bool.{eqb-true, leb-true}
use Rattle.model_driver.specs.declared.driver.Policy.{Policy}
use Rattle.model_driver.specs.declared.driver.Policy.TheVariants as policy
use Rattle.model_driver.specs.Laws.{BackIsNotOut, FreshIsNew, GivenIsOut, IsLeastNotOut, IsOut, ReusedIsLeast}
use Rattle.model_driver.specs.Policies.{is_back, least_not_out, next_value, with_given}
use Rattle.model_driver.proofs.Backs.{back_within, more_out, set_here, set_other}

pub fresh_is_new : FreshIsNew
fresh_is_new back = omega arith

-- one place further on, behind a first value
further : (b : Bool) (back : List Bool) (n : ℕ) → IsOut back n → IsOut (b ∷ back) (suc n)
further b back zero out = absurd (omega (arith, out.positive))
further b back (suc k) out = record { positive = omega arith; given = omega (arith, out.given); not_back = out.not_back }

nearer : (b : Bool) (back : List Bool) (n : ℕ) → 1 ≤ n → IsOut (b ∷ back) (suc n) → IsOut back n
nearer b back zero positive out = absurd (omega (arith, positive))
nearer b back (suc k) positive out = record { positive = omega arith; given = omega (arith, out.given); not_back = out.not_back }

least_so : (back : List Bool) → IsLeastNotOut back (least_not_out back)
least_so [] = record {
  positive = omega arith;
  not_out = λ out. absurd (omega (arith, out.given));
  least = λ lesser positive below. absurd (omega (arith, positive, below));
}
least_so (true ∷ back) = record {
  positive = omega arith;
  not_out = λ out. let e : true ≡ false = out.not_back in cc;
  least = λ lesser positive below. absurd (omega (arith, positive, below));
}
least_so (false ∷ back) = go (least_so back)
  where
    below_so : IsLeastNotOut back (least_not_out back) → (lesser : ℕ) → 1 ≤ lesser → lesser < suc (least_not_out back) → IsOut (false ∷ back) lesser
    below_so rest zero positive below = absurd (omega (arith, positive))
    below_so rest (suc zero) positive below = record { positive = omega arith; given = omega arith; not_back = refl }
    below_so rest (suc (suc k)) positive below = further false back (suc k) (rest.least (suc k) (omega arith) (omega (arith, below)))

    go : IsLeastNotOut back (least_not_out back) → IsLeastNotOut (false ∷ back) (suc (least_not_out back))
    go rest = record {
      positive = omega arith;
      not_out = λ out. rest.not_out (nearer false back (least_not_out back) rest.positive out);
      least = below_so rest;
    }

pub reused_is_least : ReusedIsLeast
reused_is_least back = least_so back

-- the values that a policy gives are given now, or the next new one
least_most : (back : List Bool) → least_not_out back ≤ length back + 1
least_most [] = omega arith
least_most (true ∷ back) = omega arith
least_most (false ∷ back) = omega (arith, least_most back)

next_most : (p : Policy) (back : List Bool) → next_value p back ≤ length back + 1
next_most policy.Fresh back = omega arith
next_most policy.Reuse back = least_most back
next_most policy.Share back = omega arith

next_least : (p : Policy) (back : List Bool) → 1 ≤ next_value p back
next_least policy.Fresh back = omega arith
next_least policy.Reuse back = (least_so back).positive
next_least policy.Share back = omega arith

-- a value that was given before
again_out : (back : List Bool) (i o : ℕ) → i < length back → IsOut (set back i false) o ↔ (IsOut back o ⊎ (o ≡ suc i))
again_out back i o within = (there (nat_eq (suc i) o) refl, here (nat_eq (suc i) o) refl)
  where
    long : length (set back i false) ≡ length back
    long = length-set back i false

    there : (t : Bool) → nat_eq (suc i) o ≡ t → IsOut (set back i false) o → IsOut back o ⊎ (o ≡ suc i)
    there true e out = inr (sym (eqb-true (suc i) o e))
    there false e out = inl record { positive = out.positive; given = omega (arith, out.given, long); not_back = sym (set_other back i false o e) ∙ out.not_back }

    at_value : o ≡ suc i → IsOut (set back i false) o
    at_value e = subst (λ v. IsOut (set back i false) v) (sym e) record { positive = omega arith; given = omega (arith, within, long); not_back = set_here back i false within }

    here : (t : Bool) → nat_eq (suc i) o ≡ t → IsOut back o ⊎ (o ≡ suc i) → IsOut (set back i false) o
    here t e (inr same) = at_value same
    here true e (inl out) = at_value (sym (eqb-true (suc i) o e))
    here false e (inl out) = record { positive = out.positive; given = omega (arith, out.given, long); not_back = set_other back i false o e ∙ out.not_back }

-- nothing behind the greatest has come back
past_greatest : (back : List Bool) (v : ℕ) → length back < v → is_back back v ≡ false
past_greatest back v past = go (is_back back v) refl
  where
    go : (t : Bool) → is_back back v ≡ t → is_back back v ≡ false
    go true e = absurd (omega (arith, past, (back_within back v e).1))
    go false e = e

-- a new value
new_out : (back : List Bool) (o : ℕ) → IsOut (back ++ false ∷ []) o ↔ (IsOut back o ⊎ (o ≡ length back + 1))
new_out back o = (there (nat_le o (length back)) refl, here)
  where
    long : length (back ++ false ∷ []) ≡ length back + 1
    long = length-append back (false ∷ []) ∙ omega arith

    there : (t : Bool) → nat_le o (length back) ≡ t → IsOut (back ++ false ∷ []) o → IsOut back o ⊎ (o ≡ length back + 1)
    there true e out = inl record { positive = out.positive; given = leb-true o (length back) e; not_back = sym (more_out back o) ∙ out.not_back }
    there false e out = inr (grind (arith, out.given, long, e))

    here : IsOut back o ⊎ (o ≡ length back + 1) → IsOut (back ++ false ∷ []) o
    here (inl out) = record { positive = out.positive; given = omega (arith, out.given, long); not_back = more_out back o ∙ out.not_back }
    here (inr same) = subst (λ v. IsOut (back ++ false ∷ []) v) (sym same) record { positive = omega arith; given = omega (arith, long); not_back = more_out back (length back + 1) ∙ past_greatest back (length back + 1) (omega arith) }

given_out : (back : List Bool) (v o : ℕ) → 1 ≤ v → v ≤ length back + 1 → IsOut (with_given back v) o ↔ (IsOut back o ⊎ (o ≡ v))
given_out back zero o positive most = absurd (omega (arith, positive))
given_out back (suc i) o positive most = go (nat_le (suc i) (length back)) refl
  where
    Says : List Bool → ℕ → Type 0
    Says behind v = IsOut behind o ↔ (IsOut back o ⊎ (o ≡ v))

    go : (t : Bool) → nat_le (suc i) (length back) ≡ t → IsOut (with_given back (suc i)) o ↔ (IsOut back o ⊎ (o ≡ suc i))
    go true e =
        let place : i ≡ suc i - 1 = omega arith in
        subst (λ (b : List Bool). IsOut b o ↔ (IsOut back o ⊎ (o ≡ suc i))) (ap (λ k. set back k false) place ∙ ap (λ t. cond t (set back (suc i - 1) false) (back ++ false ∷ [])) (sym e)) (again_out back i o (leb-true (suc i) (length back) e))
    go false e =
        let last : length back + 1 ≡ suc i = grind (arith, most, e) in
        subst (λ (b : List Bool). IsOut b o ↔ (IsOut back o ⊎ (o ≡ suc i))) (ap (λ t. cond t (set back (suc i - 1) false) (back ++ false ∷ [])) (sym e))
        (subst (λ v. IsOut (back ++ false ∷ []) o ↔ (IsOut back o ⊎ (o ≡ v))) last (new_out back o))

pub given_is_out : GivenIsOut
given_is_out p back other = given_out back (next_value p back) other (next_least p back) (next_most p back)

pub back_is_not_out : BackIsNotOut
back_is_not_out back zero other = (λ out. (out, λ (e : other ≡ zero). absurd (omega (arith, out.positive, e))), λ both. both.0)
back_is_not_out back (suc i) other = (there (nat_eq (suc i) other) refl, here (nat_eq (suc i) other) refl)
  where
    long : length (set back i true) ≡ length back
    long = length-set back i true

    there : (t : Bool) → nat_eq (suc i) other ≡ t → IsOut (set back i true) other → IsOut back other × (other ≢ suc i)
    there true e out =
        let same : suc i ≡ other = eqb-true (suc i) other e in
        let within : i < length back = omega (arith, out.given, long, same) in
        let back_so : true ≡ false = sym (set_here back i true within) ∙ (ap (is_back (set back i true)) same ∙ out.not_back) in
        cc back_so
    there false e out =
        (record { positive = out.positive; given = omega (arith, out.given, long); not_back = sym (set_other back i true other e) ∙ out.not_back }, λ (same : other ≡ suc i). let t : nat_eq (suc i) other ≡ true = eq-eqb (suc i) other (sym same) in cc)

    here : (t : Bool) → nat_eq (suc i) other ≡ t → IsOut back other × (other ≢ suc i) → IsOut (set back i true) other
    here true e both = absurd (both.1 (sym (eqb-true (suc i) other e)))
    here false e both = record { positive = both.0.positive; given = omega (arith, both.0.given, long); not_back = set_other back i true other e ∙ both.0.not_back }
