-- Values below ids in order.
use Rattle.std.proofs.Common.{◌≡◌, ◌≤◌, ◌<◌, ◌+◌, ◌∙◌, ◌||◌, ◌&&◌, ◌==◌, ℕ, zero, suc, max, cond, Bool, true, false, Some, None, List, [], ◌∷◌, ◌++◌, length, get_or, refl, ap, sym, arith}
use Rattle.std.specs.Prelude.{find}
use Rattle.std.specs.Option.{option_map}
use Rattle.std.proofs.Math.Bool.{and-false, and-true}
use Rattle.std.proofs.Math.ListN.{set}
use Rattle.std.proofs.lemmas.Bool.{eqb-true, eq-eqb, ne_eqb}
use Rattle.command_tables.specs.declared.types.ObjectType.{ObjectType}
use Rattle.command_tables.specs.Tests.{same_type}
use Rattle.handle_map.specs.Pairs.{MapEntry, greatest_id, has_pair, is_pair, values_of, with_values}
use Rattle.handle_map.proofs.PairLists.{and_true, no_values}
use Rattle.unique_layer.specs.Values.{numbered_from}

-- one value more
pub numbered_more : (n id : ℕ) (ts : List ObjectType) (vs : List ℕ) (t : ObjectType) (v : ℕ) → length ts ≡ length vs → id ≡ n + length vs
    → numbered_from n (ts ++ t ∷ []) (vs ++ v ∷ []) ≡ numbered_from n ts vs ++ record { ty = t; id = id; values = v } ∷ []
numbered_more n id [] [] t v all is = let same : n ≡ id = omega (arith, is) in ap (λ (m : ℕ). record { ty = t; id = m; values = v } ∷ []) same
numbered_more n id [] (w ∷ vs) t v all is = absurd (omega (arith, all))
numbered_more n id (u ∷ ts) [] t v all is = absurd (omega (arith, all))
numbered_more n id (u ∷ ts) (w ∷ vs) t v all is = ap (λ xs. record { ty = u; id = n; values = w } ∷ xs) (numbered_more (suc n) id ts vs t v (omega (arith, all)) (omega (arith, is)))

-- the greatest id is the last one
greatest_from : (n : ℕ) (ts : List ObjectType) (vs : List ℕ) → length ts ≡ length vs → max n (greatest_id (numbered_from (suc n) ts vs)) ≡ n + length vs
greatest_from n [] [] all = omega arith
greatest_from n [] (v ∷ vs) all = absurd (omega (arith, all))
greatest_from n (t ∷ ts) [] all = absurd (omega (arith, all))
greatest_from n (t ∷ ts) (v ∷ vs) all = omega (arith, greatest_from (suc n) ts vs (omega (arith, all)))

pub greatest_numbered : (ts : List ObjectType) (vs : List ℕ) → length ts ≡ length vs → greatest_id (numbered_from 1 ts vs) ≡ length vs
greatest_numbered ts vs all = omega (arith, greatest_from 0 ts vs all)

-- a pair that is there has one of the ids
pub numbered_within : (n : ℕ) (ts : List ObjectType) (vs : List ℕ) (t : ObjectType) (id : ℕ) → has_pair (numbered_from n ts vs) t id ≡ true → (n ≤ id) × (id < n + length vs)
numbered_within n [] vs t id there = cc there
numbered_within n (u ∷ ts) [] t id there = cc there
numbered_within n (u ∷ ts) (v ∷ vs) t id there = go (is_pair t id (record { ty = u; id = n; values = v })) refl there (numbered_within (suc n) ts vs t id)
  where
    go : (b : Bool) → (same_type u t && n == id) ≡ b → (b || has_pair (numbered_from (suc n) ts vs) t id) ≡ true → (has_pair (numbered_from (suc n) ts vs) t id ≡ true → (suc n ≤ id) × (id < suc n + length vs)) → (n ≤ id) × (id < n + suc (length vs))
    go true is h rest = let same : n ≡ id = eqb-true n id (and_true (same_type u t) (n == id) is).1 in (omega (arith, same), omega (arith, same))
    go false is h rest = let r = rest h in (omega (arith, r.0), omega (arith, r.1))

-- a pair with another id isn't there
none_numbered : (n : ℕ) (ts : List ObjectType) (vs : List ℕ) (t : ObjectType) (id : ℕ) → ((n ≤ id) × (id < n + length vs) → ⊥) → has_pair (numbered_from n ts vs) t id ≡ false
none_numbered n ts vs t id not = go (has_pair (numbered_from n ts vs) t id) refl
  where
    go : (b : Bool) → has_pair (numbered_from n ts vs) t id ≡ b → b ≡ false
    go true is = absurd (not (numbered_within n ts vs t id is))
    go false is = refl

-- the pair of an entry is the one with its type
here : (n id : ℕ) (u t : ObjectType) → n ≡ id → (same_type u t && n == id) ≡ same_type u t
here n id u t same = ap (λ b. same_type u t && b) (eq-eqb n id same) ∙ and-true (same_type u t)

-- it has no other id
not_here : (n id : ℕ) (u t : ObjectType) → n < id → (same_type u t && n == id) ≡ false
not_here n id u t less = ap (λ b. same_type u t && b) (ne_eqb n id (λ same. omega (arith, less, same))) ∙ and-false (same_type u t)

-- ---- look-ups

found_from : (n : ℕ) (ts : List ObjectType) (vs : List ℕ) (t : ObjectType) (id place : ℕ) (d : ObjectType) (e : ℕ) → id ≡ n + place → place < length ts → place < length vs
    → values_of (numbered_from n ts vs) t id ≡ cond (same_type (get_or ts place d) t) (Some (get_or vs place e)) None
found_from n [] vs t id place d e is tys vals = absurd (omega (arith, tys))
found_from n (u ∷ ts) [] t id place d e is tys vals = absurd (omega (arith, vals))
found_from n (u ∷ ts) (v ∷ vs) t id zero d e is tys vals =
    ap (λ b. option_map (λ (x : MapEntry ℕ). x.values) (cond b (Some (record { ty = u; id = n; values = v })) (find (is_pair t id) (numbered_from (suc n) ts vs)))) (here n id u t (omega (arith, is)))
    ∙ go (same_type u t)
  where
    rest : values_of (numbered_from (suc n) ts vs) t id ≡ None
    rest = no_values (numbered_from (suc n) ts vs) t id (none_numbered (suc n) ts vs t id (λ w. omega (arith, w.0, is)))

    go : (b : Bool) → option_map (λ (x : MapEntry ℕ). x.values) (cond b (Some (record { ty = u; id = n; values = v })) (find (is_pair t id) (numbered_from (suc n) ts vs))) ≡ cond b (Some v) None
    go true = refl
    go false = rest
found_from n (u ∷ ts) (v ∷ vs) t id (suc place) d e is tys vals =
    ap (λ b. option_map (λ (x : MapEntry ℕ). x.values) (cond b (Some (record { ty = u; id = n; values = v })) (find (is_pair t id) (numbered_from (suc n) ts vs)))) (not_here n id u t (omega (arith, is)))
    ∙ found_from (suc n) ts vs t id place d e (omega (arith, is)) (omega (arith, tys)) (omega (arith, vals))

-- the value at the place of an id is the pair's, where it has this type
pub numbered_got : (ts : List ObjectType) (vs : List ℕ) (t u : ObjectType) (id place v : ℕ) → length ts ≡ length vs → id ≡ place + 1 → place < length ts → u ≡ get_or ts place u → same_type u t ≡ true → v ≡ get_or vs place v
    → Some v ≡ values_of (numbered_from 1 ts vs) t id
numbered_got ts vs t u id place v all is within type same value =
    ap (λ (n : ℕ). Some n) value
    ∙ (ap (λ b. cond b (Some (get_or vs place v)) None) (sym (ap (λ x. same_type x t) (sym type) ∙ same))
    ∙ sym (found_from 1 ts vs t id place u v (omega (arith, is)) within (omega (arith, all, within))))

-- with another type there is none
pub numbered_other : (ts : List ObjectType) (vs : List ℕ) (t u : ObjectType) (id place : ℕ) → length ts ≡ length vs → id ≡ place + 1 → place < length ts → u ≡ get_or ts place u → same_type u t ≡ false
    → None ≡ values_of (numbered_from 1 ts vs) t id
numbered_other ts vs t u id place all is within type other =
    ap (λ b. cond b (Some (get_or vs place 0)) None) (sym (ap (λ x. same_type x t) (sym type) ∙ other))
    ∙ sym (found_from 1 ts vs t id place u 0 (omega (arith, is)) within (omega (arith, all, within)))

-- below an id that wasn't issued there is none
pub numbered_none : (ts : List ObjectType) (vs : List ℕ) (t : ObjectType) (id : ℕ) → ((1 ≤ id) × (id < 1 + length vs) → ⊥) → None ≡ values_of (numbered_from 1 ts vs) t id
numbered_none ts vs t id not = sym (no_values (numbered_from 1 ts vs) t id (none_numbered 1 ts vs t id not))

-- ---- another value

set_from : (n : ℕ) (ts : List ObjectType) (vs : List ℕ) (t : ObjectType) (id place v : ℕ) → has_pair (numbered_from n ts vs) t id ≡ true → id ≡ n + place → numbered_from n ts (set vs place v) ≡ with_values (numbered_from n ts vs) t id v
set_from n [] vs t id place v there is = cc there
set_from n (u ∷ ts) [] t id place v there is = cc there
set_from n (u ∷ ts) (w ∷ vs) t id zero v there is = go (same_type u t && n == id) there
  where
    gone : has_pair (numbered_from (suc n) ts vs) t id ≡ false
    gone = none_numbered (suc n) ts vs t id (λ x. omega (arith, x.0, is))

    go : (b : Bool) → (b || has_pair (numbered_from (suc n) ts vs) t id) ≡ true
        → record { ty = u; id = n; values = v } ∷ numbered_from (suc n) ts vs ≡ cond b (record { ty = u; id = n; values = v } ∷ numbered_from (suc n) ts vs) (record { ty = u; id = n; values = w } ∷ with_values (numbered_from (suc n) ts vs) t id v)
    go true h = refl
    go false h = let both : true ≡ false = sym h ∙ gone in cc both
set_from n (u ∷ ts) (w ∷ vs) t id (suc place) v there is =
    ap (λ xs. record { ty = u; id = n; values = w } ∷ xs) (set_from (suc n) ts vs t id place v (sym (ap (λ b. b || has_pair (numbered_from (suc n) ts vs) t id) not) ∙ there) (omega (arith, is)))
    ∙ ap (λ b. cond b (record { ty = u; id = n; values = v } ∷ numbered_from (suc n) ts vs) (record { ty = u; id = n; values = w } ∷ with_values (numbered_from (suc n) ts vs) t id v)) (sym not)
  where
    not : (same_type u t && n == id) ≡ false
    not = not_here n id u t (omega (arith, is))

-- another value at the place of a pair's id is another value of the pair
pub numbered_set : (ts : List ObjectType) (vs : List ℕ) (t : ObjectType) (id place v : ℕ) → has_pair (numbered_from 1 ts vs) t id ≡ true → id ≡ place + 1 → numbered_from 1 ts (set vs place v) ≡ with_values (numbered_from 1 ts vs) t id v
numbered_set ts vs t id place v there is = set_from 1 ts vs t id place v there (omega (arith, is))
