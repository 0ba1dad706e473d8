-- Lists of pairs.
use Rattle.std.proofs.Common.{◌≡◌, ◌≤◌, ◌<◌, ◌∙◌, ◌&&◌, ◌||◌, ◌==◌, ◌+◌, ℕ, zero, suc, max, cond, Bool, true, false, Some, None, List, [], ◌∷◌, ◌++◌, length, refl, ap, sym, arith}
use Rattle.std.specs.Prelude.{find, is_some, Result, Ok, Err, OnOk}
use Rattle.std.specs.Option.{option_map}
use Rattle.std.proofs.lemmas.Bool.{eqb-true}
use Rattle.std.proofs.lemmas.Option.{same_Some}
use Rattle.command_tables.specs.declared.types.ObjectType.{ObjectType}
use Rattle.command_tables.specs.Tests.{same_type}
use Rattle.handle_map.specs.Pairs.{AreDistinct, MapEntry, greatest_id, has_pair, is_pair, place_from, place_of, values_of, with_values}
use Rattle.handle_map.specs.Spans.{put_at}
use Rattle.handle_map.proofs.Links.{type_is}

pub and_true : (a b : Bool) → (a && b) ≡ true → (a ≡ true) × (b ≡ true)
and_true true b e = (refl, e)
and_true false b e = cc e

pub or_false : (a b : Bool) → (a || b) ≡ false → (a ≡ false) × (b ≡ false)
or_false true b e = cc e
or_false false b e = (refl, e)

-- the test looks both ways alike
pair_swapped : {V : Type 0} (x y : MapEntry V) → is_pair y.ty y.id x ≡ true → is_pair x.ty x.id y ≡ true
pair_swapped x y is =
    let parts = and_true (same_type x.ty y.ty) (x.id == y.id) is in
    let type = type_is x.ty y.ty parts.0 in
    let number : x.id ≡ y.id = eqb-true x.id y.id parts.1 in
    ap (λ t. same_type t x.ty && y.id == x.id) (sym type) ∙ (ap (λ t. same_type x.ty t && y.id == x.id) type ∙ (ap (λ i. same_type x.ty y.ty && i == x.id) (sym number) ∙ (ap (λ i. same_type x.ty y.ty && x.id == i) number ∙ is)))

pair_more : {V : Type 0} (es : List (MapEntry V)) (x : MapEntry V) (t : ObjectType) (id : ℕ) → has_pair (es ++ x ∷ []) t id ≡ (has_pair es t id || is_pair t id x)
pair_more [] x t id = last (is_pair t id x)
  where
    last : (b : Bool) → (b || false) ≡ b
    last true = refl
    last false = refl
pair_more (e ∷ es) x t id = go (is_pair t id e) (pair_more es x t id)
  where
    go : (b : Bool) → has_pair (es ++ x ∷ []) t id ≡ (has_pair es t id || is_pair t id x) → (b || has_pair (es ++ x ∷ []) t id) ≡ ((b || has_pair es t id) || is_pair t id x)
    go true rest = refl
    go false rest = rest

pub distinct_more : {V : Type 0} (es : List (MapEntry V)) (x : MapEntry V) → AreDistinct es → has_pair es x.ty x.id ≡ false → AreDistinct (es ++ x ∷ [])
distinct_more [] x distinct new = (refl, tt)
distinct_more (e ∷ es) x distinct new =
    let parts = or_false (is_pair x.ty x.id e) (has_pair es x.ty x.id) new in
    (pair_more es x e.ty e.id ∙ (ap (λ b. b || is_pair e.ty e.id x) distinct.0 ∙ go (is_pair e.ty e.id x) refl parts.0), distinct_more es x distinct.1 parts.1)
  where
    go : (b : Bool) → is_pair e.ty e.id x ≡ b → is_pair x.ty x.id e ≡ false → (false || is_pair e.ty e.id x) ≡ false
    go true is not = let both : true ≡ false = sym (pair_swapped x e is) ∙ not in cc
    go false is not = is

pub greatest_more : {V : Type 0} (es : List (MapEntry V)) (x : MapEntry V) → greatest_id (es ++ x ∷ []) ≡ max (greatest_id es) x.id
greatest_more [] x = omega arith
greatest_more (e ∷ es) x = ap (max e.id) (greatest_more es x) ∙ omega arith

-- no entry has an id above the greatest
pub none_above : {V : Type 0} (es : List (MapEntry V)) (t : ObjectType) (id : ℕ) → greatest_id es < id → has_pair es t id ≡ false
none_above [] t id above = refl
none_above (e ∷ es) t id above = ap (λ b. b || has_pair es t id) (go (is_pair t id e) refl) ∙ none_above es t id (omega (arith, above))
  where
    go : (b : Bool) → is_pair t id e ≡ b → is_pair t id e ≡ false
    go true is = let same : e.id ≡ id = eqb-true e.id id (and_true (same_type e.ty t) (e.id == id) is).1 in absurd (omega (arith, above, same))
    go false is = is

-- a pair that has no entry has no values
pub no_values : {V : Type 0} (es : List (MapEntry V)) (t : ObjectType) (id : ℕ) → has_pair es t id ≡ false → values_of es t id ≡ None
no_values [] t id none = refl
no_values {V} (e ∷ es) t id none =
    let parts = or_false (is_pair t id e) (has_pair es t id) none in
    ap (λ b. option_map (λ (x : MapEntry V). x.values) (cond b (Some e) (find (is_pair t id) es))) parts.0 ∙ no_values es t id parts.1

pub with_new : {V : Type 0} (es : List (MapEntry V)) (t : ObjectType) (id : ℕ) (vs : V) → has_pair es t id ≡ false → es ++ record { ty = t; id = id; values = vs } ∷ [] ≡ with_values es t id vs
with_new [] t id vs none = refl
with_new (e ∷ es) t id vs none =
    let parts = or_false (is_pair t id e) (has_pair es t id) none in
    ap (λ xs. e ∷ xs) (with_new es t id vs parts.1) ∙ ap (λ b. cond b (record e { values = vs } ∷ es) (e ∷ with_values es t id vs)) (sym parts.0)

pub on_ok_is : {T E X : Type 0} (r : Result T E) (a b c : X) → b ≡ c → OnOk r (a ≡ b) → OnOk r (a ≡ c)
on_ok_is (Ok x) a b c e p = p ∙ e
on_ok_is (Err x) a b c e p = p

-- the greatest id with one pair more
pub greatest_with : {V : Type 0} (es : List (MapEntry V)) (t : ObjectType) (id : ℕ) (vs : V) → greatest_id (with_values es t id vs) ≡ max (greatest_id es) id
greatest_with [] t id vs = omega arith
greatest_with (e ∷ es) t id vs = go (is_pair t id e) refl (greatest_with es t id vs)
  where
    here : is_pair t id e ≡ true → max e.id (greatest_id es) ≡ max (max e.id (greatest_id es)) id
    here is = let same : e.id ≡ id = eqb-true e.id id (and_true (same_type e.ty t) (e.id == id) is).1 in omega arith

    go : (b : Bool) → is_pair t id e ≡ b → greatest_id (with_values es t id vs) ≡ max (greatest_id es) id
        → greatest_id (cond b (record e { values = vs } ∷ es) (e ∷ with_values es t id vs)) ≡ max (max e.id (greatest_id es)) id
    go true is rest = here is
    go false is rest = ap (max e.id) rest ∙ omega arith

pub greatest_so : {T E V : Type 0} (r : Result T E) (behind es : List (MapEntry V)) (t : ObjectType) (id : ℕ) (vs : V) → OnOk r (behind ≡ with_values es t id vs) → OnOk r (greatest_id behind ≡ max (greatest_id es) id)
greatest_so (Ok x) behind es t id vs is = ap greatest_id is ∙ greatest_with es t id vs
greatest_so (Err x) behind es t id vs is = is

-- ---- places

-- a pair that isn't there has no place
pub place_none : {V : Type 0} (k : ℕ) (es : List (MapEntry V)) (t : ObjectType) (id : ℕ) → has_pair es t id ≡ false → place_from k es t id ≡ None
place_none k [] t id none = refl
place_none k (e ∷ es) t id none =
    let parts = or_false (is_pair t id e) (has_pair es t id) none in
    ap (λ b. cond b (Some k) (place_from (suc k) es t id)) parts.0 ∙ place_none (suc k) es t id parts.1

-- a pair that has no place isn't there
pub none_placed : {V : Type 0} (k : ℕ) (es : List (MapEntry V)) (t : ObjectType) (id : ℕ) → place_from k es t id ≡ None → has_pair es t id ≡ false
none_placed k [] t id none = refl
none_placed k (e ∷ es) t id none = go (is_pair t id e) none (none_placed (suc k) es t id)
  where
    go : (b : Bool) → cond b (Some k) (place_from (suc k) es t id) ≡ None → (place_from (suc k) es t id ≡ None → has_pair es t id ≡ false) → (b || has_pair es t id) ≡ false
    go true e' rest = cc e'
    go false e' rest = rest e'

-- a pair is there where it has a place
pub some_placed : {V : Type 0} (k : ℕ) (es : List (MapEntry V)) (t : ObjectType) (id : ℕ) → is_some (place_from k es t id) ≡ has_pair es t id
some_placed k [] t id = refl
some_placed k (e ∷ es) t id = go (is_pair t id e) (some_placed (suc k) es t id)
  where
    go : (b : Bool) → is_some (place_from (suc k) es t id) ≡ has_pair es t id → is_some (cond b (Some k) (place_from (suc k) es t id)) ≡ (b || has_pair es t id)
    go true rest = refl
    go false rest = rest

-- a place lies among the entries
pub placed_within : {V : Type 0} (k : ℕ) (es : List (MapEntry V)) (t : ObjectType) (id n : ℕ) → place_from k es t id ≡ Some n → (k ≤ n) × (n < k + length es)
placed_within k [] t id n at = cc at
placed_within k (e ∷ es) t id n at = go (is_pair t id e) at (placed_within (suc k) es t id n)
  where
    go : (b : Bool) → cond b (Some k) (place_from (suc k) es t id) ≡ Some n → (place_from (suc k) es t id ≡ Some n → (suc k ≤ n) × (n < suc k + length es)) → (k ≤ n) × (n < k + suc (length es))
    go true is rest = let same : k ≡ n = same_Some k n is in (omega (arith, same), omega (arith, same))
    go false is rest = let r = rest is in (omega (arith, r.0), omega (arith, r.1))

-- other values at the place of a pair are other values of the pair
put_from : (k : ℕ) (es : List (MapEntry (List ℕ))) (t : ObjectType) (id n place : ℕ) (vs : List ℕ) → place_from k es t id ≡ Some n → n ≡ k + place → put_at es place vs ≡ with_values es t id vs
put_from k [] t id n place vs at is = cc at
put_from k (e ∷ es) t id n zero vs at is = go (is_pair t id e) at (λ f. (placed_within (suc k) es t id n f).0)
  where
    go : (b : Bool) → cond b (Some k) (place_from (suc k) es t id) ≡ Some n → (place_from (suc k) es t id ≡ Some n → suc k ≤ n) → record e { values = vs } ∷ es ≡ cond b (record e { values = vs } ∷ es) (e ∷ with_values es t id vs)
    go true f rest = refl
    go false f rest = absurd (omega (arith, rest f, is))
put_from k (e ∷ es) t id n (suc place) vs at is = go (is_pair t id e) at (λ f. put_from (suc k) es t id n place vs f (omega (arith, is)))
  where
    go : (b : Bool) → cond b (Some k) (place_from (suc k) es t id) ≡ Some n → (place_from (suc k) es t id ≡ Some n → put_at es place vs ≡ with_values es t id vs) → e ∷ put_at es place vs ≡ cond b (record e { values = vs } ∷ es) (e ∷ with_values es t id vs)
    go true f rest = let same : k ≡ n = same_Some k n f in absurd (omega (arith, same, is))
    go false f rest = ap (λ xs. e ∷ xs) (rest f)

pub put_placed : (es : List (MapEntry (List ℕ))) (t : ObjectType) (id place : ℕ) (vs : List ℕ) → place_of es t id ≡ Some place → put_at es place vs ≡ with_values es t id vs
put_placed es t id place vs at = put_from 0 es t id place place vs at (omega arith)
