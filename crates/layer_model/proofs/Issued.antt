-- Kept ids were issued, and stay so.
use Rattle.std.proofs.Common.{◌≡◌, ◌==◌, ◌&&◌, ◌||◌, ◌∙◌, ℕ, Bool, true, false, cond, Some, List, [], ◌∷◌, ◌++◌, refl, ap, sym}
use Rattle.std.proofs.lemmas.Bool.{eq-eqb}
use Rattle.std.specs.List.{find, list_all}
use Rattle.std.specs.Option.{option_map}
use Rattle.std.specs.Str.{bytes_eq}
use Rattle.command_tables.specs.declared.types.ObjectType.{ObjectType}
use Rattle.command_tables.specs.Tests.{same_type}
use Rattle.handle_map.specs.Pairs.{MapEntry, has_pair, is_pair, with_values}
use Rattle.object_model.specs.Objects.{are_same}
use Rattle.layer_model.specs.Ids.{AreIssued, Key, KeptId, has_key, kept_id}
use Rattle.layer_model.proofs.Same.{and_true, type_is, type_self}

-- a pair that was there is still
pub put_stays : {V : Type 0} (es : List (MapEntry V)) (t u : ObjectType) (id n : ℕ) (v : V) → has_pair es t id ≡ true → has_pair (with_values es u n v) t id ≡ true
put_stays [] t u id n v has = cc has
put_stays {V = V} (e ∷ es) t u id n v has = go (is_pair u n e) (is_pair t id e) refl has (put_stays es t u id n v)
  where
    front : (x : MapEntry V) (xs : List (MapEntry V)) (b : Bool) → is_pair t id x ≡ b → (b || has_pair xs t id) ≡ true → has_pair (x ∷ xs) t id ≡ true
    front x xs b at is = ap (λ (w : Bool). w || has_pair xs t id) at ∙ is

    go : (a b : Bool) → is_pair t id e ≡ b → (b || has_pair es t id) ≡ true → (has_pair es t id ≡ true → has_pair (with_values es u n v) t id ≡ true)
        → has_pair (cond a (record e { values = v } ∷ es) (e ∷ with_values es u n v)) t id ≡ true
    go true b at has ih = front (record e { values = v }) es b at has
    go false true at has ih = front e (with_values es u n v) true at refl
    go false false at has ih = front e (with_values es u n v) false at (ih has)

-- a pair that got a value is there
pub put_own : {V : Type 0} (es : List (MapEntry V)) (t : ObjectType) (id : ℕ) (v : V) → has_pair (with_values es t id v) t id ≡ true
put_own [] t id v = ap (λ (u : Bool). (u && id == id) || false) (type_self t) ∙ ap (λ (u : Bool). u || false) (eq-eqb id id refl)
put_own (e ∷ es) t id v = go (is_pair t id e) refl (put_own es t id v)
  where
    go : (u : Bool) → is_pair t id e ≡ u → has_pair (with_values es t id v) t id ≡ true → has_pair (cond u (record e { values = v } ∷ es) (e ∷ with_values es t id v)) t id ≡ true
    go true at ih = ap (λ (w : Bool). w || has_pair es t id) at
    go false at ih = ap (λ (w : Bool). w || has_pair (with_values es t id v) t id) at ∙ ih

both_true : (a b : Bool) → a ≡ true → b ≡ true → (a && b) ≡ true
both_true a b x y = ap (λ (u : Bool). u && b) x ∙ y

-- what was issued stays so
pub issued_stay : {V : Type 0} (es : List (MapEntry V)) (kept : List KeptId) (t : ObjectType) (id : ℕ) (v : V) → AreIssued es kept → AreIssued (with_values es t id v) kept
issued_stay es [] t id v known = refl
issued_stay es (r ∷ kept) t id v known =
    let parts = and_true (has_pair es r.key.ty r.id) (list_all (λ (x : KeptId). has_pair es x.key.ty x.id) kept) known in
    both_true (has_pair (with_values es t id v) r.key.ty r.id) (list_all (λ (x : KeptId). has_pair (with_values es t id v) x.key.ty x.id) kept) (put_stays es r.key.ty t r.id id v parts.0) (issued_stay es kept t id v parts.1)

-- and a new one is too
pub issued_more : {V : Type 0} (es : List (MapEntry V)) (kept : List KeptId) (k : Key) (t : ObjectType) (id : ℕ) (v : V) → k.ty ≡ t → AreIssued es kept → AreIssued (with_values es t id v) (kept ++ record { key = k; id = id } ∷ [])
issued_more es [] k t id v type known = ap (λ (u : Bool). u && true) (ap (λ (x : ObjectType). has_pair (with_values es t id v) x id) type ∙ put_own es t id v)
issued_more es (r ∷ kept) k t id v type known =
    let parts = and_true (has_pair es r.key.ty r.id) (list_all (λ (x : KeptId). has_pair es x.key.ty x.id) kept) known in
    both_true (has_pair (with_values es t id v) r.key.ty r.id) (list_all (λ (x : KeptId). has_pair (with_values es t id v) x.key.ty x.id) (kept ++ record { key = k; id = id } ∷ [])) (put_stays es r.key.ty t r.id id v parts.0) (issued_more es kept k t id v type parts.1)

-- the id that a key finds was issued for its type
pub kept_issued : {V : Type 0} (es : List (MapEntry V)) (kept : List KeptId) (k : Key) (id : ℕ) → AreIssued es kept → kept_id kept k ≡ Some id → has_pair es k.ty id ≡ true
kept_issued es [] k id known is = cc is
kept_issued es (r ∷ kept) k id known is = go (has_key k r) refl is (kept_issued es kept k id each.1)
  where
    each : (has_pair es r.key.ty r.id ≡ true) × (list_all (λ (x : KeptId). has_pair es x.key.ty x.id) kept ≡ true)
    each = and_true (has_pair es r.key.ty r.id) (list_all (λ (x : KeptId). has_pair es x.key.ty x.id) kept) known

    go : (u : Bool) → has_key k r ≡ u → option_map (λ (y : KeptId). y.id) (cond u (Some r) (find (has_key k) kept)) ≡ Some id → (kept_id kept k ≡ Some id → has_pair es k.ty id ≡ true) → has_pair es k.ty id ≡ true
    go true at is ih =
        let parts = and_true (same_type r.key.ty k.ty) (are_same r.key.owner k.owner && (r.key.place == k.place && bytes_eq r.key.payload k.payload)) at in
        let number : r.id ≡ id = cc is in
        ap (λ (t : ObjectType). has_pair es t id) (sym (type_is r.key.ty k.ty parts.0)) ∙ (ap (λ (n : ℕ). has_pair es r.key.ty n) (sym number) ∙ each.0)
    go false at is ih = ih is
