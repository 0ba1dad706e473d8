-- Bounds of the ids of a table, and pairs that are beyond them.
use Rattle.std.proofs.Common.{◌≡◌, ◌≤◌, ◌<◌, ◌∙◌, ◌&&◌, ◌||◌, ◌==◌, ℕ, max, cond, Bool, true, false, List, [], ◌∷◌, ◌++◌, length, get_or, refl, ap, sym, subst, arith, length-append}
use Rattle.std.specs.Prelude.{nat_lt, min}
use Rattle.std.proofs.lemmas.Bool.{eqb-true, ltb-true}
use Rattle.command_tables.specs.declared.types.ObjectType.{ObjectType}
use Rattle.command_tables.specs.Tests.{same_type}
use Rattle.handle_map.specs.declared.bounds.Bounds.{Bounds}
use Rattle.handle_map.specs.declared.entry.Entry.{Entry}
use Rattle.handle_map.specs.Bounds.{IsBounded, bounds_with, is_beyond, is_numbered_apart}
use Rattle.handle_map.specs.Chains.{HasNoPlace, is_at, pairs_of}
use Rattle.handle_map.specs.Pairs.{greatest_id, has_pair}
use Rattle.handle_map.proofs.Links.{type_is}
use Rattle.handle_map.proofs.Adding.{got_before, got_last, none_of}
use Rattle.handle_map.proofs.PairLists.{and_true, none_above}

-- the same entries have the same bounds
pub bounded_same : (es es' : List Entry) (bounds : Bounds) → es' ≡ es → IsBounded es bounds → IsBounded es' bounds
bounded_same es es' bounds same bounded = subst (λ (xs : List Entry). IsBounded xs bounds) (sym same) bounded

-- the bounds with an entry more
pub bounded_more : (es es' : List Entry) (e : Entry) (bounds more : Bounds) → es' ≡ es ++ e ∷ [] → more ≡ bounds_with bounds e.ty e.id → IsBounded es bounds → IsBounded es' more
bounded_more es es' e bounds more same is bounded = bounded_same (es ++ e ∷ []) es' more same (record {
  least = λ p other below. under p other below (nat_lt p (length es)) refl;
  apart = λ p other below apart. over p other below apart (nat_lt p (length es)) refl;
})
  where
    least_is : more.least ≡ min bounds.least e.id
    least_is = ap (λ (b : Bounds). b.least) is

    apart_is : more.apart ≡ cond (is_numbered_apart e.ty) (max bounds.apart e.id) bounds.apart
    apart_is = ap (λ (b : Bounds). b.apart) is

    at_end : (q : ℕ) → q < length (es ++ e ∷ []) → nat_lt q (length es) ≡ false → q ≡ length es
    at_end q below lt = grind (arith, below, lt, length-append es (e ∷ []))

    stays : (b : Bool) → more.apart ≡ cond b (max bounds.apart e.id) bounds.apart → bounds.apart ≤ more.apart
    stays true at = omega (arith, at)
    stays false at = omega (arith, at)

    last : (b : Bool) → more.apart ≡ cond b (max bounds.apart e.id) bounds.apart → b ≡ true → e.id ≤ more.apart
    last true at so = omega (arith, at)
    last false at so = cc so

    under : (p : ℕ) (other : Entry) → p < length (es ++ e ∷ []) → (b : Bool) → nat_lt p (length es) ≡ b → more.least ≤ (get_or (es ++ e ∷ []) p other).id
    under p other below true lt =
        let within : p < length es = ltb-true p (length es) lt in
        let same_entry : get_or (es ++ e ∷ []) p other ≡ get_or es p other = got_before es e p other within in
        omega (arith, bounded.least p other within, least_is, ap (λ (u : Entry). u.id) same_entry)
    under p other below false lt =
        let same_entry : get_or (es ++ e ∷ []) p other ≡ e = got_last es e p other (at_end p below lt) in
        omega (arith, least_is, ap (λ (u : Entry). u.id) same_entry)

    over : (p : ℕ) (other : Entry) → p < length (es ++ e ∷ []) → is_numbered_apart (get_or (es ++ e ∷ []) p other).ty ≡ true → (b : Bool) → nat_lt p (length es) ≡ b → (get_or (es ++ e ∷ []) p other).id ≤ more.apart
    over p other below apart true lt =
        let within : p < length es = ltb-true p (length es) lt in
        let same_entry : get_or (es ++ e ∷ []) p other ≡ get_or es p other = got_before es e p other within in
        let old : (get_or es p other).id ≤ bounds.apart = bounded.apart p other within (ap (λ (u : Entry). is_numbered_apart u.ty) (sym same_entry) ∙ apart) in
        omega (arith, old, stays (is_numbered_apart e.ty) apart_is, ap (λ (u : Entry). u.id) same_entry)
    over p other below apart false lt =
        let same_entry : get_or (es ++ e ∷ []) p other ≡ e = got_last es e p other (at_end p below lt) in
        let own : e.id ≤ more.apart = last (is_numbered_apart e.ty) apart_is (ap (λ (u : Entry). is_numbered_apart u.ty) (sym same_entry) ∙ apart) in
        omega (arith, own, ap (λ (u : Entry). u.id) same_entry)

-- an entry of the pair is an entry of this type and id
pair_is : (t : ObjectType) (id : ℕ) (e : Entry) → is_at t id e ≡ true → (e.ty ≡ t) × (e.id ≡ id)
pair_is t id e is =
    let parts = and_true (same_type e.ty t) (e.id == id) is in
    (type_is e.ty t parts.0, eqb-true e.id id parts.1)

-- no entry has an id above the bound of its kind
none_over : (es : List Entry) (bounds : Bounds) (t : ObjectType) (id : ℕ) → IsBounded es bounds → is_numbered_apart t ≡ true → bounds.apart < id → HasNoPlace es t id
none_over es bounds t id bounded apart above p other below = go (is_at t id (get_or es p other)) refl
  where
    go : (b : Bool) → is_at t id (get_or es p other) ≡ b → is_at t id (get_or es p other) ≡ false
    go true is =
        let pair = pair_is t id (get_or es p other) is in
        let within : (get_or es p other).id ≤ bounds.apart = bounded.apart p other below (ap is_numbered_apart pair.0 ∙ apart) in
        absurd (omega (arith, within, pair.1, above))
    go false is = is

-- no entry has an id below the least
none_under : (es : List Entry) (bounds : Bounds) (t : ObjectType) (id : ℕ) → IsBounded es bounds → id < bounds.least → HasNoPlace es t id
none_under es bounds t id bounded less p other below = go (is_at t id (get_or es p other)) refl
  where
    go : (b : Bool) → is_at t id (get_or es p other) ≡ b → is_at t id (get_or es p other) ≡ false
    go true is =
        let pair = pair_is t id (get_or es p other) is in
        absurd (omega (arith, bounded.least p other below, pair.1, less))
    go false is = is

-- no entry is of a pair beyond the bounds
pub none_is_beyond : (es : List Entry) (bounds : Bounds) (t : ObjectType) (id : ℕ) → bounds.greatest ≡ greatest_id (pairs_of es) → IsBounded es bounds → is_beyond bounds t id ≡ true
    → has_pair (pairs_of es) t id ≡ false
none_is_beyond es bounds t id is bounded beyond = go (nat_lt id bounds.least) (nat_lt bounds.greatest id) refl refl
  where
    rest : (a b : Bool) → nat_lt id bounds.least ≡ a → nat_lt bounds.greatest id ≡ b → a ≡ false → b ≡ false → (is_numbered_apart t && nat_lt bounds.apart id) ≡ true
    rest true b low high not none = cc not
    rest false true low high not none = cc none
    rest false false low high not none = ap (λ c. c || (is_numbered_apart t && nat_lt bounds.apart id)) (sym high) ∙ (ap (λ c. c || (nat_lt bounds.greatest id || (is_numbered_apart t && nat_lt bounds.apart id))) (sym low) ∙ beyond)

    go : (a b : Bool) → nat_lt id bounds.least ≡ a → nat_lt bounds.greatest id ≡ b → has_pair (pairs_of es) t id ≡ false
    go true b low high = none_of es t id (none_under es bounds t id bounded (ltb-true id bounds.least low))
    go false true low high = none_above (pairs_of es) t id (subst (λ n. n < id) is (ltb-true bounds.greatest id high))
    go false false low high =
        let parts = and_true (is_numbered_apart t) (nat_lt bounds.apart id) (rest false false low high refl refl) in
        none_of es t id (none_over es bounds t id bounded parts.0 (ltb-true bounds.apart id parts.1))
