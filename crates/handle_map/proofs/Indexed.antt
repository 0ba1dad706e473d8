-- Pairs found by rows of places, and by a small map.
use Rattle.std.proofs.Common.{◌≡◌, ◌≢◌, ◌≤◌, ◌<◌, ◌⊎◌, ◌+◌, ◌-◌, ◌∙◌, ◌&&◌, ◌||◌, ◌==◌, ℕ, zero, suc, cond, Bool, true, false, Option, Some, None, List, [], ◌∷◌, ◌++◌, length, refl, sym, ap, subst, arith, inl, inr, eq-eqb}
use Rattle.std.specs.Prelude.{find, slice_get, IfSome}
use Rattle.std.specs.Option.{option_and_then, option_map, option_map_or}
use Rattle.std.proofs.lemmas.Bool.{eqb-true}
use Rattle.std.proofs.lemmas.Option.{same_Some}
use Rattle.command_tables.specs.declared.types.ObjectType.{ObjectType}
use denote.Enum.Bare.{true_same}
use Rattle.command_tables.specs.contracts.types.ObjectType as type
use Rattle.command_tables.specs.Tests.{same_type}
use Rattle.handle_map.specs.Index.{AllLinksStay, IsPlacedBy, IsIndex, IsNoted, link_in, place_in_map, stands_before}
use Rattle.handle_map.specs.Pairs.{AreDistinct, MapEntry, Pair, has_pair, is_pair, pair, place_from, place_of, values_of, with_values}
use Rattle.handle_map.specs.declared.place_rows.PlaceRows.{PlaceRows}
use Rattle.handle_map.proofs.Links.{type_is}
use Rattle.handle_map.proofs.PairLists.{and_true, distinct_more, or_false, placed_within}

-- a type is itself
type_self : (t : ObjectType) → same_type t t ≡ true
unfolding same_type
type_self t = true_same type.the_type t t refl

-- ---- links

pub linked_there : (ps : List Pair) (link : ℕ) (t : ObjectType) (id : ℕ) (p : Pair) → link ≢ 0 → slice_get ps (link - 1) ≡ Some p → stands_before ps link t id ≡ is_pair t id p
linked_there ps zero t id p some is = absurd (some refl)
linked_there ps (suc place) t id p some is = ap (λ (o : Option Pair). option_map_or (is_pair t id) o false) (ap (slice_get ps) (let back : place ≡ suc place - 1 = omega arith in back) ∙ is)

past : (ps : List Pair) (place : ℕ) (t : ObjectType) (id : ℕ) → length ps ≤ place → option_map_or (is_pair t id) (slice_get ps place) false ≡ false
past [] place t id far = refl
past (p ∷ ps) zero t id far = absurd (omega (arith, far))
past (p ∷ ps) (suc place) t id far = past ps place t id (omega (arith, far))

pub linked_past : (ps : List Pair) (link : ℕ) (t : ObjectType) (id : ℕ) → length ps < link → stands_before ps link t id ≡ false
linked_past ps zero t id far = refl
linked_past ps (suc place) t id far = past ps place t id (omega (arith, far))

-- ---- places

-- the pair of an entry is the pair of what was asked for
pair_is : {V : Type 0} (t : ObjectType) (id : ℕ) (e : MapEntry V) → is_pair t id e ≡ true → (e.ty ≡ t) × (e.id ≡ id)
pair_is t id e is =
    let parts = and_true (same_type e.ty t) (e.id == id) is in
    (type_is e.ty t parts.0, eqb-true e.id id parts.1)

-- the pair that stands there is somewhere
has_there : (ps : List Pair) (place : ℕ) (t : ObjectType) (id : ℕ) → option_map_or (is_pair t id) (slice_get ps place) false ≡ true → has_pair ps t id ≡ true
has_there [] place t id is = cc is
has_there (p ∷ ps) zero t id is = ap (λ b. b || has_pair ps t id) is
has_there (p ∷ ps) (suc place) t id is = go (is_pair t id p) (has_there ps place t id is)
  where
    go : (b : Bool) → has_pair ps t id ≡ true → (b || has_pair ps t id) ≡ true
    go true rest = refl
    go false rest = rest

placed_from : (k : ℕ) (ps : List Pair) (place : ℕ) (t : ObjectType) (id : ℕ) → AreDistinct ps → option_map_or (is_pair t id) (slice_get ps place) false ≡ true → place_from k ps t id ≡ Some (k + place)
placed_from k [] place t id distinct is = cc is
placed_from k (p ∷ ps) zero t id distinct is = ap (λ b. cond b (Some k) (place_from (suc k) ps t id)) is ∙ ap Some (let same : k ≡ k + 0 = omega arith in same)
placed_from k (p ∷ ps) (suc place) t id distinct is =
    ap (λ b. cond b (Some k) (place_from (suc k) ps t id)) (go (is_pair t id p) refl)
    ∙ (placed_from (suc k) ps place t id distinct.1 is ∙ ap Some (let same : suc k + place ≡ k + suc place = omega arith in same))
  where
    go : (b : Bool) → is_pair t id p ≡ b → is_pair t id p ≡ false
    go false not = not
    go true own =
        let parts = pair_is t id p own in
        let some : has_pair ps p.ty p.id ≡ true = ap (λ u. has_pair ps u p.id) parts.0 ∙ (ap (has_pair ps t) parts.1 ∙ has_there ps place t id is) in
        let both : true ≡ false = sym some ∙ distinct.0 in
        cc both

there_from : (k : ℕ) (ps : List Pair) (place n : ℕ) (t : ObjectType) (id : ℕ) → place_from k ps t id ≡ Some n → n ≡ k + place → option_map_or (is_pair t id) (slice_get ps place) false ≡ true
there_from k [] place n t id at is = cc at
there_from k (p ∷ ps) zero n t id at is = go (is_pair t id p) refl at (λ f. (placed_within (suc k) ps t id n f).0)
  where
    go : (b : Bool) → is_pair t id p ≡ b → cond b (Some k) (place_from (suc k) ps t id) ≡ Some n → (place_from (suc k) ps t id ≡ Some n → suc k ≤ n) → is_pair t id p ≡ true
    go true here f rest = here
    go false here f rest = absurd (omega (arith, rest f, is))
there_from k (p ∷ ps) (suc place) n t id at is = go (is_pair t id p) at (λ f. there_from (suc k) ps place n t id f (omega (arith, is)))
  where
    go : (b : Bool) → cond b (Some k) (place_from (suc k) ps t id) ≡ Some n → (place_from (suc k) ps t id ≡ Some n → option_map_or (is_pair t id) (slice_get ps place) false ≡ true) → option_map_or (is_pair t id) (slice_get ps place) false ≡ true
    go true f rest = let same : k ≡ n = same_Some k n f in absurd (omega (arith, same, is))
    go false f rest = rest f

-- what the row notes is the place of the pair, where the pair stands there
pub found_linked : (rows : PlaceRows) (sparse : List (MapEntry (List ℕ))) (ps : List Pair) (t : ObjectType) (id link : ℕ) → IsIndex rows sparse ps → stands_before ps link t id ≡ true → Some (link - 1) ≡ place_of ps t id
found_linked rows sparse ps t id zero index is = cc is
found_linked rows sparse ps t id (suc place) index is = ap Some (let back : suc place - 1 ≡ 0 + place = omega arith in back) ∙ sym (placed_from 0 ps place t id index.distinct is)

-- where it isn't, the map knows the place
pub found_kept : (rows : PlaceRows) (sparse : List (MapEntry (List ℕ))) (ps : List Pair) (t : ObjectType) (id link : ℕ) → IsIndex rows sparse ps → link ≡ link_in rows t id → stands_before ps link t id ≡ false → place_in_map sparse t id ≡ place_of ps t id
found_kept rows sparse ps t id link index is not = go (index.found t id)
  where
    noted : (o : Option ℕ) → place_of ps t id ≡ o → Some (link_in rows t id) ≡ option_map suc o → place_in_map sparse t id ≡ place_of ps t id
    noted None at e = cc e
    noted (Some place) at e =
        let same : link_in rows t id ≡ suc place = same_Some (link_in rows t id) (suc place) e in
        let there : stands_before ps (suc place) t id ≡ true = there_from 0 ps place place t id at (omega arith) in
        let both : true ≡ false = sym there ∙ (ap (λ n. stands_before ps n t id) (sym (is ∙ same)) ∙ not) in
        cc both

    go : IsPlacedBy rows sparse ps t id → place_in_map sparse t id ≡ place_of ps t id
    go (inl e) = noted (place_of ps t id) refl e
    go (inr e) = e

pub found_within : (ps : List Pair) (t : ObjectType) (id : ℕ) (o : Option ℕ) → o ≡ place_of ps t id → IfSome o (λ place. place < length ps)
found_within ps t id None at = tt
found_within ps t id (Some place) at = let bounds = placed_within 0 ps t id place (sym at) in omega (arith, bounds.1)

-- ---- a further pair

own_from : (k : ℕ) (ps : List Pair) (t : ObjectType) (id : ℕ) → has_pair ps t id ≡ false → is_pair t id (pair t id) ≡ true → place_from k (ps ++ pair t id ∷ []) t id ≡ Some (k + length ps)
own_from k [] t id new self = ap (λ b. cond b (Some k) None) self ∙ ap Some (let same : k ≡ k + 0 = omega arith in same)
own_from k (p ∷ ps) t id new self =
    let parts = or_false (is_pair t id p) (has_pair ps t id) new in
    ap (λ b. cond b (Some k) (place_from (suc k) (ps ++ pair t id ∷ []) t id)) parts.0
    ∙ (own_from (suc k) ps t id parts.1 self ∙ ap Some (let same : suc k + length ps ≡ k + suc (length ps) = omega arith in same))

other_from : (k : ℕ) (ps : List Pair) (x : Pair) (t : ObjectType) (id : ℕ) → is_pair t id x ≡ false → place_from k (ps ++ x ∷ []) t id ≡ place_from k ps t id
other_from k [] x t id not = ap (λ b. cond b (Some k) None) not
other_from k (p ∷ ps) x t id not = ap (λ (o : Option ℕ). cond (is_pair t id p) (Some k) o) (other_from (suc k) ps x t id not)

-- the test finds the pair itself
own_pair : (t : ObjectType) (id : ℕ) → is_pair t id (pair t id) ≡ true
own_pair t id = ap (λ b. b && id == id) (type_self t) ∙ eq-eqb id id refl

-- a pair has the values it was given
values_own : (es : List (MapEntry (List ℕ))) (t : ObjectType) (id : ℕ) (vs : List ℕ) → is_pair t id (pair t id) ≡ true → values_of (with_values es t id vs) t id ≡ Some vs
values_own [] t id vs self = ap (λ b. option_map (λ (x : MapEntry (List ℕ)). x.values) (cond b (Some (record { ty = t; id = id; values = vs })) None)) self
values_own (e ∷ es) t id vs self = go (is_pair t id e) refl (values_own es t id vs self)
  where
    go : (b : Bool) → is_pair t id e ≡ b → values_of (with_values es t id vs) t id ≡ Some vs → values_of (cond b (record e { values = vs } ∷ es) (e ∷ with_values es t id vs)) t id ≡ Some vs
    go true is rest = ap (λ b. option_map (λ (x : MapEntry (List ℕ)). x.values) (cond b (Some (record e { values = vs })) (find (is_pair t id) es))) is
    go false is rest = ap (λ b. option_map (λ (x : MapEntry (List ℕ)). x.values) (cond b (Some e) (find (is_pair t id) (with_values es t id vs)))) is ∙ rest

-- another pair has the values it had
values_other : (es : List (MapEntry (List ℕ))) (t u : ObjectType) (id i : ℕ) (vs : List ℕ) → is_pair u i (pair t id) ≡ false → values_of (with_values es t id vs) u i ≡ values_of es u i
values_other [] t u id i vs not = ap (λ b. option_map (λ (x : MapEntry (List ℕ)). x.values) (cond b (Some (record { ty = t; id = id; values = vs })) None)) not
values_other (e ∷ es) t u id i vs not = go (is_pair t id e) refl (values_other es t u id i vs not)
  where
    apart : is_pair t id e ≡ true → is_pair u i e ≡ false
    apart own =
        let parts = pair_is t id e own in
        ap (λ (v : ObjectType). is_pair u i (pair v e.id)) parts.0 ∙ (ap (λ n. is_pair u i (pair t n)) parts.1 ∙ not)

    over : (b : Bool) → values_of (with_values es t id vs) u i ≡ values_of es u i
        → option_map (λ (x : MapEntry (List ℕ)). x.values) (cond b (Some e) (find (is_pair u i) (with_values es t id vs))) ≡ option_map (λ (x : MapEntry (List ℕ)). x.values) (cond b (Some e) (find (is_pair u i) es))
    over true rest = refl
    over false rest = rest

    go : (b : Bool) → is_pair t id e ≡ b → values_of (with_values es t id vs) u i ≡ values_of es u i → values_of (cond b (record e { values = vs } ∷ es) (e ∷ with_values es t id vs)) u i ≡ values_of (e ∷ es) u i
    go true is rest =
        ap (λ b. option_map (λ (x : MapEntry (List ℕ)). x.values) (cond b (Some (record e { values = vs })) (find (is_pair u i) es))) (apart is)
        ∙ sym (ap (λ b. option_map (λ (x : MapEntry (List ℕ)). x.values) (cond b (Some e) (find (is_pair u i) es))) (apart is))
    go false is rest = over (is_pair u i e) rest

-- ---- a further pair in the index

-- the row notes the place
pub row_noted : (rows : PlaceRows) (sparse more : List (MapEntry (List ℕ))) (t : ObjectType) (id place : ℕ) → link_in rows t id ≡ place + 1 → more ≡ sparse → IsNoted rows sparse more (pair t id) place
row_noted rows sparse more t id place linked same = record {
  own = inl (let next : link_in rows t id ≡ suc place = omega (arith, linked) in next);
  others = λ u i not. ap (λ (es : List (MapEntry (List ℕ))). place_in_map es u i) same;
}

-- the place is put in the map
pub map_noted : (rows : PlaceRows) (sparse more : List (MapEntry (List ℕ))) (t : ObjectType) (id place : ℕ) → more ≡ with_values sparse t id (place ∷ []) → IsNoted rows sparse more (pair t id) place
map_noted rows sparse more t id place is = record {
  own = inr (ap (λ (es : List (MapEntry (List ℕ))). place_in_map es t id) is ∙ ap first (values_own sparse t id (place ∷ []) (own_pair t id)));
  others = λ u i not. ap (λ (es : List (MapEntry (List ℕ))). place_in_map es u i) is ∙ ap first (values_other sparse t u id i (place ∷ []) not);
}
  where
    first : Option (List ℕ) → Option ℕ
    first o = option_and_then (λ places. slice_get places 0) o

-- what a row notes for a pair that is there stays
link_stays : (rows more : PlaceRows) (ps : List Pair) (t : ObjectType) (id : ℕ) → AllLinksStay rows more → Some (link_in rows t id) ≡ option_map suc (place_of ps t id) → Some (link_in more t id) ≡ option_map suc (place_of ps t id)
link_stays rows more ps t id kept is = go (place_of ps t id) is
  where
    go : (o : Option ℕ) → Some (link_in rows t id) ≡ option_map suc o → Some (link_in more t id) ≡ option_map suc o
    go None e = cc e
    go (Some place) e =
        let linked : link_in rows t id ≡ suc place = same_Some (link_in rows t id) (suc place) e in
        ap Some (kept t id (λ (none : link_in rows t id ≡ 0). absurd (omega (arith, none, linked)))) ∙ e

-- another pair is found as before
found_other : (rows more : PlaceRows) (sparse map : List (MapEntry (List ℕ))) (ps : List Pair) (p : Pair) (t : ObjectType) (id : ℕ) → AllLinksStay rows more → IsNoted more sparse map p (length ps) → is_pair t id p ≡ false → IsPlacedBy rows sparse ps t id
    → IsPlacedBy more map (ps ++ p ∷ []) t id
found_other rows more sparse map ps p t id kept noted not found = go found
  where
    place_is : place_of (ps ++ p ∷ []) t id ≡ place_of ps t id
    place_is = other_from 0 ps p t id not

    go : IsPlacedBy rows sparse ps t id → IsPlacedBy more map (ps ++ p ∷ []) t id
    go (inl e) = inl (link_stays rows more ps t id kept e ∙ ap (option_map suc) (sym place_is))
    go (inr e) = inr (noted.others t id not ∙ (e ∙ sym place_is))

-- the further pair is found
found_own : (rows : PlaceRows) (sparse map : List (MapEntry (List ℕ))) (ps : List Pair) (t : ObjectType) (id : ℕ) → IsNoted rows sparse map (pair t id) (length ps) → has_pair ps t id ≡ false → IsPlacedBy rows map (ps ++ pair t id ∷ []) t id
found_own rows sparse map ps t id noted new = go noted.own
  where
    place_is : place_of (ps ++ pair t id ∷ []) t id ≡ Some (length ps)
    place_is = own_from 0 ps t id new (own_pair t id) ∙ ap Some (let same : 0 + length ps ≡ length ps = omega arith in same)

    go : (link_in rows t id ≡ suc (length ps)) ⊎ (place_in_map map t id ≡ Some (length ps)) → IsPlacedBy rows map (ps ++ pair t id ∷ []) t id
    go (inl e) = inl (ap Some e ∙ ap (option_map suc) (sym place_is))
    go (inr e) = inr (e ∙ sym place_is)

pub added_index : (rows more : PlaceRows) (sparse map : List (MapEntry (List ℕ))) (ps behind : List Pair) (t : ObjectType) (id : ℕ) → IsIndex rows sparse ps → has_pair ps t id ≡ false → behind ≡ ps ++ pair t id ∷ [] → AllLinksStay rows more
    → IsNoted more sparse map (pair t id) (length ps) → IsIndex more map behind
added_index rows more sparse map ps behind t id index new same kept noted = subst (λ (xs : List Pair). IsIndex more map xs) (sym same) (record {
  distinct = distinct_more ps (pair t id) index.distinct new;
  found = λ u i. go u i (is_pair u i (pair t id)) refl;
})
  where
    go : (u : ObjectType) (i : ℕ) (b : Bool) → is_pair u i (pair t id) ≡ b → IsPlacedBy more map (ps ++ pair t id ∷ []) u i
    go u i true is =
        let parts = pair_is u i (pair t id) is in
        subst (λ (v : ObjectType). IsPlacedBy more map (ps ++ pair t id ∷ []) v i) parts.0 (subst (λ n. IsPlacedBy more map (ps ++ pair t id ∷ []) t n) parts.1 (found_own more sparse map ps t id noted new))
    go u i false not = found_other rows more sparse map ps (pair t id) u i kept noted not (index.found u i)
