-- Ids by their places.
use Rattle.std.proofs.Common.{◌≡◌, ◌≢◌, ◌==◌, ◌<◌, ◌≤◌, ◌⊎◌, ◌-◌, ◌&&◌, ◌||◌, not, ℕ, zero, suc, ◌+◌, Bool, true, false, cond, Option, Some, None, List, [], ◌∷◌, ◌++◌, map, length, take, drop, get_or, refl, ap, sym, ◌∙◌, subst, arith, inl, inr, length-append, get_or-set_same, get_or-set_other}
use Rattle.std.proofs.Math.Bool.{and-false}
use Rattle.std.proofs.Math.Nat.{eq-or-lt_of_le}
use Rattle.std.proofs.Math.ListN.{get_or-append, set, length-set}
use Rattle.std.proofs.Math.Seq.{get_or-append_seam}
use Rattle.std.proofs.lemmas.Bool.{eqb-true, eq-eqb}
use Rattle.std.specs.List.{find, list_any}
use Rattle.std.specs.Option.{option_map, option_map_or}
use Rattle.command_tables.specs.declared.types.ObjectType.{ObjectType}
use Rattle.command_tables.specs.Tests.{same_type}
use Rattle.object_model.specs.declared.Routed.{Routed}
use Rattle.object_model.specs.Objects.{same}
use Rattle.object_model.specs.Routes.{driver_in, is_routed}
use Rattle.object_model.specs.Values.{Value}
use Rattle.handle_map.specs.Pairs.{MapEntry, greatest_id, has_pair, is_pair, values_of, with_values}
use Rattle.layer_model.specs.Ids.{next_id}
use Rattle.layer_model.specs.Routes.{add_route, has_route}
use Rattle.layer_model.proofs.Same.{and_true, type_is, type_self}
use Rattle.terminator.specs.declared.entry.IdEntry.{IdEntry}
use Rattle.terminator.specs.declared.value.DriverValue.{DriverValue}
use Rattle.terminator.specs.Table.{AreApart, HasNoPlace, IsInside, IsPlace, IsTable, ids_from, routes_from, value_of, values_at, written}
use Rattle.terminator.proofs.Flat.{added_own, kept_before, length-written, written_other, written_own}

-- ---- in general

apart_ids : (a b : ℕ) → (a ≡ b → ⊥) → (a == b) ≡ false
apart_ids a b ne = go (a == b) refl
  where
    go : (u : Bool) → (a == b) ≡ u → u ≡ false
    go true is = absurd (ne (eqb-true a b is))
    go false is = refl

or_false : (a b : Bool) → (a || b) ≡ false → (a ≡ false) × (b ≡ false)
or_false true b is = (is, cc is)
or_false false b is = (refl, is)

-- what no element meets isn't found
pub found_none : {A : Type 0} (p : A → Bool) (xs : List A) → list_any p xs ≡ false → find p xs ≡ None
found_none p [] none = refl
found_none p (x ∷ xs) none = go (p x) none (found_none p xs)
  where
    go : (u : Bool) → (u || list_any p xs) ≡ false → (list_any p xs ≡ false → find p xs ≡ None) → cond u (Some x) (find p xs) ≡ None
    go true none ih = cc none
    go false none ih = ih none

pub values_none : (xs : List (MapEntry (List Value))) (t : ObjectType) (id : ℕ) → has_pair xs t id ≡ false → values_of xs t id ≡ None
values_none xs t id none = ap (option_map (λ (e : MapEntry (List Value)). e.values)) (found_none (is_pair t id) xs none)

-- a new pair stands last
put_absent : (xs : List (MapEntry (List Value))) (t : ObjectType) (id : ℕ) (v : List Value) → has_pair xs t id ≡ false → with_values xs t id v ≡ xs ++ record { ty = t; id = id; values = v } ∷ []
put_absent [] t id v none = refl
put_absent (x ∷ xs) t id v none = go (is_pair t id x) none (put_absent xs t id v)
  where
    go : (u : Bool) → (u || has_pair xs t id) ≡ false → (has_pair xs t id ≡ false → with_values xs t id v ≡ xs ++ record { ty = t; id = id; values = v } ∷ [])
        → cond u (record x { values = v } ∷ xs) (x ∷ with_values xs t id v) ≡ x ∷ (xs ++ record { ty = t; id = id; values = v } ∷ [])
    go true none ih = cc none
    go false none ih = ap (λ (ys : List (MapEntry (List Value))). x ∷ ys) (ih none)

-- ---- ids that are there, and others

-- another id is no pair
not_this : (e : MapEntry (List Value)) (t : ObjectType) (id : ℕ) → (e.id ≡ id → ⊥) → is_pair t id e ≡ false
not_this e t id ne = ap (λ (u : Bool). same_type e.ty t && u) (apart_ids e.id id ne) ∙ and-false (same_type e.ty t)

-- an id before the first, or behind the last
outside : (es : List IdEntry) (flat : List DriverValue) (a id : ℕ) (t : ObjectType) → (id < a) ⊎ (a + length es ≤ id) → has_pair (ids_from a flat es) t id ≡ false
outside [] flat a id t out = refl
outside (e ∷ es) flat a id t (inl low) =
    ap (λ (u : Bool). u || has_pair (ids_from (suc a) flat es) t id) (not_this (record { ty = e.ty; id = a; values = map value_of (values_at flat e) }) t id (λ (is : a ≡ id). absurd (omega (arith, is, low))))
    ∙ outside es flat (suc a) id t (inl (omega (arith, low)))
outside (e ∷ es) flat a id t (inr high) =
    ap (λ (u : Bool). u || has_pair (ids_from (suc a) flat es) t id) (not_this (record { ty = e.ty; id = a; values = map value_of (values_at flat e) }) t id (λ (is : a ≡ id). absurd (omega (arith, is, high))))
    ∙ outside es flat (suc a) id t (inr (omega (arith, high)))

-- an entry of another type
other_type : (es : List IdEntry) (flat : List DriverValue) (a k id : ℕ) (t : ObjectType) (d : IdEntry) → k < length es → id ≡ a + k → same_type (get_or es k d).ty t ≡ false → has_pair (ids_from a flat es) t id ≡ false
other_type [] flat a k id t d less is other = absurd (omega (arith, less))
other_type (e ∷ es) flat a zero id t d less is other =
    ap (λ (u : Bool). (u && a == id) || has_pair (ids_from (suc a) flat es) t id) other ∙ outside es flat (suc a) id t (inl (omega (arith, is)))
other_type (e ∷ es) flat a (suc k) id t d less is other =
    ap (λ (u : Bool). u || has_pair (ids_from (suc a) flat es) t id) (not_this (record { ty = e.ty; id = a; values = map value_of (values_at flat e) }) t id (λ (at : a ≡ id). absurd (omega (arith, is, at))))
    ∙ other_type es flat (suc a) k id t d (omega (arith, less)) (omega (arith, is)) other

-- an entry's own pair
own_pair : (e : IdEntry) (a id : ℕ) (t : ObjectType) → e.ty ≡ t → id ≡ a → (same_type e.ty t && a == id) ≡ true
own_pair e a id t type is = ap (λ (u : ObjectType). same_type u t && a == id) type ∙ (ap (λ (u : Bool). u && a == id) (type_self t) ∙ eq-eqb a id (sym is))

found_there : (es : List IdEntry) (flat : List DriverValue) (a k id : ℕ) (t : ObjectType) (d : IdEntry) → k < length es → id ≡ a + k → (get_or es k d).ty ≡ t
    → values_of (ids_from a flat es) t id ≡ Some (map value_of (values_at flat (get_or es k d)))
found_there [] flat a k id t d less is type = absurd (omega (arith, less))
found_there (e ∷ es) flat a zero id t d less is type =
    ap (λ (u : Bool). option_map (λ (x : MapEntry (List Value)). x.values) (cond u (Some (record { ty = e.ty; id = a; values = map value_of (values_at flat e) })) (find (is_pair t id) (ids_from (suc a) flat es)))) (own_pair e a id t type (omega (arith, is)))
found_there (e ∷ es) flat a (suc k) id t d less is type =
    ap (λ (u : Bool). option_map (λ (x : MapEntry (List Value)). x.values) (cond u (Some (record { ty = e.ty; id = a; values = map value_of (values_at flat e) })) (find (is_pair t id) (ids_from (suc a) flat es))))
    (not_this (record { ty = e.ty; id = a; values = map value_of (values_at flat e) }) t id (λ (at : a ≡ id). absurd (omega (arith, is, at))))
    ∙ found_there es flat (suc a) k id t d (omega (arith, less)) (omega (arith, is)) type

-- a pair that is there has its place
has_place : (es : List IdEntry) (flat : List DriverValue) (a id : ℕ) (t : ObjectType) → has_pair (ids_from a flat es) t id ≡ true → (a ≤ id) × (id - a < length es) × ((d : IdEntry) → (get_or es (id - a) d).ty ≡ t)
has_place [] flat a id t has = cc has
has_place (e ∷ es) flat a id t has = go (same_type e.ty t && a == id) refl has (has_place es flat (suc a) id t)
  where
    go : (u : Bool) → (same_type e.ty t && a == id) ≡ u → (u || has_pair (ids_from (suc a) flat es) t id) ≡ true → (has_pair (ids_from (suc a) flat es) t id ≡ true → (suc a ≤ id) × (id - suc a < length es) × ((d : IdEntry) → (get_or es (id - suc a) d).ty ≡ t))
        → (a ≤ id) × (id - a < suc (length es)) × ((d : IdEntry) → (get_or (e ∷ es) (id - a) d).ty ≡ t)
    go true this has ih =
        let parts = and_true (same_type e.ty t) (a == id) this in
        let at : a ≡ id = eqb-true a id parts.1 in
        let zero_is : id - a ≡ 0 = omega (arith, at) in
        (omega (arith, at), omega (arith, at), λ (d : IdEntry). ap (λ (n : ℕ). (get_or (e ∷ es) n d).ty) zero_is ∙ type_is e.ty t parts.0)
    go false this has ih =
        let rest = ih has in
        let low : suc a ≤ id = rest.0 in
        let less : id - suc a < length es = rest.1 in
        let more : id - a ≡ suc (id - suc a) = omega (arith, low) in
        (omega (arith, low), omega (arith, low, less), λ (d : IdEntry). ap (λ (n : ℕ). (get_or (e ∷ es) n d).ty) more ∙ rest.2 d)

-- ---- as the code has it

pub no_place : (es : List IdEntry) (t : ObjectType) (id : ℕ) → (id ≡ 0) ⊎ (length es ≤ id - 1) → HasNoPlace es t id
no_place es t id (inl is) flat = outside es flat 1 id t (inl (omega (arith, is)))
no_place es t id (inr high) flat = go id high
  where
    go : (n : ℕ) → length es ≤ n - 1 → has_pair (ids_from 1 flat es) t n ≡ false
    go zero high = outside es flat 1 0 t (inl (omega arith))
    go (suc n) high = outside es flat 1 (suc n) t (inr (omega (arith, high)))

pub no_type : (es : List IdEntry) (t : ObjectType) (id : ℕ) (d : IdEntry) → (id ≡ 0 → ⊥) → id - 1 < length es → same_type (get_or es (id - 1) d).ty t ≡ false → HasNoPlace es t id
no_type es t zero d some less other flat = absurd (some refl)
no_type es t (suc n) d some less other flat = other_type es flat 1 (suc n - 1) (suc n) t d less (omega arith) other

-- the values of an entry
pub values_there : (es : List IdEntry) (flat : List DriverValue) (t : ObjectType) (id place : ℕ) (d : IdEntry) → IsPlace es t id place → values_of (ids_from 1 flat es) t id ≡ Some (map value_of (values_at flat (get_or es place d)))
values_there es flat t id place d is = found_there es flat 1 place id t d is.within (omega (arith, is.number)) (is.type d)

-- the place of an id
pub place_is : (es : List IdEntry) (flat : List DriverValue) (t : ObjectType) (id : ℕ) → has_pair (ids_from 1 flat es) t id ≡ true → IsPlace es t id (id - 1)
place_is es flat t id has =
    let parts = has_place es flat 1 id t has in
    let low : 1 ≤ id = parts.0 in
    record { number = omega (arith, low); within = parts.1; type = parts.2 }

-- ---- drivers behind ids

-- a route is there for each id of a type that has one
pub has_route_is : (es : List IdEntry) (flat : List DriverValue) (a id : ℕ) (t : ObjectType) → has_route (routes_from a es) (record { ty = t; number = id }) ≡ (is_routed t && has_pair (ids_from a flat es) t id)
has_route_is [] flat a id t = sym (and-false (is_routed t))
has_route_is (e ∷ es) flat a id t = go (same_type e.ty t) refl (has_route_is es flat (suc a) id t)
  where
    skipped : (u : Bool) → list_any (λ (r : Routed). same r.object (record { ty = t; number = id })) (cond u (record { object = record { ty = e.ty; number = a }; driver = e.driver } ∷ routes_from (suc a) es) (routes_from (suc a) es))
        ≡ cond u ((same_type e.ty t && a == id) || has_route (routes_from (suc a) es) (record { ty = t; number = id })) (has_route (routes_from (suc a) es) (record { ty = t; number = id }))
    skipped true = refl
    skipped false = refl

    both : (u x : Bool) → cond u (false || x) x ≡ x
    both true x = refl
    both false x = refl

    go : (u : Bool) → same_type e.ty t ≡ u → has_route (routes_from (suc a) es) (record { ty = t; number = id }) ≡ (is_routed t && has_pair (ids_from (suc a) flat es) t id)
        → list_any (λ (r : Routed). same r.object (record { ty = t; number = id })) (cond (is_routed e.ty) (record { object = record { ty = e.ty; number = a }; driver = e.driver } ∷ routes_from (suc a) es) (routes_from (suc a) es))
        ≡ (is_routed t && ((same_type e.ty t && a == id) || has_pair (ids_from (suc a) flat es) t id))
    go true type ih =
        skipped (is_routed e.ty)
        ∙ (ap (λ (x : ObjectType). cond (is_routed x) ((same_type e.ty t && a == id) || has_route (routes_from (suc a) es) (record { ty = t; number = id })) (has_route (routes_from (suc a) es) (record { ty = t; number = id }))) (type_is e.ty t type)
        ∙ (ap (λ (x : Bool). cond (is_routed t) ((same_type e.ty t && a == id) || x) x) ih ∙ at (is_routed t) (same_type e.ty t && a == id) (has_pair (ids_from (suc a) flat es) t id)))
      where
        at : (u x y : Bool) → cond u (x || (u && y)) (u && y) ≡ (u && (x || y))
        at true x y = refl
        at false x y = refl
    go false type ih =
        skipped (is_routed e.ty)
        ∙ (ap (λ (x : Bool). cond (is_routed e.ty) ((x && a == id) || has_route (routes_from (suc a) es) (record { ty = t; number = id })) (has_route (routes_from (suc a) es) (record { ty = t; number = id }))) type
        ∙ (both (is_routed e.ty) (has_route (routes_from (suc a) es) (record { ty = t; number = id }))
        ∙ (ih ∙ ap (λ (x : Bool). is_routed t && ((x && a == id) || has_pair (ids_from (suc a) flat es) t id)) (sym type))))

-- the driver behind an object of a type that has none
pub driver_unrouted : (es : List IdEntry) (t : ObjectType) (id : ℕ) → is_routed t ≡ false → driver_in (routes_from 1 es) (record { ty = t; number = id }) ≡ 0
driver_unrouted es t id none =
    ap (λ (f : Option Routed). option_map_or (λ (r : Routed). r.driver) f 0) (found_none (λ (r : Routed). same r.object (record { ty = t; number = id })) (routes_from 1 es) (has_route_is es [] 1 id t ∙ ap (λ (u : Bool). u && has_pair (ids_from 1 [] es) t id) none))

-- and behind one that isn't there
pub driver_none : (es : List IdEntry) (t : ObjectType) (id : ℕ) → HasNoPlace es t id → driver_in (routes_from 1 es) (record { ty = t; number = id }) ≡ 0
driver_none es t id none =
    ap (λ (f : Option Routed). option_map_or (λ (r : Routed). r.driver) f 0) (found_none (λ (r : Routed). same r.object (record { ty = t; number = id })) (routes_from 1 es) (has_route_is es [] 1 id t ∙ (ap (λ (u : Bool). is_routed t && u) (none []) ∙ and-false (is_routed t))))

-- an element doesn't depend on what stands beyond
get_or-any : (es : List IdEntry) (k : ℕ) (x y : IdEntry) → k < length es → get_or es k x ≡ get_or es k y
get_or-any [] k x y less = absurd (omega (arith, less))
get_or-any (e ∷ es) zero x y less = refl
get_or-any (e ∷ es) (suc k) x y less = get_or-any es k x y (omega (arith, less))

-- the driver behind an entry
driver_there_from : (es : List IdEntry) (a k id : ℕ) (t : ObjectType) (d : IdEntry) → k < length es → id ≡ a + k → (get_or es k d).ty ≡ t → is_routed t ≡ true → driver_in (routes_from a es) (record { ty = t; number = id }) ≡ (get_or es k d).driver
driver_there_from [] a k id t d less is type routed = absurd (omega (arith, less))
driver_there_from (e ∷ es) a zero id t d less is type routed =
    ap (λ (u : Bool). option_map_or (λ (r : Routed). r.driver) (find (λ (r : Routed). same r.object (record { ty = t; number = id })) (cond u (record { object = record { ty = e.ty; number = a }; driver = e.driver } ∷ routes_from (suc a) es) (routes_from (suc a) es))) 0) (ap is_routed type ∙ routed)
    ∙ ap (λ (u : Bool). option_map_or (λ (r : Routed). r.driver) (cond u (Some (let this : Routed = record { object = record { ty = e.ty; number = a }; driver = e.driver } in this)) (find (λ (r : Routed). same r.object (record { ty = t; number = id })) (routes_from (suc a) es))) 0) (own_pair e a id t type (omega (arith, is)))
driver_there_from (e ∷ es) a (suc k) id t d less is type routed = go (is_routed e.ty) ∙ driver_there_from es (suc a) k id t d (omega (arith, less)) (omega (arith, is)) type routed
  where
    go : (u : Bool) → option_map_or (λ (r : Routed). r.driver) (find (λ (r : Routed). same r.object (record { ty = t; number = id })) (cond u (record { object = record { ty = e.ty; number = a }; driver = e.driver } ∷ routes_from (suc a) es) (routes_from (suc a) es))) 0
        ≡ driver_in (routes_from (suc a) es) (record { ty = t; number = id })
    go true = ap (λ (u : Bool). option_map_or (λ (r : Routed). r.driver) (cond u (Some (let this : Routed = record { object = record { ty = e.ty; number = a }; driver = e.driver } in this)) (find (λ (r : Routed). same r.object (record { ty = t; number = id })) (routes_from (suc a) es))) 0)
        (ap (λ (u : Bool). same_type e.ty t && u) (apart_ids a id (λ (at : a ≡ id). absurd (omega (arith, is, at)))) ∙ and-false (same_type e.ty t))
    go false = refl

pub driver_there : (es : List IdEntry) (t : ObjectType) (id place : ℕ) (d : IdEntry) → IsPlace es t id place → is_routed t ≡ true → driver_in (routes_from 1 es) (record { ty = t; number = id }) ≡ (get_or es place d).driver
driver_there es t id place d is routed = driver_there_from es 1 place id t d is.within (omega (arith, is.number)) (is.type d) routed

-- an id that was issued gets no second route
pub known_route : (es : List IdEntry) (flat : List DriverValue) (t : ObjectType) (id driver : ℕ) → has_pair (ids_from 1 flat es) t id ≡ true → add_route (routes_from 1 es) (record { ty = t; number = id }) driver ≡ routes_from 1 es
known_route es flat t id driver has =
    ap (λ (u : Bool). cond (is_routed t && not u) (routes_from 1 es ++ (let r : Routed = record { object = record { ty = t; number = id }; driver = driver } in r) ∷ []) (routes_from 1 es)) (has_route_is es flat 1 id t ∙ ap (λ (u : Bool). is_routed t && u) has)
    ∙ at (is_routed t)
  where
    at : (u : Bool) → cond (u && not (u && true)) (routes_from 1 es ++ (let r : Routed = record { object = record { ty = t; number = id }; driver = driver } in r) ∷ []) (routes_from 1 es) ≡ routes_from 1 es
    at true = refl
    at false = refl

-- ---- one id more

-- the greatest id
greatest_from : (es : List IdEntry) (flat : List DriverValue) (e : IdEntry) (a : ℕ) → greatest_id (ids_from (suc a) flat (e ∷ es)) ≡ suc (a + length es)
greatest_from [] flat e a = omega arith
greatest_from (x ∷ es) flat e a = let ih : greatest_id (ids_from (suc (suc a)) flat (x ∷ es)) ≡ suc (suc a + length es) = greatest_from es flat x (suc a) in omega (arith, ih)

pub next_is : (es : List IdEntry) (flat : List DriverValue) → next_id (ids_from 1 flat es) ≡ length es + 1
next_is [] flat = omega arith
next_is (e ∷ es) flat = let most : greatest_id (ids_from 1 flat (e ∷ es)) ≡ suc (0 + length es) = greatest_from es flat e 0 in omega (arith, most)

-- the others are as before, with values more
ids_stay : (es : List IdEntry) (flat more : List DriverValue) (a : ℕ) → ((p : ℕ) (d : IdEntry) → p < length es → IsInside flat (get_or es p d)) → ids_from a (flat ++ more) es ≡ ids_from a flat es
ids_stay [] flat more a inside = refl
ids_stay (e ∷ es) flat more a inside =
    ap (λ (vs : List DriverValue). (let x : MapEntry (List Value) = record { ty = e.ty; id = a; values = map value_of vs } in x) ∷ ids_from (suc a) (flat ++ more) es) (kept_before flat more e.start e.len (inside 0 e (omega arith)))
    ∙ ap (λ (xs : List (MapEntry (List Value))). (let x : MapEntry (List Value) = record { ty = e.ty; id = a; values = map value_of (values_at flat e) } in x) ∷ xs) (ids_stay es flat more (suc a) (λ (p : ℕ) (d : IdEntry) (less : p < length es). inside (suc p) d (omega (arith, less))))

ids_more : (es : List IdEntry) (flat : List DriverValue) (e : IdEntry) (a id : ℕ) → id ≡ a + length es → ids_from a flat (es ++ e ∷ []) ≡ ids_from a flat es ++ (let x : MapEntry (List Value) = record { ty = e.ty; id = id; values = map value_of (values_at flat e) } in x) ∷ []
ids_more [] flat e a id is = let at : a ≡ id = omega (arith, is) in ap (λ (n : ℕ). (let x : MapEntry (List Value) = record { ty = e.ty; id = n; values = map value_of (values_at flat e) } in x) ∷ []) at
ids_more (y ∷ es) flat e a id is = ap (λ (xs : List (MapEntry (List Value))). (let x : MapEntry (List Value) = record { ty = y.ty; id = a; values = map value_of (values_at flat y) } in x) ∷ xs) (ids_more es flat e (suc a) id (omega (arith, is)))

routes_more : (es : List IdEntry) (e : IdEntry) (a id : ℕ) → id ≡ a + length es → routes_from a (es ++ e ∷ []) ≡ cond (is_routed e.ty) (routes_from a es ++ (let r : Routed = record { object = record { ty = e.ty; number = id }; driver = e.driver } in r) ∷ []) (routes_from a es)
routes_more [] e a id is = let at : a ≡ id = omega (arith, is) in ap (λ (n : ℕ). cond (is_routed e.ty) ((let r : Routed = record { object = record { ty = e.ty; number = n }; driver = e.driver } in r) ∷ []) []) at
routes_more (y ∷ es) e a id is = ap (λ (xs : List Routed). cond (is_routed y.ty) ((let r : Routed = record { object = record { ty = y.ty; number = a }; driver = y.driver } in r) ∷ xs) xs) (routes_more es e (suc a) id (omega (arith, is))) ∙ at (is_routed y.ty) (is_routed e.ty)
  where
    at : (u v : Bool) → cond u ((let r : Routed = record { object = record { ty = y.ty; number = a }; driver = y.driver } in r) ∷ cond v (routes_from (suc a) es ++ (let r : Routed = record { object = record { ty = e.ty; number = id }; driver = e.driver } in r) ∷ []) (routes_from (suc a) es)) (cond v (routes_from (suc a) es ++ (let r : Routed = record { object = record { ty = e.ty; number = id }; driver = e.driver } in r) ∷ []) (routes_from (suc a) es))
        ≡ cond v (cond u ((let r : Routed = record { object = record { ty = y.ty; number = a }; driver = y.driver } in r) ∷ routes_from (suc a) es) (routes_from (suc a) es) ++ (let r : Routed = record { object = record { ty = e.ty; number = id }; driver = e.driver } in r) ∷ []) (cond u ((let r : Routed = record { object = record { ty = y.ty; number = a }; driver = y.driver } in r) ∷ routes_from (suc a) es) (routes_from (suc a) es))
    at true true = refl
    at true false = refl
    at false true = refl
    at false false = refl

-- what is there with one id more
pub record IsAdded (es : List IdEntry) (flat vs : List DriverValue) (e : IdEntry) (id : ℕ) : Type 0 where
  pub entries : ids_from 1 (flat ++ vs) (es ++ e ∷ []) ≡ with_values (ids_from 1 flat es) e.ty id (map value_of vs)
  pub routes : routes_from 1 (es ++ e ∷ []) ≡ add_route (routes_from 1 es) (record { ty = e.ty; number = id }) e.driver
  pub table : IsTable (es ++ e ∷ []) (flat ++ vs)

pub added : (es : List IdEntry) (flat vs : List DriverValue) (e : IdEntry) (id : ℕ) → IsTable es flat → length flat + length vs ≤ 4294967295 → e.start ≡ length flat → e.len ≡ length vs → id ≡ length es + 1 → IsAdded es flat vs e id
added es flat vs e id table short start len is = record {
  entries = ids_more es (flat ++ vs) e 1 id (omega (arith, is))
      ∙ (ap (λ (xs : List (MapEntry (List Value))). xs ++ (let x : MapEntry (List Value) = record { ty = e.ty; id = id; values = map value_of (values_at (flat ++ vs) e) } in x) ∷ []) (ids_stay es flat vs 1 table.inside)
      ∙ (ap (λ (ys : List DriverValue). ids_from 1 flat es ++ (let x : MapEntry (List Value) = record { ty = e.ty; id = id; values = map value_of ys } in x) ∷ []) own
      ∙ sym (put_absent (ids_from 1 flat es) e.ty id (map value_of vs) none)));
  routes = routes_more es e 1 id (omega (arith, is)) ∙ sym (new_route (is_routed e.ty));
  table = record { short = omega (arith, short, long); inside = within; apart = apart };
}
  where
    own : values_at (flat ++ vs) e ≡ vs
    own = ap (λ (n : ℕ). take n (drop e.start (flat ++ vs))) len ∙ (ap (λ (n : ℕ). take (length vs) (drop n (flat ++ vs))) start ∙ added_own flat vs)

    none : has_pair (ids_from 1 flat es) e.ty id ≡ false
    none = outside es flat 1 id e.ty (inr (omega (arith, is)))

    is_new : has_route (routes_from 1 es) (record { ty = e.ty; number = id }) ≡ false
    is_new = has_route_is es flat 1 id e.ty ∙ (ap (λ (u : Bool). is_routed e.ty && u) none ∙ and-false (is_routed e.ty))

    last : Routed
    last = record { object = record { ty = e.ty; number = id }; driver = e.driver }

    new_route : (u : Bool) → cond (u && not (has_route (routes_from 1 es) (record { ty = e.ty; number = id }))) (routes_from 1 es ++ (let r : Routed = record { object = record { ty = e.ty; number = id }; driver = e.driver } in r) ∷ []) (routes_from 1 es)
        ≡ cond u (routes_from 1 es ++ (let r : Routed = record { object = record { ty = e.ty; number = id }; driver = e.driver } in r) ∷ []) (routes_from 1 es)
    new_route true = ap (λ (u : Bool). cond (not u) (routes_from 1 es ++ (let r : Routed = record { object = record { ty = e.ty; number = id }; driver = e.driver } in r) ∷ []) (routes_from 1 es)) is_new
    new_route false = refl

    long : length (flat ++ vs) ≡ length flat + length vs
    long = length-append flat vs

    count : length (es ++ e ∷ []) ≡ length es + 1
    count = length-append es (e ∷ []) ∙ omega arith

    old_at : (p : ℕ) (d : IdEntry) → p < length es → get_or (es ++ e ∷ []) p d ≡ get_or es p d
    old_at p d l = get_or-append es (e ∷ []) d p l

    new_at : (p : ℕ) (d : IdEntry) → p ≡ length es → get_or (es ++ e ∷ []) p d ≡ e
    new_at p d l = ap (λ (q : ℕ). get_or (es ++ e ∷ []) q d) l ∙ get_or-append_seam es e [] d

    within : (p : ℕ) (d : IdEntry) → p < length (es ++ e ∷ []) → IsInside (flat ++ vs) (get_or (es ++ e ∷ []) p d)
    within p d less = go (eq-or-lt_of_le (omega (arith, less, count)))
      where
        go : (p ≡ length es) ⊎ (p < length es) → IsInside (flat ++ vs) (get_or (es ++ e ∷ []) p d)
        go (inr l) = let old : (get_or es p d).start + (get_or es p d).len ≤ length flat = table.inside p d l in subst (λ (x : IdEntry). x.start + x.len ≤ length (flat ++ vs)) (sym (old_at p d l)) (omega (arith, old, long))
        go (inl l) = subst (λ (x : IdEntry). x.start + x.len ≤ length (flat ++ vs)) (sym (new_at p d l)) (omega (arith, start, len, long))

    apart : (a b : ℕ) (d : IdEntry) → a < length (es ++ e ∷ []) → b < length (es ++ e ∷ []) → a ≢ b → AreApart (get_or (es ++ e ∷ []) a d) (get_or (es ++ e ∷ []) b d)
    apart a b d la lb ne = go (eq-or-lt_of_le (omega (arith, la, count))) (eq-or-lt_of_le (omega (arith, lb, count)))
      where
        go : (a ≡ length es) ⊎ (a < length es) → (b ≡ length es) ⊎ (b < length es) → AreApart (get_or (es ++ e ∷ []) a d) (get_or (es ++ e ∷ []) b d)
        go (inl x) (inl y) = absurd (ne (x ∙ sym y))
        go (inl x) (inr y) = let old : (get_or es b d).start + (get_or es b d).len ≤ length flat = table.inside b d y in
            subst (λ (q : IdEntry). AreApart q (get_or (es ++ e ∷ []) b d)) (sym (new_at a d x)) (subst (λ (q : IdEntry). AreApart e q) (sym (old_at b d y)) (inr (omega (arith, old, start))))
        go (inr x) (inl y) = let old : (get_or es a d).start + (get_or es a d).len ≤ length flat = table.inside a d x in
            subst (λ (q : IdEntry). AreApart q (get_or (es ++ e ∷ []) b d)) (sym (old_at a d x)) (subst (λ (q : IdEntry). AreApart (get_or es a d) q) (sym (new_at b d y)) (inl (omega (arith, old, start))))
        go (inr x) (inr y) = subst (λ (q : IdEntry). AreApart q (get_or (es ++ e ∷ []) b d)) (sym (old_at a d x)) (subst (λ (q : IdEntry). AreApart (get_or es a d) q) (sym (old_at b d y)) (table.apart a b d x y ne))

-- ---- an id's values anew

ids_same : (es : List IdEntry) (flat flat2 : List DriverValue) (a : ℕ) → ((p : ℕ) (d : IdEntry) → p < length es → values_at flat2 (get_or es p d) ≡ values_at flat (get_or es p d)) → ids_from a flat2 es ≡ ids_from a flat es
ids_same [] flat flat2 a stay = refl
ids_same (e ∷ es) flat flat2 a stay =
    ap (λ (vs : List DriverValue). (let x : MapEntry (List Value) = record { ty = e.ty; id = a; values = map value_of vs } in x) ∷ ids_from (suc a) flat2 es) (stay 0 e (omega arith))
    ∙ ap (λ (xs : List (MapEntry (List Value))). (let x : MapEntry (List Value) = record { ty = e.ty; id = a; values = map value_of (values_at flat e) } in x) ∷ xs) (ids_same es flat flat2 (suc a) (λ (p : ℕ) (d : IdEntry) (less : p < length es). stay (suc p) d (omega (arith, less))))

ids_put : (es : List IdEntry) (flat flat2 vs : List DriverValue) (e : IdEntry) (a k id : ℕ) (t : ObjectType) (d : IdEntry) → k < length es → id ≡ a + k → (get_or es k d).ty ≡ t → e.ty ≡ t → values_at flat2 e ≡ vs
    → ((p : ℕ) (x : IdEntry) → p < length es → p ≢ k → values_at flat2 (get_or es p x) ≡ values_at flat (get_or es p x)) → ids_from a flat2 (set es k e) ≡ with_values (ids_from a flat es) t id (map value_of vs)
ids_put [] flat flat2 vs e a k id t d less is type own values stay = absurd (omega (arith, less))
ids_put (x ∷ es) flat flat2 vs e a zero id t d less is type own values stay =
    ap (λ (u : ObjectType). (let y : MapEntry (List Value) = record { ty = u; id = a; values = map value_of (values_at flat2 e) } in y) ∷ ids_from (suc a) flat2 es) (own ∙ sym type)
    ∙ (ap (λ (ws : List DriverValue). (let y : MapEntry (List Value) = record { ty = x.ty; id = a; values = map value_of ws } in y) ∷ ids_from (suc a) flat2 es) values
    ∙ (ap (λ (xs : List (MapEntry (List Value))). (let y : MapEntry (List Value) = record { ty = x.ty; id = a; values = map value_of vs } in y) ∷ xs) (ids_same es flat flat2 (suc a) (λ (p : ℕ) (q : IdEntry) (l : p < length es). stay (suc p) q (omega (arith, l)) (λ (at : suc p ≡ 0). absurd (omega (arith, at)))))
    ∙ sym (ap (λ (u : Bool). cond u ((let y : MapEntry (List Value) = record { ty = x.ty; id = a; values = map value_of vs } in y) ∷ ids_from (suc a) flat es) ((let y : MapEntry (List Value) = record { ty = x.ty; id = a; values = map value_of (values_at flat x) } in y) ∷ with_values (ids_from (suc a) flat es) t id (map value_of vs))) (own_pair x a id t type (omega (arith, is))))))
ids_put (x ∷ es) flat flat2 vs e a (suc k) id t d less is type own values stay =
    ap (λ (ws : List DriverValue). (let y : MapEntry (List Value) = record { ty = x.ty; id = a; values = map value_of ws } in y) ∷ ids_from (suc a) flat2 (set es k e)) (stay 0 x (omega arith) (λ (at : 0 ≡ suc k). absurd (omega (arith, at))))
    ∙ (ap (λ (xs : List (MapEntry (List Value))). (let y : MapEntry (List Value) = record { ty = x.ty; id = a; values = map value_of (values_at flat x) } in y) ∷ xs) (ids_put es flat flat2 vs e (suc a) k id t d (omega (arith, less)) (omega (arith, is)) type own values (λ (p : ℕ) (q : IdEntry) (l : p < length es) (ne : p ≢ k). stay (suc p) q (omega (arith, l)) (λ (at : suc p ≡ suc k). ne (omega (arith, at)))))
    ∙ sym (ap (λ (u : Bool). cond u ((let y : MapEntry (List Value) = record { ty = x.ty; id = a; values = map value_of vs } in y) ∷ ids_from (suc a) flat es) ((let y : MapEntry (List Value) = record { ty = x.ty; id = a; values = map value_of (values_at flat x) } in y) ∷ with_values (ids_from (suc a) flat es) t id (map value_of vs))) (not_this (record { ty = x.ty; id = a; values = map value_of (values_at flat x) }) t id (λ (at : a ≡ id). absurd (omega (arith, is, at))))))

routes_put : (es : List IdEntry) (e : IdEntry) (a k : ℕ) (d : IdEntry) → k < length es → e.ty ≡ (get_or es k d).ty → e.driver ≡ (get_or es k d).driver → routes_from a (set es k e) ≡ routes_from a es
routes_put [] e a k d less type driver = absurd (omega (arith, less))
routes_put (x ∷ es) e a zero d less type driver =
    ap (λ (u : ObjectType). cond (is_routed u) ((let r : Routed = record { object = record { ty = u; number = a }; driver = e.driver } in r) ∷ routes_from (suc a) es) (routes_from (suc a) es)) type
    ∙ ap (λ (u : ℕ). cond (is_routed x.ty) ((let r : Routed = record { object = record { ty = x.ty; number = a }; driver = u } in r) ∷ routes_from (suc a) es) (routes_from (suc a) es)) driver
routes_put (x ∷ es) e a (suc k) d less type driver = ap (λ (xs : List Routed). cond (is_routed x.ty) ((let r : Routed = record { object = record { ty = x.ty; number = a }; driver = x.driver } in r) ∷ xs) xs) (routes_put es e (suc a) k d (omega (arith, less)) type driver)

-- what is there then
pub record IsRenewed (es : List IdEntry) (flat flat2 vs : List DriverValue) (e : IdEntry) (id : ℕ) (t : ObjectType) : Type 0 where
  pub entries : ids_from 1 flat2 (set es (id - 1) e) ≡ with_values (ids_from 1 flat es) t id (map value_of vs)
  pub routes : routes_from 1 (set es (id - 1) e) ≡ routes_from 1 es
  pub table : IsTable (set es (id - 1) e) flat2

renewed : (es : List IdEntry) (flat flat2 vs : List DriverValue) (e d : IdEntry) (id : ℕ) (t : ObjectType) → IsPlace es t id (id - 1) → IsTable es flat → e.ty ≡ (get_or es (id - 1) d).ty → e.driver ≡ (get_or es (id - 1) d).driver → values_at flat2 e ≡ vs
    → ((p : ℕ) (x : IdEntry) → p < length es → p ≢ id - 1 → (values_at flat2 (get_or es p x) ≡ values_at flat (get_or es p x)) × AreApart e (get_or es p x) × AreApart (get_or es p x) e) → IsInside flat2 e → length flat ≤ length flat2
    → length flat2 ≤ 4294967295 → IsRenewed es flat flat2 vs e id t
renewed es flat flat2 vs e d id t is table type driver own others inside long short = record {
  entries = ids_put es flat flat2 vs e 1 (id - 1) id t d is.within (omega (arith, is.number)) (is.type d) (type ∙ is.type d) own (λ (p : ℕ) (x : IdEntry) (l : p < length es) (ne : p ≢ id - 1). (others p x l ne).0);
  routes = routes_put es e 1 (id - 1) d is.within type driver;
  table = record { short = short; inside = within; apart = apart };
}
  where
    count : length (set es (id - 1) e) ≡ length es
    count = length-set es (id - 1) e

    new_at : (p : ℕ) (x : IdEntry) → p ≡ id - 1 → get_or (set es (id - 1) e) p x ≡ e
    new_at p x at = ap (λ (q : ℕ). get_or (set es (id - 1) e) q x) at ∙ get_or-set_same es (id - 1) e x is.within

    old_at : (p : ℕ) (x : IdEntry) → p ≢ id - 1 → get_or (set es (id - 1) e) p x ≡ get_or es p x
    old_at p x ne = get_or-set_other es (id - 1) p e x ne

    which : (p : ℕ) → (p ≡ id - 1) ⊎ (p ≢ id - 1)
    which p = go (p == id - 1) refl
      where
        go : (u : Bool) → (p == id - 1) ≡ u → (p ≡ id - 1) ⊎ (p ≢ id - 1)
        go true at = inl (eqb-true p (id - 1) at)
        go false at = inr (λ (same : p ≡ id - 1). cc (at, eq-eqb p (id - 1) same))

    within : (p : ℕ) (x : IdEntry) → p < length (set es (id - 1) e) → IsInside flat2 (get_or (set es (id - 1) e) p x)
    within p x less = go (which p)
      where
        go : (p ≡ id - 1) ⊎ (p ≢ id - 1) → IsInside flat2 (get_or (set es (id - 1) e) p x)
        go (inl at) = subst (λ (q : IdEntry). IsInside flat2 q) (sym (new_at p x at)) inside
        go (inr ne) = let old : (get_or es p x).start + (get_or es p x).len ≤ length flat = table.inside p x (omega (arith, less, count)) in subst (λ (q : IdEntry). q.start + q.len ≤ length flat2) (sym (old_at p x ne)) (omega (arith, old, long))

    apart : (a b : ℕ) (x : IdEntry) → a < length (set es (id - 1) e) → b < length (set es (id - 1) e) → a ≢ b → AreApart (get_or (set es (id - 1) e) a x) (get_or (set es (id - 1) e) b x)
    apart a b x la lb ne = go (which a) (which b)
      where
        go : (a ≡ id - 1) ⊎ (a ≢ id - 1) → (b ≡ id - 1) ⊎ (b ≢ id - 1) → AreApart (get_or (set es (id - 1) e) a x) (get_or (set es (id - 1) e) b x)
        go (inl p) (inl q) = absurd (ne (p ∙ sym q))
        go (inl p) (inr q) = subst (λ (y : IdEntry). AreApart y (get_or (set es (id - 1) e) b x)) (sym (new_at a x p)) (subst (λ (y : IdEntry). AreApart e y) (sym (old_at b x q)) (others b x (omega (arith, lb, count)) q).1)
        go (inr p) (inl q) = subst (λ (y : IdEntry). AreApart y (get_or (set es (id - 1) e) b x)) (sym (old_at a x p)) (subst (λ (y : IdEntry). AreApart (get_or es a x) y) (sym (new_at b x q)) (others a x (omega (arith, la, count)) p).2)
        go (inr p) (inr q) = subst (λ (y : IdEntry). AreApart y (get_or (set es (id - 1) e) b x)) (sym (old_at a x p)) (subst (λ (y : IdEntry). AreApart (get_or es a x) y) (sym (old_at b x q)) (table.apart a b x (omega (arith, la, count)) (omega (arith, lb, count)) ne))

-- values in place
pub renewed_here : (es : List IdEntry) (flat vs : List DriverValue) (e d : IdEntry) (id : ℕ) (t : ObjectType) → IsPlace es t id (id - 1) → IsTable es flat → e.ty ≡ (get_or es (id - 1) d).ty → e.driver ≡ (get_or es (id - 1) d).driver → e.start ≡ (get_or es (id - 1) d).start → e.len ≡ length vs
    → length vs ≤ (get_or es (id - 1) d).len → IsRenewed es flat (written flat (get_or es (id - 1) d).start vs) vs e id t
renewed_here es flat vs e d id t is table type driver start len few =
    let here : IdEntry = get_or es (id - 1) d in
    let inside : here.start + here.len ≤ length flat = table.inside (id - 1) d is.within in
    let long : length (written flat here.start vs) ≡ length flat = length-written flat here.start vs in
    renewed es flat (written flat here.start vs) vs e d id t is table type driver
    (ap (λ (n : ℕ). take n (drop e.start (written flat here.start vs))) len ∙ (ap (λ (n : ℕ). take (length vs) (drop n (written flat here.start vs))) start ∙ written_own flat vs here.start (omega (arith, inside, few))))
    others (omega (arith, inside, few, len, start, long)) (omega (arith, long)) (omega (arith, long, table.short))
  where
    others : (p : ℕ) (x : IdEntry) → p < length es → p ≢ id - 1 → (values_at (written flat (get_or es (id - 1) d).start vs) (get_or es p x) ≡ values_at flat (get_or es p x)) × AreApart e (get_or es p x) × AreApart (get_or es p x) e
    others p x less ne =
        let same : get_or es (id - 1) x ≡ get_or es (id - 1) d = get_or-any es (id - 1) x d is.within in
        go (subst (λ (y : IdEntry). AreApart (get_or es p x) y) same (table.apart p (id - 1) x less is.within ne))
      where
        go : AreApart (get_or es p x) (get_or es (id - 1) d) → (values_at (written flat (get_or es (id - 1) d).start vs) (get_or es p x) ≡ values_at flat (get_or es p x)) × AreApart e (get_or es p x) × AreApart (get_or es p x) e
        go (inl low) = (written_other flat vs (get_or es (id - 1) d).start (get_or es p x).start (get_or es p x).len (inl low), inr (omega (arith, low, start)), inl (omega (arith, low, start)))
        go (inr high) = (written_other flat vs (get_or es (id - 1) d).start (get_or es p x).start (get_or es p x).len (inr (omega (arith, high, few))), inl (omega (arith, high, start, len, few)), inr (omega (arith, high, start, len, few)))

-- values behind the others
pub renewed_behind : (es : List IdEntry) (flat vs : List DriverValue) (e d : IdEntry) (id : ℕ) (t : ObjectType) → IsPlace es t id (id - 1) → IsTable es flat → e.ty ≡ (get_or es (id - 1) d).ty → e.driver ≡ (get_or es (id - 1) d).driver → e.start ≡ length flat → e.len ≡ length vs
    → length flat + length vs ≤ 4294967295 → IsRenewed es flat (flat ++ vs) vs e id t
renewed_behind es flat vs e d id t is table type driver start len short =
    let long : length (flat ++ vs) ≡ length flat + length vs = length-append flat vs in
    renewed es flat (flat ++ vs) vs e d id t is table type driver
    (ap (λ (n : ℕ). take n (drop e.start (flat ++ vs))) len ∙ (ap (λ (n : ℕ). take (length vs) (drop n (flat ++ vs))) start ∙ added_own flat vs))
    others (omega (arith, len, start, long)) (omega (arith, long)) (omega (arith, long, short))
  where
    others : (p : ℕ) (x : IdEntry) → p < length es → p ≢ id - 1 → (values_at (flat ++ vs) (get_or es p x) ≡ values_at flat (get_or es p x)) × AreApart e (get_or es p x) × AreApart (get_or es p x) e
    others p x less ne =
        let old : (get_or es p x).start + (get_or es p x).len ≤ length flat = table.inside p x less in
        (kept_before flat vs (get_or es p x).start (get_or es p x).len old, inr (omega (arith, old, start)), inl (omega (arith, old, start)))

-- ---- as the code has it, with what it wrote

pub added_as : (es es2 : List IdEntry) (flat flat2 vs : List DriverValue) (e : IdEntry) (id : ℕ) → IsTable es flat → length flat + length vs ≤ 4294967295 → e.start ≡ length flat → e.len ≡ length vs → id ≡ length es + 1 → es2 ≡ es ++ e ∷ [] → flat2 ≡ flat ++ vs
    → (ids_from 1 flat2 es2 ≡ with_values (ids_from 1 flat es) e.ty id (map value_of vs)) × (routes_from 1 es2 ≡ add_route (routes_from 1 es) (record { ty = e.ty; number = id }) e.driver) × IsTable es2 flat2
added_as es es2 flat flat2 vs e id table short start len is entries values =
    let all : IsAdded es flat vs e id = added es flat vs e id table short start len is in (
      ap (λ (xs : List IdEntry). ids_from 1 flat2 xs) entries ∙ (ap (λ (ys : List DriverValue). ids_from 1 ys (es ++ e ∷ [])) values ∙ all.entries),
      ap (λ (xs : List IdEntry). routes_from 1 xs) entries ∙ all.routes,
      subst (λ (xs : List IdEntry). IsTable xs flat2) (sym entries) (subst (λ (ys : List DriverValue). IsTable (es ++ e ∷ []) ys) (sym values) all.table),
    )

pub put_here : (es : List IdEntry) (flat flat2 vs : List DriverValue) (x : IdEntry) (id : ℕ) (t : ObjectType) → has_pair (ids_from 1 flat es) t id ≡ true → IsTable es flat → x ≡ get_or es (id - 1) x → length vs ≤ x.len → flat2 ≡ written flat x.start vs
    → IsRenewed es flat flat2 vs (record x { len = length vs }) id t
put_here es flat flat2 vs x id t has table at few wrote =
    let few_there : length vs ≤ (get_or es (id - 1) x).len = subst (λ (y : IdEntry). length vs ≤ y.len) at few in
    subst (λ (f : List DriverValue). IsRenewed es flat f vs (record x { len = length vs }) id t) (sym (wrote ∙ ap (λ (y : IdEntry). written flat y.start vs) at))
    (renewed_here es flat vs (record x { len = length vs }) x id t (place_is es flat t id has) table (ap (λ (y : IdEntry). y.ty) at) (ap (λ (y : IdEntry). y.driver) at) (ap (λ (y : IdEntry). y.start) at) refl few_there)

pub put_behind : (es : List IdEntry) (flat flat2 vs : List DriverValue) (x : IdEntry) (start id : ℕ) (t : ObjectType) → has_pair (ids_from 1 flat es) t id ≡ true → IsTable es flat → x ≡ get_or es (id - 1) x → length flat + length vs ≤ 4294967295 → start ≡ length flat → flat2 ≡ flat ++ vs
    → IsRenewed es flat flat2 vs (record x { start = start; len = length vs }) id t
put_behind es flat flat2 vs x start id t has table at short from wrote =
    subst (λ (f : List DriverValue). IsRenewed es flat f vs (record x { start = start; len = length vs }) id t) (sym wrote)
    (renewed_behind es flat vs (record x { start = start; len = length vs }) x id t (place_is es flat t id has) table (ap (λ (y : IdEntry). y.ty) at) (ap (λ (y : IdEntry). y.driver) at) from refl short)

pub is_place : (es : List IdEntry) (t : ObjectType) (id : ℕ) (d : IdEntry) → (id ≡ 0 → ⊥) → id - 1 < length es → same_type (get_or es (id - 1) d).ty t ≡ true → IsPlace es t id (id - 1)
is_place es t zero d some less same = absurd (some refl)
is_place es t (suc n) d some less same = record {
  number = omega arith;
  within = less;
  type = λ (x : IdEntry). ap (λ (y : IdEntry). y.ty) (get_or-any es (suc n - 1) x d less) ∙ type_is (get_or es (suc n - 1) d).ty t same;
}
