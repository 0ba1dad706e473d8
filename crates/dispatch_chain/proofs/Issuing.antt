-- No two results of a call that a unique part gives ids are the same.
use Rattle.std.proofs.Common.{◌≡◌, ◌≢◌, ℕ, zero, suc, ◌+◌, ◌<◌, ◌≤◌, ◌++◌, ◌==◌, ◌&&◌, Bool, true, false, if◌then◌else◌, cond, Option, Some, None, List, [], ◌∷◌, ◌⊎◌, inl, inr, find, ap, sym, ◌∙◌, refl, arith}
use Rattle.std.proofs.lemmas.Bool.{eqb-true}
use Rattle.std.specs.Option.{option_map}
use Rattle.std.specs.Str.{bytes_eq}
use Rattle.command_tables.specs.Tests.{same_type}
use Rattle.command_tables.specs.declared.types.ObjectType.{ObjectType}
use Rattle.object_model.specs.Objects.{are_same}
use Rattle.handle_map.specs.Pairs.{MapEntry, greatest_id, is_pair, with_values}
use Rattle.layer_model.specs.Ids.{IdMap, Key, KeptId, at_key, has_key, issue, issue_all, issue_where, keep_new, kept_for, kept_id, next_id}
use Rattle.dispatch_chain.specs.Kept.{AreRising}

first_true : (a b : Bool) → (a && b) ≡ true → a ≡ true
first_true true b h = refl
first_true false b h = cc

-- numbers that differ are told apart
pub differ : (a b : ℕ) → a ≢ b → (a == b) ≡ false
differ a b d = go (a == b) refl
  where
    go : (u : Bool) → (a == b) ≡ u → (a == b) ≡ false
    go true e = absurd (d (eqb-true a b e))
    go false e = e

-- a value under an id leaves no greater id out
grows : (es : List (MapEntry ℕ)) (t : ObjectType) (id v : ℕ) → (greatest_id es ≤ greatest_id (with_values es t id v)) × (id ≤ greatest_id (with_values es t id v))
grows [] t id v = (omega arith, omega arith)
grows (e ∷ es) t id v = go (grows es t id v) (is_pair t id e) refl
  where
    second : (a b : Bool) → (a && b) ≡ true → b ≡ true
    second true b h = h
    second false b h = cc

    go : (greatest_id es ≤ greatest_id (with_values es t id v)) × (id ≤ greatest_id (with_values es t id v)) → (b : Bool) → is_pair t id e ≡ b → (greatest_id (e ∷ es) ≤ greatest_id (cond b (record e { values = v } ∷ es) (e ∷ with_values es t id v))) × (id ≤ greatest_id (cond b (record e { values = v } ∷ es) (e ∷ with_values es t id v)))
    go k true h = let same : e.id ≡ id = eqb-true e.id id (second (same_type e.ty t) (e.id == id) h) in (omega arith, omega (arith, same))
    go k false h = (omega (arith, k.0), omega (arith, k.1))

-- a kept id lies between
found_between : (low high : ℕ) (rs : List KeptId) (k : Key) (i : ℕ) → AreRising low high rs → kept_id rs k ≡ Some i → (low < i) × (i ≤ high)
found_between low high [] k i h e = cc
found_between low high (r ∷ rs) k i h e = go (λ f. found_between r.id high rs k i h.1.1 f) (has_key k r) e
  where
    go : (kept_id rs k ≡ Some i → (r.id < i) × (i ≤ high)) → (b : Bool) → option_map (λ x. x.id) (cond b (Some r) (find (has_key k) rs)) ≡ Some i → (low < i) × (i ≤ high)
    go ih true e = let same : r.id ≡ i = cc in (omega (arith, same, h.0), omega (arith, same, h.1.0))
    go ih false e = let x = ih e in (omega (arith, h.0, x.0), x.1)

-- ids kept by two keys of which none has both are not the same
found_apart : (low high : ℕ) (rs : List KeptId) (j k : Key) (a b : ℕ) → AreRising low high rs → ((r : KeptId) → has_key j r ≡ true → has_key k r ≡ false) → kept_id rs j ≡ Some a → kept_id rs k ≡ Some b → a ≢ b
found_apart low high [] j k a b h apart ea eb = λ e. cc
found_apart low high (r ∷ rs) j k a b h apart ea eb = go (found_apart r.id high rs j k a b h.1.1 apart) (has_key j r) (has_key k r) refl refl ea eb
  where
    go : (kept_id rs j ≡ Some a → kept_id rs k ≡ Some b → a ≢ b) → (u v : Bool) → has_key j r ≡ u → has_key k r ≡ v → option_map (λ x. x.id) (cond u (Some r) (find (has_key j) rs)) ≡ Some a → option_map (λ x. x.id) (cond v (Some r) (find (has_key k) rs)) ≡ Some b → a ≢ b
    go ih true true hu hv ea eb = let f : has_key k r ≡ false = apart r hu in cc
    go ih true false hu hv ea eb = let same : r.id ≡ a = cc in let x = found_between r.id high rs k b h.1.1 eb in λ e. omega (arith, same, x.0, e)
    go ih false true hu hv ea eb = let same : r.id ≡ b = cc in let x = found_between r.id high rs j a h.1.1 ea in λ e. omega (arith, same, x.0, e)
    go ih false false hu hv ea eb = ih ea eb

-- no kept id has the keys of two places
places_apart : (k : Key) (p q : ℕ) → p < q → (r : KeptId) → has_key (record k { place = p }) r ≡ true → has_key (record k { place = q }) r ≡ false
places_apart k p q lt r h = go (same_type r.key.ty k.ty) (are_same r.key.owner k.owner) (bytes_eq r.key.payload k.payload) h
  where
    at_place : (w : Bool) → ((r.key.place == p) && w) ≡ true → r.key.place ≡ p
    at_place w h = eqb-true r.key.place p (first_true (r.key.place == p) w h)

    other : r.key.place ≡ p → (w : Bool) → ((r.key.place == q) && w) ≡ false
    other e w = ap (λ b. b && w) (differ (r.key.place) q (λ f. omega (arith, e, f, lt)))

    go : (t o w : Bool) → (t && (o && ((r.key.place == p) && w))) ≡ true → (t && (o && ((r.key.place == q) && w))) ≡ false
    go true true w h = other (at_place w h) w
    go true false w h = refl
    go false o w h = refl

-- an id kept by another key adds nothing for this one
not_added : (rs : List KeptId) (k : Key) (r : KeptId) → has_key k r ≡ false → kept_id (rs ++ r ∷ []) k ≡ kept_id rs k
not_added [] k r h = ap (λ b. option_map (λ x. x.id) (if b then Some r else None)) h
not_added (x ∷ rs) k r h = go (not_added rs k r h) (has_key k x)
  where
    go : kept_id (rs ++ r ∷ []) k ≡ kept_id rs k → (b : Bool) → option_map (λ y. y.id) (cond b (Some x) (find (has_key k) (rs ++ r ∷ []))) ≡ option_map (λ y. y.id) (cond b (Some x) (find (has_key k) rs))
    go ih true = refl
    go ih false = ih

-- an id kept for a place from this one on
record KeptAt (kept : List KeptId) (k : Option Key) (from x : ℕ) : Type 0 where
  place : ℕ
  since : from ≤ place
  is : kept_for kept (at_key k place) ≡ Some x

-- it holds of each number
abbrev pub AllOfThem : (ℕ → Type 0) → List ℕ → Type 0
AllOfThem p [] = Unit {0}
AllOfThem p (x ∷ xs) = p x × AllOfThem p xs

all_of_them : (p q : ℕ → Type 0) → ((x : ℕ) → p x → q x) → (xs : List ℕ) → AllOfThem p xs → AllOfThem q xs
all_of_them p q f [] h = tt
all_of_them p q f (x ∷ xs) h = (f x h.0, all_of_them p q f xs h.1)

-- a result is lost, or new, or an id kept for its place
abbrev Source : IdMap ℕ → Option Key → ℕ → ℕ → Type 0
Source m k from x = (x ≡ 0) ⊎ ((greatest_id m.entries < x) ⊎ KeptAt m.kept k from x)

-- what is kept for a later place was kept before a new id was
kept_before : (m : IdMap ℕ) (k : Option Key) (place q id x : ℕ) → place < q → kept_for (keep_new (at_key k place) id m.kept) (at_key k q) ≡ Some x → kept_for m.kept (at_key k q) ≡ Some x
kept_before m None place q id x lt h = h
kept_before m (Some k) place q id x lt h = sym (not_added m.kept (record k { place = q }) (record { key = record k { place = place }; id = id }) (differs (same_type k.ty k.ty) (are_same k.owner k.owner))) ∙ h
  where
    apart_at : (place == q) ≡ false
    apart_at = differ place q (λ e. omega (arith, e, lt))

    differs : (t o : Bool) → (t && (o && ((place == q) && bytes_eq k.payload k.payload))) ≡ false
    differs true true = ap (λ b. b && bytes_eq k.payload k.payload) apart_at
    differs true false = refl
    differs false o = refl

-- where the results after one come from, seen from before it
back : (m : IdMap ℕ) (k : Option Key) (t : ObjectType) (place v : ℕ) (o : Option ℕ) → (x : ℕ) → Source (issue_where o m (at_key k place) t v).ids k (place + 1) x → Source m k place x
back m k t place v None x (inl e) = inl e
back m k t place v None x (inr (inl g)) = let w = grows m.entries t (next_id m.entries) v in inr (inl (omega (arith, g, w.0)))
back m k t place v None x (inr (inr a)) = inr (inr (record { place = a.place; since = omega (arith, a.since); is = kept_before m k place a.place (next_id m.entries) x (omega (arith, a.since)) a.is }))
back m k t place v (Some id) x (inl e) = inl e
back m k t place v (Some id) x (inr (inl g)) = let w = grows m.entries t id v in inr (inl (omega (arith, g, w.0)))
back m k t place v (Some id) x (inr (inr a)) = inr (inr (record { place = a.place; since = omega (arith, a.since); is = a.is }))

sources : (m : IdMap ℕ) (k : Option Key) (t : ObjectType) (place : ℕ) (vs : List (Option ℕ)) → AllOfThem (Source m k place) (issue_all m k t place vs).results
sources m k t place [] = tt
sources m k t place (None ∷ vs) = (inl refl, all_of_them (Source m k (place + 1)) (Source m k place) later (issue_all m k t (place + 1) vs).results (sources m k t (place + 1) vs))
  where
    later : (x : ℕ) → Source m k (place + 1) x → Source m k place x
    later x (inl e) = inl e
    later x (inr (inl g)) = inr (inl g)
    later x (inr (inr a)) = inr (inr (record { place = a.place; since = omega (arith, a.since); is = a.is }))
sources m k t place (Some v ∷ vs) = go (λ o. sources (issue_where o m (at_key k place) t v).ids k t (place + 1) vs) (kept_for m.kept (at_key k place)) refl
  where
    head : (o : Option ℕ) → kept_for m.kept (at_key k place) ≡ o → Source m k place (issue_where o m (at_key k place) t v).id
    head None e = inr (inl (omega arith))
    head (Some id) e = inr (inr (record { place = place; since = omega arith; is = e }))

    go : ((o : Option ℕ) → AllOfThem (Source (issue_where o m (at_key k place) t v).ids k (place + 1)) (issue_all (issue_where o m (at_key k place) t v).ids k t (place + 1) vs).results) → (o : Option ℕ) → kept_for m.kept (at_key k place) ≡ o → Source m k place (issue_where o m (at_key k place) t v).id × AllOfThem (Source m k place) (issue_all (issue_where o m (at_key k place) t v).ids k t (place + 1) vs).results
    go ih o e = (head o e, all_of_them (Source (issue_where o m (at_key k place) t v).ids k (place + 1)) (Source m k place) (back m k t place v o) (issue_all (issue_where o m (at_key k place) t v).ids k t (place + 1) vs).results (ih o))

-- no two numbers are the same but 0
abbrev pub AreApart : List ℕ → Type 0
AreApart [] = Unit {0}
AreApart (x ∷ xs) = AllOfThem (λ y. (y ≡ 0) ⊎ (x ≢ y)) xs × AreApart xs

raised : (low high top : ℕ) (rs : List KeptId) → high ≤ top → AreRising low high rs → AreRising low top rs
raised low high top [] le h = tt
raised low high top (r ∷ rs) le h = (h.0, (omega (arith, le, h.1.0), raised r.id high top rs le h.1.1))

one_higher : (low high top : ℕ) (rs : List KeptId) (r : KeptId) → low ≤ high → high < r.id → r.id ≤ top → AreRising low high rs → AreRising low top (rs ++ r ∷ [])
one_higher low high top [] r l1 l2 l3 h = (omega (arith, l1, l2), (l3, tt))
one_higher low high top (x ∷ xs) r l1 l2 l3 h = (h.0, (omega (arith, h.1.0, l2, l3), one_higher x.id high top xs r h.1.0 l2 l3 h.1.1))

-- what is kept goes on rising
rises : (m : IdMap ℕ) (k : Option Key) (t : ObjectType) (v : ℕ) (o : Option ℕ) → AreRising 0 (greatest_id m.entries) m.kept → AreRising 0 (greatest_id (issue_where o m k t v).ids.entries) (issue_where o m k t v).ids.kept
rises m k t v (Some id) h = let w = grows m.entries t id v in raised 0 (greatest_id m.entries) (greatest_id (with_values m.entries t id v)) m.kept w.0 h
rises m None t v None h = let w = grows m.entries t (next_id m.entries) v in raised 0 (greatest_id m.entries) (greatest_id (with_values m.entries t (next_id m.entries) v)) m.kept w.0 h
rises m (Some k) t v None h = let w = grows m.entries t (next_id m.entries) v in one_higher 0 (greatest_id m.entries) (greatest_id (with_values m.entries t (next_id m.entries) v)) m.kept (record { key = k; id = next_id m.entries }) (omega arith) (omega arith) w.1 h

pub rises_all : (m : IdMap ℕ) (k : Option Key) (t : ObjectType) (place : ℕ) (vs : List (Option ℕ)) → AreRising 0 (greatest_id m.entries) m.kept → AreRising 0 (greatest_id (issue_all m k t place vs).ids.entries) (issue_all m k t place vs).ids.kept
rises_all m k t place [] h = h
rises_all m k t place (None ∷ vs) h = rises_all m k t (place + 1) vs h
rises_all m k t place (Some v ∷ vs) h = rises_all (issue m (at_key k place) t v).ids k t (place + 1) vs (rises m (at_key k place) t v (kept_for m.kept (at_key k place)) h)

zero_apart : (xs : List ℕ) → AllOfThem (λ y. (y ≡ 0) ⊎ (0 ≢ y)) xs
zero_apart [] = tt
zero_apart (zero ∷ xs) = (inl refl, zero_apart xs)
zero_apart (suc x ∷ xs) = (inr (λ e. cc), zero_apart xs)

-- the results of a call are apart
pub apart : (m : IdMap ℕ) (k : Option Key) (t : ObjectType) (place : ℕ) (vs : List (Option ℕ)) → AreRising 0 (greatest_id m.entries) m.kept → AreApart (issue_all m k t place vs).results
apart m k t place [] h = tt
apart m k t place (None ∷ vs) h = (zero_apart (issue_all m k t (place + 1) vs).results, apart m k t (place + 1) vs h)
apart m k t place (Some v ∷ vs) h = go (λ o. apart (issue_where o m (at_key k place) t v).ids k t (place + 1) vs (rises m (at_key k place) t v o h)) (kept_for m.kept (at_key k place)) refl
  where
    key_apart : (j : Option Key) (q id x : ℕ) → place < q → kept_for m.kept (at_key j place) ≡ Some id → kept_for m.kept (at_key j q) ≡ Some x → id ≢ x
    key_apart None q id x lt e f = cc
    key_apart (Some j) q id x lt e f = found_apart 0 (greatest_id m.entries) m.kept (record j { place = place }) (record j { place = q }) id x h (places_apart j place q lt) e f

    between : (j : Option Key) (q x : ℕ) → kept_for m.kept (at_key j q) ≡ Some x → x ≤ greatest_id m.entries
    between None q x f = cc
    between (Some j) q x f = (found_between 0 (greatest_id m.entries) m.kept (record j { place = q }) x h f).1

    differs : (o : Option ℕ) → kept_for m.kept (at_key k place) ≡ o → (y : ℕ) → Source (issue_where o m (at_key k place) t v).ids k (place + 1) y → (y ≡ 0) ⊎ ((issue_where o m (at_key k place) t v).id ≢ y)
    differs o e y (inl z) = inl z
    differs None e y (inr (inl g)) = let w = grows m.entries t (next_id m.entries) v in inr (λ s. omega (arith, g, w.1, s))
    differs None e y (inr (inr a)) = let b : y ≤ greatest_id m.entries = between k a.place y (kept_before m k place a.place (next_id m.entries) y (omega (arith, a.since)) a.is) in inr (λ s. omega (arith, b, s))
    differs (Some id) e y (inr (inl g)) = let w = grows m.entries t id v in inr (λ s. omega (arith, g, w.1, s))
    differs (Some id) e y (inr (inr a)) = inr (key_apart k a.place id y (omega (arith, a.since)) e a.is)

    go : ((o : Option ℕ) → AreApart (issue_all (issue_where o m (at_key k place) t v).ids k t (place + 1) vs).results) → (o : Option ℕ) → kept_for m.kept (at_key k place) ≡ o → AllOfThem (λ y. (y ≡ 0) ⊎ ((issue_where o m (at_key k place) t v).id ≢ y)) (issue_all (issue_where o m (at_key k place) t v).ids k t (place + 1) vs).results
        × AreApart (issue_all (issue_where o m (at_key k place) t v).ids k t (place + 1) vs).results
    go ih o e = (all_of_them (Source (issue_where o m (at_key k place) t v).ids k (place + 1)) (λ y. (y ≡ 0) ⊎ ((issue_where o m (at_key k place) t v).id ≢ y)) (differs o e) (issue_all (issue_where o m (at_key k place) t v).ids k t (place + 1) vs).results (sources (issue_where o m (at_key k place) t v).ids k t (place + 1) vs), ih o)
