-- Entries that are found by their objects' places.
use Rattle.std.proofs.Common.{◌≡◌, ◌≢◌, ◌<◌, ◌≤◌, ◌+◌, ◌-◌, ◌==◌, ◌&&◌, ◌⊎◌, inl, inr, ℕ, zero, suc, Bool, true, false, cond, Option, Some, None, List, [], ◌∷◌, ◌++◌, length, get_or, refl, sym, ◌∙◌, ap, subst, arith, slice_get, swap_remove}
use Rattle.std.specs.Prelude.{unwrap_or, ◌||◌}
use Rattle.std.specs.List.{find, list_any}
use Rattle.std.specs.Option.{option_map_or}
use Rattle.std.proofs.lemmas.Bool.{eqb-true, eq-eqb}
use Rattle.std.proofs.lemmas.Grind.{common_steps}
use Rattle.std.proofs.lemmas.Option.{slice_get_within, slice_get-get_or, slice_get_read, get_or_from_slice_get}
use Rattle.object_model.specs.declared.Object.{Object}
use Rattle.object_model.specs.Objects.{same}
use Rattle.session_tables.specs.declared.placed_table.Placed.{Placed}
use Rattle.session_tables.specs.Placed.{AreTheirPlaces, entry_of}
use Rattle.session_tables.proofs.Objects.{same-true, same_self}

pub some_is : {X : Type 0} (a b : X) → Some a ≡ Some b → a ≡ b
some_is {X = X} a b e = ap (λ (o : Option X). unwrap_or o a) e

-- what is found stands somewhere and passes
pub found_some : {X : Type 0} (t : X → Bool) (xs : List X) (x : X) → find t xs ≡ Some x → (i : ℕ) × (slice_get xs i ≡ Some x) × (t x ≡ true)
found_some t [] x e = cc e
found_some {X = X} t (y ∷ ys) x e = go (found_some t ys x) (t y) refl e
  where
    go : (find t ys ≡ Some x → (i : ℕ) × (slice_get ys i ≡ Some x) × (t x ≡ true)) → (b : Bool) → t y ≡ b → cond b (Some y) (find t ys) ≡ Some x
        → (i : ℕ) × (slice_get (y ∷ ys) i ≡ Some x) × (t x ≡ true)
    go rest true h k = (zero, k, ap t (sym (some_is y x k)) ∙ h)
    go rest false h k = let r = rest k in (suc r.0, r.1, r.2)

-- where one passes, one is found
pub found_at : {X : Type 0} (t : X → Bool) (xs : List X) (i : ℕ) (x : X) → slice_get xs i ≡ Some x → t x ≡ true → (y : X) × (find t xs ≡ Some y)
found_at t [] i x here is = cc here
found_at t (y ∷ ys) zero x here is = (y, ap (λ b. cond b (Some y) (find t ys)) (ap t (some_is y x here) ∙ is))
found_at {X = X} t (y ∷ ys) (suc i) x here is = go (t y) (found_at t ys i x here is)
  where
    go : (b : Bool) → (z : X) × (find t ys ≡ Some z) → (z : X) × (cond b (Some y) (find t ys) ≡ Some z)
    go true r = (y, refl)
    go false r = r

-- the same of a test alone
any_some : {X : Type 0} (t : X → Bool) (xs : List X) → list_any t xs ≡ true → (i : ℕ) × (x : X) × (slice_get xs i ≡ Some x) × (t x ≡ true)
any_some t [] e = cc e
any_some {X = X} t (y ∷ ys) e = go (any_some t ys) (t y) refl e
  where
    go : (list_any t ys ≡ true → (i : ℕ) × (x : X) × (slice_get ys i ≡ Some x) × (t x ≡ true)) → (b : Bool) → t y ≡ b → b || list_any t ys ≡ true
        → (i : ℕ) × (x : X) × (slice_get (y ∷ ys) i ≡ Some x) × (t x ≡ true)
    go rest true h k = (zero, y, refl, h)
    go rest false h k = let r = rest k in (suc r.0, r.1, r.2, r.3)

any_at : {X : Type 0} (t : X → Bool) (xs : List X) (i : ℕ) (x : X) → slice_get xs i ≡ Some x → t x ≡ true → list_any t xs ≡ true
any_at t [] i x here is = cc here
any_at t (y ∷ ys) zero x here is = ap (λ b. b || list_any t ys) (ap t (some_is y x here) ∙ is)
any_at t (y ∷ ys) (suc i) x here is = ap (λ b. t y || b) (any_at t ys i x here is) ∙ or_true (t y)
  where
    or_true : (b : Bool) → (b || true) ≡ true
    or_true true = refl
    or_true false = refl

-- one more at the end
got_more : {X : Type 0} (xs : List X) (e : X) (j : ℕ) (q : X) → slice_get (xs ++ e ∷ []) j ≡ Some q → (slice_get xs j ≡ Some q) ⊎ ((j ≡ length xs) × (q ≡ e))
got_more [] e zero q at = inr (refl, sym (some_is e q at))
got_more [] e (suc j) q at = cc at
got_more (x ∷ xs) e zero q at = inl at
got_more {X = X} (x ∷ xs) e (suc j) q at = go (got_more xs e j q at)
  where
    go : (slice_get xs j ≡ Some q) ⊎ ((j ≡ length xs) × (q ≡ e)) → (slice_get xs j ≡ Some q) ⊎ ((suc j ≡ length (x ∷ xs)) × (q ≡ e))
    go (inl h) = inl h
    go (inr h) = inr (omega (arith, h.0), h.1)

and_true : (a b : Bool) → (a && b) ≡ true → (a ≡ true) × (b ≡ true)
and_true true b e = (refl, e)
and_true false b e = cc e

module _ {X : Type 0} (places : Object → Option ℕ) (entries : List (Placed X)) (placed : AreTheirPlaces places entries) where
  -- an object has one entry
  pub alone : (i j : ℕ) (p q : Placed X) → slice_get entries i ≡ Some p → slice_get entries j ≡ Some q → p.object ≡ q.object → (i ≡ j) × (p ≡ q)
  alone i j p q here there is =
      let at : i ≡ j = some_is i j (sym (placed i p here) ∙ (ap places is ∙ placed j q there)) in
      (at, some_is p q (sym here ∙ (ap (slice_get entries) at ∙ there)))

  pub entry_at : (o : Object) (i : ℕ) (p : Placed X) → slice_get entries i ≡ Some p → same p.object o ≡ true → entry_of entries o ≡ Some p
  entry_at o i p here is =
      let f = found_at (λ (q : Placed X). same q.object o) entries i p here is in
      let g = found_some (λ (q : Placed X). same q.object o) entries f.0 f.1 in
      let one : f.0.object ≡ p.object = same-true f.0.object o g.2 ∙ sym (same-true p.object o is) in
      f.1 ∙ ap (λ (q : Placed X). Some q) (alone g.0 i f.0 p g.1 here one).1

  pub no_entry : (o : Object) → ((i : ℕ) (p : Placed X) → slice_get entries i ≡ Some p → same p.object o ≡ true → ⊥) → entry_of entries o ≡ None
  no_entry o never = go (entry_of entries o) refl
    where
      go : (e : Option (Placed X)) → entry_of entries o ≡ e → e ≡ None
      go None is = refl
      go (Some p) is = let f = found_some (λ (q : Placed X). same q.object o) entries p is in absurd (never f.0 p f.1 f.2)

  -- what stands in an object's place is its entry, where it has its object
  pub placed_here : (o : Object) (at : ℕ) (xs : List (Placed X)) (b : Bool) → xs ≡ entries → b ≡ option_map_or (λ (p : Placed X). same p.object o) (slice_get xs at) false → b ≡ true
      → (slice_get entries at ≡ entry_of entries o) × (at < length entries)
  placed_here o at xs b one is so = go (slice_get entries at) refl (ap (λ (ys : List (Placed X)). option_map_or (λ (p : Placed X). same p.object o) (slice_get ys at) false) (sym one) ∙ (sym is ∙ so))
    where
      go : (e : Option (Placed X)) → slice_get entries at ≡ e → option_map_or (λ (p : Placed X). same p.object o) e false ≡ true → (e ≡ entry_of entries o) × (at < length entries)
      go None here h = cc h
      go (Some p) here h = (sym (entry_at o at p here h), slice_get_within entries at p here)

  -- and else it has none
  pub placed_other : (o : Object) (at : ℕ) (xs : List (Placed X)) (b : Bool) → Some at ≡ places o → xs ≡ entries → b ≡ option_map_or (λ (p : Placed X). same p.object o) (slice_get xs at) false → b ≡ false → None ≡ entry_of entries o
  placed_other o at xs b place one is not_so = sym (no_entry o (λ i p here mine.
      let found : places o ≡ Some i = ap places (sym (same-true p.object o mine)) ∙ placed i p here in
      let there : slice_get entries at ≡ Some p = ap (slice_get entries) (some_is at i (place ∙ found)) ∙ here in
      let so : same p.object o ≡ b = ap (λ e. option_map_or (λ (q : Placed X). same q.object o) e false) (sym there) ∙ (ap (λ (ys : List (Placed X)). option_map_or (λ (q : Placed X). same q.object o) (slice_get ys at) false) (sym one) ∙ sym is) in cc))

  pub placed_never : (o : Object) → places o ≡ None → None ≡ entry_of entries o
  placed_never o none = sym (no_entry o (λ i p here mine. let found : places o ≡ Some i = ap places (sym (same-true p.object o mine)) ∙ placed i p here in cc))

  -- with a place for an object that has no entry
  pub placed_still : (after : Object → Option ℕ) (o : Object) (n : ℕ) → entry_of entries o ≡ None → ((x : Object) → after x ≡ cond (same o x) (Some n) (places x)) → AreTheirPlaces after entries
  placed_still after o n none put j q at = put q.object ∙ go (same o q.object) refl
    where
      go : (t : Bool) → same o q.object ≡ t → cond t (Some n) (places q.object) ≡ Some j
      go true h =
          let one : o ≡ q.object = same-true o q.object h in
          let so : entry_of entries o ≡ Some q = entry_at o j q at (ap (same q.object) one ∙ same_self q.object) in cc
      go false h = placed j q at

  -- and with its entry
  pub placed_more : (after : Object → Option ℕ) (e : Placed X) (n : ℕ) → entry_of entries e.object ≡ None → n ≡ length entries → ((x : Object) → after x ≡ cond (same e.object x) (Some n) (places x)) → AreTheirPlaces after (entries ++ e ∷ [])
  placed_more after e n none is put j q at = go (got_more entries e j q at)
    where
      go : (slice_get entries j ≡ Some q) ⊎ ((j ≡ length entries) × (q ≡ e)) → after q.object ≡ Some j
      go (inl here) = placed_still after e.object n none put j q here
      go (inr h) = put q.object ∙ (ap (λ t. cond t (Some n) (places q.object)) (ap (λ (p : Placed X). same p.object q.object) (sym h.1) ∙ same_self q.object) ∙ ap (λ (m : ℕ). Some m) (is ∙ sym h.0))

  -- what has no entry loses none
  pub left_none : (o : Object) → entry_of entries o ≡ None → (x : Object) → entry_of entries x ≡ cond (same o x) None (entry_of entries x)
  left_none o none x = go (same o x) refl
    where
      go : (t : Bool) → same o x ≡ t → entry_of entries x ≡ cond t None (entry_of entries x)
      go true h = ap (entry_of entries) (sym (same-true o x h)) ∙ none
      go false h = refl

  -- what one entry of an object says, its only one does
  pub said_alone : (o : Object) (t : Placed X → Bool) → list_any (λ (p : Placed X). same p.object o && t p) entries ≡ option_map_or t (entry_of entries o) false
  said_alone o t = go (list_any (λ (p : Placed X). same p.object o && t p) entries) refl (entry_of entries o) refl
    where
      go : (b : Bool) → list_any (λ (p : Placed X). same p.object o && t p) entries ≡ b → (e : Option (Placed X)) → entry_of entries o ≡ e → b ≡ option_map_or t e false
      go true is e at =
          let f = any_some (λ (p : Placed X). same p.object o && t p) entries is in
          let g = and_true (same f.1.object o) (t f.1) f.3 in
          sym (ap (λ (x : Option (Placed X)). option_map_or t x false) (sym at ∙ entry_at o f.0 f.1 f.2 g.0) ∙ g.1)
      go false is None at = refl
      go false is (Some p) at = by (t p) refl
        where
          by : (b : Bool) → t p ≡ b → false ≡ b
          by false h = refl
          by true h =
              let f = found_some (λ (q : Placed X). same q.object o) entries p at in
              let so : list_any (λ (q : Placed X). same q.object o && t q) entries ≡ true =
              any_at (λ (q : Placed X). same q.object o && t q) entries f.0 p f.1 (ap (λ b. b && t p) f.2 ∙ h) in cc

-- where the places stay
pub placed_same : {X : Type 0} (places after : Object → Option ℕ) (xs ys : List (Placed X)) → AreTheirPlaces places xs → ys ≡ xs → ((o : Object) → after o ≡ places o) → AreTheirPlaces after ys
placed_same {X = X} places after xs ys placed one same i p at = same p.object ∙ placed i p (ap (λ (zs : List (Placed X)). slice_get zs i) (sym one) ∙ at)

-- where there is no entry
pub placed_none : {X : Type 0} (places : Object → Option ℕ) (xs : List (Placed X)) → xs ≡ [] → AreTheirPlaces places xs
placed_none {X = X} places xs none i p at = let no : None ≡ Some p = ap (λ (zs : List (Placed X)). slice_get zs i) (sym none) ∙ at in cc no

-- ---- one taken out, and the last in its place

module _ {X : Type 0} (xs ys : List X) (i : ℕ) (less : i < length xs) (len : length ys + 1 ≡ length xs) (moved : (d : X) → i + 1 < length xs → get_or ys i d ≡ get_or xs (length xs - 1) d)
    (others : (k : ℕ) (d : X) → k ≢ i → k + 1 < length xs → get_or ys k d ≡ get_or xs k d) where
  -- what stands there then stood there before, or was the last
  pub swapped_from : (j : ℕ) (q : X) → slice_get ys j ≡ Some q → (k : ℕ) × (slice_get xs k ≡ Some q) × (k ≢ i) × (((j ≡ i) × (k + 1 ≡ length xs)) ⊎ (j ≡ k))
  swapped_from j q here = go (j == i) refl
    where
      inside : j < length ys
      inside = slice_get_within ys j q here

      go : (b : Bool) → (j == i) ≡ b → (k : ℕ) × (slice_get xs k ≡ Some q) × (k ≢ i) × (((j ≡ i) × (k + 1 ≡ length xs)) ⊎ (j ≡ k))
      go true e =
          let is : j ≡ i = eqb-true j i e in
          let last : length xs - 1 < length xs = omega (arith, len, inside) in
          let at : get_or xs (length xs - 1) q ≡ q = sym (moved q (omega (arith, len, inside, is))) ∙ (ap (λ n. get_or ys n q) (sym is) ∙ get_or_from_slice_get ys j q q here) in
          (length xs - 1, slice_get-get_or xs (length xs - 1) q last ∙ ap (λ (x : X). Some x) at, (λ f. omega (arith, len, inside, is, f)), inl (is, omega (arith, len, inside)))
      go false e =
          let apart : j ≢ i = (λ f. let so : (j == i) ≡ true = eq-eqb j i f in cc) in
          let within : j < length xs = omega (arith, len, inside) in
          let at : get_or xs j q ≡ q = sym (others j q apart (omega (arith, len, inside))) ∙ get_or_from_slice_get ys j q q here in
          (j, slice_get-get_or xs j q within ∙ ap (λ (x : X). Some x) at, apart, inr refl)

  -- and each of the others stands somewhere then
  pub swapped_to : (k : ℕ) (q : X) → slice_get xs k ≡ Some q → k ≢ i → (j : ℕ) × (slice_get ys j ≡ Some q)
  swapped_to k q here apart = go (k + 1 == length xs) refl
    where
      inside : k < length xs
      inside = slice_get_within xs k q here

      go : (b : Bool) → (k + 1 == length xs) ≡ b → (j : ℕ) × (slice_get ys j ≡ Some q)
      go true e =
          let is : k + 1 ≡ length xs = eqb-true (k + 1) (length xs) e in
          let last : length xs - 1 ≡ k = omega (arith, is) in
          let room : i + 1 < length xs = omega (arith, is, less, apart) in
          let at : get_or ys i q ≡ q = moved q room ∙ (ap (λ n. get_or xs n q) last ∙ get_or_from_slice_get xs k q q here) in
          (i, slice_get-get_or ys i q (omega (arith, len, room)) ∙ ap (λ (x : X). Some x) at)
      go false e =
          let more : k + 1 ≢ length xs = (λ f. let so : (k + 1 == length xs) ≡ true = eq-eqb (k + 1) (length xs) f in cc) in
          let room : k + 1 < length xs = omega (arith, inside, more) in
          let at : get_or ys k q ≡ q = others k q apart room ∙ get_or_from_slice_get xs k q q here in
          (k, slice_get-get_or ys k q (omega (arith, len, room)) ∙ ap (λ (x : X). Some x) at)

-- so it is with `swap_remove`
swapped_len : {X : Type 0} (xs ys : List X) (i : ℕ) (d : X) → i < length xs → ys ≡ swap_remove xs i d → length ys + 1 ≡ length xs
swapped_len xs ys i d less is = grind (arith, common_steps)

swapped_moved : {X : Type 0} (xs ys : List X) (i : ℕ) (d : X) → i < length xs → ys ≡ swap_remove xs i d → (e : X) → i + 1 < length xs → get_or ys i e ≡ get_or xs (length xs - 1) e
swapped_moved xs ys i d less is e room = grind (arith, common_steps)

swapped_others : {X : Type 0} (xs ys : List X) (i : ℕ) (d : X) → i < length xs → ys ≡ swap_remove xs i d → (k : ℕ) (e : X) → k ≢ i → k + 1 < length xs → get_or ys k e ≡ get_or xs k e
swapped_others xs ys i d less is k e apart room = grind (arith, common_steps)

-- the entries without that of an object
module _ {X : Type 0} (places after : Object → Option ℕ) (xs ys : List (Placed X)) (o : Object) (i : ℕ) (p : Placed X) (placed : AreTheirPlaces places xs) (here : slice_get xs i ≡ Some p) (is : same p.object o ≡ true)
    (len : length ys + 1 ≡ length xs) (moved : (d : Placed X) → i + 1 < length xs → get_or ys i d ≡ get_or xs (length xs - 1) d)
    (others : (k : ℕ) (d : Placed X) → k ≢ i → k + 1 < length xs → get_or ys k d ≡ get_or xs k d)
    (put : (q : Placed X) → slice_get ys i ≡ Some q → (x : Object) → after x ≡ cond (same q.object x) (Some i) (places x)) (stay : length ys ≤ i → (x : Object) → after x ≡ places x) where
  less : i < length xs
  less = slice_get_within xs i p here

  pub placed_left : AreTheirPlaces after ys
  placed_left j q at =
      let f = swapped_from xs ys i less len moved others j q at in
      by f.0 f.1 f.2 f.3 (i == length ys) refl
    where
      by : (k : ℕ) → slice_get xs k ≡ Some q → k ≢ i → ((j ≡ i) × (k + 1 ≡ length xs)) ⊎ (j ≡ k) → (b : Bool) → (i == length ys) ≡ b → after q.object ≡ Some j
      by k was apart (inl e) b h =
          put q (ap (slice_get ys) (sym e.0) ∙ at) q.object ∙ (ap (λ t. cond t (Some i) (places q.object)) (same_self q.object) ∙ ap (λ (n : ℕ). Some n) (sym e.0))
      by k was apart (inr e) true h = stay (let at_end : i ≡ length ys = eqb-true i (length ys) h in omega (arith, at_end)) q.object ∙ (placed k q was ∙ ap (λ (n : ℕ). Some n) (sym e))
      by k was apart (inr e) false h =
          let no_end : i ≢ length ys = (λ f. let so : (i == length ys) ≡ true = eq-eqb i (length ys) f in cc) in
          let room : i < length ys = omega (arith, less, len, no_end) in
          let d = get_or ys i q in
          let there : slice_get ys i ≡ Some d = slice_get-get_or ys i q room in
          put d there q.object ∙ go d there (same d.object q.object) refl
        where
          go : (d : Placed X) → slice_get ys i ≡ Some d → (t : Bool) → same d.object q.object ≡ t → cond t (Some i) (places q.object) ≡ Some j
          go d there false g = placed k q was ∙ ap (λ (n : ℕ). Some n) (sym e)
          go d there true g =
              let r = swapped_from xs ys i less len moved others i d there in
              let one = (alone places xs placed r.0 k d q r.1 was (same-true d.object q.object g)).0 in
              let inside : j < length ys = slice_get_within ys j q at in
              absurd (last r.0 r.2 r.3 one inside)
            where
              last : (n : ℕ) → n ≢ i → ((i ≡ i) × (n + 1 ≡ length xs)) ⊎ (i ≡ n) → n ≡ k → j < length ys → ⊥
              last n far (inl f) one inside = omega (arith, len, f.1, one, inside, e)
              last n far (inr f) one inside = far (sym f)

  pub entry_left : (x : Object) → entry_of ys x ≡ cond (same o x) None (entry_of xs x)
  entry_left x = go (same o x) refl (entry_of xs x) refl
    where
      was : (j : ℕ) (q : Placed X) → slice_get ys j ≡ Some q → (k : ℕ) × (slice_get xs k ≡ Some q) × (k ≢ i)
      was j q at = let f = swapped_from xs ys i less len moved others j q at in (f.0, f.1, f.2)

      go : (t : Bool) → same o x ≡ t → (e : Option (Placed X)) → entry_of xs x ≡ e → entry_of ys x ≡ cond t None e
      go true h e at = no_entry after ys placed_left x (λ j q there mine.
          let f = was j q there in
          let one : q.object ≡ p.object = same-true q.object x mine ∙ (sym (same-true o x h) ∙ sym (same-true p.object o is)) in
          f.2 (alone places xs placed f.0 i q p f.1 here one).0)
      go false h None at = no_entry after ys placed_left x (λ j q there mine.
          let f = was j q there in
          let so : entry_of xs x ≡ Some q = entry_at places xs placed x f.0 q f.1 mine in cc)
      go false h (Some q) at =
          let f = found_some (λ (r : Placed X). same r.object x) xs q at in
          let far : f.0 ≢ i = (λ g.
          let one : q ≡ p = some_is q p (sym f.1 ∙ (ap (slice_get xs) g ∙ here)) in
          let so : same o x ≡ true = ap (λ y. same y x) (sym (same-true p.object o is)) ∙ (ap (λ (r : Placed X). same r.object x) (sym one) ∙ f.2) in cc) in
          let to = swapped_to xs ys i less len moved others f.0 q f.1 far in
          entry_at after ys placed_left x to.0 q to.1 f.2

-- what is taken out is the object's value, and it alone is taken out
pub taken_out : {X : Type 0} (places after : Object → Option ℕ) (xs ys zs : List (Placed X)) (o : Object) (i : ℕ) (p : Placed X) → AreTheirPlaces places xs → slice_get xs i ≡ entry_of xs o → i < length xs → p ≡ get_or xs i p
    → ys ≡ swap_remove xs i p → zs ≡ ys → ((q : Placed X) → slice_get zs i ≡ Some q → (x : Object) → after x ≡ cond (same q.object x) (Some i) (places x)) → (length zs ≤ i → (x : Object) → after x ≡ places x)
    → AreTheirPlaces after ys × ((x : Object) → entry_of ys x ≡ cond (same o x) None (entry_of xs x)) × (entry_of xs o ≡ Some p)
taken_out {X = X} places after xs ys zs o i p placed at less is swapped one put stay =
    let here : slice_get xs i ≡ Some p = slice_get_read xs (length xs) i p refl less is in
    let mine : entry_of xs o ≡ Some p = sym at ∙ here in
    let passes : same p.object o ≡ true = (found_some (λ (q : Placed X). same q.object o) xs p mine).2 in
    let len = swapped_len xs ys i p less swapped in
    let moved = swapped_moved xs ys i p less swapped in
    let others = swapped_others xs ys i p less swapped in
    let put2 = λ (q : Placed X) (h : slice_get ys i ≡ Some q). put q (ap (λ (us : List (Placed X)). slice_get us i) one ∙ h) in
    let stay2 = λ (h : length ys ≤ i). stay (subst (λ (us : List (Placed X)). length us ≤ i) (sym one) h) in (
      placed_left places after xs ys o i p placed here passes len moved others put2 stay2,
      entry_left places after xs ys o i p placed here passes len moved others put2 stay2,
      mine,
    )
