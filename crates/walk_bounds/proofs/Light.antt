-- Open calls of few threads with few uses each.
use Rattle.std.proofs.Common.{◌≡◌, ◌≤◌, ◌*◌, ℕ, suc, Bool, true, false, cond, ◌||◌, ◌==◌, Option, Some, None, List, [], ◌∷◌, ◌++◌, length, refl, sym, ap, ◌∙◌, arith}
use Rattle.std.specs.Prelude.{filter, find}
use Rattle.std.specs.List.{list_any}
use Rattle.std.proofs.lemmas.Bool.{eqb-true, eqb-false, ne_eqb}
use Rattle.object_model.specs.Uses.{InUse}
use Rattle.thread_layer.specs.Room.{uses_held}
use Rattle.walk_bounds.specs.Bounds.{AreLight}

-- none of several is none that is first, and none behind it
none_first : {X : Type 0} (b : Bool) (x : X) (rest : Option X) → cond b (Some x) rest ≡ None → b ≡ false
none_first true x rest e = cc e
none_first false x rest e = refl

none_rest : {X : Type 0} (b : Bool) (x : X) (rest : Option X) → cond b (Some x) rest ≡ None → rest ≡ None
none_rest true x rest e = cc e
none_rest false x rest e = e

-- the first open call of a thread
abbrev open_of : ℕ → List InUse → Option InUse
open_of t opens = find (λ u. u.thread == t) opens

swapped : (a b : ℕ) → (a == b) ≡ false → (b == a) ≡ false
swapped a b e = ne_eqb b a (λ same. eqb-false a b e (sym same))

-- ---- one call more

pub open_more : (t : ℕ) (opens : List InUse) (c : InUse) → open_of t opens ≡ None → (c.thread == t) ≡ false → open_of t (opens ++ c ∷ []) ≡ None
open_more t [] c none apart = rw apart refl
open_more t (o ∷ opens) c none apart = rw (none_first (o.thread == t) o (open_of t opens) none) (open_more t opens c (none_rest (o.thread == t) o (open_of t opens) none) apart)

pub light_more : (n : ℕ) (threads : List ℕ) (opens : List InUse) (c : InUse) → AreLight n threads opens → length c.uses ≤ n → list_any (λ t. c.thread == t) threads ≡ true → open_of c.thread opens ≡ None
    → AreLight n threads (opens ++ c ∷ [])
light_more n threads [] c light few mine none = (few, (mine, (refl, tt)))
light_more n threads (o ∷ opens) c light few mine none =
    let apart : (c.thread == o.thread) ≡ false = swapped o.thread c.thread (none_first (o.thread == c.thread) o (open_of c.thread opens) none) in
    (light.0, (light.1.0, (open_more o.thread opens c light.1.1.0 apart, light_more n threads opens c light.1.1.1 few mine (none_rest (o.thread == c.thread) o (open_of c.thread opens) none))))

-- ---- some calls less

pub open_fewer : (p : InUse → Bool) (t : ℕ) (opens : List InUse) → open_of t opens ≡ None → open_of t (filter p opens) ≡ None
open_fewer p t [] none = refl
open_fewer p t (o ∷ opens) none = go (p o) refl (open_fewer p t opens (none_rest (o.thread == t) o (open_of t opens) none))
  where
    go : (b : Bool) → p o ≡ b → open_of t (filter p opens) ≡ None → open_of t (filter p (o ∷ opens)) ≡ None
    go true e ih = rw (e, none_first (o.thread == t) o (open_of t opens) none) ih
    go false e ih = rw e ih

pub light_fewer : (n : ℕ) (threads : List ℕ) (p : InUse → Bool) (opens : List InUse) → AreLight n threads opens → AreLight n threads (filter p opens)
light_fewer n threads p [] light = tt
light_fewer n threads p (o ∷ opens) light = go (p o) refl (light_fewer n threads p opens light.1.1.1)
  where
    go : (b : Bool) → p o ≡ b → AreLight n threads (filter p opens) → AreLight n threads (filter p (o ∷ opens))
    go true e ih = rw e ((light.0, (light.1.0, (open_fewer p o.thread opens light.1.1.0, ih))))
    go false e ih = rw e ih

-- ---- how many there are

-- threads without one of them
abbrev without : ℕ → List ℕ → List ℕ
without t [] = []
without t (x ∷ xs) = cond (t == x) xs (x ∷ without t xs)

one_less : (t : ℕ) (xs : List ℕ) → list_any (λ x. t == x) xs ≡ true → length xs ≡ suc (length (without t xs))
one_less t [] there = cc there
one_less t (x ∷ xs) there = go (t == x) refl (one_less t xs)
  where
    go : (b : Bool) → (t == x) ≡ b → (list_any (λ y. t == y) xs ≡ true → length xs ≡ suc (length (without t xs))) → suc (length xs) ≡ suc (length (without t (x ∷ xs)))
    go true e ih = rw e refl
    go false e ih = let behind : list_any (λ y. t == y) xs ≡ true = ap (λ (b : Bool). b || list_any (λ y. t == y) xs) (sym e) ∙ there in rw e (ap suc (ih behind))

another : (s t : ℕ) (xs : List ℕ) → list_any (λ x. s == x) xs ≡ true → (s == t) ≡ false → list_any (λ x. s == x) (without t xs) ≡ true
another s t [] there apart = cc there
another s t (x ∷ xs) there apart = go (t == x) refl (another s t xs)
  where
    go : (b : Bool) → (t == x) ≡ b → (list_any (λ y. s == y) xs ≡ true → (s == t) ≡ false → list_any (λ y. s == y) (without t xs) ≡ true) → list_any (λ y. s == y) (without t (x ∷ xs)) ≡ true
    go true e ih =
        let away : (s == x) ≡ false = ap (λ y. s == y) (sym (eqb-true t x e)) ∙ apart in
        rw e (ap (λ (b : Bool). b || list_any (λ y. s == y) xs) (sym away) ∙ there)
    go false e ih = rw e (inner (s == x) refl)
      where
        inner : (b : Bool) → (s == x) ≡ b → ((s == x) || list_any (λ y. s == y) (without t xs)) ≡ true
        inner true h = rw h refl
        inner false h = rw h (ih (ap (λ (b : Bool). b || list_any (λ y. s == y) xs) (sym h) ∙ there) apart)

light_without : (n t : ℕ) (threads : List ℕ) (opens : List InUse) → AreLight n threads opens → open_of t opens ≡ None → AreLight n (without t threads) opens
light_without n t threads [] light none = tt
light_without n t threads (o ∷ opens) light none =
    (light.0, (another o.thread t threads light.1.0 (none_first (o.thread == t) o (open_of t opens) none), (light.1.1.0, light_without n t threads opens light.1.1.1 (none_rest (o.thread == t) o (open_of t opens) none))))

pub light_fits : (n : ℕ) (threads : List ℕ) (opens : List InUse) → AreLight n threads opens → (length opens ≤ length threads) × (uses_held opens ≤ length threads * n)
light_fits n threads [] light = (omega arith, omega arith)
light_fits n threads (o ∷ opens) light =
    let rest = light_fits n (without o.thread threads) opens (light_without n o.thread threads opens light.1.1.1 light.1.1.0) in
    let long : length threads ≡ suc (length (without o.thread threads)) = one_less o.thread threads light.1.0 in
    let first = rest.0 in
    let second = rest.1 in
    let few = light.0 in
    let times : length threads * n ≡ suc (length (without o.thread threads)) * n = ap (λ k. k * n) long in
    (omega (arith, first, long), omega (arith, second, times, few))
