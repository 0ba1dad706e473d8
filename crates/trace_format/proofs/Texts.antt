-- Texts: where they end, what they lack, and how they are put together.
use Rattle.std.proofs.Common.{◌≡◌, ℕ, Bool, true, false, not, ◌==◌, cond, Option, Some, None, List, [], ◌∷◌, ◌++◌, map, length, take, drop, refl, sym, ap, ◌∙◌, subst}
use Rattle.std.specs.Bool.{⊤}
use Rattle.std.specs.Option.{option_map}
use Rattle.std.specs.Str.{bytes_eq}
use Rattle.std.specs.List.{AllByRecursion, list_all}
use Rattle.std.proofs.lemmas.Bool.{and_parts, and_from}
use Rattle.std.proofs.lemmas.List.{take-append-drop}
use Rattle.std.proofs.lemmas.Slice.Eq.{bytes_eq-Decides}
use Rattle.trace_format.specs.Words.{after, all_of, and_then, both, from, only_if, until}

-- ---- bytes that pass a test

-- each byte passes a test
abbrev pub Each : (ℕ → Bool) → List ℕ → Type 0
Each p [] = ⊤
Each p (b ∷ bytes) = (p b ≡ true) × Each p bytes

-- a test of all bytes is passed by each
pub each : (p : ℕ → Bool) (bytes : List ℕ) → list_all p bytes ≡ true → Each p bytes
each p [] h = tt
each p (b ∷ bytes) h = let parts = and_parts (p b) (list_all p bytes) h in (parts.0, each p bytes parts.1)

-- and the other way round
pub each_all : (p : ℕ → Bool) (bytes : List ℕ) → Each p bytes → list_all p bytes ≡ true
each_all p [] h = refl
each_all p (b ∷ bytes) h = and_from (p b) (list_all p bytes) h.0 (each_all p bytes h.1)

-- each byte of two texts passes, so each of both together
pub each_append : (p : ℕ → Bool) (s t : List ℕ) → Each p s → Each p t → Each p (s ++ t)
each_append p [] t hs ht = ht
each_append p (b ∷ s) t hs ht = (hs.0, each_append p s t hs.1 ht)

-- each byte of both together passes, so each of the second text
pub each_right : (p : ℕ → Bool) (s t : List ℕ) → Each p (s ++ t) → Each p t
each_right p [] t h = h
each_right p (b ∷ s) t h = each_right p s t h.1

-- a weaker test
pub each_weaker : (p q : ℕ → Bool) → ((b : ℕ) → p b ≡ true → q b ≡ true) → (bytes : List ℕ) → Each p bytes → Each q bytes
each_weaker p q w [] h = tt
each_weaker p q w (b ∷ bytes) h = (w b h.0, each_weaker p q w bytes h.1)

-- it is not the byte c
abbrev pub is_not : ℕ → ℕ → Bool
is_not c b = not (b == c)

-- ---- the first c

-- what follows a word is nothing, or begins with c
abbrev pub AtEnd : ℕ → List ℕ → Type 0
AtEnd c [] = ⊤
AtEnd c (b ∷ bytes) = (b == c) ≡ true

-- a text that lacks c, before an end, is all that stands before the first c
pub until_append : (c : ℕ) (s t : List ℕ) → Each (is_not c) s → AtEnd c t → until c (s ++ t) ≡ s
until_append c [] [] lacks end = refl
until_append c [] (b ∷ t) lacks end = ap (λ x. cond x [] (b ∷ until c t)) end
until_append c (b ∷ s) t lacks end = go (b == c) lacks.0 (until_append c s t lacks.1 end)
  where
    go : (x : Bool) → not x ≡ true → until c (s ++ t) ≡ s → cond x [] (b ∷ until c (s ++ t)) ≡ b ∷ s
    go true h ih = cc
    go false h ih = ap (λ r. b ∷ r) ih

-- and what follows is all that stands from there on
pub from_append : (c : ℕ) (s t : List ℕ) → Each (is_not c) s → AtEnd c t → from c (s ++ t) ≡ t
from_append c [] [] lacks end = refl
from_append c [] (b ∷ t) lacks end = ap (λ x. cond x (b ∷ t) (from c t)) end
from_append c (b ∷ s) t lacks end = go (b == c) lacks.0 (from_append c s t lacks.1 end)
  where
    go : (x : Bool) → not x ≡ true → from c (s ++ t) ≡ t → cond x (b ∷ (s ++ t)) (from c (s ++ t)) ≡ t
    go true h ih = cc
    go false h ih = ih

-- what stands before the first c and what stands from it on are all
pub until_from : (c : ℕ) (bytes : List ℕ) → bytes ≡ until c bytes ++ from c bytes
until_from c [] = refl
until_from c (b ∷ bytes) = go (b == c) (until_from c bytes)
  where
    go : (x : Bool) → bytes ≡ until c bytes ++ from c bytes → b ∷ bytes ≡ cond x [] (b ∷ until c bytes) ++ cond x (b ∷ bytes) (from c bytes)
    go true ih = refl
    go false ih = ap (λ r. b ∷ r) ih

-- ---- readings that stop

-- a reading that went on
pub record Went {A B : Type 0} (m : Option A) (f : A → Option B) (y : B) : Type 0 where
  pub value : A
  pub read : m ≡ Some value
  pub gave : f value ≡ Some y

-- a reading that gave something went on from something
pub went : {A B : Type 0} (m : Option A) (f : A → Option B) (y : B) → and_then m f ≡ Some y → Went m f y
went None f y h = cc
went (Some x) f y h = record { value = x; read = refl; gave = h }

-- a value that was let through
pub passed : {A : Type 0} (t : Bool) (x y : A) → only_if t x ≡ Some y → (t ≡ true) × (x ≡ y)
passed true x y h = (refl, cc)
passed false x y h = cc

-- a text that is found at the front stands there
pub after_is : (text bytes rest : List ℕ) → after text bytes ≡ Some rest → bytes ≡ text ++ rest
after_is text bytes rest h =
    let p = passed (bytes_eq (take (length text) bytes) text) (drop (length text) bytes) rest h in
    let e : take (length text) bytes ≡ text = (bytes_eq-Decides (take (length text) bytes) text).0 p.0 in
    sym (take-append-drop (length text) bytes) ∙ (ap (λ s. s ++ drop (length text) bytes) e ∙ ap (λ s. text ++ s) p.1)

-- a value and others that were all there
pub record Were {A : Type 0} (m : Option A) (ms : Option (List A)) (ys : List A) : Type 0 where
  pub first : A
  pub rest : List A
  pub one : m ≡ Some first
  pub others : ms ≡ Some rest
  pub all : first ∷ rest ≡ ys

-- a value and others that came out were all there
pub were : {A : Type 0} (m : Option A) (ms : Option (List A)) (ys : List A) → both m ms ≡ Some ys → Were m ms ys
were None None ys h = cc
were None (Some xs) ys h = cc
were (Some x) None ys h = cc
were (Some x) (Some xs) ys h = record { first = x; rest = xs; one = refl; others = refl; all = cc }

-- a value that was mapped
pub record Mapped {A B : Type 0} (f : A → B) (m : Option A) (y : B) : Type 0 where
  pub value : A
  pub read : m ≡ Some value
  pub gave : f value ≡ y

-- a mapped value that came out was there
pub mapped : {A B : Type 0} (f : A → B) (m : Option A) (y : B) → option_map f m ≡ Some y → Mapped f m y
mapped f None y h = cc
mapped f (Some x) y h = record { value = x; read = refl; gave = cc }

-- ---- readers

-- f reads just the texts of the values of which V holds
pub record Reads {X : Type 0} (V : X → Type 0) (text : X → List ℕ) (f : List ℕ → Option X) : Type 0 where
  pub complete : (x : X) → V x → f (text x) ≡ Some x
  pub sound : (w : List ℕ) (x : X) → f w ≡ Some x → V x × (w ≡ text x)

-- texts of values are read as those values
pub all_complete : {X : Type 0} {V : X → Type 0} {text : X → List ℕ} {f : List ℕ → Option X} → Reads V text f → (xs : List X) → AllByRecursion V xs → all_of f (map text xs) ≡ Some xs
all_complete r [] h = refl
all_complete r (x ∷ xs) h = rw (r.complete x h.0, all_complete r xs h.1) refl

-- texts that are read as values are theirs
pub all_sound : {X : Type 0} {V : X → Type 0} {text : X → List ℕ} {f : List ℕ → Option X} → Reads V text f → (ws : List (List ℕ)) (xs : List X) → all_of f ws ≡ Some xs
    → AllByRecursion V xs × (ws ≡ map text xs)
all_sound {V} {text} r [] xs h = let e : [] ≡ xs = cc in subst (λ ys. AllByRecursion V ys × ([] ≡ map text ys)) e (tt, refl)
all_sound {V} {text} {f} r (w ∷ ws) xs h =
    let b = were (f w) (all_of f ws) xs h in
    let one = r.sound w b.first b.one in
    let rest = all_sound r ws b.rest b.others in
    subst (λ ys. AllByRecursion V ys × (w ∷ ws ≡ map text ys)) b.all ((one.0, rest.0), ap (λ v. v ∷ ws) one.1 ∙ ap (λ vs. text b.first ∷ vs) rest.1)
