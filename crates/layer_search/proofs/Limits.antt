-- The limit on the paths of a search, and the causes of its errors.
use Rattle.std.proofs.Common.{◌≡◌, ◌∙◌, ℕ, ◌+◌, ◌<◌, List, [], ◌∷◌, ◌++◌, map, length, get_or, take, drop, ap, sym, subst, arith, append_assoc}
use Rattle.std.specs.List.{flat_map}
use Rattle.std.proofs.lemmas.List.{take_more, map-append, take-append-drop}
use Rattle.std.proofs.lemmas.List.Concat.{flat_map-append}
use Rattle.layer_search.specs.Causes.{IsNoLimit, MeetsLimit}
use Rattle.layer_search.specs.Order.{firsts}
use Rattle.layer_search.specs.declared.errors.SearchError.{SearchError}
use Rattle.layer_search.specs.declared.errors.SearchError.TheVariants.{Tree, TooMany, NoMemory}
use Rattle.layer_search.proofs.FirstOnes.{firsts_grow}

-- what is too many stays so behind more paths
limit_more : (met more : List (List ℕ)) (e : SearchError) → MeetsLimit (firsts (λ p. p) met) e → MeetsLimit (firsts (λ p. p) (met ++ more)) e
limit_more met more Tree h = tt
limit_more met more (TooMany count) h = let grown = firsts_grow (λ (p : List ℕ). p) met more in omega arith
limit_more met more NoMemory h = tt

-- a list is its front, an element, and what follows
around : {X : Type 0} (xs : List X) (i : ℕ) (x : X) → i < length xs → x ≡ get_or xs i x → xs ≡ take i xs ++ (x ∷ drop (i + 1) xs)
around xs i x l at =
    sym (take-append-drop (i + 1) xs) ∙ (ap (λ ys. ys ++ drop (i + 1) xs) (take_more xs i x l ∙ ap (λ y. take i xs ++ y ∷ []) (sym at)) ∙ append_assoc (take i xs) (x ∷ []) (drop (i + 1) xs))

-- too many at one of several pieces are too many for all
limit_at : (met mid x rest all : List (List ℕ)) (e : SearchError) → all ≡ mid ++ (x ++ rest) → MeetsLimit (firsts (λ p. p) ((met ++ mid) ++ x)) e → MeetsLimit (firsts (λ p. p) (met ++ all)) e
limit_at met mid x rest all e is h =
    let same : ((met ++ mid) ++ x) ++ rest ≡ met ++ all = append_assoc (met ++ mid) x rest ∙ (append_assoc met mid (x ++ rest) ∙ ap (λ ys. met ++ ys) (sym is)) in
    rw same at (limit_more ((met ++ mid) ++ x) rest e h)

-- the same, at an element of a list of which each gives a path
pub limit_in_map : {X Y : Type 0} (f : Y → List ℕ) (read : X → Y) (met : List (List ℕ)) (xs : List X) (i : ℕ) (x : X) (path : List ℕ) (e : SearchError) → i < length xs → x ≡ get_or xs i x → path ≡ f (read x)
    → MeetsLimit (firsts (λ p. p) ((met ++ map f (map read (take i xs))) ++ path ∷ [])) e → MeetsLimit (firsts (λ p. p) (met ++ map f (map read xs))) e
limit_in_map f read met xs i x path e l at is k =
    let P : List ℕ → Type 0 = λ p. MeetsLimit (firsts (λ p. p) ((met ++ map f (map read (take i xs))) ++ p ∷ [])) e in
    let h : P (f (read x)) = subst P is k in
    limit_at met (map f (map read (take i xs))) (f (read x) ∷ []) (map f (map read (drop (i + 1) xs))) (map f (map read xs)) e
    (ap (λ ys. map f (map read ys)) (around xs i x l at) ∙ (ap (map f) (map-append read (take i xs) (x ∷ drop (i + 1) xs)) ∙ map-append f (map read (take i xs)) (map read (x ∷ drop (i + 1) xs)))) h

-- the same, at an element of a list of which each gives paths
pub limit_in_pieces : {X Y : Type 0} (f : Y → List (List ℕ)) (read : X → Y) (xs : List X) (i : ℕ) (x : X) (e : SearchError) → i < length xs → x ≡ get_or xs i x
    → MeetsLimit (firsts (λ p. p) (flat_map f (map read (take i xs)) ++ f (read x))) e → MeetsLimit (firsts (λ p. p) (flat_map f (map read xs))) e
limit_in_pieces f read xs i x e l at h =
    limit_at [] (flat_map f (map read (take i xs))) (f (read x)) (flat_map f (map read (drop (i + 1) xs))) (flat_map f (map read xs)) e
    (ap (λ ys. flat_map f (map read ys)) (around xs i x l at) ∙ (ap (flat_map f) (map-append read (take i xs) (x ∷ drop (i + 1) xs)) ∙ flat_map-append f (map read (take i xs)) (map read (x ∷ drop (i + 1) xs)))) h

-- an error that no limit makes says nothing of the paths
pub no_limit : (paths : List (List ℕ)) (e : SearchError) → IsNoLimit e → MeetsLimit paths e
no_limit paths Tree none = tt
no_limit paths (TooMany count) none = absurd none
no_limit paths NoMemory none = tt
