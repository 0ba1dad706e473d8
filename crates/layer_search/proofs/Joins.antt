-- Lists that are joined, mapped and filtered.
use Rattle.std.proofs.Common.{◌≡◌, ◌∙◌, ℕ, ◌+◌, ◌<◌, Bool, true, false, cond, List, [], ◌∷◌, ◌++◌, map, filter, length, get_or, take, refl, ap, sym, append_assoc, append-nil}
use Rattle.std.specs.List.{flat_map}
use Rattle.std.proofs.lemmas.List.{take_more, map-append}
use Rattle.std.proofs.lemmas.List.Concat.{flat_map-append}

-- two lists behind another
pub added_twice : {X : Type 0} (old mid new a b a' b' : List X) → mid ≡ old ++ a → new ≡ mid ++ b → a ≡ a' → b ≡ b' → new ≡ old ++ (a' ++ b')
added_twice old mid new a b a' b' first second e f =
    second ∙ (ap (λ x. x ++ b) first ∙ (append_assoc old a b ∙ ap (λ x. old ++ x) (ap (λ x. x ++ b) e ∙ ap (λ x. a' ++ x) f)))

-- a filter by what is read of the elements
pub map_filtered : {X K : Type 0} (read : X → K) (p : K → Bool) (xs : List X) → map read (filter (λ x. p (read x)) xs) ≡ filter p (map read xs)
map_filtered read p [] = refl
map_filtered {X} {K} read p (x ∷ xs) = go (p (read x)) (map_filtered read p xs)
  where
    go : (t : Bool) → map read (filter (λ x. p (read x)) xs) ≡ filter p (map read xs)
        → map read (cond t (x ∷ filter (λ x. p (read x)) xs) (filter (λ x. p (read x)) xs)) ≡ cond t (read x ∷ filter p (map read xs)) (filter p (map read xs))
    go true ih = ap (λ ys. read x ∷ ys) ih
    go false ih = ih

-- one piece more of what is read
pub pieces_more : {X Y Z : Type 0} (f : Y → List Z) (read : X → Y) (xs : List X) (i : ℕ) (x : X) → i < length xs → x ≡ get_or xs i x
    → flat_map f (map read (take (i + 1) xs)) ≡ flat_map f (map read (take i xs)) ++ f (read x)
pieces_more f read xs i x l at =
    ap (λ ys. flat_map f (map read ys)) (take_more xs i x l ∙ ap (λ y. take i xs ++ y ∷ []) (sym at))
    ∙ (ap (flat_map f) (map-append read (take i xs) (x ∷ [])) ∙ (flat_map-append f (map read (take i xs)) (read x ∷ []) ∙ ap (λ ys. flat_map f (map read (take i xs)) ++ ys) (append-nil (f (read x)))))

-- one element more of what is read, at the end of all
pub read_pushed : {X Y Z : Type 0} (f : Y → Z) (read : X → Y) (met : List Z) (xs : List X) (x : X) → met ++ map f (map read (xs ++ x ∷ [])) ≡ (met ++ map f (map read xs)) ++ f (read x) ∷ []
read_pushed f read met xs x =
    ap (λ ys. met ++ map f ys) (map-append read xs (x ∷ [])) ∙ (ap (λ ys. met ++ ys) (map-append f (map read xs) (read x ∷ [])) ∙ sym (append_assoc met (map f (map read xs)) (f (read x) ∷ [])))

-- what one path more gives, where what is at it was asked for
pub piece_is : {X Y Z R : Type 0} (f : Y → R → List Z) (at : Y → R) (read : X → Y) (xs : List X) (i : ℕ) (x : X) (y z : Y) (r : R) → i < length xs → x ≡ get_or xs i x → y ≡ read x → z ≡ read x → r ≡ at z
    → flat_map (λ y. f y (at y)) (map read (take (i + 1) xs)) ≡ flat_map (λ y. f y (at y)) (map read (take i xs)) ++ f y r
piece_is f at read xs i x y z r l is same asked answer =
    pieces_more (λ y. f y (at y)) read xs i x l is ∙ ap (λ ys. flat_map (λ y. f y (at y)) (map read (take i xs)) ++ ys) (ap (λ y. f y (at (read x))) (sym same) ∙ ap (f y) (sym (answer ∙ ap at asked)))

-- a list to which a piece was added is one with that piece behind
pub more_is : {X : Type 0} (old new a b c : List X) → new ≡ old ++ a → old ≡ b → c ≡ b ++ a → new ≡ c
more_is old new a b c added was is = added ∙ (ap (λ l. l ++ a) was ∙ sym is)
