-- Lists of layers and names in which each name stands once, and what is found in them.
use Rattle.std.proofs.Common.{◌≡◌, ◌∙◌, ℕ, ◌+◌, ◌<◌, Bool, true, false, not, cond, ◌||◌, List, [], ◌∷◌, ◌++◌, map, filter, find, position, length, slice_get, get_or, take, drop, refl, ap, sym, subst, suc, add-one, append_assoc, append-nil, Decides, true≢false, ◌≤◌, arith, string_bytes, Option, Some, None, option_map, option_and_then, Bor, IfSome}
use Rattle.std.specs.List.{list_any, position_or_len}
use Rattle.std.specs.Bool.{nat_lt}
use Rattle.std.specs.Str.{bytes_eq}
use Rattle.std.proofs.lemmas.Bool.Decides.{Decides-ltb}
use Rattle.std.proofs.lemmas.List.{map-append, map-id, length-map, drop_all, take_more}
use Rattle.std.proofs.lemmas.List.Folds.{list_any-append, find_at}
use Rattle.std.proofs.Math.Seq.{drop-cons}
use Rattle.std.proofs.lemmas.Option.{slice_get-map, slice_get_past}
use Rattle.std.proofs.lemmas.Slice.Eq.{bytes_eq-Decides}
use Rattle.layer_search.specs.Order.{firsts}
use Rattle.layer_search.proofs.FirstOnes.{firsts_known, firsts_new, list_any-map}
use Rattle.chain_build.specs.Expanding.{ListedLayer, name_of, found, expansion, expand, joined}
use Rattle.chain_build.specs.declared.listed.TheConstants.{MOST_LEVELS}
use Rattle.chain_build.specs.Holding.{texts_of}

-- a filter that lets pass what a test looks for changes no answer of the test
any_filtered : {X : Type 0} (p r : X → Bool) → ((x : X) → r x ≡ false → p x ≡ false) → (xs : List X) → list_any p (filter r xs) ≡ list_any p xs
any_filtered p r skip [] = refl
any_filtered p r skip (x ∷ xs) = go (r x) (skip x) (any_filtered p r skip xs)
  where
    go : (t : Bool) → (t ≡ false → p x ≡ false) → list_any p (filter r xs) ≡ list_any p xs → list_any p (cond t (x ∷ filter r xs) (filter r xs)) ≡ (p x || list_any p xs)
    go true h ih = ap (λ u. p x || u) ih
    go false h ih = rw (h refl) ih

-- a text that isn't another isn't one that equals the other
other_text : (q a b : List ℕ) → bytes_eq q a ≡ false → bytes_eq b a ≡ true → bytes_eq q b ≡ false
other_text q a b e f = let P : List ℕ → Type 0 = λ t. bytes_eq q t ≡ false in subst P (sym ((bytes_eq-Decides b a).0 f)) e

-- a key is among the firsts where it is among all
any_in_firsts : {X : Type 0} (key : X → List ℕ) (q : List ℕ) (xs : List X) → list_any (λ x. bytes_eq q (key x)) (firsts key xs) ≡ list_any (λ x. bytes_eq q (key x)) xs
any_in_firsts key q [] = refl
any_in_firsts {X} key q (x ∷ xs) = go (bytes_eq q (key x)) refl (any_in_firsts key q xs)
  where
    negated : (t : Bool) → not t ≡ false → t ≡ true
    negated true e = refl
    negated false e = cc

    go : (t : Bool) → bytes_eq q (key x) ≡ t → list_any (λ y. bytes_eq q (key y)) (firsts key xs) ≡ list_any (λ y. bytes_eq q (key y)) xs
        → (t || list_any (λ y. bytes_eq q (key y)) (filter (λ y. not (bytes_eq (key y) (key x))) (firsts key xs))) ≡ (t || list_any (λ y. bytes_eq q (key y)) xs)
    go true e ih = refl
    go false e ih = any_filtered (λ y. bytes_eq q (key y)) (λ y. not (bytes_eq (key y) (key x))) (λ y f. other_text q (key x) (key y) e (negated (bytes_eq (key y) (key x)) f)) (firsts key xs) ∙ ih

-- the keys that a set keeps tell whether a key is among all
known_by_keys : {X : Type 0} (key : X → List ℕ) (q : List ℕ) (keys : List (Bor (List ℕ))) (kept met : List X) → texts_of keys ≡ map key kept → kept ≡ firsts key met
    → list_any (λ (k : Bor (List ℕ)). bytes_eq q k.now) keys ≡ list_any (λ x. bytes_eq q (key x)) met
known_by_keys key q keys kept met names is =
    sym (list_any-map (λ (k : Bor (List ℕ)). k.now) (λ t. bytes_eq q t) keys)
    ∙ (ap (list_any (λ t. bytes_eq q t)) names ∙ (list_any-map key (λ t. bytes_eq q t) kept ∙ (ap (list_any (λ x. bytes_eq q (key x))) is ∙ any_in_firsts key q met)))

-- an element whose key was there
pub step_known : {X : Type 0} (key : X → List ℕ) (q : List ℕ) (keys : List (Bor (List ℕ))) (kept met : List X) (y : X) (new : Bool) → texts_of keys ≡ map key kept → q ≡ key y
    → new ≡ not (list_any (λ (k : Bor (List ℕ)). bytes_eq q k.now) keys) → new ≡ false → kept ≡ firsts key met → kept ≡ firsts key (met ++ y ∷ [])
step_known key q keys kept met y new names at is old same =
    same ∙ sym (firsts_known key met y (subst (λ t. list_any (λ x. bytes_eq t (key x)) met ≡ true) at (sym (known_by_keys key q keys kept met names same) ∙ turned new _ is old)))
  where
    turned : (s t : Bool) → s ≡ not t → s ≡ false → t ≡ true
    turned s true e f = refl
    turned s false e f = let wrong : true ≡ false = sym e ∙ f in cc

-- an element whose key is new
pub step_new : {X : Type 0} (key : X → List ℕ) (q : List ℕ) (keys : List (Bor (List ℕ))) (kept met : List X) (y : X) (new : Bool) → texts_of keys ≡ map key kept → q ≡ key y
    → new ≡ not (list_any (λ (k : Bor (List ℕ)). bytes_eq q k.now) keys) → new ≡ true → kept ≡ firsts key met → kept ++ y ∷ [] ≡ firsts key (met ++ y ∷ [])
step_new key q keys kept met y new names at is added same =
    ap (λ xs. xs ++ y ∷ []) same ∙ sym (firsts_new key met y (subst (λ t. list_any (λ x. bytes_eq t (key x)) met ≡ false) at (sym (known_by_keys key q keys kept met names same) ∙ turned new _ is added)))
  where
    turned : (s t : Bool) → s ≡ not t → s ≡ true → t ≡ false
    turned s true e f = let wrong : false ≡ true = sym e ∙ f in cc
    turned s false e f = refl

-- a test of what is read of a list's elements
position_or_len-map : {X K : Type 0} (read : X → K) (p : K → Bool) (xs : List X) → position_or_len p (map read xs) ≡ position_or_len (λ x. p (read x)) xs
position_or_len-map read p [] = refl
position_or_len-map read p (x ∷ xs) = go (p (read x)) (position_or_len-map read p xs)
  where
    go : (t : Bool) → position_or_len p (map read xs) ≡ position_or_len (λ x. p (read x)) xs → cond (not t) (1 + position_or_len p (map read xs)) 0 ≡ cond (not t) (1 + position_or_len (λ x. p (read x)) xs) 0
    go true ih = refl
    go false ih = ap (λ n. 1 + n) ih

-- the layer of a name stands where the name stands among the names
pub found_at : (name : List ℕ) (keys : List (Bor (List ℕ))) (layers : List ListedLayer) (place : Option ℕ) → texts_of keys ≡ map name_of layers
    → place ≡ position (λ (k : Bor (List ℕ)). bytes_eq name k.now) keys → found layers name ≡ option_and_then (slice_get layers) place
found_at name keys layers place names is =
    let test : ListedLayer → Bool = λ l. bytes_eq name (name_of l) in
    let places : position_or_len (λ (k : Bor (List ℕ)). bytes_eq name k.now) keys ≡ position_or_len test layers =
    sym (position_or_len-map (λ (k : Bor (List ℕ)). k.now) (λ t. bytes_eq name t) keys) ∙ (ap (position_or_len (λ t. bytes_eq name t)) names ∙ position_or_len-map name_of (λ t. bytes_eq name t) layers) in
    let lengths : length keys ≡ length layers = sym (length-map keys (λ (k : Bor (List ℕ)). k.now)) ∙ (ap length names ∙ length-map layers name_of) in
    let at : place ≡ cond (nat_lt (position_or_len test layers) (length layers)) (Some (position_or_len test layers)) None = is ∙ (ap (λ n. cond (nat_lt n (length keys)) (Some n) None) places ∙ ap (λ m. cond (nat_lt (position_or_len test layers) m) (Some (position_or_len test layers)) None) lengths) in
    find_at test layers ∙ sym (ap (option_and_then (slice_get layers)) at ∙ go (position_or_len test layers) (nat_lt (position_or_len test layers) (length layers)) (Decides-ltb (position_or_len test layers) (length layers)).1)
  where
    go : (n : ℕ) (t : Bool) → (n < length layers → t ≡ true) → option_and_then (slice_get layers) (cond t (Some n) None) ≡ slice_get layers n
    go n true h = refl
    go n false h = sym (slice_get_past layers n (past n h))
      where
        past : (n : ℕ) → (n < length layers → false ≡ true) → length layers ≤ n
        past n h = from (Decides-ltb n (length layers)) (nat_lt n (length layers)) refl
          where
            from : Decides (nat_lt n (length layers)) (n < length layers) → (t : Bool) → nat_lt n (length layers) ≡ t → length layers ≤ n
            from is true e = let wrong : false ≡ true = h (is.0 e) in absurd (true≢false (sym wrong))
            from is false e = let no_less : n < length layers → ⊥ = λ l. true≢false (sym (is.1 l) ∙ e) in omega (arith, no_less)

-- what stands in a row at the place of a layer
pub row_read : {R L C : Type 0} (content : R → Option C) (f : L → Option C) (row : List R) (layers : List L) (place : ℕ) (r : R) (o : Option L) → map content row ≡ map f layers
    → slice_get row place ≡ Some r → o ≡ slice_get layers place → content r ≡ option_and_then f o
row_read {R} {L} {C} content f row layers place r o same at is =
    let e : Some (content r) ≡ option_map f (slice_get layers place) =
    sym (ap (option_map content) at) ∙ (sym (slice_get-map content row place) ∙ (ap (λ xs. slice_get xs place) same ∙ slice_get-map f layers place)) in
    go o (subst (λ p. Some (content r) ≡ option_map f p) (sym is) e)
  where
    go : (p : Option L) → Some (content r) ≡ option_map f p → content r ≡ option_and_then f p
    go None e = cc
    go (Some l) e = cc

-- nothing in front changes nothing
pub joined_first : (o : Option (List (List ℕ))) → o ≡ option_map (λ rest. [] ++ rest) o
joined_first None = refl
joined_first (Some names) = refl

-- one component more
pub joined_step : {X : Type 0} (expand : List ℕ → Option (List (List ℕ))) (read : X → List ℕ) (xs : List X) (i : ℕ) (x : X) (before more : List (List ℕ)) → i < length xs → x ≡ get_or xs i x → Some more ≡ expand (read x)
    → option_map (λ rest. before ++ rest) (joined (map expand (map read (drop i xs)))) ≡ option_map (λ rest. (before ++ more) ++ rest) (joined (map expand (map read (drop (i + 1) xs))))
joined_step expand read xs i x before more l at is =
    rw (add-one, drop-cons xs i x l, ← at, ← is) (go (joined (map expand (map read (drop (suc i) xs)))))
  where
    go : (o : Option (List (List ℕ))) → option_map (λ rest. before ++ rest) (option_map (λ rest. more ++ rest) o) ≡ option_map (λ rest. (before ++ more) ++ rest) o
    go None = refl
    go (Some names) = ap (λ xs. Some xs) (sym (append_assoc before more names))

-- a component that isn't there
pub joined_stop : {X : Type 0} (expand : List ℕ → Option (List (List ℕ))) (read : X → List ℕ) (xs : List X) (i : ℕ) (x : X) (before : List (List ℕ)) → i < length xs → x ≡ get_or xs i x → None ≡ expand (read x)
    → option_map (λ rest. before ++ rest) (joined (map expand (map read (drop i xs)))) ≡ None
joined_stop expand read xs i x before l at is = rw (drop-cons xs i x l, ← at, ← is) refl

-- behind the last component
pub joined_end : {X : Type 0} (expand : List ℕ → Option (List (List ℕ))) (read : X → List ℕ) (xs : List X) (i : ℕ) (before : List (List ℕ)) → length xs ≤ i
    → option_map (λ rest. before ++ rest) (joined (map expand (map read (drop i xs)))) ≡ Some before
joined_end expand read xs i before l = rw (drop_all i xs l) (ap (λ ys. Some ys) (append-nil before))

-- what a set keeps beside a new name, and beside one that it has
pub keys_new : (keys all : List (Bor (List ℕ))) (kept : List (List ℕ)) (v : Bor (List ℕ)) (there new : Bool) → all ≡ cond there keys (keys ++ v ∷ []) → new ≡ not there → new ≡ true → texts_of keys ≡ kept → texts_of all ≡ kept ++ v.now ∷ []
keys_new keys all kept v true new is not_there e same = let wrong : false ≡ true = sym not_there ∙ e in cc
keys_new keys all kept v false new is not_there e same = ap texts_of is ∙ (map-append (λ (t : Bor (List ℕ)). t.now) keys (v ∷ []) ∙ ap (λ xs. xs ++ v.now ∷ []) same)

pub keys_known : (keys all : List (Bor (List ℕ))) (kept : List (List ℕ)) (v : Bor (List ℕ)) (there new : Bool) → all ≡ cond there keys (keys ++ v ∷ []) → new ≡ not there → new ≡ false → texts_of keys ≡ kept → texts_of all ≡ kept
keys_known keys all kept v true new is not_there e same = ap texts_of is ∙ same
keys_known keys all kept v false new is not_there e same = let wrong : true ≡ false = sym not_there ∙ e in cc

-- one name more
pub texts_more : (names : List (Bor (List ℕ))) (i : ℕ) (d : Bor (List ℕ)) → i < length names → texts_of (take i names) ++ (get_or names i d).now ∷ [] ≡ texts_of (take (i + 1) names)
texts_more names i d l = sym (ap texts_of (take_more names i d l) ∙ map-append (λ (t : Bor (List ℕ)). t.now) (take i names) (get_or names i d ∷ []))

-- the first names, with one more
pub names_new : (q : List ℕ) (keys : List (Bor (List ℕ))) (kept met : List (List ℕ)) (new : Bool) → texts_of keys ≡ kept
    → new ≡ not (list_any (λ (k : Bor (List ℕ)). bytes_eq q k.now) keys) → new ≡ true → kept ≡ firsts (λ n. n) met → kept ++ q ∷ [] ≡ firsts (λ n. n) (met ++ q ∷ [])
names_new q keys kept met new names is added same = step_new (λ n. n) q keys kept met q new (names ∙ sym (map-id kept)) refl is added same

pub names_known : (q : List ℕ) (keys : List (Bor (List ℕ))) (kept met : List (List ℕ)) (new : Bool) → texts_of keys ≡ kept
    → new ≡ not (list_any (λ (k : Bor (List ℕ)). bytes_eq q k.now) keys) → new ≡ false → kept ≡ firsts (λ n. n) met → kept ≡ firsts (λ n. n) (met ++ q ∷ [])
names_known q keys kept met new names is old same = step_known (λ n. n) q keys kept met q new (names ∙ sym (map-id kept)) refl is old same

-- what is read of one element more
pub row_more : {R L A C : Type 0} (content : R → C) (f : A → C) (read : L → A) (row : List R) (r : R) (xs : List L) (i : ℕ) (x : L) → map content row ≡ map f (map read (take i xs))
    → i < length xs → x ≡ get_or xs i x → content r ≡ f (read x) → map content (row ++ r ∷ []) ≡ map f (map read (take (i + 1) xs))
row_more content f read row r xs i x same l at one =
    map-append content row (r ∷ []) ∙ (ap (λ ys. ys ++ content r ∷ []) same ∙ (ap (λ y. map f (map read (take i xs)) ++ y ∷ []) (one ∙ ap (λ y. f (read y)) at)
    ∙ sym (ap (λ ys. map f (map read ys)) (take_more xs i x l) ∙ (ap (map f) (map-append read (take i xs) _) ∙ map-append f (map read (take i xs)) _))))

-- one element more behind others
pub met_more : {L A B : Type 0} (f : A → B) (read : L → A) (met : List B) (xs : List L) (i : ℕ) (x : L) (y : B) → i < length xs → x ≡ get_or xs i x → y ≡ f (read x)
    → (met ++ map f (map read (take i xs))) ++ y ∷ [] ≡ met ++ map f (map read (take (i + 1) xs))
met_more f read met xs i x y l at one =
    append_assoc met (map f (map read (take i xs))) (y ∷ []) ∙ ap (λ ys. met ++ ys) (ap (λ z. map f (map read (take i xs)) ++ z ∷ []) (one ∙ ap (λ z. f (read z)) at)
    ∙ sym (ap (λ ys. map f (map read ys)) (take_more xs i x l) ∙ (ap (map f) (map-append read (take i xs) _) ∙ map-append f (map read (take i xs)) _)))

-- what a layer that was found by its name stands for
pub expanded_at : (own layers : List ListedLayer) (name : List ℕ) (place : Option ℕ) (i : ℕ) (l : ListedLayer) (plain : Option (List (List ℕ))) → own ≡ layers
    → found own name ≡ option_and_then (slice_get own) place → place ≡ Some i → slice_get own i ≡ Some l → plain ≡ expansion own MOST_LEVELS l.layer → plain ≡ expand layers name
expanded_at own layers name place i l plain same at is there stands =
    let e : found own name ≡ Some l = at ∙ (ap (option_and_then (slice_get own)) is ∙ there) in
    let Q : List ListedLayer → Type 0 = λ ls. plain ≡ expand ls name in
    subst Q same (stands ∙ sym (ap (option_and_then (λ k. expansion own MOST_LEVELS k.layer)) e))
