-- Lists in which the first of equal keys stays.
use Rattle.std.proofs.Common.{◌≡◌, ◌∙◌, ℕ, ◌≤◌, Bool, true, false, not, cond, ◌||◌, List, [], ◌∷◌, ◌++◌, map, filter, length, refl, ap, sym, subst, arith, length-append, append-nil, string_bytes, Global}
use Rattle.std.specs.BTreeSet.{BTreeSet, UpdatesBy, contains, contains_text}
use Rattle.std.specs.Cmp.Lexicographic.{slice_cmp}
use Rattle.std.specs.List.{list_any}
use Rattle.std.specs.Ordering.{nat_cmp}
use Rattle.std.specs.Str.{bytes_eq}
use Rattle.std.specs.String.{string_cmp}
use Rattle.std.specs.declared.string.String.{String}
use Rattle.std.proofs.lemmas.List.{map-append}
use Rattle.std.proofs.lemmas.List.Elements.{filter-append}
use Rattle.std.proofs.lemmas.List.Folds.{list_any-append}
use Rattle.std.proofs.lemmas.Map.Text.{btree_set_updates_text}
use Rattle.std.proofs.lemmas.Slice.Eq.{bytes_eq-Decides}
use Rattle.layer_search.specs.Collecting.{Knows}
use Rattle.layer_search.specs.Contents.{LayerFound}
use Rattle.layer_search.specs.Order.{firsts}

-- a filter that lets all pass
filter_all : {X : Type 0} (xs : List X) → filter (λ _. true) xs ≡ xs
filter_all [] = refl
filter_all (x ∷ xs) = ap (λ ys. x ∷ ys) (filter_all xs)

-- two filters in turn
filter_both : {X : Type 0} (p q : X → Bool) (xs : List X) → filter (λ x. not (p x)) (filter (λ x. not (q x)) xs) ≡ filter (λ x. not (p x || q x)) xs
filter_both p q [] = refl
filter_both p q (x ∷ xs) = go (p x) refl (q x) (filter_both p q xs)
  where
    go : (s : Bool) → p x ≡ s → (t : Bool) → filter (λ x. not (p x)) (filter (λ x. not (q x)) xs) ≡ filter (λ x. not (p x || q x)) xs
        → filter (λ x. not (p x)) (cond (not t) (x ∷ filter (λ x. not (q x)) xs) (filter (λ x. not (q x)) xs)) ≡ cond (not (s || t)) (x ∷ filter (λ x. not (p x || q x)) xs) (filter (λ x. not (p x || q x)) xs)
    go true e true ih = ih
    go true e false ih = rw e ih
    go false e true ih = ih
    go false e false ih = rw e (ap (λ ys. x ∷ ys) ih)

-- an element's key is none of a list's
abbrev pub is_other : {X : Type 0} → (X → List ℕ) → List X → X → Bool
is_other key xs y = not (list_any (λ x. bytes_eq (key y) (key x)) xs)

-- of two lists, the firsts of the second follow without the keys of the first
firsts-append : {X : Type 0} (key : X → List ℕ) (xs ys : List X) → firsts key (xs ++ ys) ≡ firsts key xs ++ filter (is_other key xs) (firsts key ys)
firsts-append key [] ys = sym (filter_all (firsts key ys))
firsts-append key (x ∷ xs) ys =
    ap (λ zs. x ∷ filter (λ y. not (bytes_eq (key y) (key x))) zs) (firsts-append key xs ys)
    ∙ ap (λ zs. x ∷ zs) (filter-append (λ y. not (bytes_eq (key y) (key x))) (firsts key xs) (filter (is_other key xs) (firsts key ys))
    ∙ ap (λ zs. filter (λ y. not (bytes_eq (key y) (key x))) (firsts key xs) ++ zs) (filter_both (λ y. bytes_eq (key y) (key x)) (λ y. list_any (λ x. bytes_eq (key y) (key x)) xs) (firsts key ys)))

-- more elements leave those that stand
pub firsts_grow : {X : Type 0} (key : X → List ℕ) (xs ys : List X) → length (firsts key xs) ≤ length (firsts key (xs ++ ys))
firsts_grow key xs ys = rw (firsts-append key xs ys, length-append) (omega arith)

-- an element whose key is there changes nothing
pub firsts_known : {X : Type 0} (key : X → List ℕ) (xs : List X) (y : X) → list_any (λ x. bytes_eq (key y) (key x)) xs ≡ true → firsts key (xs ++ y ∷ []) ≡ firsts key xs
firsts_known key xs y e = firsts-append key xs (y ∷ []) ∙ rw e (append-nil (firsts key xs))

-- an element with another key comes last
pub firsts_new : {X : Type 0} (key : X → List ℕ) (xs : List X) (y : X) → list_any (λ x. bytes_eq (key y) (key x)) xs ≡ false → firsts key (xs ++ y ∷ []) ≡ firsts key xs ++ y ∷ []
firsts_new key xs y e = firsts-append key xs (y ∷ []) ∙ rw e refl

-- a test of what is read of a list's elements
pub list_any-map : {X K : Type 0} (read : X → K) (p : K → Bool) (xs : List X) → list_any p (map read xs) ≡ list_any (λ x. p (read x)) xs
list_any-map read p [] = refl
list_any-map read p (x ∷ xs) = ap (λ t. p (read x) || t) (list_any-map read p xs)

-- one text is another, either way
bytes_eq_turned : (x y : List ℕ) → bytes_eq x y ≡ bytes_eq y x
bytes_eq_turned x y = go (bytes_eq x y) (bytes_eq-Decides x y) (bytes_eq y x) (bytes_eq-Decides y x)
  where
    go : (s : Bool) → (s ≡ true → x ≡ y) × (x ≡ y → s ≡ true) → (t : Bool) → (t ≡ true → y ≡ x) × (y ≡ x → t ≡ true) → s ≡ t
    go true is true other = refl
    go true is false other = sym (other.1 (sym (is.0 refl)))
    go false is true other = is.1 (sym (other.0 refl))
    go false is false other = refl

-- one more text is known
pub knows_more : (text : List ℕ) (old new : BTreeSet (String Global)) (texts : List (List ℕ)) → UpdatesBy string_cmp (λ k. slice_cmp nat_cmp text (string_bytes k)) old new true → Knows old texts → Knows new (texts ++ text ∷ [])
knows_more text old new texts updates knows = λ q.
    btree_set_updates_text text old new true updates q ∙ (go q (bytes_eq text q) (bytes_eq_turned text q) (contains_text old q) (knows q) ∙ sym (list_any-append (λ k. bytes_eq q k) texts (text ∷ [])))
  where
    go : (q : List ℕ) (t : Bool) → t ≡ bytes_eq q text → (u : Bool) → u ≡ list_any (λ k. bytes_eq q k) texts → cond t true u ≡ (list_any (λ k. bytes_eq q k) texts || (bytes_eq q text || false))
    go q true e true f = rw (← e, ← f)
    go q true e false f = rw (← e, ← f)
    go q false e true f = rw (← e, ← f)
    go q false e false f = rw (← e, ← f)

-- what an insertion says of a text: whether it was known, and that it is from then on
pub new_is : (text : List ℕ) (kept : String Global) (old new : BTreeSet (String Global)) (added : Bool) → string_bytes kept ≡ text → added ≡ not (contains string_cmp old kept) → UpdatesBy string_cmp (string_cmp kept) old new true
    → (texts : List (List ℕ)) → Knows old texts → (added ≡ not (list_any (λ known. bytes_eq text known) texts)) × Knows new (texts ++ text ∷ [])
new_is text kept old new added same is updates texts knows =
    let P : List ℕ → Type 0 = λ t. (added ≡ not (list_any (λ known. bytes_eq t known) texts)) × Knows new (texts ++ t ∷ []) in
    subst P same (is ∙ ap not (knows (string_bytes kept)), knows_more (string_bytes kept) old new texts updates knows)

-- a text that was known changes no list of first ones
pub known_kept : (seen : BTreeSet (String Global)) (text path : List ℕ) (new : Bool) (list met : List (List ℕ)) → text ≡ path
    → (new ≡ not (list_any (λ known. bytes_eq text known) met)) × Knows seen (met ++ text ∷ []) → new ≡ false → list ≡ firsts (λ p. p) met
    → Knows seen (met ++ path ∷ []) × (list ≡ firsts (λ p. p) (met ++ path ∷ []))
known_kept seen text path new list met same is known kept =
    let P : List ℕ → Type 0 = λ t. Knows seen (met ++ t ∷ []) × (list ≡ firsts (λ p. p) (met ++ t ∷ [])) in
    subst P same (is.1, kept ∙ sym (firsts_known (λ p. p) met text (turned new (list_any (λ known. bytes_eq text known) met) is.0 known)))
  where
    turned : (s t : Bool) → s ≡ not t → s ≡ false → t ≡ true
    turned s true e f = refl
    turned s false e f = let wrong : true ≡ false = sym e ∙ f in cc

-- a text that wasn't known comes last
pub new_kept : (seen : BTreeSet (String Global)) (text path : List ℕ) (new : Bool) (list met : List (List ℕ)) → text ≡ path
    → (new ≡ not (list_any (λ known. bytes_eq text known) met)) × Knows seen (met ++ text ∷ []) → new ≡ true → list ≡ firsts (λ p. p) met
    → Knows seen (met ++ path ∷ []) × (list ++ path ∷ [] ≡ firsts (λ p. p) (met ++ path ∷ []))
new_kept seen text path new list met same is known kept =
    let P : List ℕ → Type 0 = λ t. Knows seen (met ++ t ∷ []) × (list ++ t ∷ [] ≡ firsts (λ p. p) (met ++ t ∷ [])) in
    subst P same (is.1, ap (λ l. l ++ text ∷ []) kept ∙ sym (firsts_new (λ p. p) met text (turned new (list_any (λ known. bytes_eq text known) met) is.0 known)))
  where
    turned : (s t : Bool) → s ≡ not t → s ≡ true → t ≡ false
    turned s true e f = let wrong : false ≡ true = sym e ∙ f in cc
    turned s false e f = refl

-- the name of a layer
abbrev name_of : LayerFound → List ℕ
name_of layer = layer.entry.name

-- a layer whose name was known changes no list of first ones
pub layer_known : (seen : BTreeSet (String Global)) (text : List ℕ) (layer : LayerFound) (new : Bool) (list met : List LayerFound) → text ≡ layer.entry.name
    → (new ≡ not (list_any (λ known. bytes_eq text known) (map name_of met))) × Knows seen (map name_of met ++ text ∷ []) → new ≡ false → list ≡ firsts name_of met
    → Knows seen (map name_of (met ++ layer ∷ [])) × (list ≡ firsts name_of (met ++ layer ∷ []))
layer_known seen text layer new list met same is known kept =
    let P : List ℕ → Type 0 = λ t. (new ≡ not (list_any (λ known. bytes_eq t known) (map name_of met))) × Knows seen (map name_of met ++ t ∷ []) in
    let at : P (name_of layer) = subst P same is in (
      subst (Knows seen) (sym (map-append name_of met (layer ∷ []))) at.1,
      kept ∙ sym (firsts_known name_of met layer (sym (list_any-map name_of (λ known. bytes_eq (name_of layer) known) met) ∙ turned new (list_any (λ known. bytes_eq (name_of layer) known) (map name_of met)) at.0 known)),
    )
  where
    turned : (s t : Bool) → s ≡ not t → s ≡ false → t ≡ true
    turned s true e f = refl
    turned s false e f = let wrong : true ≡ false = sym e ∙ f in cc

-- a layer whose name wasn't known comes last
pub layer_new : (seen : BTreeSet (String Global)) (text : List ℕ) (layer : LayerFound) (new : Bool) (list met : List LayerFound) → text ≡ layer.entry.name
    → (new ≡ not (list_any (λ known. bytes_eq text known) (map name_of met))) × Knows seen (map name_of met ++ text ∷ []) → new ≡ true → list ≡ firsts name_of met
    → Knows seen (map name_of (met ++ layer ∷ [])) × (list ++ layer ∷ [] ≡ firsts name_of (met ++ layer ∷ []))
layer_new seen text layer new list met same is known kept =
    let P : List ℕ → Type 0 = λ t. (new ≡ not (list_any (λ known. bytes_eq t known) (map name_of met))) × Knows seen (map name_of met ++ t ∷ []) in
    let at : P (name_of layer) = subst P same is in (
      subst (Knows seen) (sym (map-append name_of met (layer ∷ []))) at.1,
      ap (λ l. l ++ layer ∷ []) kept ∙ sym (firsts_new name_of met layer (sym (list_any-map name_of (λ known. bytes_eq (name_of layer) known) met) ∙ turned new (list_any (λ known. bytes_eq (name_of layer) known) (map name_of met)) at.0 known)),
    )
  where
    turned : (s t : Bool) → s ≡ not t → s ≡ true → t ≡ false
    turned s true e f = let wrong : false ≡ true = sym e ∙ f in cc
    turned s false e f = refl
