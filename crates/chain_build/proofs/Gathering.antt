-- The pieces of a chain, layer by layer.
use Rattle.std.proofs.Common.{◌≡◌, ◌∙◌, ℕ, ◌+◌, ◌<◌, Bool, true, false, not, cond, ◌||◌, List, [], ◌∷◌, ◌++◌, map, filter, length, get_or, take, refl, ap, sym, subst, append_assoc, append-nil, Option, Some, None, unwrap_or, is_some, option_map, String, Global, string_bytes}
use Rattle.std.specs.List.{list_any, flat_map, filter_map}
use Rattle.std.proofs.lemmas.List.{map-append, take_more}
use Rattle.std.proofs.lemmas.List.Elements.{filter-append, filter_map-append}
use Rattle.std.proofs.lemmas.List.Concat.{flat_map-append}
use Rattle.layer_search.specs.Contents.{LayerFound}
use Rattle.env_filters.specs.declared.filters.LayerKindBit.TheVariants.{Implicit}
use Rattle.chain_build.specs.Chain.{kept_layers, is_off, layers_of, named_layers, implicit_as, takes_turn, asked_names, enabled_layers, implicit_piece, environment_piece, application_piece}
use Rattle.chain_build.specs.Expanding.{ListedLayer, listed, name_of, known_layers, found, is_plain, expansion}
use Rattle.chain_build.specs.Setup.{SetupContent}
use Rattle.chain_build.specs.declared.listed.TheConstants.{MOST_LEVELS}

-- a test of texts is a test of their bytes
pub any_of_texts : (p : List ℕ → Bool) (texts : List (String Global)) → list_any p (map string_bytes texts) ≡ list_any (λ t. p (string_bytes t)) texts
any_of_texts p [] = refl
any_of_texts p (t ∷ texts) = ap (λ r. p (string_bytes t) || r) (any_of_texts p texts)

-- one that passes stays last
pub filter_one : {X : Type 0} (off : X → Bool) (met : List X) (l : X) (t : Bool) → t ≡ off l → t ≡ false → filter (λ x. not (off x)) met ++ l ∷ [] ≡ filter (λ x. not (off x)) (met ++ l ∷ [])
filter_one off met l t is e = sym (filter-append (λ x. not (off x)) met (l ∷ []) ∙ ap (λ u. filter (λ x. not (off x)) met ++ cond (not u) (l ∷ []) []) (sym is ∙ e))

-- an option that is read is there where it was
pub mapped_some : {X Y : Type 0} (f : X → Y) (o : Option X) → is_some (option_map f o) ≡ is_some o
mapped_some f None = refl
mapped_some f (Some x) = refl

-- one element more, of which a piece is made
pub steps_more : {X K B : Type 0} (F : List K → List B) → ((xs ys : List K) → F (xs ++ ys) ≡ F xs ++ F ys) → (read : X → K) (met : List B) (xs : List X) (i : ℕ) (x d : X) → i < length xs → x ≡ get_or xs i d
    → (met ++ F (map read (take i xs))) ++ F (read x ∷ []) ≡ met ++ F (map read (take (i + 1) xs))
steps_more F joins read met xs i x d l at =
    append_assoc met (F (map read (take i xs))) (F (read x ∷ [])) ∙ ap (λ ys. met ++ ys) (sym (joins (map read (take i xs)) (read x ∷ []))
    ∙ ap F (ap (λ y. map read (take i xs) ++ read y ∷ []) at ∙ sym (ap (map read) (take_more xs i d l) ∙ map-append read (take i xs) _)))

-- layers are found name by name
pub layers_join : (s : SetupContent) (xs ys : List (List ℕ)) → layers_of s (xs ++ ys) ≡ layers_of s xs ++ layers_of s ys
layers_join s xs ys = filter_map-append (found (known_layers s)) xs ys

-- what names stand for joins
pub named_join : (s : SetupContent) (xs ys : List (List ℕ)) → flat_map (named_layers s) (xs ++ ys) ≡ flat_map (named_layers s) xs ++ flat_map (named_layers s) ys
named_join s xs ys = flat_map-append (named_layers s) xs ys

-- what implicit layers stand for joins
pub implicit_join : (s : SetupContent) (last : Bool) (xs ys : List LayerFound) → flat_map (implicit_as s) (filter (takes_turn s last) (xs ++ ys)) ≡ flat_map (implicit_as s) (filter (takes_turn s last) xs) ++ flat_map (implicit_as s) (filter (takes_turn s last) ys)
implicit_join s last xs ys = ap (flat_map (implicit_as s)) (filter-append (takes_turn s last) xs ys) ∙ flat_map-append (implicit_as s) (filter (takes_turn s last) xs) (filter (takes_turn s last) ys)

-- one layer that passes, and one that doesn't
pub one_taken : {X B : Type 0} (g : X → List B) (p : X → Bool) (x : X) (t : Bool) → t ≡ p x → t ≡ true → g x ≡ flat_map g (filter p (x ∷ []))
one_taken g p x t is e = sym (ap (λ u. flat_map g (cond u (x ∷ []) [])) (sym is ∙ e) ∙ append-nil (g x))

pub one_left : {X B : Type 0} (g : X → List B) (p : X → Bool) (x : X) (t : Bool) → t ≡ p x → t ≡ false → [] ≡ flat_map g (filter p (x ∷ []))
one_left g p x t is e = sym (ap (λ u. flat_map g (cond u (x ∷ []) [])) (sym is ∙ e))

-- an implicit meta-layer gives what its components stand for
pub implicit_named : (s : SetupContent) (own : List ListedLayer) (layer : LayerFound) (names : Option (List (List ℕ))) → own ≡ known_layers s → is_plain layer ≡ false → names ≡ expansion own MOST_LEVELS layer
    → layers_of s (unwrap_or names []) ≡ implicit_as s layer
implicit_named s own layer names same meta stands =
    let P : List ListedLayer → Type 0 = λ ls. names ≡ expansion ls MOST_LEVELS layer in
    sym (ap (λ t. cond t (listed Implicit layer ∷ []) (layers_of s (unwrap_or (expansion (known_layers s) MOST_LEVELS layer) []))) meta ∙ ap (λ o. layers_of s (unwrap_or o [])) (sym (subst P same stands)))

-- the pieces one behind the other are the chain's pieces
pub all_pieces : (s : SetupContent) (asked app : List (List ℕ)) → asked ≡ asked_names s
    → (((([] ++ flat_map (implicit_as s) (filter (takes_turn s false) s.implicit.list)) ++ flat_map (implicit_as s) (filter (takes_turn s true) s.implicit.list)) ++ flat_map (named_layers s) asked)
    ++ flat_map (enabled_layers s) s.explicit.list) ++ flat_map (named_layers s) app
    ≡ implicit_piece s ++ (environment_piece s ++ application_piece s app)
unfolding implicit_piece environment_piece application_piece
all_pieces s asked app is =
    let first : List LayerFound = filter (takes_turn s false) s.implicit.list in
    let last : List LayerFound = filter (takes_turn s true) s.implicit.list in
    let x : List ListedLayer = flat_map (implicit_as s) first ++ flat_map (implicit_as s) last in
    let a : List ListedLayer = flat_map (named_layers s) asked in
    let e : List ListedLayer = flat_map (enabled_layers s) s.explicit.list in
    let p : List ListedLayer = flat_map (named_layers s) app in
    append_assoc (x ++ a) e p ∙ (append_assoc x a (e ++ p) ∙ (ap (λ zs. x ++ zs) (sym (append_assoc a e p))
    ∙ (ap (λ ys. ys ++ ((a ++ e) ++ p)) (sym (flat_map-append (implicit_as s) first last)) ∙ ap (λ names. flat_map (implicit_as s) (first ++ last) ++ ((flat_map (named_layers s) names ++ e) ++ p)) is)))
