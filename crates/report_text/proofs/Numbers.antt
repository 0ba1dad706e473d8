-- Lines that are numbered from 1, one more at each step.
use Rattle.std.proofs.Common.{◌≡◌, ◌∙◌, ℕ, zero, suc, ◌+◌, ◌-◌, ◌<◌, ◌≤◌, List, [], ◌∷◌, ◌++◌, map, length, get_or, take, refl, ap, sym, arith, add-zero, add-one, append-nil, append_assoc, string_bytes}
use Rattle.std.proofs.lemmas.List.{take_all}
use Rattle.std.specs.List.{flat_map, enumerate_from, slice_get}
use Rattle.std.specs.Option.{option_map_or}
use Rattle.layer_search.specs.Contents.{found_layer}
use Rattle.layer_search.specs.declared.found.FoundLayer.{FoundLayer}
use Rattle.report_text.specs.Chains.{numbered, layer_name_at}

module _ {X : Type 0} (line : ℕ → X → List ℕ) where
  -- the lines of elements that are numbered from a number
  abbrev from : ℕ → List X → List ℕ
  from n xs = flat_map (λ pair. line pair.0 pair.1) (enumerate_from n xs)

  more_from : (n : ℕ) (xs : List X) (i : ℕ) (d : X) → i < length xs → from n (take (suc i) xs) ≡ from n (take i xs) ++ line (n + i) (get_or xs i d)
  more_from n [] i d l = absurd (omega arith)
  more_from n (x ∷ xs) zero d l = append-nil (line n x) ∙ ap (λ m. line m x) (sym (add-zero n))
  more_from n (x ∷ xs) (suc i) d l =
      ap (λ t. line n x ++ t) (more_from (n + 1) xs i d (omega arith))
      ∙ (sym (append_assoc (line n x) (from (n + 1) (take i xs)) (line (n + 1 + i) (get_or xs i d)))
      ∙ ap (λ m. (line n x ++ from (n + 1) (take i xs)) ++ line m (get_or xs i d)) (omega arith))

  -- one line more
  pub one_more : (xs : List X) (i : ℕ) (d x : X) (start old new : List ℕ) → i < length xs → x ≡ get_or xs i d → old ≡ start ++ numbered line (take i xs) → new ≡ old ++ line (i + 1) x
      → new ≡ start ++ numbered line (take (i + 1) xs)
  one_more xs i d x start old new l at was is =
      let step : numbered line (take (i + 1) xs) ≡ numbered line (take i xs) ++ line (i + 1) x =
      ap (λ n. numbered line (take n xs)) (add-one i)
      ∙ (more_from 1 xs i d l ∙ (ap (λ y. numbered line (take i xs) ++ line (1 + i) y) (sym at) ∙ ap (λ n. numbered line (take i xs) ++ line n x) (omega arith))) in
      is ∙ (ap (λ t. t ++ line (i + 1) x) was ∙ (append_assoc start (numbered line (take i xs)) (line (i + 1) x) ∙ ap (λ t. start ++ t) (sym step)))

-- the lines of what elements hold
map_from : {X Y : Type 0} (line : ℕ → Y → List ℕ) (view : X → Y) (n : ℕ) (xs : List X) → from (λ k x. line k (view x)) n xs ≡ from line n (map view xs)
map_from line view n [] = refl
map_from line view n (x ∷ xs) = ap (λ t. line n (view x) ++ t) (map_from line view (n + 1) xs)

-- all lines, once each element is met
pub all_lines : {X Y : Type 0} (line : ℕ → Y → List ℕ) (view : X → Y) (xs : List X) (i : ℕ) (start text : List ℕ) → length xs ≤ i
    → text ≡ start ++ numbered (λ n x. line n (view x)) (take i xs) → text ≡ start ++ numbered line (map view xs)
all_lines line view xs i start text all is =
    is ∙ ap (λ t. start ++ t) (ap (numbered (λ n x. line n (view x))) (take_all i xs all) ∙ map_from line view 1 xs)

-- the name of a layer in a list
name_in : (layers : List FoundLayer) (i : ℕ) (d : FoundLayer) → i < length layers → option_map_or (λ layer. layer.entry.name) (slice_get (map found_layer layers) i) [] ≡ string_bytes (get_or layers i d).entry.name
name_in [] i d l = absurd (omega arith)
name_in (x ∷ layers) zero d l = refl
name_in (x ∷ layers) (suc i) d l = name_in layers i d (omega arith)

-- the same of the layer at a place, from 1
pub name_at : (layers : List FoundLayer) (place : ℕ) (x : FoundLayer) → 1 ≤ place → place ≤ length layers → x ≡ get_or layers (place - 1) x → string_bytes x.entry.name ≡ layer_name_at (map found_layer layers) place
name_at layers place x low high at = ap (λ y. string_bytes y.entry.name) at ∙ sym (name_in layers (place - 1) x (omega arith))
