-- The parts of layers and what guards them.
use Rattle.std.proofs.Common.{◌≡◌, ◌∙◌, ℕ, Bool, true, false, ◌||◌, List, [], ◌∷◌, ◌++◌, map, length, get_or, drop, suc, add-one, append_assoc, ◌+◌, ◌<◌, refl, ap, sym}
use Rattle.std.proofs.Math.Seq.{drop-cons}
use Rattle.std.specs.List.{list_any, flat_map}
use Rattle.std.proofs.lemmas.List.Folds.{list_any-append}
use Rattle.layer_search.specs.Contents.{LayerFound, found_layer}
use Rattle.layer_search.specs.declared.found.FoundLayer.{FoundLayer}
use Rattle.chain_build.specs.Parts.{PartKind, layer_parts, parts_in, is_unique, placed_parts}

-- a unique part of some layer is one of the parts of all
pub unique_below : (layers : List FoundLayer) → list_any (λ l. list_any is_unique (layer_parts (found_layer l))) layers ≡ list_any is_unique (parts_in (map found_layer layers))
unique_below [] = refl
unique_below (l ∷ layers) = ap (λ t. list_any is_unique (layer_parts (found_layer l)) || t) (unique_below layers) ∙ sym (list_any-append is_unique (layer_parts (found_layer l)) (parts_in (map found_layer layers)))

-- the parts of one layer more
pub placed_more : (layers : List FoundLayer) (i : ℕ) (x : FoundLayer) (place : ℕ) (placed new : List (PartKind × ℕ)) → i < length layers → x ≡ get_or layers i x
    → new ≡ placed ++ map (λ part. (part, place)) (layer_parts (found_layer x))
    → placed ++ placed_parts place (map found_layer (drop i layers)) ≡ new ++ placed_parts (place + 1) (map found_layer (drop (i + 1) layers))
placed_more layers i x place placed new l at is =
    let step : drop i layers ≡ x ∷ drop (i + 1) layers = rw add-one (drop-cons layers i x l ∙ ap (λ y. y ∷ drop (suc i) layers) (sym at)) in
    ap (λ ys. placed ++ placed_parts place (map found_layer ys)) step
    ∙ (sym (append_assoc placed (map (λ part. (part, place)) (layer_parts (found_layer x))) (placed_parts (place + 1) (map found_layer (drop (i + 1) layers))))
    ∙ ap (λ zs. zs ++ placed_parts (place + 1) (map found_layer (drop (i + 1) layers))) (sym is))
