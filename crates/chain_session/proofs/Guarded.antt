-- Every chain that a setup of manifests gives has a unique part below each checking part.
use Rattle.std.proofs.Common.{◌≡◌, ◌∙◌, ◌&&◌, ◌++◌, ◌+◌, ℕ, Bool, true, false, cond, Option, Some, None, List, [], ◌∷◌, length, map, refl, ap, sym}
use Rattle.std.proofs.lemmas.List.{map-append}
use Rattle.std.specs.Prelude.{find, nat_le}
use Rattle.std.specs.List.{list_any}
use Rattle.env_filters.specs.Entries.{layer_names_of}
use Rattle.layer_search.specs.Contents.{DriverFound, LayerFound}
use Rattle.object_model.specs.declared.PartKind.{PartKind}
use Rattle.object_model.specs.declared.PartKind.TheVariants.{Threads, Lifetimes, Unique}
use Rattle.replay_model.specs.Setup.{parts_of}
use Rattle.layer_model.specs.Walks.{are_parts_guarded, has_unique_kind}
use Rattle.layer_model.proofs.Same.{and_true}
use Rattle.chain_model.specs.Traces.{GivesGuarded}
use Rattle.chain_build.specs.declared.answers.TheConstants.{MOST_LAYERS}
use Rattle.chain_build.specs.Chain as built
use Rattle.chain_build.specs.Chain.{NoteOf, chain_layers, chain_notes, chain_of, chain_with, driven, guarded_or, is_missing, present_or}
use Rattle.chain_build.specs.Parts.{are_guarded, first_unguarded, is_unique, layer_parts, parts_in, placed_parts}
use Rattle.chain_build.specs.Setup.{SetupContent}
use Rattle.report_text.specs.Setups.{outcome_of, trace_setup}

unique_kind : (kinds : List PartKind) → list_any is_unique kinds ≡ has_unique_kind kinds
unique_kind [] = refl
unique_kind (Threads ∷ kinds) = unique_kind kinds
unique_kind (Lifetimes ∷ kinds) = unique_kind kinds
unique_kind (Unique ∷ kinds) = refl

both : (a b : Bool) → a ≡ true → b ≡ true → (a && b) ≡ true
both a b e f = ap (λ u. u && b) e ∙ f

-- parts that are guarded stand above others that are
guarded_above : (parts nearer : List PartKind) → are_guarded parts nearer ≡ true → are_parts_guarded nearer ≡ true → are_parts_guarded (parts ++ nearer) ≡ true
guarded_above [] nearer e f = f
guarded_above (Threads ∷ parts) nearer e f =
    let two = and_true (list_any is_unique (parts ++ nearer)) (are_guarded parts nearer) e in both (has_unique_kind (parts ++ nearer)) (are_parts_guarded (parts ++ nearer)) (sym (unique_kind (parts ++ nearer)) ∙ two.0) (guarded_above parts nearer two.1 f)
guarded_above (Lifetimes ∷ parts) nearer e f =
    let two = and_true (list_any is_unique (parts ++ nearer)) (are_guarded parts nearer) e in both (has_unique_kind (parts ++ nearer)) (are_parts_guarded (parts ++ nearer)) (sym (unique_kind (parts ++ nearer)) ∙ two.0) (guarded_above parts nearer two.1 f)
guarded_above (Unique ∷ parts) nearer e f = guarded_above parts nearer e f

-- where no layer is unguarded, no part is
all_guarded : (layers : List LayerFound) → first_unguarded layers ≡ None → are_parts_guarded (parts_in layers) ≡ true
all_guarded [] e = refl
all_guarded (layer ∷ nearer) e = go (are_guarded (layer_parts layer) (parts_in nearer)) refl e (all_guarded nearer)
  where
    go : (u : Bool) → are_guarded (layer_parts layer) (parts_in nearer) ≡ u → cond u (first_unguarded nearer) (Some layer.entry.name) ≡ None → (first_unguarded nearer ≡ None → are_parts_guarded (parts_in nearer) ≡ true) → are_parts_guarded (layer_parts layer ++ parts_in nearer) ≡ true
    go true g f ih = guarded_above (layer_parts layer) (parts_in nearer) g (ih f)
    go false g f ih = cc

place_kinds : (place : ℕ) (parts : List PartKind) → map (λ (p : PartKind × ℕ). p.0) (map (λ part. (part, place)) parts) ≡ parts
place_kinds place [] = refl
place_kinds place (p ∷ parts) = ap (λ ps. p ∷ ps) (place_kinds place parts)

placed_kinds : (place : ℕ) (layers : List LayerFound) → map (λ (p : PartKind × ℕ). p.0) (placed_parts place layers) ≡ parts_in layers
placed_kinds place [] = refl
placed_kinds place (layer ∷ layers) =
    map-append (λ (p : PartKind × ℕ). p.0) (map (λ part. (part, place)) (layer_parts layer)) (placed_parts (place + 1) layers)
    ∙ (ap (λ ps. ps ++ map (λ (p : PartKind × ℕ). p.0) (placed_parts (place + 1) layers)) (place_kinds place (layer_parts layer)) ∙ ap (λ ps. layer_parts layer ++ ps) (placed_kinds (place + 1) layers))

-- what is built is guarded, where anything is
guarded_unless : (f : Option (List ℕ)) (layers : List LayerFound) (drivers : List DriverFound) (notes : List NoteOf) → first_unguarded layers ≡ f → are_parts_guarded (parts_of (outcome_of (guarded_or f (record { layers = layers; parts = placed_parts 1 layers; drivers = drivers; notes = notes })))) ≡ true
guarded_unless None layers drivers notes e = ap are_parts_guarded (placed_kinds 1 layers) ∙ all_guarded layers e
guarded_unless (Some name) layers drivers notes e = refl

with_guarded : (layers : List LayerFound) (drivers : List DriverFound) (notes : List NoteOf) → are_parts_guarded (parts_of (outcome_of (chain_with layers drivers notes))) ≡ true
unfolding chain_with
with_guarded layers drivers notes = go (nat_le (length layers) MOST_LAYERS)
  where
    go : (u : Bool) → are_parts_guarded (parts_of (outcome_of (cond u (guarded_or (first_unguarded layers) (record { layers = layers; parts = placed_parts 1 layers; drivers = drivers; notes = notes })) (built.TooLong (length layers))))) ≡ true
    go true = guarded_unless (first_unguarded layers) layers drivers notes refl
    go false = refl

driven_guarded : (setup : SetupContent) (app : List (List ℕ)) (drivers : List DriverFound) → are_parts_guarded (parts_of (outcome_of (driven setup app drivers))) ≡ true
driven_guarded setup app [] = refl
driven_guarded setup app (driver ∷ drivers) = with_guarded (chain_layers setup app) (driver ∷ drivers) (chain_notes setup app)

present_guarded : (f : Option (List ℕ)) (rest : built.Outcome) → are_parts_guarded (parts_of (outcome_of rest)) ≡ true → are_parts_guarded (parts_of (outcome_of (present_or f rest))) ≡ true
present_guarded None rest e = e
present_guarded (Some name) rest e = refl

chain_guarded : (setup : SetupContent) (app : List (List ℕ)) → are_parts_guarded (parts_of (outcome_of (chain_of setup app))) ≡ true
unfolding chain_of
chain_guarded setup app = present_guarded (find (is_missing setup) app) (driven setup app setup.drivers.list) (driven_guarded setup app setup.drivers.list)

pub gives_guarded : (setup : SetupContent) → GivesGuarded (trace_setup setup)
gives_guarded setup payload = chain_guarded setup (layer_names_of payload)
