-- What is built of a setup can be printed.
use Rattle.std.proofs.Common.{◌≡◌, ℕ, ◌+◌, ◌*◌, ◌<◌, ◌≤◌, ◌^◌, Bool, true, false, List, [], ◌∷◌, Option, Some, None, if◌then◌else◌, All, map, length, find, unwrap_or, nat_le, refl, sym, subst, arith, lit<, lit≤, length-append, codes}
use Rattle.std.proofs.lemmas.Bool.{leb-true}
use Rattle.std.proofs.lemmas.List.{length-map}
use Rattle.std.proofs.lemmas.List.Elements.{All-append, All-map}
use Rattle.std.specs.Str.{bytes_eq}
use Rattle.layer_search.specs.Contents.{DriverFound, LayerFound}
use Rattle.chain_build.specs.declared.answers.TheConstants.{MOST_LAYERS}
use Rattle.chain_build.specs.Setup.{SetupContent}
use Rattle.object_model.specs.declared.PartKind.{PartKind}
use Rattle.object_model.specs.declared.PartKind.TheVariants.{Threads, Lifetimes, Unique}
use Rattle.chain_build.specs.Parts.{last_component, layer_parts, library_parts, placed_parts, first_unguarded}
use Rattle.chain_build.specs.Chain.{NoteOf, ChainContent, Outcome, TooLong, guarded_or, chain_with, driven, present_or, chain_of, chain_layers, chain_notes, is_missing}
use Rattle.report_text.specs.Chains.{IsCounted, IsPrintable}

-- a layer has three parts at most
few_in_layer : (file : List ℕ) → length (library_parts file) ≤ 3
unfolding library_parts
few_in_layer file =
    go (bytes_eq file (codes "libVkLayer_khronos_validation.so")) (bytes_eq file (codes "libVkLayer_thread_safety.so"))
    (bytes_eq file (codes "libVkLayer_object_lifetimes.so")) (bytes_eq file (codes "libVkLayer_unique_objects.so"))
  where
    go : (all threads lifetimes unique : Bool)
        → length (if all then Threads ∷ Lifetimes ∷ Unique ∷ [] else (if threads then Threads ∷ [] else (if lifetimes then Lifetimes ∷ [] else (if unique then Unique ∷ [] else [])))) ≤ 3
    go true threads lifetimes unique = lit≤ tt
    go false true lifetimes unique = lit≤ tt
    go false false true unique = lit≤ tt
    go false false false true = lit≤ tt
    go false false false false = lit≤ tt

few_parts : (n : ℕ) (layers : List LayerFound) → length (placed_parts n layers) ≤ 3 * length layers
few_parts n [] = lit≤ tt
few_parts n (x ∷ layers) =
    let front : length (layer_parts x) ≤ 3 = few_in_layer (last_component (unwrap_or x.entry.library [])) in
    let rest : length (placed_parts (n + 1) layers) ≤ 3 * length layers = few_parts (n + 1) layers in
    simp (length-append, length-map) (omega arith)

-- a part's place is that of one of so many layers, from a number on
abbrev Within : ℕ → ℕ → PartKind × ℕ → Type 0
Within n count part = (n ≤ part.1) × (part.1 < n + count)

within : (n : ℕ) (layers : List LayerFound) → All (Within n (length layers)) (placed_parts n layers)
within n [] = λ k d l. absurd (omega arith)
within n (x ∷ layers) =
    All-append (Within n (length (x ∷ layers))) (map (λ part. (part, n)) (layer_parts x)) (placed_parts (n + 1) layers)
    (All-map (Within n (length (x ∷ layers))) (λ part. (part, n)) (layer_parts x) (λ k d l. (omega arith, omega arith)))
    (λ k d l. let rest = within (n + 1) layers k d l in let low = rest.0 in let high = rest.1 in (omega arith, omega arith))

-- layers and their parts, three of each at most, are counted in 32 bits, which suffice for as many as a chain may have
parts_counted : 3 * MOST_LAYERS < 2 ^ 32
parts_counted = lit< tt

-- what is built of few layers and drivers is counted
counted : (layers : List LayerFound) (drivers : List DriverFound) (notes : List NoteOf) → length layers ≤ MOST_LAYERS → length drivers < 2 ^ 32
    → IsCounted (record { layers = layers; parts = placed_parts 1 layers; drivers = drivers; notes = notes })
counted layers drivers notes few less =
    let parts = few_parts 1 layers in
    record {
      places = λ k d l. let at = within 1 layers k d l in let low = at.0 in let high = at.1 in (omega arith, omega arith);
      few_layers = omega (arith, few, parts_counted);
      few_parts = omega (arith, few, parts, parts_counted);
      few_drivers = less;
    }

guarded : (name : Option (List ℕ)) (chain : ChainContent) → IsCounted chain → IsPrintable (guarded_or name chain)
guarded (Some name) chain h = tt
guarded None chain h = h

with_few : (layers : List LayerFound) (drivers : List DriverFound) (notes : List NoteOf) → length drivers < 2 ^ 32 → IsPrintable (chain_with layers drivers notes)
unfolding chain_with
with_few layers drivers notes less = go (nat_le (length layers) MOST_LAYERS) (leb-true (length layers) MOST_LAYERS)
  where
    go : (b : Bool) → (b ≡ true → length layers ≤ MOST_LAYERS)
        → IsPrintable (if b then guarded_or (first_unguarded layers) (record { layers = layers; parts = placed_parts 1 layers; drivers = drivers; notes = notes }) else TooLong (length layers))
    go true few = guarded (first_unguarded layers) _ (counted layers drivers notes (few refl) less)
    go false few = tt

by_drivers : (setup : SetupContent) (app : List (List ℕ)) (drivers : List DriverFound) → length drivers < 2 ^ 32 → IsPrintable (driven setup app drivers)
by_drivers setup app [] less = tt
by_drivers setup app (driver ∷ drivers) less = with_few (chain_layers setup app) (driver ∷ drivers) (chain_notes setup app) less

or_missing : (name : Option (List ℕ)) (rest : Outcome) → IsPrintable rest → IsPrintable (present_or name rest)
or_missing (Some name) rest h = tt
or_missing None rest h = h

of_few_drivers : (setup : SetupContent) (app : List (List ℕ)) → length setup.drivers.list < 2 ^ 32 → IsPrintable (chain_of setup app)
unfolding chain_of
of_few_drivers setup app less = or_missing (find (is_missing setup) app) (driven setup app setup.drivers.list) (by_drivers setup app setup.drivers.list less)

-- what is built of a setup with few drivers can be printed
pub built_is_printable : (outcome : Outcome) (setup : SetupContent) (app : List (List ℕ)) → outcome ≡ chain_of setup app → length setup.drivers.list < 2 ^ 32 → IsPrintable outcome
built_is_printable outcome setup app built less = subst IsPrintable (sym built) (of_few_drivers setup app less)
