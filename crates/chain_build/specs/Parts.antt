-- The checking and wrapping parts of layers. Source: this project, after the names of the Khronos validation layers' libraries.
use Rattle.std.specs.Prelude.{ℕ, ◌+◌, ◌==◌, Bool, true, false, ◌&&◌, ◌||◌, List, [], ◌∷◌, ◌++◌, map, codes, Option, Some, None, if◌then◌else◌, unwrap_or}
use Rattle.std.specs.List.{list_any, flat_map, after_last}
use Rattle.std.specs.Str.{bytes_eq}
use Rattle.layer_search.specs.Contents.{LayerFound}
use Rattle.object_model.specs.declared.PartKind.{PartKind}
use Rattle.object_model.specs.declared.PartKind.TheVariants.{Threads, Lifetimes, Unique}
pub use Rattle.object_model.specs.declared.PartKind.{PartKind}

-- the last component of a path
abbrev pub last_component : List ℕ → List ℕ
last_component path = after_last (λ b. b == 47) path

-- the parts of a library, from the application down
unfoldable pub library_parts : List ℕ → List PartKind
library_parts file =
    if bytes_eq file (codes "libVkLayer_khronos_validation.so") then Threads ∷ Lifetimes ∷ Unique ∷ []
    else (if bytes_eq file (codes "libVkLayer_thread_safety.so") then Threads ∷ []
    else (if bytes_eq file (codes "libVkLayer_object_lifetimes.so") then Lifetimes ∷ []
    else (if bytes_eq file (codes "libVkLayer_unique_objects.so") then Unique ∷ [] else [])))

-- the parts of a layer: those of its library; a layer without one has none
abbrev pub layer_parts : LayerFound → List PartKind
layer_parts layer = library_parts (last_component (unwrap_or layer.entry.library []))

-- the parts of layers, from the application down
abbrev pub parts_in : List LayerFound → List PartKind
parts_in layers = flat_map layer_parts layers

-- a part gives the layers above it handles of its own
abbrev pub is_unique : PartKind → Bool
is_unique Threads = false
is_unique Lifetimes = false
is_unique Unique = true

-- each checking part has a unique part nearer the driver, among the parts below it and those that follow
abbrev pub are_guarded : List PartKind → List PartKind → Bool
are_guarded [] nearer = true
are_guarded (part ∷ parts) nearer = (is_unique part || list_any is_unique (parts ++ nearer)) && are_guarded parts nearer

-- the name of the first layer that has a checking part without a unique part nearer the driver
abbrev pub first_unguarded : List LayerFound → Option (List ℕ)
first_unguarded [] = None
first_unguarded (layer ∷ nearer) = if are_guarded (layer_parts layer) (parts_in nearer) then first_unguarded nearer else Some layer.entry.name

-- the parts of layers with their layers' places, which go on from a number
abbrev pub placed_parts : ℕ → List LayerFound → List (PartKind × ℕ)
placed_parts place [] = []
placed_parts place (layer ∷ layers) = map (λ part. (part, place)) (layer_parts layer) ++ placed_parts (place + 1) layers
