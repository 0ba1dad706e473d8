-- The chain of layers between an application and the drivers. Source: Khronos Vulkan-Loader, LoaderLayerInterface.md, implicit and
-- explicit layers, meta-layers, the override, VK_INSTANCE_LAYERS and the filters; LoaderApplicationInterface.md, vkCreateInstance.
-- That the override stands last among the implicit layers, the notes, and the limit on layers are this project's choices.
use Rattle.std.specs.Prelude.{ℕ, ◌==◌, nat_le, Bool, true, false, not, ◌&&◌, ◌||◌, List, [], ◌∷◌, ◌++◌, length, map, filter, find, codes, Option, Some, None, is_none, is_some, option_map, unwrap_or, if◌then◌else◌}
use Rattle.std.specs.List.{list_any, flat_map, filter_map}
use Rattle.std.specs.Str.{bytes_eq}
use Rattle.env_filters.specs.Entries.{paths_of}
use Rattle.env_filters.specs.Filters.{hits}
use Rattle.env_filters.specs.declared.filters.LayerKindBit.{LayerKindBit}
use Rattle.env_filters.specs.Variables.{Variable, value_of}
use Rattle.env_filters.specs.declared.filters.LayerKindBit.TheVariants.{Explicit, Implicit}
use Rattle.layer_search.specs.Contents.{DriverFound, LayerFound}
use Rattle.layer_search.specs.Order.{firsts}
use Rattle.chain_build.specs.Setup.{SetupContent}
use Rattle.chain_build.specs.Switches.{filters_of, is_disabled, is_on}
use Rattle.chain_build.specs.Expanding.{ListedLayer, listed, name_of, known_layers, found, is_plain, expansion, expand}
use Rattle.chain_build.specs.Override.{is_override}
use Rattle.chain_build.specs.Parts.{PartKind, first_unguarded, placed_parts}
use Rattle.chain_build.specs.declared.listed.TheConstants.{MOST_LEVELS}
use Rattle.chain_build.specs.declared.answers.TheConstants.{MOST_LAYERS}

-- what is said of a chain beside it: a name of the environment that no layer has, or a layer of the application that is off
pub data NoteOf : Type 0 where
  EnvMissing : (name : List ℕ) → NoteOf
  Off : (name : List ℕ) → NoteOf

-- a chain: its layers from the application down, their parts with the layers' places from 1, the drivers, and the notes
pub record ChainContent : Type 0 where
  pub layers : List LayerFound
  pub parts : List (PartKind × ℕ)
  pub drivers : List DriverFound
  pub notes : List NoteOf

-- what comes of building a chain
pub data Outcome : Type 0 where
  LayerNotPresent : (name : List ℕ) → Outcome
  NoDriver : Outcome
  TooLong : (layers : ℕ) → Outcome
  Unguarded : (layer : List ℕ) → Outcome
  Built : (chain : ChainContent) → Outcome

-- ---- layers that are off

-- the override's list of layers that it turns off
abbrev pub blacklist : Option LayerFound → List (List ℕ)
blacklist None = []
blacklist (Some layer) = layer.entry.blacklist

-- an explicit layer is named by the blacklist; an implicit one never is
abbrev pub is_blacklisted : List (List ℕ) → LayerKindBit → List ℕ → Bool
is_blacklisted names Explicit name = list_any (λ n. bytes_eq n name) names
is_blacklisted names Implicit name = false

-- a layer is off: blacklisted or disabled
abbrev pub is_off : SetupContent → ListedLayer → Bool
is_off setup l = is_blacklisted (blacklist setup.over) l.kind (name_of l) || is_disabled (filters_of setup.env) l.kind (name_of l)

-- ---- layers by name

-- no layer that can be used has the name
abbrev pub is_missing : SetupContent → List ℕ → Bool
is_missing setup name = is_none (expand (known_layers setup) name)

-- the name's layer is off, where there is one
abbrev pub is_found_off : SetupContent → List ℕ → Bool
is_found_off setup name = unwrap_or (option_map (is_off setup) (found (known_layers setup) name)) false

-- the name's layer can be used, and is off
abbrev pub is_named_off : SetupContent → List ℕ → Bool
is_named_off setup name = not (is_missing setup name) && is_found_off setup name

-- the plain layers of names
abbrev pub layers_of : SetupContent → List (List ℕ) → List ListedLayer
layers_of setup names = filter_map (found (known_layers setup)) names

-- the plain layers that a name stands for: none where its layer is missing or off
abbrev pub named_layers : SetupContent → List ℕ → List ListedLayer
named_layers setup name = if is_named_off setup name then [] else layers_of setup (unwrap_or (expand (known_layers setup) name) [])

-- ---- the three pieces of a chain

-- an implicit layer as itself, or as the plain layers of its components
abbrev pub implicit_as : SetupContent → LayerFound → List ListedLayer
implicit_as setup layer =
    if is_plain layer then listed Implicit layer ∷ []
    else layers_of setup (unwrap_or (expansion (known_layers setup) MOST_LEVELS layer) [])

-- an implicit layer that is on comes first, or last where it is the override
abbrev pub takes_turn : SetupContent → Bool → LayerFound → Bool
takes_turn setup last layer = is_on (filters_of setup.env) setup.env layer.entry && (if last then is_override layer else not (is_override layer))

-- the implicit layers that are on, in the order of the search, with the override last
abbrev pub implicit_in_order : SetupContent → List LayerFound
implicit_in_order setup = filter (takes_turn setup false) setup.implicit.list ++ filter (takes_turn setup true) setup.implicit.list

-- what the implicit layers give
unfoldable pub implicit_piece : SetupContent → List ListedLayer
implicit_piece setup = flat_map (implicit_as setup) (implicit_in_order setup)

-- the names that the environment asks for: those of VK_INSTANCE_LAYERS
abbrev pub asked_names : SetupContent → List (List ℕ)
asked_names setup = paths_of (unwrap_or (value_of setup.env (codes "VK_INSTANCE_LAYERS")) [])

-- what an explicit layer stands for that the enable list hits
abbrev pub enabled_layers : SetupContent → LayerFound → List ListedLayer
enabled_layers setup layer = if hits (filters_of setup.env).enable layer.entry.name then named_layers setup layer.entry.name else []

-- what the environment gives: the names that it asks for, and then the enabled explicit layers in the order of the search
unfoldable pub environment_piece : SetupContent → List ListedLayer
environment_piece setup = flat_map (named_layers setup) (asked_names setup) ++ flat_map (enabled_layers setup) setup.explicit.list

-- what the application gives
unfoldable pub application_piece : SetupContent → List (List ℕ) → List ListedLayer
application_piece setup app = flat_map (named_layers setup) app

-- ---- the chain

-- what stays of layers: those that aren't off, of each name the first
abbrev pub kept_layers : SetupContent → List ListedLayer → List ListedLayer
kept_layers setup layers = firsts name_of (filter (λ l. not (is_off setup l)) layers)

-- the layers of the chain from the application down: what stays of the three pieces
unfoldable pub chain_layers : SetupContent → List (List ℕ) → List LayerFound
chain_layers setup app = map (λ l. l.layer) (kept_layers setup (implicit_piece setup ++ (environment_piece setup ++ application_piece setup app)))

-- the note of a name of the environment that is missing
abbrev pub missing_notes : SetupContent → List ℕ → List NoteOf
missing_notes setup name = if is_missing setup name then EnvMissing name ∷ [] else []

-- the note of a name of the application whose layer is off
abbrev pub off_notes : SetupContent → List ℕ → List NoteOf
off_notes setup name = if is_named_off setup name then Off name ∷ [] else []

-- the notes: those of the environment's names and then those of the application's, once for each occurrence
unfoldable pub chain_notes : SetupContent → List (List ℕ) → List NoteOf
chain_notes setup app = flat_map (missing_notes setup) (asked_names setup) ++ flat_map (off_notes setup) app

-- a chain, where no layer is unguarded
abbrev pub guarded_or : Option (List ℕ) → ChainContent → Outcome
guarded_or (Some name) chain = Unguarded name
guarded_or None chain = Built chain

-- what comes of layers: too many, the first that isn't guarded, or the chain
unfoldable pub chain_with : List LayerFound → List DriverFound → List NoteOf → Outcome
chain_with layers drivers notes =
    if nat_le (length layers) MOST_LAYERS
    then guarded_or (first_unguarded layers) (record { layers = layers; parts = placed_parts 1 layers; drivers = drivers; notes = notes })
    else TooLong (length layers)

-- what comes of a setup by its drivers: nothing can be built without one
abbrev pub driven : SetupContent → List (List ℕ) → List DriverFound → Outcome
driven setup app [] = NoDriver
driven setup app (driver ∷ drivers) = chain_with (chain_layers setup app) (driver ∷ drivers) (chain_notes setup app)

-- the refusal for a missing layer, or else what comes of the rest
abbrev pub present_or : Option (List ℕ) → Outcome → Outcome
present_or (Some name) rest = LayerNotPresent name
present_or None rest = rest

-- what comes of a setup and the application's layers: the application's first missing layer, no driver, too many layers, the first layer that isn't guarded, or the chain
unfoldable pub chain_of : SetupContent → List (List ℕ) → Outcome
chain_of setup app = present_or (find (is_missing setup) app) (driven setup app setup.drivers.list)
