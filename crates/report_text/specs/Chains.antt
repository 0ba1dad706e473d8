-- The lines of a chain, or the one line that says why there is none. Source: this project.
use Rattle.std.specs.Prelude.{ℕ, ◌-◌, ◌<◌, ◌≤◌, ◌^◌, All, List, [], ◌++◌, length, codes, decimal, slice_get, ⊤}
use Rattle.std.specs.List.{flat_map, enumerate_from}
use Rattle.std.specs.Option.{option_map_or}
use Rattle.layer_search.specs.Contents.{DriverFound, LayerFound}
use Rattle.object_model.specs.declared.PartKind.{PartKind}
use Rattle.object_model.specs.declared.PartKind.TheVariants.{Threads, Lifetimes, Unique}
use Rattle.chain_build.specs.Chain.{NoteOf, EnvMissing, Off, ChainContent, Outcome, LayerNotPresent, NoDriver, TooLong, Unguarded, Built}
use Rattle.report_text.specs.Libraries.{library_text}

-- ---- one line

-- what is said beside a chain
abbrev pub chain_note_text : NoteOf → List ℕ
chain_note_text (EnvMissing name) = codes "note EnvMissing " ++ name ++ codes "\n"
chain_note_text (Off name) = codes "note Off " ++ name ++ codes "\n"

-- a layer, with its number, its name and its manifest's path
abbrev pub layer_line : ℕ → LayerFound → List ℕ
layer_line n layer = codes "layer " ++ decimal n ++ codes " " ++ layer.entry.name ++ codes " " ++ layer.path ++ codes "\n"

-- what a part does
abbrev pub part_name : PartKind → List ℕ
part_name Threads = codes "threads"
part_name Lifetimes = codes "lifetimes"
part_name Unique = codes "unique"

-- the name of the layer at a place, from 1
abbrev pub layer_name_at : List LayerFound → ℕ → List ℕ
layer_name_at layers place = option_map_or (λ layer. layer.entry.name) (slice_get layers (place - 1)) []

-- a part, with its number, what it does, and the name of the layer at its place
abbrev pub part_line : List LayerFound → ℕ → PartKind × ℕ → List ℕ
part_line layers n part = codes "part " ++ decimal n ++ codes " " ++ part_name part.0 ++ codes " " ++ layer_name_at layers part.1 ++ codes "\n"

-- a driver, with its number, its manifest's path and where its library is
abbrev pub driver_line : ℕ → DriverFound → List ℕ
driver_line n driver = codes "driver " ++ decimal n ++ codes " " ++ driver.path ++ codes " " ++ library_text driver.path driver.entry.library ++ codes "\n"

-- the first line of a chain at the call with a number: how many layers, parts and drivers it has
abbrev pub counts_line : ℕ → ℕ → ℕ → ℕ → List ℕ
counts_line call layers parts drivers =
    codes "chain " ++ decimal call ++ codes " ok layers=" ++ decimal layers ++ codes " parts=" ++ decimal parts ++ codes " drivers=" ++ decimal drivers ++ codes "\n"

-- ---- all lines

-- the lines of elements that are numbered from 1
abbrev pub numbered : {X : Type 0} → (ℕ → X → List ℕ) → List X → List ℕ
numbered line xs = flat_map (λ pair. line pair.0 pair.1) (enumerate_from 1 xs)

-- the lines of a chain: its counts, its notes, its layers and its parts from the application down, and its drivers
unfoldable pub chain_lines : ℕ → ChainContent → List ℕ
chain_lines call chain =
    counts_line call (length chain.layers) (length chain.parts) (length chain.drivers)
    ++ flat_map chain_note_text chain.notes
    ++ numbered layer_line chain.layers
    ++ numbered (part_line chain.layers) chain.parts
    ++ numbered driver_line chain.drivers

-- the lines of what comes of building a chain at the call with a number; a chain that is too long has none
unfoldable pub answer_text : ℕ → Outcome → List ℕ
answer_text call (LayerNotPresent name) = codes "chain " ++ decimal call ++ codes " layer-not-present " ++ name ++ codes "\n"
answer_text call NoDriver = codes "chain " ++ decimal call ++ codes " no-driver\n"
answer_text call (TooLong layers) = []
answer_text call (Unguarded layer) = codes "chain " ++ decimal call ++ codes " unguarded " ++ layer ++ codes "\n"
answer_text call (Built chain) = chain_lines call chain

-- ---- what can be printed

-- a part's number is the place of one of the layers, from 1
abbrev pub IsPlaceOf : List LayerFound → PartKind × ℕ → Type 0
IsPlaceOf layers part = (1 ≤ part.1) × (part.1 ≤ length layers)

-- a chain with a place for each part, and fewer than 2^32 layers, parts and drivers
pub record IsCounted (chain : ChainContent) : Type 0 where
  pub places : All (IsPlaceOf chain.layers) chain.parts
  pub few_layers : length chain.layers < 2 ^ 32
  pub few_parts : length chain.parts < 2 ^ 32
  pub few_drivers : length chain.drivers < 2 ^ 32

-- what comes of building a chain can be printed: it is no chain, or one that is counted
abbrev pub IsPrintable : Outcome → Type 0
IsPrintable (Built chain) = IsCounted chain
IsPrintable (LayerNotPresent name) = ⊤
IsPrintable NoDriver = ⊤
IsPrintable (TooLong layers) = ⊤
IsPrintable (Unguarded layer) = ⊤
