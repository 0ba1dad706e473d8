-- The stored rows of a chain's table. Source: Khronos Vulkan-Loader, LoaderLayerInterface.md (dispatch chains); which commands a part
-- intercepts is the machine's.
use Rattle.std.specs.Prelude.{◌≡◌, ℕ, ◌+◌, ◌-◌, List, [], ◌∷◌, map, slice_get, Vec, if◌then◌else◌}
use Rattle.std.specs.Option.{option_map_or}
use Rattle.command_tables.specs.Numbers.{number_of}
use Rattle.command_tables.specs.declared.types.CommandId.{CommandId}
use Rattle.command_tables.specs.declared.lookup.TheConstants.{COMMANDS}
use Rattle.command_tables.specs.Calls.{CallContent}
use Rattle.object_model.specs.declared.PartKind.{PartKind}
use Rattle.layer_model.specs.Walks.{intercepts}
use Rattle.dispatch_chain.specs.declared.entry.Entry.{Entry}

-- the kinds of placed parts
abbrev pub kinds_placed : List (PartKind × ℕ) → List PartKind
kinds_placed parts = map (λ p. p.0) parts

-- the parts that intercept a command, where the first of these has this place
abbrev pub entries_from : CommandId → ℕ → List PartKind → List Entry
entries_from cmd place [] = []
entries_from cmd place (k ∷ ks) = if intercepts k cmd then record { place = place; kind = k } ∷ entries_from cmd (place + 1) ks else entries_from cmd (place + 1) ks

-- the parts of a chain that intercept a command, from the application down
abbrev pub entries_of : CommandId → List PartKind → List Entry
entries_of cmd kinds = entries_from cmd 1 kinds

-- a row for each command, in the order of their numbers
abbrev pub rows_of : List PartKind → List (List Entry)
rows_of kinds = map (λ cmd. entries_of cmd kinds) COMMANDS

-- at the number of each command stands its row; where nothing stands there, no part intercepts it
pub record AreRows {A : Type 0} (kinds : List PartKind) (rows : List (Vec Entry A)) : Type 0 where
  pub each : (cmd : CommandId) → option_map_or (λ row. row.items) (slice_get rows (number_of cmd - 1)) [] ≡ entries_of cmd kinds

-- the forms above the parts that intercept the command, among those above all parts that were reached
abbrev pub picked : CommandId → List PartKind → List CallContent → List CallContent
picked cmd [] forms = []
picked cmd (k ∷ ks) [] = []
picked cmd (k ∷ ks) (c ∷ cs) = if intercepts k cmd then c ∷ picked cmd ks cs else picked cmd ks cs
