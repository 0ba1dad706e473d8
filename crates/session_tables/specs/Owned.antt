-- How what lives is found when an owner ends. Source: this project.
use Rattle.std.specs.Prelude.{◌≡◌, ◌≤◌, ◌-◌, ℕ, zero, suc, Bool, true, Some, List, [], ◌∷◌, is_some, length, min, slice_get, unwrap_or, vec_capacity}
use Rattle.std.specs.List.{sum_by}
use Rattle.std.specs.Option.{option_map_or}
use Rattle.object_model.specs.declared.Object.{Object}
use Rattle.object_model.specs.Objects.{is_in}
use Rattle.object_model.specs.History.{Birth, owners_in}
use Rattle.session_tables.specs.declared.birth_table.BirthEntry.{BirthEntry}
use Rattle.session_tables.specs.declared.owned_lists.OwnedLists.{OwnedLists}
use Rattle.session_tables.specs.declared.owned_lists.OwnedNode.{OwnedNode}
use Rattle.session_tables.specs.declared.placed_table.Placed.{Placed}
use Rattle.session_tables.specs.declared.placed_table.PlacedTable.{PlacedTable}
use Rattle.session_tables.specs.Births.{owners_kept}
use Rattle.session_tables.specs.Placed.{ArePlaced, entry_of, placed_in, table_room}

-- the objects of the chain from a link, no more than so many
abbrev pub objects_within : List OwnedNode → ℕ → ℕ → List Object
objects_within nodes zero link = []
objects_within nodes (suc most) zero = []
objects_within nodes (suc most) (suc place) = option_map_or (λ n. n.object ∷ objects_within nodes most n.before) (slice_get nodes place) []

-- all objects of the chain: where links go down they are no more than the link says
abbrev pub objects_from : List OwnedNode → ℕ → List Object
objects_from nodes link = objects_within nodes link link

-- each node links to one before it
abbrev pub GoDown : List OwnedNode → Type 0
GoDown nodes = (i : ℕ) (n : OwnedNode) → slice_get nodes i ≡ Some n → n.before ≤ i

-- the link to an owner's latest node, or 0
abbrev pub head_in : PlacedTable ℕ → Object → ℕ
head_in heads owner = unwrap_or (placed_in heads owner) 0

-- an owner has an entry, though its list may be empty
abbrev pub has_head : PlacedTable ℕ → Object → Bool
has_head heads owner = is_some (entry_of heads.entries.items owner)

-- how many owners these births have, all together
abbrev pub links_of : List (Placed BirthEntry) → ℕ
links_of births = sum_by (λ p. length (owners_kept p.value.owners)) births

-- the objects that are listed at an owner: none where it has no list
abbrev pub listed_in : OwnedLists → Object → List Object
listed_in lists owner = objects_from lists.nodes.items (head_in lists.heads owner)

-- how many further objects can be listed, each at another owner, with no further memory. A link has 32 bits
abbrev pub lists_room : OwnedLists → ℕ
lists_room lists = min (min (vec_capacity lists.nodes) 4294967295 - length lists.nodes.items) (table_room lists.heads)

-- heads lead to nodes, and nodes to those before them
pub record LeadToNodes (heads : PlacedTable ℕ) (nodes : List OwnedNode) : Type 0 where
  pub placed : ArePlaced heads
  pub down : GoDown nodes
  pub within : (owner : Object) → head_in heads owner ≤ length nodes

-- each object that lives is listed at all its owners
abbrev pub AreListed : List Birth → (Object → List Object) → Type 0
AreListed births listed = (owner o : Object) → is_in (owners_in births o) owner ≡ true → is_in (listed owner) o ≡ true
