-- What stands in memory while a search goes on. Source: this project.
use Rattle.std.specs.Prelude.{◌≡◌, ℕ, List, map, string_bytes}
use Rattle.std.specs.BTreeSet.{BTreeSet, contains_text}
use Rattle.std.specs.List.{list_any}
use Rattle.std.specs.Str.{bytes_eq}
use Rattle.std.specs.declared.string.String.{String}
use Rattle.std.specs.Global.{Global}
use Rattle.layer_search.specs.Contents.{LayerFound, NoteContent, found_layer, note_content}
use Rattle.layer_search.specs.Order.{firsts}
use Rattle.layer_search.specs.declared.gathered.Gathered.{Gathered}
use Rattle.layer_search.specs.declared.path_list.PathList.{PathList}

-- a set holds just the texts of a list
abbrev pub Knows : BTreeSet (String Global) → List (List ℕ) → Type 0
Knows seen texts = (text : List ℕ) → contains_text seen text ≡ list_any (λ known. bytes_eq text known) texts

-- the paths so far, from all that were met
pub record Collects (paths : PathList) (met : List (List ℕ)) : Type 0 where
  pub knows : Knows paths.seen met
  pub kept : map string_bytes paths.list.items ≡ firsts (λ path. path) met

-- the layers and notes so far, from all layers and notes that were met
pub record Gathers (gathered : Gathered) (met : List LayerFound) (notes : List NoteContent) : Type 0 where
  pub knows : Knows gathered.seen (map (λ layer. layer.entry.name) met)
  pub kept : map found_layer gathered.list.items ≡ firsts (λ layer. layer.entry.name) met
  pub noted : map note_content gathered.notes.items ≡ notes
