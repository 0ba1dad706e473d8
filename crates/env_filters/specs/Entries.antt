-- The entries of a list in a variable's value. Source: the Khronos Vulkan-Loader interface documents.
use Rattle.std.specs.Prelude.{ℕ, not, ◌==◌, List, length, filter}
use Rattle.std.specs.List.{slice_split}

-- a list has entries between its separators, and empty ones are dropped
abbrev pub entries_of : ℕ → List ℕ → List (List ℕ)
entries_of separator text = filter (λ entry. not (length entry == 0)) (slice_split (λ b. b == separator) text)

-- the folders and files that a value names, between colons
abbrev pub paths_of : List ℕ → List (List ℕ)
paths_of text = entries_of 58 text

-- the layers that an application names, between commas
abbrev pub layer_names_of : List ℕ → List (List ℕ)
layer_names_of text = entries_of 44 text
