-- Lists of globs that select or disable drivers and layers by name. Source: the Khronos Vulkan-Loader interface documents;
-- that ASCII case is ignored in the three words too is this project's choice.
use Rattle.std.specs.Prelude.{ℕ, ◌≡◌, ◌⊎◌, Bool, true, false, ◌&&◌, ◌||◌, List, map, codes, Any}
use Rattle.std.specs.List.{list_any}
use Rattle.std.specs.Str.{bytes_eq}
use Rattle.env_filters.specs.Entries.{entries_of}
use Rattle.env_filters.specs.Globs.{Form, Pattern, pattern_of, lowered, is_match, Match}
use Rattle.env_filters.specs.declared.glob.Form.TheVariants.{Whole}
use Rattle.env_filters.specs.declared.filters.LayerKindBit.{LayerKindBit}
use Rattle.env_filters.specs.declared.filters.LayerKindBit.TheVariants.{Explicit, Implicit}
pub use Rattle.env_filters.specs.declared.filters.LayerKindBit.{LayerKindBit}

-- the globs that a list holds, between commas
abbrev pub filter_of : List ℕ → List Pattern
filter_of text = map pattern_of (entries_of 44 text)

-- some glob of the list matches the name
abbrev pub Hits : List Pattern → List ℕ → Type 0
Hits globs name = Any (λ glob. Match glob name) globs

-- whether some glob of the list matches the name
abbrev pub hits : List Pattern → List ℕ → Bool
hits globs name = list_any (λ glob. is_match glob name) globs

-- a glob without stars
abbrev pub is_whole : Form → Bool
is_whole Whole = true
is_whole _ = false

-- an entry is a word, in any case
abbrev pub IsWord : List ℕ → Pattern → Type 0
IsWord word entry = (entry.form ≡ Whole) × (lowered entry.part ≡ lowered word)

-- whether an entry is a word, in any case
abbrev pub is_word : List ℕ → Pattern → Bool
is_word word entry = is_whole entry.form && bytes_eq (lowered entry.part) (lowered word)

-- the word for all layers of a kind
abbrev pub word_of : LayerKindBit → List ℕ
word_of Explicit = codes "~explicit~"
word_of Implicit = codes "~implicit~"

-- an entry is a word for all layers, or for all of the kind
abbrev pub Covers : LayerKindBit → Pattern → Type 0
Covers kind entry = IsWord (codes "~all~") entry ⊎ IsWord (word_of kind) entry

-- whether an entry is a word for all layers, or for all of the kind
abbrev pub covers : LayerKindBit → Pattern → Bool
covers kind entry = is_word (codes "~all~") entry || is_word (word_of kind) entry

-- an entry of a disable list matches the name, or is a word that covers its layer's kind
abbrev pub HitsDisable : List Pattern → List ℕ → LayerKindBit → Type 0
HitsDisable globs name kind = Any (λ glob. Match glob name ⊎ Covers kind glob) globs

-- whether an entry of a disable list matches the name, or is a word that covers its layer's kind
abbrev pub hits_disable : List Pattern → List ℕ → LayerKindBit → Bool
hits_disable globs name kind = list_any (λ glob. is_match glob name || covers kind glob) globs
