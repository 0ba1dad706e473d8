-- The globs of the loader's filters. Source: the Khronos Vulkan-Loader interface documents, filtering of drivers and layers;
-- that ASCII case is ignored is this project's choice.
use Rattle.std.specs.Prelude.{ℕ, ◌≡◌, ◌-◌, Bool, if◌then◌else◌, ◌==◌, ◌&&◌, ◌||◌, nat_eq, nat_le, List, [], ◌∷◌, ◌++◌, length, take, drop, slice_index, slice_range}
use Rattle.std.specs.List.{starts_with, ends_with}
use Rattle.std.specs.Str.{bytes_eq, str_to_ascii_lowercase}
use Rattle.env_filters.specs.declared.glob.Form.{Form}
use Rattle.env_filters.specs.declared.glob.Form.TheVariants.{Whole, Prefix, Suffix, Infix}
pub use Rattle.env_filters.specs.declared.glob.Form.{Form}

-- a glob: where its part has to stand in a name
pub record Pattern : Type 0 where
  pub form : Form
  pub part : List ℕ

-- a text with its ASCII capitals lowered
abbrev pub lowered : List ℕ → List ℕ
lowered bs = str_to_ascii_lowercase bs

-- a text begins with a star
abbrev pub begins_with_star : List ℕ → Bool
begins_with_star text = slice_index text 0 == 42

-- a text ends with a star
abbrev pub ends_with_star : List ℕ → Bool
ends_with_star text = slice_index text (length text - 1) == 42

-- a star at both ends makes an infix, where they are two; else one at the front a suffix, one at the end a prefix, and none a whole text
abbrev pub form_of : List ℕ → Form
form_of text =
    if begins_with_star text && (ends_with_star text && nat_le 2 (length text)) then Infix
    else (if begins_with_star text then Suffix else (if ends_with_star text then Prefix else Whole))

-- a glob's text without the stars that make its form
abbrev pub part_of : Form → List ℕ → List ℕ
part_of Whole text = text
part_of Prefix text = take (length text - 1) text
part_of Suffix text = drop 1 text
part_of Infix text = slice_range text 1 (length text - 1)

-- the glob that a text spells
abbrev pub pattern_of : List ℕ → Pattern
pattern_of text = record { form = form_of text; part = part_of (form_of text) text }

-- the part stands in the name as the form says: it is the name, its front, its end, or any piece of it
abbrev pub StandsIn : Form → List ℕ → List ℕ → Type 0
StandsIn Whole part name = name ≡ part
StandsIn Prefix part name = (rest : List ℕ) × (name ≡ part ++ rest)
StandsIn Suffix part name = (front : List ℕ) × (name ≡ front ++ part)
StandsIn Infix part name = (front : List ℕ) × (rest : List ℕ) × (name ≡ front ++ (part ++ rest))

-- a glob matches a name: its part stands in it, once the ASCII capitals of both are lowered
abbrev pub Match : Pattern → List ℕ → Type 0
Match glob name = StandsIn glob.form (lowered glob.part) (lowered name)

-- the part begins at some place of the name
abbrev pub has_part : List ℕ → List ℕ → Bool
has_part part [] = starts_with nat_eq [] part
has_part part (b ∷ bs) = starts_with nat_eq (b ∷ bs) part || has_part part bs

-- whether the part stands in the name as the form says
abbrev pub stands_in : Form → List ℕ → List ℕ → Bool
stands_in Whole part name = bytes_eq name part
stands_in Prefix part name = starts_with nat_eq name part
stands_in Suffix part name = ends_with nat_eq name part
stands_in Infix part name = has_part part name

-- whether a glob matches a name
abbrev pub is_match : Pattern → List ℕ → Bool
is_match glob name = stands_in glob.form (lowered glob.part) (lowered name)
