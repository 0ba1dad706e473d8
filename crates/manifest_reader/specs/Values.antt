-- Looking into a JSON value.
-- Source: RFC 8259 sections 3 to 7, as `serde_json` reads them: an object has each key once, with the last value that the text has for
-- it, and its members stand in the byte order of their keys.
use Rattle.std.specs.Prelude.{ℕ, Bool, false, List, [], ◌∷◌, Option, Some, None, option_map, option_and_then, unwrap_or}
use Rattle.std.specs.Str.{bytes_eq}
use Rattle.serde_json.specs.Data.{Data, Items, no_items, item, Members, no_members, member}
use Rattle.serde_json.specs.Find.{get, as_str, as_array, as_object}
use Rattle.manifest_reader.specs.Keys.{spelled}
use Rattle.manifest_reader.specs.declared.keys.Key.{Key}

-- the value at a key of an object
unfoldable pub at : Key → Data → Option Data
at key holder = get (spelled key) holder

-- the text at a key of an object
unfoldable pub text_at : Key → Data → Option (List ℕ)
text_at key holder = option_and_then as_str (at key holder)

-- the text at a key is this one
unfoldable pub says : Key → List ℕ → Data → Bool
says key word holder = unwrap_or (option_map (λ text. bytes_eq text word) (text_at key holder)) false

-- a list of JSON values
abbrev pub listed : Items → List Data
listed no_items = []
listed (item value others) = value ∷ listed others

-- the elements of an array, and none of any other value
unfoldable pub elements : Data → List Data
elements value = unwrap_or (option_map listed (as_array value)) []

-- the first of some members
abbrev pub first_of : Members → Option (List ℕ × Data)
first_of no_members = None
first_of (member name value others) = Some (name, value)

-- the first member of an object by the byte order of keys
unfoldable pub first_member : Data → Option (List ℕ × Data)
first_member value = option_and_then first_of (as_object value)
