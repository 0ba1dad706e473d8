-- The variables of the process, by the entries of its environment.
-- Source: POSIX.1-2017, chapter 8, Environment Variables (NAME=value) and getenv; that the first of two entries with one name counts is as C
-- libraries' getenv has it; that an entry counts only where it is UTF-8 is this project's choice.
use Rattle.std.specs.Prelude.{◌≡◌, ◌==◌, ◌&&◌, nat_lt, ℕ, Bool, List, [], ◌∷◌, length, Option, Some, None, if◌then◌else◌}
use Rattle.std.specs.List.{after_first, before_first, filter_map, position_or_len}
use Rattle.std.specs.Option.{option_or}
use Rattle.std.specs.Str.{is_utf8}
use Rattle.env_filters.specs.Variables.{Variable, value_of}

-- the byte of `=`
abbrev pub is_equals_sign : ℕ → Bool
is_equals_sign b = b == 61

-- an entry has a name: bytes before its first `=`
abbrev pub has_name : List ℕ → Bool
has_name entry = nat_lt 0 (position_or_len is_equals_sign entry) && nat_lt (position_or_len is_equals_sign entry) (length entry)

-- the variable that an entry writes as NAME=value, where it is UTF-8 and has a name
unfoldable pub variable_in : List ℕ → Option Variable
variable_in entry =
    if is_utf8 entry && has_name entry then Some (record { name = before_first is_equals_sign entry; value = after_first is_equals_sign entry }) else None

-- the variables that entries write, in their order
abbrev pub variables_in : List (List ℕ) → List Variable
variables_in entries = filter_map variable_in entries

-- each name has the value that the first of the entries with it gives, and a name that no entry has is not set
pub record HasFirsts (entries : List (List ℕ)) (variables : List Variable) : Type 0 where
  pub values : (name : List ℕ) → value_of variables name ≡ value_of (variables_in entries) name

-- a name without a value has that of one entry more, and no other value changes
pub record TakesEntry (entry : List ℕ) (old new : List Variable) : Type 0 where
  pub values : (name : List ℕ) → value_of new name ≡ option_or (value_of old name) (value_of (variables_in (entry ∷ [])) name)
