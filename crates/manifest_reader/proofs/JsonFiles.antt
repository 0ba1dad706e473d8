-- Which bytes are the file of a manifest.
use Rattle.std.proofs.Common.{◌≡◌, ℕ, Bool, true, false, List, Option, Some, None, if◌then◌else◌, option_and_then, refl, ap}
use Rattle.std.proofs.lemmas.Str.{IsUtf8-from_is_utf8, is_utf8-from_IsUtf8}
use Rattle.std.specs.Str.{IsUtf8, is_utf8}
use Rattle.serde_json.specs.Data.{Data}
use Rattle.serde_json.specs.Read.{read}
use Rattle.manifest_reader.specs.Reading.{file_of, only_object}

-- JSON in UTF-8 is read as its object, if it is one
pub file_of_json : (bytes : List ℕ) (value : Data) → IsUtf8 bytes × (read bytes ≡ Some value) → file_of bytes ≡ only_object value
unfolding file_of
file_of_json bytes value json = rw (is_utf8-from_IsUtf8 bytes json.0, json.1)

at_test : (is_text : Bool) (found : Option Data) → (is_text ≡ true → found ≡ None) → (if is_text then option_and_then only_object found else None) ≡ None
at_test true found refused = ap (option_and_then only_object) (refused refl)
at_test false found refused = refl

-- what the parse refuses is no file
pub file_of_refused : (bytes : List ℕ) → (IsUtf8 bytes → read bytes ≡ None) → file_of bytes ≡ None
unfolding file_of
file_of_refused bytes refused = at_test (is_utf8 bytes) (read bytes) (λ text. refused (IsUtf8-from_is_utf8 bytes text))
