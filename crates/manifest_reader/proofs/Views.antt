-- What a `Value`'s elements and members are beside the JSON value that it stands for.
use Rattle.std.proofs.Common.{◌≡◌, ◌↔◌, ◌<◌, List, [], ◌∷◌, map, Option, Some, None, option_map, String, Global, string_bytes, Bool, Bor, IfSome, IsSome, refl, sym, ap, true≢false, length, arith}
use Rattle.std.proofs.lemmas.List.Folds.{list_all-map}
use Rattle.std.specs.List.{slice_get, list_all}
use Rattle.serde_json.specs.declared.value.Value.{Value}
use Rattle.serde_json.specs.Data.{Data}
use Rattle.serde_json.specs.View.{view, items_view, members_view}
use Rattle.manifest_reader.specs.Values.{listed, first_of}

-- the elements of an array, one by one
pub items_are_listed : (vs : List Value) → listed (items_view vs) ≡ map view vs
items_are_listed [] = refl
items_are_listed (v ∷ vs) = ap (λ rest. view v ∷ rest) (items_are_listed vs)

-- a first entry that was found is the first member
pub first_found : (es : List (String Global × Value)) (r : Option (Bor (String Global) × Bor Value)) → (IsSome r ↔ (0 < length es)) → IfSome r (λ p. slice_get es 0 ≡ Some (p.0.now, p.1.now))
    → option_map (λ m. (string_bytes m.0.now, view m.1.now)) r ≡ first_of (members_view es)
first_found [] None both found = refl
first_found [] (Some p) both found = absurd (omega (arith, both.0 refl))
first_found (e ∷ es) None both found = absurd (true≢false (sym (both.1 (omega arith))))
first_found (e ∷ es) (Some p) both found = sym (ap (option_map (λ m. (string_bytes m.0, view m.1))) found)

-- a test of each element's value is a test of each element
pub all_of_views : (test : Data → Bool) (vs : List Value) → list_all test (map view vs) ≡ list_all (λ v. test (view v)) vs
all_of_views test vs = list_all-map test view vs
