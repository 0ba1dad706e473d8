-- Variables, newest first.
use Rattle.std.proofs.Common.{string_bytes, ◌≡◌, ℕ, Bool, true, false, cond, List, [], ◌∷◌, map, refl, ap, Option, Some, None, option_map, find, reverse, Bor, ◌∙◌}
use Rattle.std.specs.Str.{bytes_eq}
use Rattle.std.specs.List.{fold}
use Rattle.env_filters.specs.declared.variables.Entry.{Entry}
use Rattle.env_filters.specs.Variables.{Variable, value_of}

-- what an entry is seen as
abbrev pub variable_of : Entry → Variable
variable_of e = record { name = string_bytes e.name; value = string_bytes e.value }

-- the value of the first variable with the name
pub value-found : {E : Type 0} (view : E → Variable) (name : List ℕ) (entries : List E)
    → option_map (λ e. (view e).value) (find (λ e. bytes_eq (view e).name name) entries) ≡ value_of (map view entries) name
value-found view name [] = refl
value-found view name (e ∷ es) = go (bytes_eq (view e).name name) (value-found view name es)
  where
    go : (t : Bool) → option_map (λ e. (view e).value) (find (λ e. bytes_eq (view e).name name) es) ≡ value_of (map view es) name
        → option_map (λ e. (view e).value) (cond t (Some e) (find (λ e. bytes_eq (view e).name name) es)) ≡ cond t (Some (view e).value) (value_of (map view es) name)
    go true ih = refl
    go false ih = ih

-- the same, of a variable that is lent
pub value-lent : {E : Type 0} (view : E → Variable) (name : List ℕ) (entries : List E) (r : Option (Bor E))
    → option_map (λ (e : Bor E). e.now) r ≡ find (λ e. bytes_eq (view e).name name) entries
    → option_map (λ (e : Bor E). (view e.now).value) r ≡ value_of (map view entries) name
value-lent {E} view name entries r e = split r ∙ (ap (option_map (λ (v : E). (view v).value)) e ∙ value-found view name entries)
  where
    split : (r : Option (Bor E)) → option_map (λ (e : Bor E). (view e.now).value) r ≡ option_map (λ (v : E). (view v).value) (option_map (λ (e : Bor E). e.now) r)
    split None = refl
    split (Some x) = refl

-- what is turned round and then read is read and then turned round
pub map-reverse : {E V : Type 0} (view : E → V) (xs : List E) → map view (reverse xs) ≡ reverse (map view xs)
map-reverse {E} {V} view xs = go [] xs
  where
    go : (done : List E) (xs : List E) → map view (fold (λ r x. x ∷ r) done xs) ≡ fold (λ r x. x ∷ r) (map view done) (map view xs)
    go done [] = refl
    go done (x ∷ xs) = go (x ∷ done) xs
