-- Parts of the spelling of an event that the printer's own functions speak of. Source: this project.
use Rattle.std.specs.Prelude.{◌≡◌, ℕ, List, [], ◌∷◌, ◌++◌, length, take}
use Rattle.std.specs.List.{flat_map}

-- what was there before is there still, in front of whatever was added
abbrev pub Keeps : List ℕ → List ℕ → Type 0
Keeps old new = take (length old) new ≡ old

-- the texts of these, each behind a comma
abbrev pub further : {X : Type 0} → (X → List ℕ) → List X → List ℕ
further text xs = flat_map (λ x. 44 ∷ text x) xs

-- the texts of these with commas between them
abbrev pub listed : {X : Type 0} → (X → List ℕ) → List X → List ℕ
listed text [] = []
listed text (x ∷ xs) = text x ++ further text xs
