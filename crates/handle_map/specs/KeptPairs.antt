-- Pairs of a type and an id in one list: 8 bytes each, where the id has 32 bits. Source: this project.
use Rattle.std.specs.Prelude.{◌≡◌, ◌≤◌, ◌<◌, ℕ, Bool, true, false, if◌then◌else◌, nat_lt, List, [], ◌∷◌, ◌++◌, length, map, slice_index}
use Rattle.handle_map.specs.Pairs.{Pair, pair}
use Rattle.handle_map.specs.declared.kept_pair.KeptPair.{KeptPair}

-- the id that a number stands for: a place among the wide ids, or the id itself
abbrev pub id_of : List ℕ → ℕ → Bool → ℕ
id_of wide number true = slice_index wide number
id_of wide number false = number

-- the pair of what is kept
abbrev pub pair_in : List ℕ → KeptPair → Pair
pair_in wide k = pair k.ty (id_of wide k.number k.is_wide)

-- the pairs of all that is kept
abbrev pub pairs_in : List ℕ → List KeptPair → List Pair
pairs_in wide kept = map (pair_in wide) kept

-- the place of a wide id lies among so many
abbrev pub IsAmongWide : ℕ → ℕ → Bool → Type 0
IsAmongWide count number is_wide = is_wide ≡ true → number < count

-- each of them does
abbrev pub AreAmongWide : ℕ → List KeptPair → Type 0
AreAmongWide count [] = Unit {0}
AreAmongWide count (k ∷ kept) = IsAmongWide count k.number k.is_wide × AreAmongWide count kept

-- the wide ids are there, and no more of them than pairs
pub record IsPairList (wide : List ℕ) (kept : List KeptPair) : Type 0 where
  pub within : AreAmongWide (length wide) kept
  pub few : length wide ≤ length kept

-- the wide ids, with this one where it has more than 32 bits
abbrev pub wide_with : List ℕ → ℕ → List ℕ
wide_with wide id = if nat_lt id 4294967296 then wide else wide ++ id ∷ []
