-- The lists that the steps of a call fill, and for how much there is room in them. Source: this project.
use Rattle.std.specs.Prelude.{◌≡◌, ◌≤◌, ℕ, Some, List, [], ◌∷◌, length, map, slice_get, vec_capacity}
use Rattle.session_parts.specs.declared.scratch.Scratch.{Scratch}

-- how many arguments each list can hold with no further memory, how many handles of one parameter, and how many results of one call
pub record ScratchRoom : Type 0 where
  pub lists : List ℕ
  pub handles : ℕ
  pub results : ℕ

-- the room of the lists
abbrev pub scratch_room : Scratch → ScratchRoom
scratch_room s = record { lists = map (λ v. vec_capacity v) s.args.items; handles = vec_capacity s.handles; results = vec_capacity s.born }

-- there is a list for each of these, and each fits in its list
abbrev pub FitLists : {X : Type 0} → List ℕ → List (List X) → Type 0
FitLists rooms [] = Unit {0}
FitLists [] (xs ∷ xss) = ⊥
FitLists (n ∷ rooms) (xs ∷ xss) = (length xs ≤ n) × FitLists rooms xss

-- none of these is longer
abbrev pub AreWithin : {X : Type 0} → ℕ → List (List X) → Type 0
AreWithin n [] = Unit {0}
AreWithin n (xs ∷ xss) = (length xs ≤ n) × AreWithin n xss

-- no list has less room than before
abbrev pub KeepLists : List ℕ → List ℕ → Type 0
KeepLists [] new = Unit {0}
KeepLists (n ∷ old) [] = ⊥
KeepLists (n ∷ old) (m ∷ new) = (n ≤ m) × KeepLists old new

-- no room is lost
pub record KeepsScratch (old new : ScratchRoom) : Type 0 where
  pub lists : KeepLists old.lists new.lists
  pub handles : old.handles ≤ new.handles
  pub results : old.results ≤ new.results

-- there are six lists, and a call with so many arguments at each parameter and so many results fits
pub record HoldsCalls (wide many : ℕ) (room : ScratchRoom) : Type 0 where
  pub count : 6 ≤ length room.lists
  pub each : (i n : ℕ) → slice_get room.lists i ≡ Some n → wide ≤ n
  pub handles : wide ≤ room.handles
  pub results : many ≤ room.results
