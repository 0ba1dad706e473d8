-- A tree of files, as its calls tell it. Source: this project.
use Rattle.std.specs.Prelude.{◌≡◌, ℕ, ◌≤◌, Bool, true, false, not, ◌&&◌, ◌==◌, nat_le, if◌then◌else◌, List, [], ◌∷◌, ◌++◌, length, ⊤, Option, Some, None, IfSome, Result, Ok, Err, OnOk, IfErr, MatchBool, IsTrue, option_map, option_and_then, find, Contains, All}
use Rattle.std.specs.List.{list_any, cons_option, IsDistinct}
use Rattle.std.specs.List.Sorted.{IsPermutation}
use Rattle.std.specs.Str.{bytes_eq}
use Rattle.replay_base.specs.Faults.{raised}
use Rattle.replay_base.specs.declared.tree.TreeRead.{TreeRead}
use Rattle.replay_base.specs.declared.tree.TreeRead.TheVariants.{Data, Absent, TooLarge}
use Rattle.replay_base.specs.declared.tree.TreeError.{TreeError}
use Rattle.replay_base.specs.declared.tree.TreeError.TheVariants.{Failed, NoMemory}

-- a file
pub record File : Type 0 where
  pub path : List ℕ
  pub bytes : List ℕ

-- a path is that of a file
abbrev pub is_file : List File → List ℕ → Bool
is_file files path = list_any (λ f. bytes_eq f.path path) files

-- the bytes of the file at a path
abbrev pub bytes_at : List File → List ℕ → Option (List ℕ)
bytes_at files path = option_map (λ f. f.bytes) (find (λ f. bytes_eq f.path path) files)

-- a name isn't empty and holds no slash
abbrev pub is_name : List ℕ → Bool
is_name name = not (length name == 0) && not (list_any (λ b. b == 47) name)

-- the path of a name in a folder
abbrev pub path_in : List ℕ → List ℕ → List ℕ
path_in folder name = folder ++ 47 ∷ name

-- what stands behind a folder and a slash in a path
abbrev pub below : List ℕ → List ℕ → Option (List ℕ)
below folder [] = None
below [] (c ∷ path) = if c == 47 then Some path else None
below (d ∷ folder) (c ∷ path) = if d == c then below folder path else None

-- the name that a path has in a folder, where it lies right in it
abbrev pub name_in : List ℕ → List ℕ → Option (List ℕ)
name_in folder path = option_and_then (λ name. if is_name name then Some name else None) (below folder path)

-- the names in a folder: a path that stands twice counts once
abbrev pub names_in : List File → List ℕ → List (List ℕ)
names_in [] folder = []
names_in (f ∷ files) folder = if is_file files f.path then names_in files folder else cons_option (name_in folder f.path) (names_in files folder)

-- the names in a folder are just those whose path is that of a file, each once
pub record IsListing (files : List File) (folder : List ℕ) (names : List (List ℕ)) : Type 0 where
  pub sound : All (λ name. IsTrue (is_name name && is_file files (path_in folder name))) names
  pub whole : (name : List ℕ) → IsTrue (is_name name && is_file files (path_in folder name)) → Contains names name
  pub once : IsDistinct bytes_eq names

-- a listing gives the names in the folder, in any order, where the tree tells its files
abbrev pub Lists : Option (List File) → List ℕ → List (List ℕ) → Type 0
Lists files folder names = IfSome files (λ fs. IsPermutation (names_in fs folder) names)

-- a read gives the bytes at the path, or says that there are none or more than max, and then gives none
abbrev pub ReadsAt : Option (List ℕ) → ℕ → TreeRead → List ℕ → Type 0
ReadsAt None max answer bytes = (answer ≡ Absent) × (bytes ≡ [])
ReadsAt (Some found) max answer bytes = MatchBool (nat_le (length found) max) ((answer ≡ Data) × (bytes ≡ found)) ((answer ≡ TooLarge) × (bytes ≡ []))

-- the same of the files, where the tree tells them
abbrev pub Reads : Option (List File) → List ℕ → ℕ → TreeRead → List ℕ → Type 0
Reads files path max answer bytes = IfSome files (λ fs. ReadsAt (bytes_at fs path) max answer bytes)

-- what an error says of the count of faults: it is one higher, or for want of memory stands
abbrev pub ErrorHasCause : ℕ → ℕ → TreeError → Type 0
ErrorHasCause before now Failed = now ≡ raised before
ErrorHasCause before now NoMemory = now ≡ before

-- the count of faults hasn't fallen, stands at Ok, and is one higher where the outside failed
pub record HasTreeCause {T : Type 0} (before now : ℕ) (result : Result T TreeError) : Type 0 where
  pub later : before ≤ now
  pub stood : OnOk result (now ≡ before)
  pub failed : IfErr result (ErrorHasCause before now)

-- whether the outside failed
abbrev pub is_failed : {T : Type 0} → Result T TreeError → Bool
is_failed (Ok x) = false
is_failed (Err Failed) = true
is_failed (Err NoMemory) = false

-- the files with one put: it stands in the place of that with its path, or behind all
abbrev pub put_file : List File → List ℕ → List ℕ → List File
put_file [] path bytes = record { path = path; bytes = bytes } ∷ []
put_file (f ∷ files) path bytes = if bytes_eq f.path path then record { path = path; bytes = bytes } ∷ files else f ∷ put_file files path bytes

-- no path stands twice
abbrev pub PathsOnce : List File → Type 0
PathsOnce [] = ⊤
PathsOnce (f ∷ files) = (is_file files f.path ≡ false) × PathsOnce files
