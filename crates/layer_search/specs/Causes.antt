-- When a search ends without an answer. Source: this project.
use Rattle.std.specs.Prelude.{◌≡◌, ℕ, ◌+◌, ◌<◌, ◌≤◌, ⊤, List, length, Option, Some, Result, OnOk, IfErr}
use Rattle.replay_base.specs.Faults.{raised}
use Rattle.replay_base.specs.Files.{File}
use Rattle.replay_base.specs.declared.tree.TreeError.{TreeError}
use Rattle.replay_base.specs.declared.tree.TreeError.TheVariants as tree
use Rattle.layer_search.specs.Paths.{most_paths}
use Rattle.layer_search.specs.declared.errors.SearchError.{SearchError}
use Rattle.layer_search.specs.declared.errors.SearchError.TheVariants.{Tree, TooMany, NoMemory}

-- where a tree tells its files, this holds of them
abbrev pub WhereTold : Option (List File) → (List File → Type 0) → Type 0
WhereTold told P = (files : List File) → told ≡ Some files → P files

-- a tree's error, as a search hands it on
abbrev pub search_error : TreeError → SearchError
search_error tree.Failed = Tree
search_error tree.NoMemory = NoMemory

-- what an error says of the tree's count of faults: it is one higher where the tree failed, and else it stands; too many are one more than may be
abbrev pub ErrorHasCause : ℕ → ℕ → SearchError → Type 0
ErrorHasCause before now Tree = now ≡ raised before
ErrorHasCause before now (TooMany count) = (now ≡ before) × (count ≡ most_paths + 1)
ErrorHasCause before now NoMemory = now ≡ before

-- an error that comes without a tree
abbrev pub IsOwnError : SearchError → Type 0
IsOwnError Tree = ⊥
IsOwnError (TooMany count) = count ≡ most_paths + 1
IsOwnError NoMemory = ⊤

-- an error that no limit makes
abbrev pub IsNoLimit : SearchError → Type 0
IsNoLimit Tree = ⊤
IsNoLimit (TooMany count) = ⊥
IsNoLimit NoMemory = ⊤

-- an error says that there are too many paths only where there are more than a search may meet
abbrev pub MeetsLimit : List (List ℕ) → SearchError → Type 0
MeetsLimit paths Tree = ⊤
MeetsLimit paths (TooMany count) = most_paths < length paths
MeetsLimit paths NoMemory = ⊤

-- the tree's count of faults hasn't fallen, stands at Ok, and is one higher where the error says that the tree failed
pub record HasSearchCause {T : Type 0} (before now : ℕ) (result : Result T SearchError) : Type 0 where
  pub later : before ≤ now
  pub stood : OnOk result (now ≡ before)
  pub failed : IfErr result (ErrorHasCause before now)
