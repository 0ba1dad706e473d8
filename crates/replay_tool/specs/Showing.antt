-- How a chain is shown: what was read, and what was written. Source: this project.
use Rattle.std.specs.Prelude.{◌≡◌, ◌⊎◌, ◌≤◌, ◌<◌, ℕ, Bool, true, false, List, [], ◌∷◌, ◌++◌, take, map, Option, Result, Ok, Err}
use Rattle.std.specs.List.{concat}
use Rattle.replay_base.specs.Bytes.{GrownByFront}
use Rattle.replay_base.specs.Changes.{Change, FailedOnce, Gained, IsUnmoved, Stood}
use Rattle.replay_base.specs.Faults.{raised}
use Rattle.replay_base.specs.Files.{File}
use Rattle.replay_base.specs.declared.limit.Which.TheVariants as which
use Rattle.env_filters.specs.Variables.{Variable}
use Rattle.layer_search.specs.Causes.{WhereTold}
use Rattle.layer_search.specs.Paths.{most_paths}
use Rattle.layer_search.specs.declared.errors.SearchError.{SearchError}
use Rattle.layer_search.specs.declared.errors.SearchError.TheVariants as search
use Rattle.chain_build.specs.Override.{most_met, setup_of}
use Rattle.chain_build.specs.Setup.{SetupContent}
use Rattle.replay_model.specs.Setup.{Setup, Outcome, is_too_long, outcome_text}
use Rattle.replay_core.specs.declared.error.ReplayError.{ReplayError}
use Rattle.replay_core.specs.declared.error.ReplayError.TheVariants as error
use Rattle.report_text.specs.Notes.{note_text}
use Rattle.report_text.specs.Setups.{trace_setup}
use Rattle.program_words.specs.Asked.{ChainAsked}

-- ---- text that is written piece by piece

-- all pieces were written
pub record WroteAll (pieces : List (List ℕ)) (sink : Change) : Type 0 where
  pub wrote : Gained sink (concat pieces)
  pub stood : Stood sink

-- the sink failed behind a front of the pieces
pub record WroteFront (pieces : List (List ℕ)) (sink : Change) : Type 0 where
  pub front : GrownByFront sink.old sink.new (concat pieces)
  pub failed : FailedOnce sink

-- memory ran out behind some whole pieces
pub record WroteSome (pieces : List (List ℕ)) (sink : Change) : Type 0 where
  pub count : ℕ
  pub wrote : Gained sink (concat (take count pieces))
  pub stood : Stood sink

-- all pieces were written, where the chain isn't too long; or all, and it is; or an error cut them short
abbrev pub Writes : List (List ℕ) → Bool → Change → Result Unit ReplayError → Type 0
Writes pieces long sink (Ok _) = WroteAll pieces sink × (long ≡ false)
Writes pieces long sink (Err error.Write) = WroteFront pieces sink
Writes pieces long sink (Err (error.Limit which.Chain)) = WroteAll pieces sink × (long ≡ true)
Writes pieces long sink (Err error.NoMemory) = WroteSome pieces sink
Writes pieces long sink (Err other) = ⊥

-- ---- what is shown of a setup

-- what comes of the layers that the words name
abbrev pub shown_outcome : SetupContent → ChainAsked → Outcome
shown_outcome setup asked = (trace_setup setup).outcome asked.layers

-- the notes of the drivers, of the explicit and of the implicit layers, each by itself, and then the lines of a chain or its refusal, as at a call with number 0
abbrev pub lines_with : SetupContent → Outcome → List (List ℕ)
lines_with setup outcome =
    map note_text setup.drivers.notes ++ (map note_text setup.explicit.notes ++ (map note_text setup.implicit.notes ++ outcome_text outcome 0 ∷ []))

-- the lines that are shown
abbrev pub shown_lines : SetupContent → ChainAsked → List (List ℕ)
shown_lines setup asked = lines_with setup (shown_outcome setup asked)

-- a search's error, as what stops the program
abbrev pub search_stop : SearchError → ReplayError
search_stop search.Tree = error.Read
search_stop (search.TooMany count) = error.Limit which.Manifests
search_stop search.NoMemory = error.NoMemory

-- ---- what is read

-- the tree's files, where it tells them, and how often it has failed before and after
pub record TreeSeen : Type 0 where
  pub files : Option (List File)
  pub faults_before : ℕ
  pub faults : ℕ

-- such a tree
abbrev pub tree_seen : Option (List File) → ℕ → ℕ → TreeSeen
tree_seen files faults_before faults = record { files = files; faults_before = faults_before; faults = faults }

-- what a search of the manifests reads: the folder that stands for the root, the executable's path, the variables, and the tree
pub record Search : Type 0 where
  pub root : List ℕ
  pub exe : List ℕ
  pub env : List Variable
  pub tree : TreeSeen

-- such a search
abbrev pub search_of : List ℕ → List ℕ → List Variable → TreeSeen → Search
search_of root exe env tree = record { root = root; exe = exe; env = env; tree = tree }

-- these files give this setup, and no search meets too many
pub record IsSetupOf (search : Search) (setup : SetupContent) (files : List File) : Type 0 where
  pub within : most_met files search.env search.root search.exe ≤ most_paths
  pub is : setup ≡ setup_of files search.env search.root search.exe

-- a setup was read, the tree stood, and this holds of the setup as traces are judged by it
pub record UnderSetup (search : Search) (Holds : Setup → Type 0) : Type 0 where
  pub setup : SetupContent
  pub told : WhereTold search.tree.files (IsSetupOf search setup)
  pub stood : search.tree.faults ≡ search.tree.faults_before
  pub holds : Holds (trace_setup setup)

-- nothing was written
pub record WroteNothing (sink : Change) : Type 0 where
  pub same : IsUnmoved sink
  pub stood : Stood sink

-- the tree failed, once, before anything was written
pub record TreeFailed (tree : TreeSeen) (sink : Change) : Type 0 where
  pub failed : tree.faults ≡ raised tree.faults_before
  pub nothing : WroteNothing sink

-- a search met too many manifest files, and nothing was written
pub record MetTooMany (search : Search) (sink : Change) : Type 0 where
  pub told : WhereTold search.tree.files (λ files. most_paths < most_met files search.env search.root search.exe)
  pub stood : search.tree.faults ≡ search.tree.faults_before
  pub nothing : WroteNothing sink

-- ---- how the showing of a chain ends

-- what is asked for, the variables, and the tree
pub record ChainRun : Type 0 where
  pub asked : ChainAsked
  pub env : List Variable
  pub tree : TreeSeen

-- such a run
abbrev pub chain_run : ChainAsked → List Variable → TreeSeen → ChainRun
chain_run asked env tree = record { asked = asked; env = env; tree = tree }

-- its search
abbrev pub searched : ChainRun → Search
searched run = search_of run.asked.root run.asked.exe run.env run.tree

-- a setup was read, and it was shown so
pub record ShowsSetup (run : ChainRun) (sink : Change) (result : Result Unit ReplayError) : Type 0 where
  pub setup : SetupContent
  pub told : WhereTold run.tree.files (IsSetupOf (searched run) setup)
  pub stood : run.tree.faults ≡ run.tree.faults_before
  pub writes : Writes (shown_lines setup run.asked) (is_too_long (shown_outcome setup run.asked)) sink result

-- How the showing of a chain ends: the setup was read and shown, to its end or not; or it couldn't be read.
abbrev pub Shows : ChainRun → Change → Result Unit ReplayError → Type 0
Shows run sink (Err error.Read) = TreeFailed run.tree sink
Shows run sink (Err (error.Limit which.Manifests)) = MetTooMany (searched run) sink
Shows run sink (Err error.NoMemory) = (WroteNothing sink × (run.tree.faults ≡ run.tree.faults_before)) ⊎ ShowsSetup run sink (Err error.NoMemory)
Shows run sink result = ShowsSetup run sink result
