-- What a source, a sink and a tree in memory are seen as. Source: this project.
use Rattle.std.specs.Prelude.{ℕ, Bool, List, ◌==◌, if◌then◌else◌}
use Rattle.std.specs.List.{list_any}
use Rattle.replay_base.specs.Faults.{raised}
use Rattle.replay_base.specs.Files.{File}

-- the bytes left, the calls so far, the numbers of the calls that fail, and the faults so far
pub record SourceState : Type 0 where
  pub left : List ℕ
  pub calls : ℕ
  pub fails : List ℕ
  pub faults : ℕ

-- the bytes held, for how many there is room, the calls so far, the numbers of the calls that fail, and the faults so far
pub record SinkState : Type 0 where
  pub held : List ℕ
  pub room : ℕ
  pub calls : ℕ
  pub fails : List ℕ
  pub faults : ℕ

-- the files, the calls so far, the numbers of the calls that fail, and the faults so far
pub record TreeState : Type 0 where
  pub files : List File
  pub calls : ℕ
  pub fails : List ℕ
  pub faults : ℕ

-- the next call's number, from 1, is in the list
abbrev pub is_listed : List ℕ → ℕ → Bool
is_listed fails calls = list_any (λ n. n == raised calls) fails

-- a tree after a call: it is counted, and so is the fault, where its number is listed
abbrev pub called : TreeState → TreeState
called tree = record { files = tree.files; calls = raised tree.calls; fails = tree.fails; faults = if is_listed tree.fails tree.calls then raised tree.faults else tree.faults }
