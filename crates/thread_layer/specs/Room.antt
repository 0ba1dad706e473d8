-- For how much a threads part has room. Source: this project.
use Rattle.std.specs.Prelude.{ℕ, ◌+◌, ◌≤◌, List, [], ◌∷◌, length, min, vec_capacity}
use Rattle.object_model.specs.Findings.{Report}
use Rattle.object_model.specs.Uses.{Use, InUse}
use Rattle.lifetime_layer.specs.declared.verdict.Verdict.{Verdict}
use Rattle.thread_layer.specs.declared.gathering.Gathered.{Gathered}

-- how many uses open calls have
abbrev pub uses_held : List InUse → ℕ
uses_held [] = 0
uses_held (c ∷ cs) = length c.uses + uses_held cs

-- so many calls can be open at once, with so many uses in all: these can
pub record HaveRoom (opens : List InUse) (room : ℕ) : Type 0 where
  pub calls : length opens ≤ room
  pub uses : uses_held opens ≤ room

-- how many uses of one call can be gathered
abbrev pub gathered_room : Gathered → ℕ
gathered_room g = min (vec_capacity g.uses) (vec_capacity g.implied)

-- these uses and reports can be gathered behind what was
pub record HasRoomFor (gathered : Gathered) (verdict : Verdict) (us : List Use) (rs : List Report) : Type 0 where
  pub uses : length gathered.uses.items + length us ≤ gathered_room gathered
  pub reports : length verdict.findings.items + length rs ≤ vec_capacity verdict.findings
