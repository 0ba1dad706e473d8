-- Where calls may be stopped, and which begins are of the grammar. Source: this project.
use Rattle.std.specs.Prelude.{◌≡◌, ◌≤◌, ◌⊎◌, ℕ, ◌+◌, Option, Some, None, List, [], ◌∷◌}
use Rattle.object_model.specs.declared.PartKind.{PartKind}
use Rattle.object_model.specs.declared.PartKind.TheVariants as part
use Rattle.replay_model.specs.Past.{Past, Began, Returned}

-- a stop, if there is one, is not below the place
abbrev pub StopOk : ℕ → Option ℕ → Type 0
StopOk k None = Unit {0}
StopOk k (Some j) = j ≤ k

-- no call of the past was stopped below the place
abbrev pub StopsOk : ℕ → Past → Type 0
StopsOk k [] = Unit {0}
StopsOk k (Began e o reports ∷ past) = StopOk k o.stop × StopsOk k past
StopsOk k (Returned o made ∷ past) = StopsOk k past

-- a lifetimes part stands in place k, where the first of these parts stands in place j
abbrev pub IsLifeAt : ℕ → List PartKind → ℕ → Type 0
IsLifeAt j [] k = ⊥
IsLifeAt j (part.Threads ∷ ps) k = IsLifeAt (j + 1) ps k
IsLifeAt j (part.Lifetimes ∷ ps) k = (k ≡ j) ⊎ IsLifeAt (j + 1) ps k
IsLifeAt j (part.Unique ∷ ps) k = IsLifeAt (j + 1) ps k

-- no call was stopped below a lifetimes part
abbrev pub StopsFit : List PartKind → Past → Type 0
StopsFit ps past = (k : ℕ) → IsLifeAt 1 ps k → StopsOk k past
