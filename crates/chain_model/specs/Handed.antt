-- The handles of objects above the first part. Source: this project.
use Rattle.std.specs.Prelude.{ℕ, if◌then◌else◌, List, [], ◌∷◌, find}
use Rattle.std.specs.Option.{option_map_or}
use Rattle.object_model.specs.declared.Object.{Object}
use Rattle.replay_model.specs.declared.Born.{Born}
use Rattle.object_model.specs.Objects.{same}

-- ---- the session's handles

-- an object with its handle above the first part
pub record Handed : Type 0 where
  pub object : Object
  pub handle : ℕ

-- an object that is there gets the new handle in place, a new one goes last
abbrev pub hand_one : Object → ℕ → List Handed → List Handed
hand_one o h [] = record { object = o; handle = h } ∷ []
hand_one o h (x ∷ handed) = if same x.object o then record { object = x.object; handle = h } ∷ handed else x ∷ hand_one o h handed

-- the results of a call that aren't lost, each with its handle
abbrev pub hand_all : List Handed → List Born → List ℕ → List Handed
hand_all handed [] hs = handed
hand_all handed (b ∷ made) [] = handed
hand_all handed (b ∷ made) (h ∷ hs) = hand_all (hand_one b.object h handed) made hs

-- the handle of an object
abbrev pub handle_in : List Handed → Object → ℕ
handle_in handed o = option_map_or (λ x. x.handle) (find (λ x. same x.object o) handed) 0
