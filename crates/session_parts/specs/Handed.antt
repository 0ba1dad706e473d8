-- The table of handles as the list of the definitions. Source: this project.
use Rattle.std.specs.Prelude.{ℕ, List, map, unwrap_or}
use Rattle.object_model.specs.declared.Object.{Object}
use Rattle.session_tables.specs.declared.object_places.ObjectPlaces.{ObjectPlaces}
use Rattle.session_tables.specs.Filing.{kept, objects_with_values}
use Rattle.chain_model.specs.Handed.{Handed}

-- handles of objects, and for how many further ones there is room
pub record HandedState : Type 0 where
  pub handed : List Handed
  pub spare : ℕ

-- the handle that is kept for an object, and 0 where there is none
abbrev pub handle_kept : ObjectPlaces ℕ → Object → ℕ
handle_kept m o = unwrap_or (kept m o) 0

-- all objects that have one, each with its handle
abbrev pub handed_shown : ObjectPlaces ℕ → List Handed
handed_shown m = map (λ o. record { object = o; handle = handle_kept m o }) (objects_with_values m)
