-- The driver behind each handle that the terminator issued for an object of its own driver. Source: this project.
use Rattle.std.specs.Prelude.{ℕ, ◌+◌, Bool, not, ◌&&◌, if◌then◌else◌, ◌==◌, Option, Some, None, List, [], ◌∷◌, ◌++◌}
use Rattle.std.specs.List.{list_any}
use Rattle.command_tables.specs.declared.types.CommandId.{CommandId}
use Rattle.command_tables.specs.declared.types.ObjectType.{ObjectType}
use Rattle.command_tables.specs.Calls.{CallContent}
use Rattle.object_model.specs.declared.Object.{Object}
use Rattle.object_model.specs.declared.Routed.{Routed}
use Rattle.object_model.specs.Objects.{same, first_in}
use Rattle.object_model.specs.Routes.{is_routed, driver_behind, receivers}
use Rattle.layer_model.specs.Reading.{read_call}

-- there is a route for this pair
abbrev pub has_route : List Routed → Object → Bool
has_route routes o = list_any (λ r. same r.object o) routes

-- a pair that has none gets one, behind the others
abbrev pub add_route : List Routed → Object → ℕ → List Routed
add_route routes o driver = if is_routed o.ty && not (has_route routes o) then routes ++ record { object = o; driver = driver } ∷ [] else routes

-- the routes after the results of a call from a place on; 0 for a lost one
abbrev pub route_all : List Routed → CommandId → List ℕ → ObjectType → ℕ → List ℕ → List Routed
route_all routes c drivers t place [] = routes
route_all routes c drivers t place (h ∷ hs) = route_all (if h == 0 then routes else add_route routes (record { ty = t; number = h }) (driver_behind c drivers place)) c drivers t (place + 1) hs

-- the routes after the results of a call: a command that makes nothing adds none
abbrev pub routes_then : List Routed → CommandId → List ℕ → Option ObjectType → List ℕ → List Routed
routes_then routes c drivers None hs = routes
routes_then routes c drivers (Some t) hs = route_all routes c drivers t 0 hs

-- the drivers that a call goes to, by the handle of its first argument above the terminator
abbrev pub drivers_at : ℕ → List Routed → CallContent → List ℕ
drivers_at drivers routes c = receivers drivers routes (first_in (read_call c) 0)
