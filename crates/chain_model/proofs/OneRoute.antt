-- Routes result by result.
use Rattle.std.specs.Prelude.{◌≡◌, ℕ, Bool, true, not, ◌&&◌, if◌then◌else◌, List, [], ◌∷◌, ◌++◌}
use Rattle.std.specs.List.{AllByRecursion}
use Rattle.command_tables.specs.declared.types.CommandId.{CommandId}
use Rattle.command_tables.specs.declared.types.ObjectType.{ObjectType}
use Rattle.object_model.specs.declared.Object.{Object}
use Rattle.replay_model.specs.declared.Born.{Born}
use Rattle.object_model.specs.declared.Routed.{Routed}
use Rattle.object_model.specs.History.{Birth, born_in, births}
use Rattle.replay_model.specs.Past.{Opened, Past, Returned, routed, history}
use Rattle.object_model.specs.Routes.{is_routed, driver_behind}
use Rattle.layer_model.specs.Routes.{has_route, route_all}
use Rattle.chain_model.proofs.OneByOne.{bear, numbered}
use Rattle.chain_model.specs.Routes.{routes_in}

-- routes and births one by one
abbrev pub route_one : List Birth → List Routed → CommandId → List ℕ → Born → List Routed
route_one bs rs c drivers b = if is_routed b.object.ty && not (born_in bs b.object) then rs ++ record { object = b.object; driver = driver_behind c drivers b.place } ∷ [] else rs

abbrev pub routes_after : Bool → List Object → CommandId → List ℕ → List Birth → List Routed → List Born → List Routed
routes_after created owners c drivers bs rs [] = rs
routes_after created owners c drivers bs rs (b ∷ made) = routes_after created owners c drivers (bear created owners bs b.object) (route_one bs rs c drivers b) made

-- just the born objects of routed types have routes
pub record AreRouted (bs : List Birth) (rs : List Routed) : Type 0 where
  pub routes : (o : Object) → is_routed o.ty ≡ true → has_route rs o ≡ born_in bs o
  pub born : AllByRecursion (λ r. born_in bs r.object ≡ true) rs

-- A return more: the routes that the machine has then, by the numbers of the results, are those of the past with it.
pub record RoutesGrow (X : Type 0) (past : Past) (o : Opened) (t : ObjectType) (made : List Born) (lost : List X) : Type 0 where
  pub routed_then : AreRouted (births (history (Returned o made ∷ past))) (routed (Returned o made ∷ past))
  pub routes : route_all (routes_in (births (history past)) (routed past)) o.cmd o.drivers t 0 (numbered (births (history (Returned o made ∷ past))) made lost) ≡ routes_in (births (history (Returned o made ∷ past))) (routed (Returned o made ∷ past))
