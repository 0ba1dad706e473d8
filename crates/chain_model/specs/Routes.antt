-- Which driver a call goes to: the terminator keeps the driver behind each handle that it issued for a routed type. Source: this project.
use Rattle.std.specs.Prelude.{List, map}
use Rattle.object_model.specs.declared.Routed.{Routed}
use Rattle.object_model.specs.History.{Birth}
use Rattle.chain_model.specs.Tokens.{token_in}

-- the same routes for tokens
abbrev pub route_in : List Birth → Routed → Routed
route_in bs r = record { object = token_in bs r.object; driver = r.driver }

-- all of these routes for tokens
abbrev pub routes_in : List Birth → List Routed → List Routed
routes_in bs rs = map (route_in bs) rs
