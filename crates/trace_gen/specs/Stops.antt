-- What may stop a generated trace. Source: this project.
use Rattle.std.specs.Prelude.{◌≡◌, ⊤, Option, Some, None}
use Rattle.replay_model.specs.Stop.{Stop, Layers}

-- where there is a stop, its cause is the limit on the layers of a chain
abbrev pub StopsAtLayersAlone : Option Stop → Type 0
StopsAtLayersAlone None = ⊤
StopsAtLayersAlone (Some place) = place.cause ≡ Layers
