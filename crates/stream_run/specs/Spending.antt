-- What workers leave that have made all their calls. Source: this project.
use Rattle.std.specs.Prelude.{◌≡◌, Option, Some, None, List, [], ◌∷◌, map}
use Rattle.std.specs.List.{flat_map}
use Rattle.stream_log.specs.Log.{SeenView}
use Rattle.trace_format.specs.declared.event.Name.{Name}
use Rattle.stream_workers.specs.declared.worker.Worker.{Worker}
use Rattle.stream_run.specs.declared.spent.Spent.{Spent}

-- the token in one slot, with a device
abbrev pub held_at : Name → Option SeenView → List (Name × SeenView)
held_at d None = []
held_at d (Some t) = (d, t) ∷ []

-- the tokens in slots, each with the device of its plan
abbrev pub tokens_held : List Name → List (Option SeenView) → List (Name × SeenView)
tokens_held [] slots = []
tokens_held (d ∷ devices) [] = []
tokens_held (d ∷ devices) (None ∷ slots) = tokens_held devices slots
tokens_held (d ∷ devices) (Some t ∷ slots) = (d, t) ∷ tokens_held devices slots

-- what these workers leave: all their tokens, and of each its seat and its marks
pub record AreSpent {S : Type 0} (devices : List Name) (workers : List (Worker S)) (spent : Spent S) : Type 0 where
  pub tokens : spent.tokens.items ≡ flat_map (λ (w : Worker S). tokens_held devices w.tokens.items) workers
  pub seats : spent.seats.items ≡ map (λ (w : Worker S). w.seat) workers
  pub sent : map (λ v. v.items) spent.sent.items ≡ map (λ (w : Worker S). w.sent.items) workers
