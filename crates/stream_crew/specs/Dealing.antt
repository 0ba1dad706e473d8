-- How tokens are dealt out to streams. Source: this project.
use Rattle.std.specs.Prelude.{ℕ, Option, Some, Vec, List, [], ◌∷◌, ◌++◌, map}
use Rattle.stream_log.specs.Log.{SeenView, seen_view}
use Rattle.trace_format.specs.declared.event.Name.{Name}
use Rattle.device_shard.specs.Shards.{ShardName}

-- what these hold
abbrev pub items_of : {X A : Type 0} → List (Vec X A) → List (List X)
items_of {X = X} {A = A} vecs = map (λ (v : Vec X A). v.items) vecs

-- each list with one more, from the first on, as far as these go
abbrev pub dealt : {X : Type 0} → List (List X) → List X → List (List X)
dealt [] ys = []
dealt (xs ∷ xss) [] = xs ∷ xss
dealt (xs ∷ xss) (y ∷ ys) = (xs ++ y ∷ []) ∷ dealt xss ys

-- a token in its slot
abbrev pub slot_of : Name × SeenView → Option SeenView
slot_of t = Some t.1

-- the tokens of a thread, which have seen nothing, at each of these logs
abbrev pub slots_of : List ShardName → ℕ → List (Option SeenView)
slots_of names thread = map (λ (n : ShardName). Some (seen_view n.log thread [])) names
