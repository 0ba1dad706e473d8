-- The call that makes the instance comes down through a new chain.
use Rattle.std.proofs.Common.{◌≡◌, ℕ, ◌+◌, List, [], ◌∷◌, map, refl, ap}
use Rattle.command_tables.specs.Table.{row_of}
use Rattle.object_model.specs.declared.PartKind.{PartKind}
use Rattle.object_model.specs.declared.PartKind.TheVariants as part
use Rattle.replay_model.specs.Past.{Opened}
use Rattle.layer_model.specs.Walks.{Walked, enter_parts, new_part, nothing_found, passed}
use Rattle.chain_model.specs.Simulated.{base_of, fresh_of}

-- what is come to below
abbrev new_walked : Opened → List PartKind → Walked
new_walked o kinds = record { states = map (fresh_of o) kinds; forms = map (λ _. base_of o) kinds; found = nothing_found; bottom = base_of o }

pub new_walk : (o : Opened) → (row_of o.cmd).params ≡ [] → (kinds : List PartKind) (place : ℕ) → enter_parts o.thread o.number place (map new_part kinds) (base_of o) ≡ new_walked o kinds
new_walk o none [] place = refl
new_walk o none (part.Threads ∷ kinds) place = rw none (ap (λ w. passed (fresh_of o part.Threads) (base_of o) place [] w) (new_walk o none kinds (place + 1)))
new_walk o none (part.Lifetimes ∷ kinds) place = rw none (ap (λ w. passed (fresh_of o part.Lifetimes) (base_of o) place [] w) (new_walk o none kinds (place + 1)))
new_walk o none (part.Unique ∷ kinds) place = rw none (ap (λ w. passed (fresh_of o part.Unique) (base_of o) place [] w) (new_walk o none kinds (place + 1)))
