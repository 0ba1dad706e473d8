-- What unique parts keep, by the program's values.
use Rattle.std.proofs.Common.{◌<◌, ℕ, zero, suc, List, [], ◌∷◌, length, map, get_or, slice_set, arith}
use Rattle.command_tables.specs.declared.types.CommandId.{CommandId}
use Rattle.command_tables.specs.Calls.{CallContent}
use Rattle.object_model.specs.declared.PartKind.{PartKind}
use Rattle.object_model.specs.declared.PartKind.TheVariants as kind
use Rattle.layer_model.specs.Walks.{new_part}
use Rattle.dispatch_chain.specs.Holding.{AllOf, AllShaped}
use Rattle.dispatch_chain.specs.Kept.{AllKept, IsKept}
use Rattle.dispatch_chain.specs.Seats.{state_of}
use Rattle.dispatch_chain.specs.declared.part.Part.{Part}

-- a part that goes on rising leaves all so
pub kept_set : (ps : List Part) (i : ℕ) (p d : Part) → i < length ps → (IsKept (state_of (get_or ps i d)) → IsKept (state_of p)) → AllKept (map state_of ps) → AllKept (map state_of (slice_set ps i p))
kept_set [] i p d h f a = a
kept_set (q ∷ ps) zero p d h f a = (f a.0, a.1)
kept_set (q ∷ ps) (suc i) p d h f a = (a.0, kept_set ps i p d (omega arith) f a.1)

-- new parts keep nothing yet
pub all_new : (ks : List PartKind) → AllKept (map new_part ks)
all_new [] = tt
all_new (kind.Threads ∷ ks) = (tt, all_new ks)
all_new (kind.Lifetimes ∷ ks) = (tt, all_new ks)
all_new (kind.Unique ∷ ks) = (tt, all_new ks)

-- what is held is of the command
pub shaped_all : (cmd : CommandId) (cs : List CallContent) → AllShaped cmd cs → AllOf cmd cs
shaped_all cmd [] h = tt
shaped_all cmd (c ∷ cs) h = (h.0.0, shaped_all cmd cs h.1)
