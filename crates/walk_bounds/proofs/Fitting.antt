-- Light parts fit their room.
use Rattle.std.proofs.Common.{ℕ, zero, suc, List, [], ◌∷◌, refl, arith}
use Rattle.layer_model.specs.Walks.{PartState, Threads, Lifetimes, Unique}
use Rattle.dispatch_chain.specs.Room.{AllCanOpen, AreRoomy, PartRoom}
use Rattle.walk_bounds.specs.Bounds.{AllHaveUses, AllLight, uses_together}
use Rattle.walk_bounds.proofs.Light.{light_fits}

pub roomy : (n : ℕ) (threads : List ℕ) (states : List PartState) (rooms : List PartRoom) → AllLight n threads states → AllHaveUses (uses_together threads n) states rooms → AreRoomy states rooms
roomy n threads [] rooms light uses = tt
roomy n threads (s ∷ states) [] light uses = tt
roomy n threads (Threads m ∷ states) (r ∷ rooms) light uses =
    let fits = light_fits n threads m.opens light.0 in
    let calls = fits.0 in
    let all = fits.1 in
    let room = uses zero (Threads m) r refl refl in
    (record { calls = omega (arith, calls, room); uses = omega (arith, all, room) }, roomy n threads states rooms light.1 (λ i. uses (suc i)))
roomy n threads (Lifetimes m ∷ states) (r ∷ rooms) light uses = (tt, roomy n threads states rooms light (λ i. uses (suc i)))
roomy n threads (Unique m ∷ states) (r ∷ rooms) light uses = (tt, roomy n threads states rooms light (λ i. uses (suc i)))

pub reserved : (uses : ℕ) (states : List PartState) (rooms : List PartRoom) → AllCanOpen uses states rooms → AllHaveUses uses states rooms
reserved uses states rooms can i (Threads m) r at here = let fits = (can i (Threads m) r at here).0 in omega (arith, fits)
reserved uses states rooms can i (Lifetimes m) r at here = tt
reserved uses states rooms can i (Unique m) r at here = tt
