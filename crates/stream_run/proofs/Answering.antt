-- By which policy the seats of workers answer.
use Rattle.std.proofs.Common.{◌≡◌, ◌∙◌, ◌<◌, ℕ, zero, suc, List, [], ◌∷◌, ap, arith, length, map, refl}
use Rattle.std.specs.List.{slice_index_or}
use Rattle.stream_workers.specs.declared.worker.Worker.{Worker}

-- what is told of the seats of workers
pub map_of_seats : {S A : Type 0} (told : S → A) (workers : List (Worker S)) → map told (map (λ (w : Worker S). w.seat) workers) ≡ map (λ (w : Worker S). told w.seat) workers
map_of_seats told [] = refl
map_of_seats told (w ∷ workers) = ap (λ rest. told w.seat ∷ rest) (map_of_seats told workers)

-- the same of each as before is the same of all
pub policies_same : {S A : Type 0} (told : S → A) (old new : List (Worker S)) → length new ≡ length old → ((i : ℕ) (d : Worker S) → i < length old → told (slice_index_or new i d).seat ≡ told (slice_index_or old i d).seat)
    → map (λ (w : Worker S). told w.seat) new ≡ map (λ (w : Worker S). told w.seat) old
policies_same told [] [] count each = refl
policies_same told [] (v ∷ new) count each = absurd (omega (arith, count))
policies_same told (w ∷ old) [] count each = absurd (omega (arith, count))
policies_same {S} told (w ∷ old) (v ∷ new) count each =
    ap (λ one. one ∷ map (λ (u : Worker S). told u.seat) new) (each zero w (omega arith))
    ∙ ap (λ rest. told w.seat ∷ rest) (policies_same told old new (omega (arith, count)) (λ i d less. each (suc i) d (omega (arith, less))))
