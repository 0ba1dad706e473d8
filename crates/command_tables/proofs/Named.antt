-- Look-ups by name and by number.
use Rattle.std.proofs.Common.{◌≡◌, ◌+◌, ℕ, zero, suc, Bool, true, false, cond, Some, List, [], ◌∷◌, refl, IfSome, slice_get, arith, ◌∙◌}
use Rattle.std.specs.List.{find}
use Rattle.std.specs.Str.{bytes_eq}
use Rattle.std.proofs.lemmas.Slice.Eq.{bytes_eq-Decides}
use Rattle.command_tables.specs.declared.types.CommandId.{CommandId}
use Rattle.command_tables.specs.declared.lookup.TheConstants.{COMMANDS}
use Rattle.command_tables.specs.Numbers.{number_of}

-- what a look-up finds has the name
pub found_name : {X : Type 0} (key : X → List ℕ) (name : List ℕ) (xs : List X) → IfSome (find (λ x. bytes_eq (key x) name) xs) (λ x. key x ≡ name)
found_name key name [] = tt
found_name key name (x ∷ xs) = go (found_name key name xs) (bytes_eq (key x) name) (bytes_eq-Decides (key x) name).0
  where
    go : IfSome (find (λ x. bytes_eq (key x) name) xs) (λ x. key x ≡ name) → (t : Bool) → (t ≡ true → key x ≡ name)
        → IfSome (cond t (Some x) (find (λ x. bytes_eq (key x) name) xs)) (λ x. key x ≡ name)
    go ih true h = h refl
    go ih false h = ih

-- commands whose numbers count up
CountUp : ℕ → List CommandId → Type 0
CountUp n [] = Unit {0}
CountUp n (c ∷ cs) = (number_of c ≡ n) × CountUp (n + 1) cs

-- what stands at place k of commands that count up from n has number n + k
numbered : (n : ℕ) (cs : List CommandId) (k : ℕ) → CountUp n cs → IfSome (slice_get cs k) (λ c. number_of c ≡ n + k)
unfolding CountUp
numbered n [] k up = tt
numbered n (c ∷ cs) zero up = up.0 ∙ omega arith
numbered n (c ∷ cs) (suc k) up =
    let e : (n + 1) + k ≡ n + suc k = omega arith in
    rw e at (numbered (n + 1) cs k up.1)

-- what stands at a place has that number
pub number_at : (k : ℕ) → IfSome (slice_get COMMANDS k) (λ c. number_of c ≡ 1 + k)
unfolding CountUp
number_at k = numbered 1 COMMANDS k (search)
