-- By which policy seats answer.
use Rattle.std.proofs.Common.{◌≡◌, Option, List, [], ◌∷◌, map, subst, sym}
use Rattle.std.specs.List.{AllByRecursion}
use Rattle.model_driver.specs.declared.driver.Policy.{Policy}
use Rattle.model_driver.specs.Seats.{IsPolicy}

-- by what is told of them
policies_told : {S : Type 0} (answers_by : S → Option Policy) (policy : Policy) (seats : List S) → AllByRecursion (λ (s : S). IsPolicy (answers_by s) policy) seats → AllByRecursion (λ (told : Option Policy). IsPolicy told policy) (map answers_by seats)
policies_told answers_by policy [] all = tt
policies_told answers_by policy (s ∷ seats) all = (all.0, policies_told answers_by policy seats all.1)

policies_of : {S : Type 0} (answers_by : S → Option Policy) (policy : Policy) (seats : List S) → AllByRecursion (λ (told : Option Policy). IsPolicy told policy) (map answers_by seats) → AllByRecursion (λ (s : S). IsPolicy (answers_by s) policy) seats
policies_of answers_by policy [] all = tt
policies_of answers_by policy (s ∷ seats) all = (all.0, policies_of answers_by policy seats all.1)

-- seats of which the same is told as of those of a policy answer by it
pub policies_kept : {S : Type 0} (answers_by : S → Option Policy) (policy : Policy) (old new : List S) → map answers_by new ≡ map answers_by old → AllByRecursion (λ (s : S). IsPolicy (answers_by s) policy) old
    → AllByRecursion (λ (s : S). IsPolicy (answers_by s) policy) new
policies_kept answers_by policy old new same all =
    policies_of answers_by policy new (subst (AllByRecursion (λ (told : Option Policy). IsPolicy told policy)) (sym same) (policies_told answers_by policy old all))
