-- Room for the results of a call, one after the other.
use Rattle.std.proofs.Common.{◌≡◌, ◌<◌, ◌≤◌, ◌^◌, ℕ, zero, suc, ◌+◌, ◌-◌, ◌*◌, Option, Some, None, refl, ap, ◌∙◌, arith, add-one}
use Rattle.std.specs.Prelude.{Result, Ok, Err, OnErr}
use Rattle.std.proofs.Math.Nat.{add-mul, suc-mul}
use Rattle.layer_model.specs.Ids.{Key, at_key}
use Rattle.terminator.specs.Calls.{TerminatorState}
use Rattle.terminator.specs.Room.{HasRoom}
use Rattle.terminator.specs.Shown.{bytes_of}

-- another place has the same payload
pub bytes_at : (k : Option Key) (place : ℕ) → bytes_of (at_key k place) ≡ bytes_of k
bytes_at None place = refl
bytes_at (Some k) place = refl

-- one place more
pub one_more : (k d : ℕ) → (k + 1) * d ≡ k * d + d
one_more k d = ap (λ m. m * d) (add-one k) ∙ suc-mul k d

-- what one place of several takes, with those before it
so_far : (n k d : ℕ) → k < n → k * d + d ≤ n * d
so_far n k d less =
    let whole : n ≡ (n - (k + 1)) + (k + 1) = omega (arith, less) in
    let parts : n * d ≡ (n - (k + 1)) * d + (k + 1) * d = ap (λ m. m * d) whole ∙ add-mul (n - (k + 1)) (k + 1) d in
    omega (arith, parts, one_more k d)

-- what is left for the next place
next_fits : (n k d was now : ℕ) → k < n → n * d ≤ was → was ≤ now + k * d → d ≤ now
next_fits n k d was now less low left = omega (arith, so_far n k d less, low, left)

-- how far the results before a place have taken up the room
pub record IsUsedUp (s now : TerminatorState) (k drivers payload : ℕ) : Type 0 where
  pub spare : s.spare ≤ now.spare + k
  pub values : s.values ≤ now.values + k * drivers
  pub bytes : s.bytes ≤ now.bytes + k * payload

-- where there was room for all, there is for each
pub one_fits : (X : Type 0) (s now : TerminatorState) (n k d b : ℕ) → k < n → IsUsedUp s now k d b → HasRoom s n d b → (1 ≤ now.spare → d ≤ now.values → b ≤ now.bytes → k < 2 ^ 32 → X) → X
one_fits X s now n k d b less used room one =
    one (omega (arith, less, room.ids, used.spare)) (next_fits n k d s.values now.values less room.values used.values) (next_fits n k b s.bytes now.bytes less room.bytes used.bytes) (omega (arith, less, room.few))

-- a result that finds no room, where there is room for more than one, is the first
pub only_first : (s now : TerminatorState) (n k d b : ℕ) → k < n → IsUsedUp s now k d b → (1 < n → HasRoom s n d b) → (1 ≤ now.spare → d ≤ now.values → b ≤ now.bytes → k < 2 ^ 32 → k ≡ 0) → k ≡ 0
only_first s now n zero d b less used room none = refl
only_first s now n (suc k) d b less used room none = one_fits (suc k ≡ 0) s now n (suc k) d b less used (room (omega (arith, less))) none

-- what holds after an error
pub on_err : {T E : Type 0} (r : Result T E) (P : Type 0) → P → OnErr r P
on_err (Ok v) P p = tt
on_err (Err e) P p = p
