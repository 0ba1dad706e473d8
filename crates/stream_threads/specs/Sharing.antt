-- Calls that threads make with what all of them share. Source: this project.
use Rattle.std.specs.Prelude.{◌≡◌, ◌<◌, ℕ, List, length}
use Rattle.std.specs.List.{slice_index_or}
use denote.Ref.{Bor, MutBor}
use denote.Param.Members.{Shared}

module _ {F Q T : Type 0} (g : Shared F (Bor Q × (MutBor T × Unit {0})) (Unit {0} × (MutBor T × Unit {0}))) (f : F) (q : Bor Q) where
  -- a call may leave y where x was
  pub record Leaves (x y : T) : Type 0 where
    pub argument : MutBor T
    pub argument_is : argument.now ≡ x
    pub after_call : MutBor T
    pub call : g.post f (q, (argument, tt)) (tt, (after_call, tt))
    pub left : after_call.now ≡ y

  -- f may be called at this value
  abbrev pub Takes : T → Type 0
  Takes x = (p : MutBor T) → p.now ≡ x → g.pre f (q, (p, tt))

  -- and at each of these
  abbrev pub TakesEach : List T → Type 0
  TakesEach xs = (i : ℕ) (d : T) → i < length xs → Takes (slice_index_or xs i d)

  -- each is what a call left
  abbrev pub LeavesEach : List T → List T → Type 0
  LeavesEach xs ys = (i : ℕ) (d : T) → i < length xs → Leaves (slice_index_or xs i d) (slice_index_or ys i d)
