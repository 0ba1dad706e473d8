-- What a call leaves, by other names of the same values.
use Rattle.std.proofs.Common.{◌≡◌, subst}
use denote.Ref.{Bor, MutBor}
use denote.Param.Members.{Shared}
use Rattle.stream_threads.specs.Sharing.{Leaves}

pub leaves_so : {F Q T : Type 0} {g : Shared F (Bor Q × (MutBor T × Unit {0})) (Unit {0} × (MutBor T × Unit {0}))} {f : F} {q : Bor Q} {a x b y : T} → Leaves g f q a b → a ≡ x → b ≡ y → Leaves g f q x y
leaves_so {g = g} {f = f} {q = q} {x = x} {b = b} said first second = subst (λ z. Leaves g f q x z) second (subst (λ w. Leaves g f q w b) first said)
