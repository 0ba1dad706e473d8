-- What passes a test of being the same is alike.
use Rattle.std.proofs.Common.{◌≡◌, ◌&&◌, ◌==◌, Bool, true, false, refl}
use Rattle.std.proofs.lemmas.Bool.{eqb-true}
use Rattle.trace_format.specs.declared.event.Name.{Name}
use Rattle.trace_format.specs.Accepting.{same_name}

-- names that are the same are one
pub same_name_is : (a b : Name) → same_name a b ≡ true → a ≡ b
same_name_is a b e = go (a.thread == b.thread) (a.number == b.number) refl refl e
  where
    go : (s t : Bool) → (a.thread == b.thread) ≡ s → (a.number == b.number) ≡ t → (s && t) ≡ true → a ≡ b
    go true true p q e =
        let u : a.thread ≡ b.thread = eqb-true a.thread b.thread p in
        let v : a.number ≡ b.number = eqb-true a.number b.number q in
        λ i. record { thread = u i; number = v i }
    go true false p q e = cc e
    go false t p q e = cc e
