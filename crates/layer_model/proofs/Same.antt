-- Objects that are the same are one.
use Rattle.std.proofs.Common.{◌≡◌, ◌==◌, ℕ, Bool, true, false, ◌&&◌, refl, sym, ◌∙◌, ap}
use Rattle.std.proofs.lemmas.Bool.{eqb-true, eq-eqb}
use Rattle.command_tables.specs.contracts.types.ObjectType as type
use Rattle.command_tables.specs.declared.types.ObjectType.{ObjectType}
use Rattle.object_model.specs.declared.Object.{Object}
use Rattle.command_tables.specs.Tests.{same_type}
use Rattle.object_model.specs.Objects.{same}
use denote.Enum.Bare.{same_true, true_same}

pub and_true : (a b : Bool) → a && b ≡ true → (a ≡ true) × (b ≡ true)
and_true true true e = (refl, refl)
and_true true false e = (refl, e)
and_true false b e = (e, cc)

pub type_is : (a b : ObjectType) → same_type a b ≡ true → a ≡ b
unfolding same_type
type_is a b e = same_true type.the_type tt a b e

pub type_self : (a : ObjectType) → same_type a a ≡ true
unfolding same_type
type_self a = true_same type.the_type a a refl

pub object_is : (a b : Object) → a.ty ≡ b.ty → a.number ≡ b.number → a ≡ b
object_is a b t n = ap (λ (x : ObjectType). record { ty = x; number = a.number }) t ∙ ap (λ (y : ℕ). record { ty = b.ty; number = y }) n

pub same_is : (a b : Object) → same a b ≡ true → a ≡ b
same_is a b e =
    let parts = and_true (same_type a.ty b.ty) (a.number == b.number) e in
    object_is a b (type_is a.ty b.ty parts.0) (eqb-true a.number b.number parts.1)

pub same_self : (a : Object) → same a a ≡ true
same_self a = rw (type_self a.ty, eq-eqb a.number a.number refl) refl

pub apart : (a b : Object) → (a ≡ b → ⊥) → same a b ≡ false
apart a b ne = go (same a b) refl
  where
    go : (t : Bool) → same a b ≡ t → t ≡ false
    go true e = absurd (ne (same_is a b e))
    go false e = refl

pub same_sym : (a b : Object) → same a b ≡ same b a
same_sym a b = go (same a b) refl (same b a) refl
  where
    go : (t : Bool) → same a b ≡ t → (u : Bool) → same b a ≡ u → t ≡ u
    go true e true f = refl
    go false e false f = refl
    go true e false f = let is : a ≡ b = same_is a b e in sym (same_self b) ∙ (ap (λ x. same b x) (sym is) ∙ f)
    go false e true f = let is : b ≡ a = same_is b a f in sym e ∙ (ap (λ x. same a x) is ∙ same_self a)
