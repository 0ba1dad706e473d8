-- Tokens tell born objects apart, and stay as they are when more is born.
use Rattle.std.proofs.Common.{◌≡◌, ◌==◌, suc, Bool, true, false, cond, ◌&&◌, ◌||◌, Option, Some, None, List, [], ◌∷◌, ◌++◌, refl, sym, ◌∙◌, ap, arith}
use Rattle.std.proofs.lemmas.Bool.{eq-eqb, ne_eqb}
use Rattle.std.specs.Option.{option_map}
use Rattle.command_tables.specs.declared.types.ObjectType.{ObjectType}
use Rattle.object_model.specs.declared.Object.{Object}
use Rattle.replay_model.specs.declared.Born.{Born}
use Rattle.command_tables.specs.Tests.{same_type}
use Rattle.object_model.specs.Objects.{same, are_same}
use Rattle.object_model.specs.History.{Birth, born_in}
use Rattle.object_model.specs.Renaming.{IsOneToOne}
use Rattle.chain_model.specs.Tokens.{issued_with, births_before, number_in, token_in}
use Rattle.chain_model.proofs.OneByOne.{IsBorn, bear, births_after, AreOnce}
use Rattle.layer_model.proofs.Same.{same_is, same_self, same_sym, type_is}
use Rattle.chain_model.proofs.Positions.{before_grown, token_grown, one_place, issued_own}

-- born in a longer list
pub born_grown : (bs cs : List Birth) (o : Object) → born_in bs o ≡ true → born_in (bs ++ cs) o ≡ true
born_grown [] cs o born = cc
born_grown (b ∷ bs) cs o born = go (same b.object o) (born_grown bs cs o) born
  where
    go : (t : Bool) → (born_in bs o ≡ true → born_in (bs ++ cs) o ≡ true) → (t || born_in bs o) ≡ true → (t || born_in (bs ++ cs) o) ≡ true
    go true ih e = refl
    go false ih e = ih e

-- the last is born
pub born_last : (bs : List Birth) (b : Birth) → born_in (bs ++ b ∷ []) b.object ≡ true
born_last [] b = rw (same_self b.object) refl
born_last (x ∷ bs) b = ap (λ t. same x.object b.object || t) (born_last bs b) ∙ or_true (same x.object b.object)
  where
    or_true : (t : Bool) → (t || true) ≡ true
    or_true true = refl
    or_true false = refl

-- a longer list doesn't bear another
pub born_but : (bs : List Birth) (b : Birth) (o : Object) → same b.object o ≡ false → born_in (bs ++ b ∷ []) o ≡ born_in bs o
born_but [] b o e = rw e refl
born_but (x ∷ bs) b o e = ap (λ t. same x.object o || t) (born_but bs b o e)

-- the place of the last
pub before_last : (issues : ObjectType → Bool) (bs : List Birth) (b : Birth) → born_in bs b.object ≡ false → births_before issues (bs ++ b ∷ []) b.object ≡ births_before issues bs b.object
before_last issues [] b fresh = rw (same_self b.object) refl
before_last issues (x ∷ bs) b fresh = go (before_last issues bs b) (same x.object b.object) refl
  where
    go : (born_in bs b.object ≡ false → births_before issues (bs ++ b ∷ []) b.object ≡ births_before issues bs b.object) → (t : Bool) → same x.object b.object ≡ t
        → births_before issues (x ∷ bs ++ b ∷ []) b.object ≡ births_before issues (x ∷ bs) b.object
    go ih true e = let bad : born_in (x ∷ bs) b.object ≡ true = ap (λ t. t || born_in bs b.object) e in cc
    go ih false e = ap (λ n. cond (same x.object b.object) 0 (cond (issues x.object.ty) (suc n) n)) (ih (sym (ap (λ t. t || born_in bs b.object) e) ∙ fresh))

-- the token function tells born objects apart
pub one_to_one : (bs : List Birth) → IsOneToOne (born_in bs) (token_in bs)
one_to_one bs = record {
  type_kept = λ o. refl;
  same_kept = λ a b p q. kept a b p q;
}
  where
    numbers : (a b : Object) → born_in bs a ≡ true → born_in bs b ≡ true → a.ty ≡ b.ty → number_in bs a ≡ number_in bs b → a ≡ b
    numbers a b p q e n =
        let m : births_before (issued_with a.ty) bs a ≡ births_before (issued_with b.ty) bs b = omega (arith, n) in
        one_place (issued_with a.ty) bs a b (issued_own a.ty) (ap (λ (t : ObjectType). issued_with a.ty t) (sym e) ∙ issued_own a.ty) p q
        (m ∙ ap (λ (t : ObjectType). births_before (issued_with t) bs b) (sym e))

    same_number : (a b : Object) → born_in bs a ≡ true → born_in bs b ≡ true → a.ty ≡ b.ty → (t : Bool) → same a b ≡ t → (number_in bs a == number_in bs b) ≡ t
    same_number a b p q e true h = eq-eqb (number_in bs a) (number_in bs b) (ap (number_in bs) (same_is a b h))
    same_number a b p q e false h = ne_eqb (number_in bs a) (number_in bs b) (λ n. let is : a ≡ b = numbers a b p q e n in let bad : same a b ≡ true = ap (λ x. same a x) (sym is) ∙ same_self a in cc)

    kept : (a b : Object) → born_in bs a ≡ true → born_in bs b ≡ true → same (token_in bs a) (token_in bs b) ≡ same a b
    kept a b p q = go (same_type a.ty b.ty) refl
      where
        go : (t : Bool) → same_type a.ty b.ty ≡ t → (same_type a.ty b.ty && number_in bs a == number_in bs b) ≡ same a b
        go true e = rw e at_type
          where
            at_type : (true && number_in bs a == number_in bs b) ≡ (true && a.number == b.number)
            at_type = same_number a b p q (type_is a.ty b.ty e) (a.number == b.number) (ap (λ t. t && a.number == b.number) e)
        go false e = rw e refl

-- ---- owners that may be absent

-- the tokens of owners tell owners apart
pub owners_apart : (bs : List Birth) (a b : Option Object) → IsBorn bs a → IsBorn bs b → are_same (option_map (token_in bs) a) (option_map (token_in bs) b) ≡ are_same a b
owners_apart bs (Some a) (Some b) p q = (one_to_one bs).same_kept a b p q
owners_apart bs (Some a) None p q = refl
owners_apart bs None b p q = refl

pub is_born_grown : (bs cs : List Birth) (a : Option Object) → IsBorn bs a → IsBorn (bs ++ cs) a
is_born_grown bs cs None p = tt
is_born_grown bs cs (Some a) p = born_grown bs cs a p

pub owner_grown : (bs cs : List Birth) (a : Option Object) → IsBorn bs a → option_map (token_in (bs ++ cs)) a ≡ option_map (token_in bs) a
owner_grown bs cs None p = refl
owner_grown bs cs (Some a) p = ap (λ x. Some x) (token_grown bs cs a p)

-- ---- the births of one call, one by one

pub born_borne : (created : Bool) (owners : List Object) (bs : List Birth) (x o : Object) → born_in bs o ≡ true → born_in (bear created owners bs x) o ≡ true
born_borne created owners bs x o born = go (born_in bs x)
  where
    go : (t : Bool) → born_in (cond t bs (bs ++ record { object = x; created = created; owners = owners } ∷ [])) o ≡ true
    go true = born
    go false = born_grown bs (record { object = x; created = created; owners = owners } ∷ []) o born

pub number_borne : (created : Bool) (owners : List Object) (bs : List Birth) (x o : Object) → born_in bs o ≡ true → number_in (bear created owners bs x) o ≡ number_in bs o
number_borne created owners bs x o born = go (born_in bs x)
  where
    go : (t : Bool) → number_in (cond t bs (bs ++ record { object = x; created = created; owners = owners } ∷ [])) o ≡ number_in bs o
    go true = refl
    go false = ap suc (before_grown (issued_with o.ty) bs (record { object = x; created = created; owners = owners } ∷ []) o born)

-- the object itself is born then
pub born_itself : (created : Bool) (owners : List Object) (bs : List Birth) (x : Object) → born_in (bear created owners bs x) x ≡ true
born_itself created owners bs x = go (born_in bs x) refl
  where
    go : (t : Bool) → born_in bs x ≡ t → born_in (cond t bs (bs ++ record { object = x; created = created; owners = owners } ∷ [])) x ≡ true
    go true e = e
    go false e = born_last bs (record { object = x; created = created; owners = owners })

pub born_after : (created : Bool) (owners : List Object) (bs : List Birth) (made : List Born) (o : Object) → born_in bs o ≡ true → born_in (births_after created owners bs made) o ≡ true
born_after created owners bs [] o born = born
born_after created owners bs (b ∷ made) o born = born_after created owners (bear created owners bs b.object) made o (born_borne created owners bs b.object o born)

pub number_after : (created : Bool) (owners : List Object) (bs : List Birth) (made : List Born) (o : Object) → born_in bs o ≡ true → number_in (births_after created owners bs made) o ≡ number_in bs o
number_after created owners bs [] o born = refl
number_after created owners bs (b ∷ made) o born =
    number_after created owners (bear created owners bs b.object) made o (born_borne created owners bs b.object o born) ∙ number_borne created owners bs b.object o born

-- no object is born twice
pub once_last : (bs : List Birth) (b : Birth) → AreOnce bs → born_in bs b.object ≡ false → AreOnce (bs ++ b ∷ [])
once_last [] b once fresh = (refl, tt)
once_last (x ∷ bs) b once fresh =
    let other : same b.object x.object ≡ false = sym (same_sym x.object b.object) ∙ left (same x.object b.object) (born_in bs b.object) fresh in
    (born_but bs b x.object other ∙ once.0, once_last bs b once.1 (right (same x.object b.object) (born_in bs b.object) fresh))
  where
    left : (p q : Bool) → (p || q) ≡ false → p ≡ false
    left false q e = refl
    left true q e = cc e

    right : (p q : Bool) → (p || q) ≡ false → q ≡ false
    right false q e = e
    right true q e = cc e

pub once_borne : (created : Bool) (owners : List Object) (bs : List Birth) (x : Object) → AreOnce bs → AreOnce (bear created owners bs x)
once_borne created owners bs x once = go (born_in bs x) refl
  where
    go : (t : Bool) → born_in bs x ≡ t → AreOnce (cond t bs (bs ++ record { object = x; created = created; owners = owners } ∷ []))
    go true e = once
    go false e = once_last bs (record { object = x; created = created; owners = owners }) once e

pub once_after : (created : Bool) (owners : List Object) (bs : List Birth) (made : List Born) → AreOnce bs → AreOnce (births_after created owners bs made)
once_after created owners bs [] once = once
once_after created owners bs (b ∷ made) once = once_after created owners (bear created owners bs b.object) made (once_borne created owners bs b.object once)
