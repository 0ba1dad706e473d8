-- Objects that end one after another: where owners stand in a line, what is left in between tells what ends as the births before do.
use Rattle.std.proofs.Common.{◌≡◌, Bool, true, false, not, ◌&&◌, ◌||◌, List, [], ◌∷◌, refl, sym, ◌∙◌, ap, subst}
use Rattle.std.specs.Prelude.{Some, find, cond}
use Rattle.std.specs.Option.{option_map_or}
use Rattle.object_model.specs.declared.Object.{Object}
use Rattle.object_model.specs.Objects.{is_in, same}
use Rattle.object_model.specs.History.{Birth, born_in, created_in, ends_with, owners_in}
use Rattle.session_tables.specs.Lined.{AreLeft, AreLined, IsLine}
use Rattle.session_tables.proofs.Objects.{same-true, same_self}

-- what ends an owner ends what it owns
abbrev pub GoWithOwners : List Birth → (Object → Bool) → Type 0
GoWithOwners bs ends = (x y : Object) → is_in (owners_in bs x) y ≡ true → ends y ≡ true → ends x ≡ true

pub or_left : (a b : Bool) → a ≡ true → (a || b) ≡ true
or_left true b e = refl
or_left false b e = cc e

pub or_right : (a b : Bool) → b ≡ true → (a || b) ≡ true
or_right true b e = refl
or_right false b e = e

and_of : (a b : Bool) → a ≡ true → b ≡ true → (a && b) ≡ true
and_of true b p q = q
and_of false b p q = cc p

pub both_true : (a b : Bool) → (a && b) ≡ true → (a ≡ true) × (b ≡ true)
both_true true b e = (refl, e)
both_true false b e = cc e

pub not_true : (b : Bool) → not b ≡ true → b ≡ false
not_true true e = cc e
not_true false e = refl

-- what isn't born has no owners and isn't created
pub unborn_owners : (bs : List Birth) (o : Object) → born_in bs o ≡ false → owners_in bs o ≡ []
unborn_owners [] o e = refl
unborn_owners (b ∷ bs) o e = go (same b.object o) e (unborn_owners bs o)
  where
    go : (t : Bool) → (t || born_in bs o) ≡ false → (born_in bs o ≡ false → owners_in bs o ≡ []) → option_map_or (λ (x : Birth). x.owners) (cond t (Some b) (find (λ x. same x.object o) bs)) [] ≡ []
    go true h ih = cc h
    go false h ih = ih h

pub unborn_uncreated : (bs : List Birth) (o : Object) → born_in bs o ≡ false → created_in bs o ≡ false
unborn_uncreated [] o e = refl
unborn_uncreated (b ∷ bs) o e = go (same b.object o) e (unborn_uncreated bs o)
  where
    go : (t : Bool) → (t || born_in bs o) ≡ false → (born_in bs o ≡ false → created_in bs o ≡ false) → ((t && b.created) || created_in bs o) ≡ false
    go true h ih = cc h
    go false h ih = ih h

-- ---- what goes with its owners

-- what owns an owner of an object owns the object
pub owns_too : (bs : List Birth) → AreLined bs → (os : List Object) (x y n : Object) → owners_in bs x ≡ os → is_in os y ≡ true → is_in (owners_in bs y) n ≡ true → is_in os n ≡ true
owns_too bs lined [] x y n is here there = cc here
owns_too bs lined (w ∷ ws) x y n is here there =
    let line : IsLine bs (w ∷ ws) = subst (IsLine bs) is (lined x) in go line.1 (λ h. owns_too bs lined ws w y n (sym line.1) h there) (same w y) refl here
  where
    go : ws ≡ owners_in bs w → (is_in ws y ≡ true → is_in ws n ≡ true) → (t : Bool) → same w y ≡ t → (t || is_in ws y) ≡ true → (same w n || is_in ws n) ≡ true
    go behind ih true e h = or_right (same w n) (is_in ws n) (ap (λ zs. is_in zs n) (behind ∙ ap (owners_in bs) (same-true w y e)) ∙ there)
    go behind ih false e h = or_right (same w n) (is_in ws n) (ih h)

-- what a named object owns goes with it
pub below_goes : (bs : List Birth) (n : Object) → AreLined bs → GoWithOwners bs (λ x. is_in (owners_in bs x) n)
below_goes bs n lined x y owned e = owns_too bs lined (owners_in bs x) x y n refl owned e

pub with_goes : (bs : List Birth) (n : Object) → AreLined bs → GoWithOwners bs (λ x. ends_with bs x n)
with_goes bs n lined x y owned e =
    let parts = both_true (created_in bs n) (same y n || is_in (owners_in bs y) n) e in
    and_of (created_in bs n) (same x n || is_in (owners_in bs x) n) parts.0 (or_right (same x n) (is_in (owners_in bs x) n) (go (same y n) refl parts.1))
  where
    go : (t : Bool) → same y n ≡ t → (t || is_in (owners_in bs y) n) ≡ true → is_in (owners_in bs x) n ≡ true
    go true is h = ap (is_in (owners_in bs x)) (sym (same-true y n is)) ∙ owned
    go false is h = below_goes bs n lined x y owned h

-- nothing goes, and one or another
pub none_goes : (bs : List Birth) → GoWithOwners bs (λ x. false)
none_goes bs x y owned e = e

pub either_goes : (bs : List Birth) (p q : Object → Bool) → GoWithOwners bs p → GoWithOwners bs q → GoWithOwners bs (λ x. p x || q x)
either_goes bs p q f g x y owned e = go (p y) refl e
  where
    go : (t : Bool) → p y ≡ t → (t || q y) ≡ true → (p x || q x) ≡ true
    go true h k = or_left (p x) (q x) (f x y owned h)
    go false h k = or_right (p x) (q x) (g x y owned k)

-- ---- what is left

pub left_none : (bs : List Birth) → AreLeft bs (λ x. false) bs
left_none bs = record { lives = λ x. keep (born_in bs x); alike = λ x there. record { created = refl; owners = refl } }
  where
    keep : (b : Bool) → b ≡ (b && not false)
    keep true = refl
    keep false = refl

module _ (before : List Birth) (p : Object → Bool) (after : List Birth) (lined : AreLined before) (goes : GoWithOwners before p) (left : AreLeft before p after) where
  -- what is left was there, and doesn't end
  was : (x : Object) → born_in after x ≡ true → (born_in before x ≡ true) × (p x ≡ false)
  was x there = let parts = both_true (born_in before x) (not (p x)) (sym (left.lives x) ∙ there) in (parts.0, not_true (p x) parts.1)

  -- owners of what is left are left
  owner_left : (x w : Object) → born_in after x ≡ true → is_in (owners_in before x) w ≡ true → born_in before w ≡ true → born_in after w ≡ true
  owner_left x w there owned born = left.lives w ∙ and_of (born_in before w) (not (p w)) born (go (p w) refl)
    where
      go : (t : Bool) → p w ≡ t → not t ≡ true
      go true e = let yes : p x ≡ true = goes x w owned e in let no : p x ≡ false = (was x there).1 in cc
      go false e = refl

  -- the owners of what is left stand in a line
  pub left_lined : AreLined after
  left_lined x = at (born_in after x) refl
    where
      line : (os : List Object) → owners_in before x ≡ os → IsLine before os → born_in after x ≡ true → IsLine after os
      line [] is l there = tt
      line (w ∷ ws) is l there =
          let owned : is_in (owners_in before x) w ≡ true = ap (λ zs. is_in zs w) is ∙ or_left (same w w) (is_in ws w) (same_self w) in
          let lives : born_in after w ≡ true = owner_left x w there owned l.0 in
          (lives, l.1 ∙ sym (left.alike w lives).owners)

      at : (t : Bool) → born_in after x ≡ t → IsLine after (owners_in after x)
      at true there = subst (IsLine after) (sym (left.alike x there).owners) (line (owners_in before x) refl (lined x) there)
      at false gone = subst (IsLine after) (sym (unborn_owners after x gone)) tt

  -- owners are born, so what isn't left is no owner of what is left
  owner_born : (os : List Object) (x w : Object) → owners_in before x ≡ os → is_in os w ≡ true → born_in before w ≡ true
  owner_born [] x w is there = cc there
  owner_born (v ∷ vs) x w is there =
      let line : IsLine before (v ∷ vs) = subst (IsLine before) is (lined x) in go line.0 (λ h. owner_born vs v w (sym line.1) h) (same v w) refl there
    where
      go : born_in before v ≡ true → (is_in vs w ≡ true → born_in before w ≡ true) → (t : Bool) → same v w ≡ t → (t || is_in vs w) ≡ true → born_in before w ≡ true
      go born ih true e h = ap (born_in before) (sym (same-true v w e)) ∙ born
      go born ih false e h = ih h

  -- of what is left, the same goes with a named object as before
  pub with_left : (x n : Object) → born_in after x ≡ true → ends_with after x n ≡ ends_with before x n
  with_left x n there = ap (λ os. created_in after n && (same x n || is_in os n)) (left.alike x there).owners ∙ go (born_in after n) refl
    where
      none : (b : Bool) → (b && false) ≡ false
      none true = refl
      none false = refl

      apart : born_in after n ≡ false → (same x n || is_in (owners_in before x) n) ≡ false
      apart gone = at (same x n) refl (is_in (owners_in before x) n) refl
        where
          at : (t : Bool) → same x n ≡ t → (u : Bool) → is_in (owners_in before x) n ≡ u → (t || u) ≡ false
          at true is u e = let yes : born_in after n ≡ true = ap (born_in after) (sym (same-true x n is)) ∙ there in cc
          at false is true e = let yes : born_in after n ≡ true = owner_left x n there e (owner_born (owners_in before x) x n refl e) in cc
          at false is false e = refl

      go : (t : Bool) → born_in after n ≡ t → (created_in after n && (same x n || is_in (owners_in before x) n)) ≡ (created_in before n && (same x n || is_in (owners_in before x) n))
      go true lives = ap (λ c. c && (same x n || is_in (owners_in before x) n)) (left.alike n lives).created
      go false gone =
          ap (λ t. created_in after n && t) (apart gone) ∙ (none (created_in after n) ∙ sym (ap (λ t. created_in before n && t) (apart gone) ∙ none (created_in before n)))

  pub below_left : (x n : Object) → born_in after x ≡ true → is_in (owners_in after x) n ≡ is_in (owners_in before x) n
  below_left x n there = ap (λ os. is_in os n) (left.alike x there).owners

-- what is left of what is left
pub left_more : (before mid after : List Birth) (p q r : Object → Bool) → AreLeft before p mid → AreLeft mid q after → ((x : Object) → born_in mid x ≡ true → q x ≡ r x) → AreLeft before (λ x. p x || r x) after
left_more before mid after p q r first then same_test = record {
  lives = λ x. then.lives x ∙ (go x (born_in mid x) refl ∙ (ap (λ t. t && not (r x)) (first.lives x) ∙ both (born_in before x) (p x) (r x)));
  alike = λ x there.
      let mine : born_in mid x ≡ true = (both_true (born_in mid x) (not (q x)) (sym (then.lives x) ∙ there)).0 in
      record { created = (then.alike x there).created ∙ (first.alike x mine).created; owners = (then.alike x there).owners ∙ (first.alike x mine).owners };
}
  where
    go : (x : Object) (t : Bool) → born_in mid x ≡ t → (born_in mid x && not (q x)) ≡ (born_in mid x && not (r x))
    go x true there = ap (λ t. born_in mid x && not t) (same_test x there)
    go x false gone = ap (λ t. t && not (q x)) gone ∙ sym (ap (λ t. t && not (r x)) gone)

    both : (a b c : Bool) → ((a && not b) && not c) ≡ (a && not (b || c))
    both true true c = refl
    both true false c = refl
    both false b c = refl
