-- Owners stand in a line, so what ends an owner ends what it owns; and what a call gives is born as its effect says.
use Rattle.std.proofs.Common.{◌≡◌, ℕ, zero, suc, Bool, true, false, not, cond, ◌&&◌, ◌||◌, Option, Some, List, [], ◌∷◌, ◌++◌, map, refl, sym, ◌∙◌, ap, subst}
use Rattle.std.specs.Prelude.{find, filter}
use Rattle.std.specs.List.{list_any, filter_map, AllByRecursion}
use Rattle.std.specs.Option.{option_map_or}
use Rattle.std.proofs.lemmas.List.Folds.{list_any-append}
use Rattle.command_tables.specs.declared.types.ObjectType.{ObjectType}
use Rattle.command_tables.specs.declared.types.ObjectType.TheVariants as ty
use Rattle.command_tables.specs.declared.types.Effect.{Effect}
use Rattle.command_tables.specs.declared.types.Effect.TheVariants as eff
use Rattle.command_tables.specs.Effects.{type_made}
use Rattle.command_tables.specs.Table.{ParamSpec}
use Rattle.command_tables.specs.Tests.{same_type}
use Rattle.object_model.specs.declared.Object.{Object}
use Rattle.object_model.specs.declared.Argument.{Argument}
use Rattle.object_model.specs.declared.Argument.TheVariants.{Null, Unborn, The}
use Rattle.object_model.specs.Objects.{first_in, is_in, object_of, objects_in, same}
use Rattle.object_model.specs.History.{Birth, born_in, births_given, births_of, created_in, ends_by, ends_with, owners_given, owners_in}
use Rattle.layer_model.proofs.Same.{and_true, same_is, same_self}
use Rattle.chain_model.proofs.Owners.{type_at}
use Rattle.chain_model.proofs.OneToOne.{born_grown}
use Rattle.chain_model.proofs.Passing.{AreTyped, HasType, creates, owners_by}
use Rattle.session_tables.specs.Lined.{AreLined, IsLine}

-- ---- tests

pub or_left : (a b : Bool) → a ≡ true → (a || b) ≡ true
or_left true b e = refl
or_left false b e = cc e

pub or_right : (a b : Bool) → b ≡ true → (a || b) ≡ true
or_right true b e = refl
or_right false b e = e

pub and_both : (a b : Bool) → a ≡ true → b ≡ true → (a && b) ≡ true
and_both true b p q = q
and_both false b p q = cc p

-- where some pass a test, some pass a wider one
pub any_wider : {X : Type 0} (P : X → Type 0) (p q : X → Bool) (xs : List X) → AllByRecursion P xs → ((x : X) → P x → p x ≡ true → q x ≡ true) → list_any p xs ≡ true → list_any q xs ≡ true
any_wider P p q [] all wider e = e
any_wider P p q (x ∷ xs) all wider e = go (any_wider P p q xs all.1 wider) (p x) refl e
  where
    go : (list_any p xs ≡ true → list_any q xs ≡ true) → (t : Bool) → p x ≡ t → (t || list_any p xs) ≡ true → (q x || list_any q xs) ≡ true
    go ih true passes h = or_left (q x) (list_any q xs) (wider x all.0 passes)
    go ih false fails h = or_right (q x) (list_any q xs) (ih h)

-- two tests that say the same of all of these
pub any_alike : {X : Type 0} (p q : X → Bool) (xs : List X) → ((x : X) → p x ≡ q x) → list_any p xs ≡ list_any q xs
any_alike p q [] alike = refl
any_alike p q (x ∷ xs) alike = ap (λ t. t || list_any p xs) (alike x) ∙ ap (λ t. q x || t) (any_alike p q xs alike)

pub filter_alike : {X : Type 0} (p q : X → Bool) (xs : List X) → AllByRecursion (λ x. p x ≡ q x) xs → filter p xs ≡ filter q xs
filter_alike p q [] all = refl
filter_alike p q (x ∷ xs) all = ap (λ t. cond t (x ∷ filter p xs) (filter p xs)) all.0 ∙ ap (λ ys. cond (q x) (x ∷ ys) ys) (filter_alike p q xs all.1)

-- nothing is said of each
pub any_all : {X : Type 0} (xs : List X) → AllByRecursion (λ x. Unit {0}) xs
any_all [] = tt
any_all (x ∷ xs) = (tt, any_all xs)

-- ---- owners in a line

-- what owns an owner of an object owns the object
pub owns_too : (bs : List Birth) → AreLined bs → (os : List Object) (x y n : Object) → owners_in bs x ≡ os → is_in os y ≡ true → is_in (owners_in bs y) n ≡ true → is_in os n ≡ true
owns_too bs lined [] x y n is here there = cc here
owns_too bs lined (w ∷ ws) x y n is here there =
    let line : IsLine bs (w ∷ ws) = subst (IsLine bs) is (lined x) in go line.1 (λ h. owns_too bs lined ws w y n (sym line.1) h there) (same w y) refl here
  where
    go : ws ≡ owners_in bs w → (is_in ws y ≡ true → is_in ws n ≡ true) → (t : Bool) → same w y ≡ t → (t || is_in ws y) ≡ true → (same w n || is_in ws n) ≡ true
    go behind ih true e h = or_right (same w n) (is_in ws n) (ap (λ zs. is_in zs n) (behind ∙ ap (owners_in bs) (same_is w y e)) ∙ there)
    go behind ih false e h = or_right (same w n) (is_in ws n) (ih h)

-- ---- ends

-- what goes with a named object takes with it what it owns
with_owner : (bs : List Birth) → AreLined bs → (x y n : Object) → is_in (owners_in bs x) y ≡ true → ends_with bs y n ≡ true → ends_with bs x n ≡ true
with_owner bs lined x y n owned e =
    let parts = and_true (created_in bs n) (same y n || is_in (owners_in bs y) n) e in
    and_both (created_in bs n) (same x n || is_in (owners_in bs x) n) parts.0 (or_right (same x n) (is_in (owners_in bs x) n) (go (same y n) refl parts.1))
  where
    go : (t : Bool) → same y n ≡ t → (t || is_in (owners_in bs y) n) ≡ true → is_in (owners_in bs x) n ≡ true
    go true is h = ap (is_in (owners_in bs x)) (sym (same_is y n is)) ∙ owned
    go false is h = owns_too bs lined (owners_in bs x) x y n refl owned h

-- what ends an owner ends what it owns
pub ends_owned : (bs : List Birth) → AreLined bs → (args : List (List Argument)) (e : Effect) (x y : Object) → is_in (owners_in bs x) y ≡ true → ends_by bs args e y ≡ true → ends_by bs args e x ≡ true
ends_owned bs lined args (eff.Destroy p) x y owned e =
    any_wider (λ n. Unit {0}) (ends_with bs y) (ends_with bs x) (objects_in args p) (any_all (objects_in args p)) (λ n u h. with_owner bs lined x y n owned h) e
ends_owned bs lined args (eff.Free p) x y owned e =
    any_wider (λ n. Unit {0}) (ends_with bs y) (ends_with bs x) (objects_in args p) (any_all (objects_in args p)) (λ n u h. with_owner bs lined x y n owned h) e
ends_owned bs lined args (eff.Reset p) x y owned e =
    any_wider (λ n. Unit {0}) (is_in (owners_in bs y)) (is_in (owners_in bs x)) (objects_in args p) (any_all (objects_in args p)) (λ n u h. owns_too bs lined (owners_in bs x) x y n refl owned h) e
ends_owned bs lined args eff.None x y owned e = cc e
ends_owned bs lined args (eff.Create t owner many) x y owned e = cc e
ends_owned bs lined args (eff.Retrieve t owner many) x y owned e = cc e

-- the objects in the place of a parameter have its type
pub typed_at : (ps : List ParamSpec) (args : List (List Argument)) → AreTyped ps args → (p : ℕ) → AllByRecursion (λ (n : Object). type_at ps p ≡ Some n.ty) (objects_in args p)
typed_at [] [] typed p = tt
typed_at [] (a ∷ args) typed p = absurd typed
typed_at (s ∷ ps) [] typed p = absurd typed
typed_at (s ∷ ps) (a ∷ args) typed zero = here a typed.0
  where
    here : (as0 : List Argument) → AllByRecursion (HasType s.ty) as0 → AllByRecursion (λ (n : Object). Some s.ty ≡ Some n.ty) (filter_map object_of as0)
    here [] all = tt
    here (Null ∷ as0) all = here as0 all.1
    here (Unborn ∷ as0) all = here as0 all.1
    here (The o ∷ as0) all = (ap (λ t. Some t) (sym all.0), here as0 all.1)
typed_at (s ∷ ps) (a ∷ args) typed (suc p) = typed_at ps args typed.1 p

pub first_typed : (ps : List ParamSpec) (args : List (List Argument)) → AreTyped ps args → (p : ℕ) (o : Object) → first_in args p ≡ Some o → type_at ps p ≡ Some o.ty
first_typed [] [] typed p o is = cc is
first_typed [] (a ∷ args) typed p o is = absurd typed
first_typed (s ∷ ps) [] typed p o is = absurd typed
first_typed (s ∷ ps) ([] ∷ args) typed zero o is = cc is
first_typed (s ∷ ps) ((Null ∷ as0) ∷ args) typed zero o is = cc is
first_typed (s ∷ ps) ((Unborn ∷ as0) ∷ args) typed zero o is = cc is
first_typed (s ∷ ps) ((The x ∷ as0) ∷ args) typed zero o is =
    let one : x ≡ o = cc in ap (λ t. Some t) (sym typed.0.0 ∙ ap (λ (y : Object). y.ty) one)
first_typed (s ∷ ps) (a ∷ args) typed (suc p) o is = first_typed ps args typed.1 p o is

-- a reset names descriptor pools
abbrev pub resets_pools : List ParamSpec → Effect → Bool
resets_pools ps (eff.Reset p) = option_map_or (λ t. same_type t ty.DescriptorPool) (type_at ps p) false
resets_pools ps _ = true

-- what ends an object that wasn't created ends its owner, which isn't a descriptor pool
pub ends_owner : (bs : List Birth) (ps : List ParamSpec) (args : List (List Argument)) → AreTyped ps args → (e : Effect) → resets_pools ps e ≡ true → (x w : Object) (ws : List Object) → owners_in bs x ≡ w ∷ ws → ws ≡ owners_in bs w
    → created_in bs x ≡ false → same_type w.ty ty.DescriptorPool ≡ false → ends_by bs args e x ≡ true → ends_by bs args e w ≡ true
ends_owner bs ps args typed e pools x w ws is behind given other ends = by e pools ends
  where
    owned : (n : Object) → is_in (owners_in bs x) n ≡ true → (same w n || is_in (owners_in bs w) n) ≡ true
    owned n h = ap (λ zs. same w n || is_in zs n) (sym behind) ∙ (ap (λ zs. is_in zs n) (sym is) ∙ h)

    goes : (n : Object) → ends_with bs x n ≡ true → ends_with bs w n ≡ true
    goes n h =
        let parts = and_true (created_in bs n) (same x n || is_in (owners_in bs x) n) h in and_both (created_in bs n) (same w n || is_in (owners_in bs w) n) parts.0 (at (same x n) refl parts.0 parts.1)
      where
        at : (t : Bool) → same x n ≡ t → created_in bs n ≡ true → (t || is_in (owners_in bs x) n) ≡ true → (same w n || is_in (owners_in bs w) n) ≡ true
        at true e c h = let no : created_in bs n ≡ false = ap (created_in bs) (sym (same_is x n e)) ∙ given in cc
        at false e c h = owned n h

    resets : (p : ℕ) → option_map_or (λ t. same_type t ty.DescriptorPool) (type_at ps p) false ≡ true → (n : Object) → type_at ps p ≡ Some n.ty → is_in (owners_in bs x) n ≡ true → is_in (owners_in bs w) n ≡ true
    resets p pool n has h = at (same w n) refl (owned n h)
      where
        at : (t : Bool) → same w n ≡ t → (t || is_in (owners_in bs w) n) ≡ true → is_in (owners_in bs w) n ≡ true
        at true e k =
            let one : same_type n.ty ty.DescriptorPool ≡ true = ap (λ (u : Option ObjectType). option_map_or (λ t. same_type t ty.DescriptorPool) u false) (sym has) ∙ pool in
            let no : same_type n.ty ty.DescriptorPool ≡ false = ap (λ (y : Object). same_type y.ty ty.DescriptorPool) (sym (same_is w n e)) ∙ other in
            cc
        at false e k = k

    by : (f : Effect) → resets_pools ps f ≡ true → ends_by bs args f x ≡ true → ends_by bs args f w ≡ true
    by (eff.Destroy p) pool h = any_wider (λ n. Unit {0}) (ends_with bs x) (ends_with bs w) (objects_in args p) (any_all (objects_in args p)) (λ n u k. goes n k) h
    by (eff.Free p) pool h = any_wider (λ n. Unit {0}) (ends_with bs x) (ends_with bs w) (objects_in args p) (any_all (objects_in args p)) (λ n u k. goes n k) h
    by (eff.Reset p) pool h = any_wider (λ (n : Object). type_at ps p ≡ Some n.ty) (is_in (owners_in bs x)) (is_in (owners_in bs w)) (objects_in args p) (typed_at ps args typed p) (λ n has k. resets p pool n has k) h
    by eff.None pool h = cc h
    by (eff.Create t owner many) pool h = cc h
    by (eff.Retrieve t owner many) pool h = cc h

-- ---- one list of births behind another

pub owners_behind : (bs news : List Birth) (o : Object) → owners_in (bs ++ news) o ≡ cond (born_in bs o) (owners_in bs o) (owners_in news o)
owners_behind [] news o = refl
owners_behind (b ∷ bs) news o = go (same b.object o) (owners_behind bs news o)
  where
    go : (t : Bool) → owners_in (bs ++ news) o ≡ cond (born_in bs o) (owners_in bs o) (owners_in news o)
        → option_map_or (λ (x : Birth). x.owners) (cond t (Some b) (find (λ x. same x.object o) (bs ++ news))) []
        ≡ cond (t || born_in bs o) (option_map_or (λ (x : Birth). x.owners) (cond t (Some b) (find (λ x. same x.object o) bs)) []) (owners_in news o)
    go true ih = refl
    go false ih = ih

pub born_behind : (bs news : List Birth) (o : Object) → born_in (bs ++ news) o ≡ (born_in bs o || born_in news o)
born_behind bs news o = list_any-append (λ b. same b.object o) bs news

pub created_behind : (bs news : List Birth) (o : Object) → created_in (bs ++ news) o ≡ (created_in bs o || created_in news o)
created_behind bs news o = list_any-append (λ b. same b.object o && b.created) bs news

-- what isn't born has no owners and isn't created
pub unborn_owners : (bs : List Birth) (o : Object) → born_in bs o ≡ false → owners_in bs o ≡ []
unborn_owners [] o e = refl
unborn_owners (b ∷ bs) o e = go (same b.object o) e (unborn_owners bs o)
  where
    go : (t : Bool) → (t || born_in bs o) ≡ false → (born_in bs o ≡ false → owners_in bs o ≡ []) → option_map_or (λ (x : Birth). x.owners) (cond t (Some b) (find (λ x. same x.object o) bs)) [] ≡ []
    go true h ih = cc h
    go false h ih = ih h

pub unborn_uncreated : (bs : List Birth) (o : Object) → born_in bs o ≡ false → created_in bs o ≡ false
unborn_uncreated [] o e = refl
unborn_uncreated (b ∷ bs) o e = go (same b.object o) e (unborn_uncreated bs o)
  where
    go : (t : Bool) → (t || born_in bs o) ≡ false → (born_in bs o ≡ false → created_in bs o ≡ false) → ((t && b.created) || created_in bs o) ≡ false
    go true h ih = cc h
    go false h ih = ih h

-- the owners of what was born, and of what wasn't
pub owners_old : (bs news : List Birth) (o : Object) → born_in bs o ≡ true → owners_in (bs ++ news) o ≡ owners_in bs o
owners_old bs news o born = owners_behind bs news o ∙ ap (λ t. cond t (owners_in bs o) (owners_in news o)) born

pub owners_fresh : (bs news : List Birth) (o : Object) → born_in bs o ≡ false → owners_in (bs ++ news) o ≡ owners_in news o
owners_fresh bs news o fresh = owners_behind bs news o ∙ ap (λ t. cond t (owners_in bs o) (owners_in news o)) fresh

-- a line stays one when more is born
pub line_grown : (bs cs : List Birth) (os : List Object) → IsLine bs os → IsLine (bs ++ cs) os
line_grown bs cs [] line = tt
line_grown bs cs (w ∷ ws) line = (born_grown bs cs w line.0, line.1 ∙ sym (owners_behind bs cs w ∙ ap (λ t. cond t (owners_in bs w) (owners_in cs w)) line.0))

-- ---- what a call gives

-- these objects, born with these owners
abbrev pub born_as : Bool → List Object → List Object → List Birth
born_as created owners os = map (λ o. record { object = o; created = created; owners = owners }) os

owners_as : (created : Bool) (owners os : List Object) (x : Object) → born_in (born_as created owners os) x ≡ true → owners_in (born_as created owners os) x ≡ owners
owners_as created owners [] x e = cc e
owners_as created owners (o ∷ os) x e = go (same o x) e (owners_as created owners os x)
  where
    go : (t : Bool) → (t || born_in (born_as created owners os) x) ≡ true → (born_in (born_as created owners os) x ≡ true → owners_in (born_as created owners os) x ≡ owners)
        → option_map_or (λ (b : Birth). b.owners) (cond t (Some (record { object = o; created = created; owners = owners })) (find (λ b. same b.object x) (born_as created owners os))) [] ≡ owners
    go true h ih = refl
    go false h ih = ih h

created_as : (created : Bool) (owners os : List Object) (x : Object) → born_in (born_as created owners os) x ≡ true → created_in (born_as created owners os) x ≡ created
created_as created owners [] x e = cc e
created_as created owners (o ∷ os) x e = go (same o x) (born_in (born_as created owners os) x) refl e (created_as created owners os x)
  where
    rest : List Birth
    rest = born_as created owners os

    go : (t u : Bool) → born_in (born_as created owners os) x ≡ u → (t || u) ≡ true → (born_in (born_as created owners os) x ≡ true → created_in (born_as created owners os) x ≡ created)
        → ((t && created) || created_in (born_as created owners os) x) ≡ created
    go true true b h ih = ap (λ t. created || t) (ih b) ∙ twice created
      where
        twice : (t : Bool) → (t || t) ≡ t
        twice true = refl
        twice false = refl
    go true false b h ih = ap (λ t. created || t) (unborn_uncreated (born_as created owners os) x b) ∙ none created
      where
        none : (t : Bool) → (t || false) ≡ t
        none true = refl
        none false = refl
    go false true b h ih = ih b
    go false false b h ih = cc h

-- what is given is born as the effect says
pub given_as : (bs : List Birth) (args : List (List Argument)) (e : Effect) (made : List Object) (x : Object) → born_in (births_given bs args e made) x ≡ true
    → (owners_in (births_given bs args e made) x ≡ owners_by bs args e) × (created_in (births_given bs args e made) x ≡ creates e)
given_as bs args (eff.Create t owner many) made x e =
    let os : List Object = filter (λ o. not (born_in bs o)) made in (owners_as true (owners_given bs args owner) os x e, created_as true (owners_given bs args owner) os x e)
given_as bs args (eff.Retrieve t owner many) made x e =
    let os : List Object = filter (λ o. not (born_in bs o)) made in (owners_as false (owners_given bs args owner) os x e, created_as false (owners_given bs args owner) os x e)
given_as bs args eff.None made x e = cc e
given_as bs args (eff.Destroy p) made x e = cc e
given_as bs args (eff.Free p) made x e = cc e
given_as bs args (eff.Reset p) made x e = cc e

-- what is given was made
made_as : (P : Object → Type 0) (bs : List Birth) (created : Bool) (owners made : List Object) → AllByRecursion P made → (x : Object) → born_in (births_of bs created owners made) x ≡ true → P x
made_as P bs created owners [] all x e = cc e
made_as P bs created owners (o ∷ made) all x e = go (made_as P bs created owners made all.1 x) (born_in bs o) e
  where
    at : (born_in (births_of bs created owners made) x ≡ true → P x) → (t : Bool) → same o x ≡ t → (t || born_in (births_of bs created owners made) x) ≡ true → P x
    at ih true is h = subst P (same_is o x is) all.0
    at ih false is h = ih h

    go : (born_in (births_of bs created owners made) x ≡ true → P x) → (u : Bool)
        → born_in (born_as created owners (cond (not u) (o ∷ filter (λ y. not (born_in bs y)) made) (filter (λ y. not (born_in bs y)) made))) x ≡ true → P x
    go ih true h = ih h
    go ih false h = at ih (same o x) refl h

pub given_made : (P : Object → Type 0) (bs : List Birth) (args : List (List Argument)) (e : Effect) (made : List Object) → AllByRecursion P made → (x : Object) → born_in (births_given bs args e made) x ≡ true → P x
given_made P bs args (eff.Create t owner many) made all x h = made_as P bs true (owners_given bs args owner) made all x h
given_made P bs args (eff.Retrieve t owner many) made all x h = made_as P bs false (owners_given bs args owner) made all x h
given_made P bs args eff.None made all x h = cc h
given_made P bs args (eff.Destroy p) made all x h = cc h
given_made P bs args (eff.Free p) made all x h = cc h
given_made P bs args (eff.Reset p) made all x h = cc h

-- what wasn't made is nothing that is given
pub given_none : (bs : List Birth) (args : List (List Argument)) (e : Effect) → births_given bs args e [] ≡ []
given_none bs args (eff.Create t owner many) = refl
given_none bs args (eff.Retrieve t owner many) = refl
given_none bs args eff.None = refl
given_none bs args (eff.Destroy p) = refl
given_none bs args (eff.Free p) = refl
given_none bs args (eff.Reset p) = refl

-- what was made and is new is given
made_fresh : (bs : List Birth) (created : Bool) (owners made : List Object) (x : Object) → is_in made x ≡ true → born_in bs x ≡ false → born_in (births_of bs created owners made) x ≡ true
made_fresh bs created owners [] x there fresh = cc there
made_fresh bs created owners (o ∷ made) x there fresh = go (λ h. made_fresh bs created owners made x h fresh) (born_in bs o) refl (same o x) refl there
  where
    go : (is_in made x ≡ true → born_in (births_of bs created owners made) x ≡ true) → (u : Bool) → born_in bs o ≡ u → (t : Bool) → same o x ≡ t → (t || is_in made x) ≡ true
        → born_in (born_as created owners (cond (not u) (o ∷ filter (λ y. not (born_in bs y)) made) (filter (λ y. not (born_in bs y)) made))) x ≡ true
    go ih true was true is h = let yes : born_in bs x ≡ true = ap (born_in bs) (sym (same_is o x is)) ∙ was in cc
    go ih true was false is h = ih h
    go ih false new true is h = ap (λ t. t || born_in (births_of bs created owners made) x) is
    go ih false new false is h = or_right (same o x) (born_in (births_of bs created owners made) x) (ih h)

pub given_fresh : (bs : List Birth) (args : List (List Argument)) (e : Effect) (made : List Object) (x : Object) → type_made e ≡ Some x.ty → is_in made x ≡ true → born_in bs x ≡ false → born_in (births_given bs args e made) x ≡ true
given_fresh bs args (eff.Create t owner many) made x has there fresh = made_fresh bs true (owners_given bs args owner) made x there fresh
given_fresh bs args (eff.Retrieve t owner many) made x has there fresh = made_fresh bs false (owners_given bs args owner) made x there fresh
given_fresh bs args eff.None made x has there fresh = cc has
given_fresh bs args (eff.Destroy p) made x has there fresh = cc has
given_fresh bs args (eff.Free p) made x has there fresh = cc has
given_fresh bs args (eff.Reset p) made x has there fresh = cc has

-- all of these are among them
pub all_in : (ys xs : List Object) → ((x : Object) → is_in xs x ≡ true → is_in ys x ≡ true) → AllByRecursion (λ (x : Object). is_in ys x ≡ true) xs
all_in ys [] f = tt
all_in ys (x ∷ xs) f = (f x (or_left (same x x) (is_in xs x) (same_self x)), all_in ys xs (λ z h. f z (or_right (same x z) (is_in xs z) h)))
