-- What is given is new, and lives from then on.
use Rattle.std.proofs.Common.{◌≡◌, Bool, true, false, not, cond, ◌&&◌, ◌||◌, List, [], ◌∷◌, ◌++◌, map, refl, sym, ◌∙◌, ap}
use Rattle.std.specs.List.{filter, list_any}
use Rattle.command_tables.specs.declared.types.Effect.{Effect}
use Rattle.command_tables.specs.declared.types.Effect.TheVariants as eff
use Rattle.object_model.specs.declared.Object.{Object}
use Rattle.object_model.specs.declared.Argument.{Argument}
use Rattle.object_model.specs.Objects.{same}
use Rattle.object_model.specs.History.{Birth, born_in, births_of, births_given, owners_given}
use Rattle.layer_model.proofs.Same.{same_is}

any_append : {X : Type 0} (p : X → Bool) (xs ys : List X) → list_any p (xs ++ ys) ≡ (list_any p xs || list_any p ys)
any_append p [] ys = refl
any_append p (x ∷ xs) ys = go (p x) (any_append p xs ys)
  where
    go : (t : Bool) → list_any p (xs ++ ys) ≡ (list_any p xs || list_any p ys) → (t || list_any p (xs ++ ys)) ≡ ((t || list_any p xs) || list_any p ys)
    go true ih = refl
    go false ih = ih

-- what is known isn't born again
new_of : (before : List Birth) (created : Bool) (owners made : List Object) (o : Object) → born_in before o ≡ true → born_in (births_of before created owners made) o ≡ false
new_of before created owners [] o known = refl
new_of before created owners (x ∷ made) o known = go (new_of before created owners made o known) (born_in before x) refl (same x o) refl
  where
    go : born_in (births_of before created owners made) o ≡ false → (t : Bool) → born_in before x ≡ t → (u : Bool) → same x o ≡ u
        → born_in (map (λ y. record { object = y; created = created; owners = owners }) (cond (not t) (x ∷ filter (λ y. not (born_in before y)) made) (filter (λ y. not (born_in before y)) made))) o ≡ false
    go ih true e u f = ih
    go ih false e true f = let is : x ≡ o = same_is x o f in let no : born_in before o ≡ false = sym (ap (born_in before) is) ∙ e in cc
    go ih false e false f = rw f ih

pub new_given : (before : List Birth) (args : List (List Argument)) (e : Effect) (made : List Object) (o : Object) → born_in before o ≡ true → born_in (births_given before args e made) o ≡ false
new_given before args (eff.Create t owner many) made o known = new_of before true (owners_given before args owner) made o known
new_given before args (eff.Retrieve t owner many) made o known = new_of before false (owners_given before args owner) made o known
new_given before args eff.None made o known = refl
new_given before args (eff.Destroy p) made o known = refl
new_given before args (eff.Free p) made o known = refl
new_given before args (eff.Reset p) made o known = refl

-- what is born lives from then on
pub born_more : (lives : Bool) (before : List Birth) (args : List (List Argument)) (e : Effect) (made : List Object) (o : Object)
    → (lives || born_in (births_given before args e made) o) ≡ (lives || (not (born_in before o) && born_in (before ++ births_given before args e made) o))
born_more lives before args e made o =
    ap (λ t. lives || t) (go (born_in before o) refl ∙ ap (λ t. not (born_in before o) && t) (sym (any_append (λ b. same b.object o) before given)))
  where
    given : List Birth
    given = births_given before args e made

    go : (t : Bool) → born_in before o ≡ t → born_in given o ≡ (not t && (t || born_in given o))
    go true known = new_given before args e made o known
    go false known = refl
