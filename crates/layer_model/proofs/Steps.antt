-- A part's steps keep it standing for its history.
use Rattle.std.proofs.Common.{◌≡◌, ◌==◌, Bool, true, false, not, cond, ◌&&◌, ◌||◌, List, [], ◌∷◌, ◌++◌, map, refl, sym, ◌∙◌, ap}
use Rattle.std.proofs.lemmas.List.Folds.{list_any-append}
use Rattle.std.specs.Prelude.{filter}
use Rattle.command_tables.specs.declared.types.Effect.{Effect}
use Rattle.command_tables.specs.declared.types.Effect.TheVariants as eff
use Rattle.command_tables.specs.Table.{row_of}
use Rattle.object_model.specs.declared.Object.{Object}
use Rattle.object_model.specs.declared.Argument.{Argument}
use Rattle.object_model.specs.Objects.{same, is_in}
use Rattle.object_model.specs.History.{Call, Begins, Returns, History, Birth, born_in, births, alive, ends_by, births_of, births_given, owners_given}
use Rattle.object_model.specs.Rules.{failures, failures_in}
use Rattle.object_model.specs.Uses.{InUse, in_use, uses_in, overlaps, overlaps_in}
use Rattle.layer_model.specs.Parts.{LifeModel, UseModel, life_failures, living_on, life_passed, life_leave, use_failures, use_enter, use_leave}
use Rattle.layer_model.specs.Histories.{LifeMirrors, UseMirrors}
use Rattle.layer_model.proofs.Same.{same_is}

-- ---- one part

-- what is in a list that a test leaves
pub in_filter : (p : Object → Bool) (xs : List Object) (o : Object) → is_in (filter p xs) o ≡ (is_in xs o && p o)
in_filter p [] o = refl
in_filter p (x ∷ xs) o = go (in_filter p xs o) (p x) refl (same x o) refl
  where
    go : is_in (filter p xs) o ≡ (is_in xs o && p o) → (t : Bool) → p x ≡ t → (u : Bool) → same x o ≡ u → is_in (cond t (x ∷ filter p xs) (filter p xs)) o ≡ ((u || is_in xs o) && p o)
    go ih true e true h = let k : p o ≡ true = ap p (sym (same_is x o h)) ∙ e in rw (h, k) refl
    go ih false e true h = let k : p o ≡ false = ap p (sym (same_is x o h)) ∙ e in ih ∙ rw k (none (is_in xs o))
      where
        none : (b : Bool) → (b && false) ≡ false
        none true = refl
        none false = refl
    go ih true e false h = rw h ih
    go ih false e false h = ih

-- what lives in a part after a call that isn't skipped
lives_on : (bs0 : List Birth) (living : List Object) (h : History) (c : Call) → bs0 ≡ births h → ((o : Object) → is_in living o ≡ alive h o)
    → (o : Object) → is_in (living_on bs0 living c.cmd c.args) o ≡ alive (Begins c false ∷ h) o
lives_on bs0 living h c born lives o =
    in_filter (λ x. not (ends_by bs0 c.args (row_of c.cmd).effect x)) living o
    ∙ (ap (λ t. t && not (ends_by bs0 c.args (row_of c.cmd).effect o)) (lives o) ∙ ap (λ bs. alive h o && not (ends_by bs c.args (row_of c.cmd).effect o)) born)

-- a lifetimes part that lets a call pass
pub life_enters : (h : History) (m : LifeModel) (c : Call) → LifeMirrors h m → LifeMirrors (Begins c false ∷ h) (life_passed m c.cmd c.args)
life_enters h m c s = record { born = s.born; living = lives_on m.births m.living h c s.born s.living }

-- one that skips it
pub life_skips : (h : History) (m : LifeModel) (c : Call) → LifeMirrors h m → LifeMirrors (Begins c true ∷ h) m
life_skips h m c s = record { born = s.born; living = λ o. s.living o ∙ with_true (alive h o) }
  where
    with_true : (b : Bool) → b ≡ (b && true)
    with_true true = refl
    with_true false = refl

-- what it finds
pub life_finds : (h : History) (m : LifeModel) (c : Call) → LifeMirrors h m → life_failures m c.cmd c.args ≡ failures h c
life_finds h m c s = ap (λ bs. failures_in bs (is_in m.living) c.cmd c.args) s.born ∙ ap (λ (l : Object → Bool). failures_in (births h) l c.cmd c.args) (λ i o. s.living o i)

-- a threads part
pub use_enters : (h : History) (m : UseModel) (c : Call) → UseMirrors h m → UseMirrors (Begins c false ∷ h) (use_enter m c.thread c.number c.cmd c.args)
use_enters h m c s = record {
  born = s.born;
  living = lives_on m.births m.living h c s.born s.living;
  opens = ap (λ os. os ++ record { number = c.number; thread = c.thread; uses = uses_in m.births (is_in m.living) c.cmd c.args } ∷ []) s.opens
      ∙ (ap (λ bs. in_use h ++ record { number = c.number; thread = c.thread; uses = uses_in bs (is_in m.living) c.cmd c.args } ∷ []) s.born
      ∙ ap (λ (l : Object → Bool). in_use h ++ record { number = c.number; thread = c.thread; uses = uses_in (births h) l c.cmd c.args } ∷ []) (λ i o. s.living o i));
}

pub use_finds : (h : History) (m : UseModel) (c : Call) → UseMirrors h m → use_failures m c.thread c.cmd c.args ≡ overlaps h c
use_finds h m c s =
    ap (λ os. overlaps_in os m.births (is_in m.living) c.thread c.cmd c.args) s.opens
    ∙ (ap (λ bs. overlaps_in (in_use h) bs (is_in m.living) c.thread c.cmd c.args) s.born ∙ ap (λ (l : Object → Bool). overlaps_in (in_use h) (births h) l c.thread c.cmd c.args) (λ i o. s.living o i))

-- ---- one part

-- what is known isn't born again
new_of : (before : List Birth) (created : Bool) (owners made : List Object) (o : Object) → born_in before o ≡ true → born_in (births_of before created owners made) o ≡ false
new_of before created owners [] o known = refl
new_of before created owners (x ∷ made) o known = go (new_of before created owners made o known) (born_in before x) refl (same x o) refl
  where
    go : born_in (births_of before created owners made) o ≡ false → (t : Bool) → born_in before x ≡ t → (u : Bool) → same x o ≡ u
        → born_in (map (λ y. record { object = y; created = created; owners = owners }) (cond (not t) (x ∷ filter (λ y. not (born_in before y)) made) (filter (λ y. not (born_in before y)) made))) o ≡ false
    go ih true e u f = ih
    go ih false e true f = let is : x ≡ o = same_is x o f in let fresh : born_in before o ≡ false = sym (ap (born_in before) is) ∙ e in cc
    go ih false e false f = rw f ih

new_given : (before : List Birth) (args : List (List Argument)) (e : Effect) (made : List Object) (o : Object) → born_in before o ≡ true → born_in (births_given before args e made) o ≡ false
new_given before args (eff.Create t owner many) made o known = new_of before true (owners_given before args owner) made o known
new_given before args (eff.Retrieve t owner many) made o known = new_of before false (owners_given before args owner) made o known
new_given before args eff.None made o known = refl
new_given before args (eff.Destroy p) made o known = refl
new_given before args (eff.Free p) made o known = refl
new_given before args (eff.Reset p) made o known = refl

-- what is born lives from then on
born_more : (lives : Bool) (before : List Birth) (args : List (List Argument)) (e : Effect) (made : List Object) (o : Object)
    → (lives || born_in (births_given before args e made) o) ≡ (lives || (not (born_in before o) && born_in (before ++ births_given before args e made) o))
born_more lives before args e made o =
    ap (λ t. lives || t) (go (born_in before o) refl ∙ ap (λ t. not (born_in before o) && t) (sym (list_any-append (λ (b : Birth). same b.object o) before given)))
  where
    given : List Birth
    given = births_given before args e made

    go : (t : Bool) → born_in before o ≡ t → born_in (births_given before args e made) o ≡ (not t && (t || born_in (births_given before args e made) o))
    go true known = new_given before args e made o known
    go false known = refl

in_births : (bs : List Birth) (o : Object) → is_in (map (λ b. b.object) bs) o ≡ born_in bs o
in_births [] o = refl
in_births (b ∷ bs) o = ap (λ t. same b.object o || t) (in_births bs o)

-- what lives in a part after results
lives_too : (bs0 : List Birth) (living : List Object) (h : History) (c : Call) (made : List Object) → bs0 ≡ births h → ((o : Object) → is_in living o ≡ alive h o)
    → (o : Object) → is_in (living ++ map (λ b. b.object) (births_given bs0 c.args (row_of c.cmd).effect made)) o ≡ alive (Returns c made ∷ h) o
lives_too bs0 living h c made born lives o =
    list_any-append (λ y. same y o) living (map (λ b. b.object) (births_given bs0 c.args (row_of c.cmd).effect made))
    ∙ (ap (λ t. t || is_in (map (λ b. b.object) (births_given bs0 c.args (row_of c.cmd).effect made)) o) (lives o)
    ∙ (ap (λ t. alive h o || t) (in_births (births_given bs0 c.args (row_of c.cmd).effect made) o)
    ∙ (ap (λ bs. alive h o || born_in (births_given bs c.args (row_of c.cmd).effect made) o) born ∙ born_more (alive h o) (births h) c.args (row_of c.cmd).effect made o)))

born_too : (bs0 : List Birth) (h : History) (c : Call) (made : List Object) → bs0 ≡ births h → bs0 ++ births_given bs0 c.args (row_of c.cmd).effect made ≡ births (Returns c made ∷ h)
born_too bs0 h c made born = ap (λ bs. bs ++ births_given bs c.args (row_of c.cmd).effect made) born

pub life_leaves : (h : History) (m : LifeModel) (c : Call) (made : List Object) → LifeMirrors h m → LifeMirrors (Returns c made ∷ h) (life_leave m c.cmd c.args made)
life_leaves h m c made s = record { born = born_too m.births h c made s.born; living = lives_too m.births m.living h c made s.born s.living }

pub use_leaves : (h : History) (m : UseModel) (c : Call) (made : List Object) → UseMirrors h m → UseMirrors (Returns c made ∷ h) (use_leave m c.thread c.cmd c.args made)
use_leaves h m c made s = record {
  born = born_too m.births h c made s.born;
  living = lives_too m.births m.living h c made s.born s.living;
  opens = ap (filter (λ (u : InUse). not (u.thread == c.thread))) s.opens;
}
