-- There are such lists of births: those that a begin leaves, and those that a return adds to.
use Rattle.std.proofs.Common.{◌≡◌, Bool, true, false, not, cond, ◌&&◌, ◌||◌, Some, List, [], ◌∷◌, refl, sym, ◌∙◌, ap}
use Rattle.std.specs.Prelude.{filter, find}
use Rattle.std.specs.Option.{option_map_or}
use Rattle.command_tables.specs.Table.{row_of}
use Rattle.object_model.specs.declared.Object.{Object}
use Rattle.object_model.specs.Objects.{same}
use Rattle.object_model.specs.History.{Birth, born_in, created_in, ends_by, owners_in}
use Rattle.replay_model.specs.Past.{Opened, is_skipped}
use Rattle.layer_model.proofs.Same.{and_true, same_is}
use Rattle.session_tables.specs.Lined.{AreAdded}
use Rattle.session_model.specs.Living.{ArePast, births_past, births_since}
use Rattle.session_model.proofs.Lines.{born_behind}

-- the births of the objects that pass a test
abbrev pub left : (Object → Bool) → List Birth → List Birth
left q bs = filter (λ b. q b.object) bs

none : (b : Bool) → (b && false) ≡ false
none true = refl
none false = refl

pub left_born : (q : Object → Bool) (bs : List Birth) (x : Object) → born_in (left q bs) x ≡ (born_in bs x && q x)
left_born q [] x = refl
left_born q (b ∷ bs) x = go (same b.object x) refl (q b.object) refl (left_born q bs x)
  where
    go : (t : Bool) → same b.object x ≡ t → (u : Bool) → q b.object ≡ u → born_in (left q bs) x ≡ (born_in bs x && q x) → born_in (cond u (b ∷ left q bs) (left q bs)) x ≡ ((t || born_in bs x) && q x)
    go true e true d ih = let passes : q x ≡ true = ap q (sym (same_is b.object x e)) ∙ d in ap (λ t. t || born_in (left q bs) x) e ∙ sym passes
    go true e false d ih = let fails : q x ≡ false = ap q (sym (same_is b.object x e)) ∙ d in ih ∙ (ap (λ t. born_in bs x && t) fails ∙ (none (born_in bs x) ∙ sym fails))
    go false e true d ih = ap (λ t. t || born_in (left q bs) x) e ∙ ih
    go false e false d ih = ih

-- what passes is born as it was
pub left_created : (q : Object → Bool) (bs : List Birth) (x : Object) → q x ≡ true → created_in (left q bs) x ≡ created_in bs x
left_created q [] x passes = refl
left_created q (b ∷ bs) x passes = go (q b.object) refl (same b.object x) refl (left_created q bs x passes)
  where
    go : (u : Bool) → q b.object ≡ u → (t : Bool) → same b.object x ≡ t → created_in (left q bs) x ≡ created_in bs x → created_in (cond u (b ∷ left q bs) (left q bs)) x ≡ ((same b.object x && b.created) || created_in bs x)
    go true d t e ih = ap (λ c. (same b.object x && b.created) || c) ih
    go false d true e ih = let fails : q x ≡ false = ap q (sym (same_is b.object x e)) ∙ d in cc
    go false d false e ih = ih ∙ ap (λ t. (t && b.created) || created_in bs x) (sym e)

pub left_owners : (q : Object → Bool) (bs : List Birth) (x : Object) → q x ≡ true → owners_in (left q bs) x ≡ owners_in bs x
left_owners q [] x passes = refl
left_owners q (b ∷ bs) x passes = go (q b.object) refl (same b.object x) refl (left_owners q bs x passes)
  where
    first : (t : Bool) (rest : List Birth) → owners_in rest x ≡ owners_in bs x
        → option_map_or (λ (y : Birth). y.owners) (cond t (Some b) (find (λ y. same y.object x) rest)) [] ≡ option_map_or (λ (y : Birth). y.owners) (cond t (Some b) (find (λ y. same y.object x) bs)) []
    first true rest ih = refl
    first false rest ih = ih

    go : (u : Bool) → q b.object ≡ u → (t : Bool) → same b.object x ≡ t → owners_in (left q bs) x ≡ owners_in bs x
        → owners_in (cond u (b ∷ left q bs) (left q bs)) x ≡ option_map_or (λ (y : Birth). y.owners) (cond (same b.object x) (Some b) (find (λ y. same y.object x) bs)) []
    go true d t e ih = first (same b.object x) (left q bs) ih
    go false d true e ih = let fails : q x ≡ false = ap q (sym (same_is b.object x e)) ∙ d in cc
    go false d false e ih = ih ∙ ap (λ t. option_map_or (λ (y : Birth). y.owners) (cond t (Some b) (find (λ y. same y.object x) bs)) []) (sym e)

pub past_listed : (before : List Birth) (o : Opened) → ArePast before o (births_past before o)
past_listed before o = record {
  lives = λ x. left_born q before x;
  alike = λ x there.
      let passes : q x ≡ true = (and_true (born_in before x) (q x) (sym (left_born q before x) ∙ there)).1 in record { created = left_created q before x passes; owners = left_owners q before x passes };
}
  where
    q : Object → Bool
    q x = is_skipped o || not (ends_by before o.args (row_of o.cmd).effect x)

pub since_listed : (before given : List Birth) → AreAdded before given (births_since before given)
since_listed before given = record { lives = λ x. born_behind before given x; alike = λ x there. record { created = refl; owners = refl } }
