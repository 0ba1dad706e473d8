-- Births, retrievals and values one by one are those of the whole return.
use Rattle.std.proofs.Common.{◌≡◌, Bool, true, false, not, cond, ◌||◌, Some, None, List, [], ◌∷◌, ◌++◌, map, refl, sym, ◌∙◌, ap}
use Rattle.std.proofs.lemmas.List.{append-nil, append_assoc, reverse-append}
use Rattle.std.specs.Prelude.{find, filter, reverse, slice_get}
use Rattle.std.specs.List.{AllByRecursion}
use Rattle.std.specs.Option.{option_map_or}
use Rattle.command_tables.specs.declared.types.CommandId.{CommandId}
use Rattle.command_tables.specs.declared.types.Effect.{Effect}
use Rattle.command_tables.specs.declared.types.Effect.TheVariants as eff
use Rattle.object_model.specs.declared.Object.{Object}
use Rattle.object_model.specs.declared.Argument.{Argument}
use Rattle.replay_model.specs.declared.Born.{Born}
use Rattle.command_tables.specs.Table.{row_of}
use Rattle.command_tables.specs.Effects.{type_made}
use Rattle.object_model.specs.Objects.{same}
use Rattle.object_model.specs.History.{Birth, born_in, births_of, births_given, owners_given}
use Rattle.replay_model.specs.Past.{Opened, Retrieval, objects_of, owner_by, retrieves, is_new, retrieval, retrieved_by}
use Rattle.object_model.specs.Keys.{key_payload}
use Rattle.object_model.specs.Values.{Value}
use Rattle.replay_model.specs.Direct.{Valued, last_values}
use Rattle.chain_model.proofs.OneByOne.{bear, births_after, Asking, keep_one, retrievals_after, with_value, values_after, AreOther, AreApart}
use Rattle.chain_model.proofs.Passing.{creates, owners_by, asking_by, births_then, retrievals_then, is_made}
use Rattle.layer_model.proofs.Same.{same_is}
use Rattle.chain_model.proofs.OneToOne.{born_but}

abbrev made_birth : Bool → List Object → Object → Birth
made_birth created owners o = record { object = o; created = created; owners = owners }

-- ---- births

-- an object that is borne makes no difference to others
born_other : (created : Bool) (owners : List Object) (bs : List Birth) (x o : Object) → same x o ≡ false → born_in (bear created owners bs x) o ≡ born_in bs o
born_other created owners bs x o e = go (born_in bs x)
  where
    go : (u : Bool) → born_in (cond u bs (bs ++ record { object = x; created = created; owners = owners } ∷ [])) o ≡ born_in bs o
    go true = refl
    go false = born_but bs (record { object = x; created = created; owners = owners }) o e

births_of_rest : (created : Bool) (owners : List Object) (bs : List Birth) (x : Object) (made : List Born) → AreOther x made → births_of (bear created owners bs x) created owners (objects_of made) ≡ births_of bs created owners (objects_of made)
births_of_rest created owners bs x [] other = refl
births_of_rest created owners bs x (b ∷ made) other =
    rw (born_other created owners bs x b.object other.0) (go (born_in bs b.object) (births_of_rest created owners bs x made other.1))
  where
    go : (u : Bool) → births_of (bear created owners bs x) created owners (objects_of made) ≡ births_of bs created owners (objects_of made)
        → map (made_birth created owners) (cond (not u) (b.object ∷ filter (λ o. not (born_in (bear created owners bs x) o)) (objects_of made)) (filter (λ o. not (born_in (bear created owners bs x) o)) (objects_of made)))
        ≡ map (made_birth created owners) (cond (not u) (b.object ∷ filter (λ o. not (born_in bs o)) (objects_of made)) (filter (λ o. not (born_in bs o)) (objects_of made)))
    go true ih = ih
    go false ih = ap (λ xs. made_birth created owners b.object ∷ xs) ih

pub births_one_by_one : (created : Bool) (owners : List Object) (bs : List Birth) (made : List Born) → AreApart made → births_after created owners bs made ≡ bs ++ births_of bs created owners (objects_of made)
births_one_by_one created owners bs [] apart = sym (append-nil bs)
births_one_by_one created owners bs (b ∷ made) apart =
    births_one_by_one created owners (bear created owners bs b.object) made apart.1
    ∙ (ap (λ xs. bear created owners bs b.object ++ xs) (births_of_rest created owners bs b.object made apart.0) ∙ go (born_in bs b.object))
  where
    go : (u : Bool) → cond u bs (bs ++ made_birth created owners b.object ∷ []) ++ births_of bs created owners (objects_of made)
        ≡ bs ++ map (made_birth created owners) (cond (not u) (b.object ∷ filter (λ o. not (born_in bs o)) (objects_of made)) (filter (λ o. not (born_in bs o)) (objects_of made)))
    go true = refl
    go false = append_assoc bs (made_birth created owners b.object ∷ []) (births_of bs created owners (objects_of made))

-- all births after a return
pub births_then_is : (bs : List Birth) (c : CommandId) (args : List (List Argument)) (made : List Born) → AreApart made → (type_made (row_of c).effect ≡ None → made ≡ []) → births_then bs c args made ≡ bs ++ births_given bs args (row_of c).effect (objects_of made)
births_then_is bs c args made apart none = go (row_of c).effect none
  where
    nothing : (created : Bool) (owners : List Object) → made ≡ [] → births_after created owners bs made ≡ bs ++ []
    nothing created owners e = ap (λ (xs : List Born). births_after created owners bs xs) e ∙ sym (append-nil bs)

    go : (e : Effect) → (type_made e ≡ None → made ≡ []) → births_after (creates e) (owners_by bs args e) bs made ≡ bs ++ births_given bs args e (objects_of made)
    go (eff.Create t owner many) n = births_one_by_one true (owners_given bs args owner) bs made apart
    go (eff.Retrieve t owner many) n = births_one_by_one false (owners_given bs args owner) bs made apart
    go eff.None n = nothing false [] (n refl)
    go (eff.Destroy p) n = nothing false [] (n refl)
    go (eff.Free p) n = nothing false [] (n refl)
    go (eff.Reset p) n = nothing false [] (n refl)

-- ---- retrievals

abbrev kept_as : Asking → Born → Retrieval
kept_as q b = record { owner = q.owner; place = b.place; payload = q.payload; object = b.object }

new_rest : (created : Bool) (owners : List Object) (bs : List Birth) (q : Asking) (x : Object) (made : List Born) → AreOther x made
    → map (kept_as q) (filter (is_new (bear created owners bs x)) made) ≡ map (kept_as q) (filter (is_new bs) made)
new_rest created owners bs q x [] other = refl
new_rest created owners bs q x (b ∷ made) other = rw (born_other created owners bs x b.object other.0) (go (born_in bs b.object) (new_rest created owners bs q x made other.1))
  where
    go : (u : Bool) → map (kept_as q) (filter (is_new (bear created owners bs x)) made) ≡ map (kept_as q) (filter (is_new bs) made)
        → map (kept_as q) (cond (not u) (b ∷ filter (is_new (bear created owners bs x)) made) (filter (is_new (bear created owners bs x)) made)) ≡ map (kept_as q) (cond (not u) (b ∷ filter (is_new bs) made) (filter (is_new bs) made))
    go true ih = ih
    go false ih = ap (λ xs. kept_as q b ∷ xs) ih

retrievals_one_by_one : (created : Bool) (owners : List Object) (q : Asking) (bs : List Birth) (rs : List Retrieval) (made : List Born) → AreApart made
    → retrievals_after created owners (Some q) bs rs made ≡ rs ++ map (kept_as q) (filter (is_new bs) made)
retrievals_one_by_one created owners q bs rs [] apart = sym (append-nil rs)
retrievals_one_by_one created owners q bs rs (b ∷ made) apart =
    retrievals_one_by_one created owners q (bear created owners bs b.object) (keep_one (Some q) bs rs b) made apart.1
    ∙ (ap (λ xs. keep_one (Some q) bs rs b ++ xs) (new_rest created owners bs q b.object made apart.0) ∙ go (born_in bs b.object))
  where
    go : (u : Bool) → cond u rs (rs ++ kept_as q b ∷ []) ++ map (kept_as q) (filter (is_new bs) made) ≡ rs ++ map (kept_as q) (cond (not u) (b ∷ filter (is_new bs) made) (filter (is_new bs) made))
    go true = refl
    go false = append_assoc rs (kept_as q b ∷ []) (map (kept_as q) (filter (is_new bs) made))

none_kept : (created : Bool) (owners : List Object) (bs : List Birth) (rs : List Retrieval) (made : List Born) → retrievals_after created owners None bs rs made ≡ rs
none_kept created owners bs rs [] = refl
none_kept created owners bs rs (b ∷ made) = none_kept created owners (bear created owners bs b.object) rs made

-- all retrievals after a return
pub retrievals_then_is : (bs : List Birth) (rs : List Retrieval) (o : Opened) (made : List Born) → AreApart made → retrievals_then bs rs o.cmd o.payload o.args made ≡ rs ++ retrieved_by bs o made
retrievals_then_is bs rs o made apart = go (row_of o.cmd).effect
  where
    nothing : (created : Bool) (owners : List Object) → retrievals_after created owners None bs rs made ≡ rs ++ []
    nothing created owners = none_kept created owners bs rs made ∙ sym (append-nil rs)

    go : (e : Effect) → retrievals_after (creates e) (owners_by bs o.args e) (asking_by bs o.cmd o.payload o.args e) bs rs made
        ≡ rs ++ cond (retrieves e) (map (retrieval o (owner_by bs o.args e)) (filter (is_new bs) made)) []
    go (eff.Create t owner many) = nothing true (owners_given bs o.args owner)
    go (eff.Retrieve t owner many) = retrievals_one_by_one false (owners_given bs o.args owner) (record { owner = slice_get (owners_given bs o.args owner) 0; payload = key_payload o.cmd o.payload }) bs rs made apart
    go eff.None = nothing false []
    go (eff.Destroy p) = nothing false []
    go (eff.Free p) = nothing false []
    go (eff.Reset p) = nothing false []

-- ---- values

-- the last call counts
last_more : (vs : List Valued) (v : Valued) (o : Object) → last_values (vs ++ v ∷ []) o ≡ cond (same v.object o) v.values (last_values vs o)
last_more vs v o = ap (λ xs. option_map_or (λ (x : Valued). x.values) (find (λ x. same x.object o) xs) []) (reverse-append vs (v ∷ [])) ∙ go (same v.object o)
  where
    go : (u : Bool) → option_map_or (λ (x : Valued). x.values) (cond u (Some v) (find (λ x. same x.object o) (reverse vs))) [] ≡ cond u v.values (last_values vs o)
    go true = refl
    go false = refl

pub values_one_by_one : (val : Born → List Value) (vs : List Valued) (made : List Born) → values_after val (last_values vs) made ≡ last_values (vs ++ map (λ b. record { object = b.object; values = val b }) made)
values_one_by_one val vs [] = ap last_values (sym (append-nil vs))
values_one_by_one val vs (b ∷ made) =
    ap (λ (f : Object → List Value). values_after val f made) (λ i o. sym (last_more vs (record { object = b.object; values = val b }) o) i)
    ∙ (values_one_by_one val (vs ++ record { object = b.object; values = val b } ∷ []) made
    ∙ ap last_values (append_assoc vs (record { object = b.object; values = val b } ∷ []) (map (λ x. record { object = x.object; values = val x }) made)))

-- the values after all results are any that have each result's value, and the former ones elsewhere
pub values_final : {V : Type 0} (val : Born → V) (g : Object → V) (made : List Born) → AllByRecursion (λ b. val b ≡ g b.object) made → (f : Object → V) (o : Object) → (is_made made o ≡ false → f o ≡ g o) → values_after val f made o ≡ g o
values_final val g [] all f o other = other refl
values_final val g (b ∷ made) all f o other = values_final val g made all.1 (with_value f b.object (val b)) o (λ e. go (same b.object o) refl e)
  where
    go : (u : Bool) → same b.object o ≡ u → is_made made o ≡ false → cond (same b.object o) (val b) (f o) ≡ g o
    go true h e = rw h (all.0 ∙ ap g (same_is b.object o h))
    go false h e = rw h (other (ap (λ t. t || is_made made o) h ∙ e))

-- what is born then and isn't among what was made was born
pub born_not_made : (created : Bool) (owners : List Object) (bs : List Birth) (made : List Born) (o : Object) → is_made made o ≡ false → born_in (births_after created owners bs made) o ≡ born_in bs o
born_not_made created owners bs [] o e = refl
born_not_made created owners bs (b ∷ made) o e =
    let h : same b.object o ≡ false = left (same b.object o) (is_made made o) e in
    born_not_made created owners (bear created owners bs b.object) made o (right (same b.object o) (is_made made o) e) ∙ born_other created owners bs b.object o h
  where
    left : (p q : Bool) → (p || q) ≡ false → p ≡ false
    left false q e = refl
    left true q e = cc e

    right : (p q : Bool) → (p || q) ≡ false → q ≡ false
    right false q e = e
    right true q e = cc e
