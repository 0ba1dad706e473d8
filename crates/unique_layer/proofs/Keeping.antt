-- Each kept id was issued for its key's type.
use Rattle.std.proofs.Common.{◌≡◌, ℕ, true, Option, Some, None, List, [], ◌∷◌, ◌++◌, refl, sym, subst, arith}
use Rattle.std.specs.Prelude.{IfSome}
use Rattle.std.proofs.lemmas.Bool.{eq-eqb}
use Rattle.std.proofs.lemmas.Option.{same_Some}
use Rattle.command_tables.specs.declared.types.ObjectType.{ObjectType}
use Rattle.command_tables.specs.declared.types.Effect.{Effect}
use Rattle.command_tables.specs.declared.types.Effect.TheVariants as eff
use Rattle.command_tables.specs.Effects.{type_made}
use Rattle.object_model.specs.declared.Argument.{Argument}
use Rattle.handle_map.specs.Pairs.{MapEntry, has_pair, with_values}
use Rattle.handle_map.proofs.PairLists.{none_above, with_new}
use Rattle.layer_model.specs.Ids.{AreIssued, Key, KeptId, at_key, kept_id, next_id}
use Rattle.layer_model.proofs.Issued.{issued_more, issued_stay, kept_issued}
use Rattle.unique_layer.specs.Shown.{key_named}

-- the next id stands last
pub put_last : (es : List (MapEntry ℕ)) (t : ObjectType) (id v : ℕ) → id ≡ next_id es → es ++ record { ty = t; id = id; values = v } ∷ [] ≡ with_values es t id v
put_last es t id v is = with_new es t id v (none_above es t id (omega (arith, is)))

-- where a next id is issued, those that are kept stay issued
pub issued_next : (es : List (MapEntry ℕ)) (t : ObjectType) (id v : ℕ) (kept : List KeptId) → id ≡ next_id es → AreIssued es kept → AreIssued (es ++ record { ty = t; id = id; values = v } ∷ []) kept
issued_next es t id v kept is all = subst (λ xs. AreIssued xs kept) (sym (put_last es t id v is)) (issued_stay es kept t id v all)

-- it may be kept by a key of its type
pub next_kept : (es : List (MapEntry ℕ)) (k : Key) (t : ObjectType) (id v : ℕ) (kept : List KeptId) → id ≡ next_id es → k.ty ≡ t → AreIssued es kept → AreIssued (es ++ record { ty = t; id = id; values = v } ∷ []) (kept ++ record { key = k; id = id } ∷ [])
next_kept es k t id v kept is type all = subst (λ xs. AreIssued xs (kept ++ record { key = k; id = id } ∷ [])) (sym (put_last es t id v is)) (issued_more es kept k t id v type all)

-- the id that a key finds was issued for its type
pub found_issued : (es : List (MapEntry ℕ)) (kept : List KeptId) (k : Key) → AreIssued es kept → IfSome (kept_id kept k) (λ id. has_pair es k.ty id ≡ true)
found_issued es kept k all = go (kept_id kept k) refl
  where
    go : (found : Option ℕ) → kept_id kept k ≡ found → IfSome found (λ id. has_pair es k.ty id ≡ true)
    go None is = tt
    go (Some id) is = kept_issued es kept k id all is

-- ---- types of keys

-- a key has its type at each place
pub at_key_type : (k : Option Key) (place : ℕ) (t : ObjectType) → IfSome k (λ k. k.ty ≡ t) → IfSome (at_key k place) (λ k. k.ty ≡ t)
at_key_type None place t h = h
at_key_type (Some k) place t h = h

-- what a call retrieves is of the type that its effect makes
pub named_type : (args : List (List Argument)) (e : Effect) (t : ObjectType) → type_made e ≡ Some t → IfSome (key_named args e) (λ k. k.ty ≡ t)
named_type args eff.None t made = tt
named_type args (eff.Create u owner many) t made = tt
named_type args (eff.Retrieve u owner many) t made = same_Some u t made
named_type args (eff.Destroy p) t made = tt
named_type args (eff.Free p) t made = tt
named_type args (eff.Reset p) t made = tt
