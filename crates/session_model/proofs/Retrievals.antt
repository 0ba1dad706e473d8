-- The retrievals of what lives are enough: what was retrieved by an owner that lives, lives.
use Rattle.std.proofs.Common.{◌≡◌, ◌⊎◌, inl, inr, ℕ, Bool, true, false, cond, Option, Some, None, List, [], ◌∷◌, map, refl, sym, ◌∙◌, ap}
use Rattle.std.specs.Prelude.{filter, find, slice_get}
use Rattle.std.specs.List.{AllByRecursion, enumerate_from}
use Rattle.std.specs.Option.{option_map_or}
use Rattle.command_tables.specs.declared.types.ObjectType.{ObjectType}
use Rattle.command_tables.specs.declared.types.Effect.{Effect}
use Rattle.command_tables.specs.declared.types.Effect.TheVariants as eff
use Rattle.command_tables.specs.Effects.{type_made}
use Rattle.command_tables.specs.Table.{row_of}
use Rattle.command_tables.specs.Tests.{same_type}
use Rattle.trace_format.specs.Content.{TraceEvent}
use Rattle.trace_format.specs.declared.event.Name.{Name}
use Rattle.object_model.specs.declared.Object.{Object}
use Rattle.object_model.specs.Keys.{key_payload}
use Rattle.object_model.specs.Objects.{are_same}
use Rattle.object_model.specs.History.{History, alive, births, owners_given, owners_in}
use Rattle.replay_model.specs.Setup.{Setup}
use Rattle.replay_model.specs.Past.{Opened, Retrieval, history, retrievals}
use Rattle.replay_model.specs.Births.{bearable, bears, born_with, is_kept, made_by, own_object, result_object}
use Rattle.replay_model.specs.Judged.{judged, made_of}
use Rattle.layer_model.proofs.Same.{and_true, same_is}
use Rattle.chain_model.specs.Gaps.{IsGapped}
use Rattle.chain_model.proofs.Grammar.{shaped}
use Rattle.chain_model.proofs.Passing.{creates, owners_by}
use Rattle.session_model.proofs.Owning.{HasLivingOwner, IsOwning, IsRetrievedOf, LivesWithOwner, bears_owned, owning_judged}

-- where all that pass one test pass another, the first of those that pass the other is the first of all
find_left : (p q : Retrieval → Bool) (xs : List Retrieval) → AllByRecursion (λ x. p x ≡ true → q x ≡ true) xs → find p (filter q xs) ≡ find p xs
find_left p q [] all = refl
find_left p q (x ∷ xs) all = go (find_left p q xs all.1) (p x) refl (q x) refl
  where
    go : find p (filter q xs) ≡ find p xs → (t : Bool) → p x ≡ t → (u : Bool) → q x ≡ u → find p (cond u (x ∷ filter q xs) (filter q xs)) ≡ cond (p x) (Some x) (find p xs)
    go ih t e true d = ap (λ f. cond (p x) (Some x) f) ih
    go ih true e false d = let yes : q x ≡ true = all.0 e in cc
    go ih false e false d = ih ∙ ap (λ t. cond t (Some x) (find p xs)) (sym e)

-- the retrievals of what lives
abbrev pub living_retrievals : History → List Retrieval → List Retrieval
living_retrievals h rs = filter (λ r. alive h r.object) rs

module _ (h : History) (rs : List Retrieval) (own : IsOwning h rs) where
  -- what was retrieved by an owner that lives, lives
  one_lives : (t : ObjectType) (owner : Option Object) (place : ℕ) (payload : List ℕ) → option_map_or (alive h) owner false ≡ true → (r : Retrieval) → IsRetrievedOf (births h) r → is_kept t owner place payload r ≡ true → alive h r.object ≡ true
  one_lives t owner place payload lives r of passes =
      let owners = and_true (are_same r.owner owner) _ (and_true (same_type r.object.ty t) _ passes).1 in
      lives_too (owners_in (births h) r.object) (own.retrieved r.object of.0 of.1) (of.2 ∙ same_owner r.owner owner owners.0)
    where
      same_owner : (a b : Option Object) → are_same a b ≡ true → a ≡ b
      same_owner (Some a) (Some b) e = ap (λ y. Some y) (same_is a b e)
      same_owner (Some a) None e = cc e
      same_owner None b e = cc e

      lives_too : (os : List Object) → LivesWithOwner h os r.object → slice_get os 0 ≡ owner → alive h r.object ≡ true
      lives_too [] l first = let no : false ≡ true = ap (λ (f : Option Object). option_map_or (alive h) f false) first ∙ lives in cc
      lives_too (w ∷ ws) l first = l.1 (ap (λ (f : Option Object). option_map_or (alive h) f false) first ∙ lives)

  all_live : (t : ObjectType) (owner : Option Object) (place : ℕ) (payload : List ℕ) → option_map_or (alive h) owner false ≡ true → (ks : List Retrieval) → AllByRecursion (IsRetrievedOf (births h)) ks
      → AllByRecursion (λ (r : Retrieval). is_kept t owner place payload r ≡ true → alive h r.object ≡ true) ks
  all_live t owner place payload lives [] all = tt
  all_live t owner place payload lives (r ∷ ks) all = (λ passes. one_lives t owner place payload lives r all.0 passes, all_live t owner place payload lives ks all.1)

  -- by an effect, a result is of the same object
  result_same : (o : Opened) → HasLivingOwner h o → (f : Effect) → (row_of o.cmd).effect ≡ f → (t : ObjectType) (place : ℕ) (name : Name) → result_object (births h) (living_retrievals h rs) o f t place name ≡ result_object (births h) rs o f t place name
  result_same o owned (eff.Retrieve r owner many) is t place name =
      ap (λ (f : Option Retrieval). option_map_or (λ (x : Retrieval). x.object) f (own_object t name))
      (find_left (is_kept t (slice_get (owners_given (births h) o.args owner) 0) place (key_payload o.cmd o.payload)) (λ x. alive h x.object) rs
      (all_live t (slice_get (owners_given (births h) o.args owner) 0) place (key_payload o.cmd o.payload) (go owned.lives) rs own.kept))
    where
      go : ((owners_by (births h) o.args (row_of o.cmd).effect ≡ []) × (creates (row_of o.cmd).effect ≡ true)) ⊎ (option_map_or (alive h) (slice_get (owners_by (births h) o.args (row_of o.cmd).effect) 0) false ≡ true)
          → option_map_or (alive h) (slice_get (owners_given (births h) o.args owner) 0) false ≡ true
      go (inl k) = let no : creates (row_of o.cmd).effect ≡ false = ap creates is in let yes : creates (row_of o.cmd).effect ≡ true = k.1 in cc
      go (inr lives) = ap (λ (f : Effect). option_map_or (alive h) (slice_get (owners_by (births h) o.args f) 0) false) (sym is) ∙ lives
  result_same o owned (eff.Create r owner many) is t place name = refl
  result_same o owned eff.None is t place name = refl
  result_same o owned (eff.Destroy p) is t place name = refl
  result_same o owned (eff.Free p) is t place name = refl
  result_same o owned (eff.Reset p) is t place name = refl

  -- a call makes the same
  pub made_same : (drivers : ℕ) (o : Opened) → made_by drivers (births h) (alive h) (filter (λ r. alive h r.object) rs) o ≡ made_by drivers (births h) (alive h) rs o
  made_same drivers o = go (bears (births h) (alive h) o) refl
    where
      results : HasLivingOwner h o → born_with (births h) (living_retrievals h rs) o (bearable drivers o) ≡ born_with (births h) rs o (bearable drivers o)
      results owned =
          ap (λ (f : ObjectType → ℕ → Name → Object). option_map_or (λ t. map (λ (x : ℕ × Name). record { place = x.0; name = x.1; object = f t x.0 x.1 }) (enumerate_from 0 (bearable drivers o))) (type_made (row_of o.cmd).effect) [])
          (λ i t place name. result_same o owned (row_of o.cmd).effect refl t place name i)

      go : (u : Bool) → bears (births h) (alive h) o ≡ u → cond u (born_with (births h) (living_retrievals h rs) o (bearable drivers o)) [] ≡ cond u (born_with (births h) rs o (bearable drivers o)) []
      go true bearing = results (bears_owned h o bearing)
      go false none = refl

-- by the retrievals of what lives a call makes the same
pub retrievals_enough : (s : Setup) (events : List TraceEvent) → IsGapped events → (o : Opened)
    → made_by s.drivers (births (history (judged s events))) (alive (history (judged s events))) (filter (λ r. alive (history (judged s events)) r.object) (retrievals (judged s events))) o ≡ made_of s (judged s events) o
retrievals_enough s events trace o = made_same (history (judged s events)) (retrievals (judged s events)) (owning_judged s events trace.each (shaped events trace.grammar)) s.drivers o
