-- The rules fail alike after a one-to-one renaming.
use Rattle.std.proofs.Common.{◌≡◌, ◌+◌, ℕ, Bool, true, false, cond, ◌&&◌, Option, Some, None, List, [], ◌∷◌, map, refl, ◌∙◌, ap}
use Rattle.std.specs.Prelude.{filter, find, slice_get, ⊤}
use Rattle.std.specs.List.{filter_map}
use Rattle.std.specs.Option.{option_map_or, option_map}
use Rattle.std.proofs.lemmas.Option.{slice_get-map}
use Rattle.std.proofs.lemmas.List.{length-map}
use Rattle.command_tables.specs.declared.types.CommandId.{CommandId}
use Rattle.command_tables.specs.declared.types.ObjectType.TheVariants as ty
use Rattle.command_tables.specs.declared.types.OwnerMark.{OwnerMark}
use Rattle.command_tables.specs.declared.types.OwnerMark.TheVariants as own
use Rattle.command_tables.specs.Table.{ParamSpec, row_of}
use Rattle.command_tables.specs.Tests.{same_type}
use Rattle.object_model.specs.declared.Object.{Object}
use Rattle.object_model.specs.declared.Argument.{Argument}
use Rattle.object_model.specs.declared.Argument.TheVariants.{Null, Unborn, The}
use Rattle.object_model.specs.Objects.{are_same, object_of, first_in}
use Rattle.object_model.specs.History.{Call, History, Birth, births, owners_in, owner_in, device_in, alive, is_owned_by, children_in, children}
use Rattle.object_model.specs.Rules.{parameter_holds, owner_holds, parent_holds, children_at, places_from, params_from, failures_at, failures}
use Rattle.object_model.specs.Renaming.{renamed_argument, renamed_args, renamed_call, renamed, IsOneToOne, AreKnown, KnowsArgs, KnowsAll}
use Rattle.object_model.proofs.Renaming.{renamed_birth, KnowsBirths, IsKnown, owners_in-renamed, owners_in-known, first_in-renamed, first_in-known, births-known, births-renamed, alive-renamed}

-- the object of an argument is known
abbrev pub KnowsArgument : (Object → Bool) → Argument → Type 0
KnowsArgument known Null = ⊤
KnowsArgument known Unborn = ⊤
KnowsArgument known (The o) = known o ≡ true

module _ (known : Object → Bool) (f : Object → Object) (one : IsOneToOne known f) where
  are_same-renamed : (a b : Option Object) → IsKnown known a → IsKnown known b → are_same (option_map f a) (option_map f b) ≡ are_same a b
  are_same-renamed None b k l = refl
  are_same-renamed (Some a) None k l = refl
  are_same-renamed (Some a) (Some b) k l = one.same_kept a b k l

  first-known : (os : List Object) → AreKnown known os → IsKnown known (slice_get os 0)
  first-known [] k = tt
  first-known (o ∷ os) k = k.0

  -- the first device of a list is the renamed one
  find-renamed : (xs : List Object) → find (λ d. same_type d.ty ty.Device) (map f xs) ≡ option_map f (find (λ d. same_type d.ty ty.Device) xs)
  find-renamed [] = refl
  find-renamed (x ∷ xs) =
      go (same_type (f x).ty ty.Device) (same_type x.ty ty.Device) (ap (λ t. same_type t ty.Device) (one.type_kept x)) (find-renamed xs)
    where
      go : (t' t : Bool) → t' ≡ t → find (λ d. same_type d.ty ty.Device) (map f xs) ≡ option_map f (find (λ d. same_type d.ty ty.Device) xs)
          → cond t' (Some (f x)) (find (λ d. same_type d.ty ty.Device) (map f xs)) ≡ option_map f (cond t (Some x) (find (λ d. same_type d.ty ty.Device) xs))
      go true true e ih = refl
      go false false e ih = ih
      go true false e ih = cc
      go false true e ih = cc

  find-known : (xs : List Object) → AreKnown known xs → IsKnown known (find (λ d. same_type d.ty ty.Device) xs)
  find-known [] k = tt
  find-known (x ∷ xs) k = elim (same_type x.ty ty.Device) as (λ t. IsKnown known (cond t (Some x) (find (λ d. same_type d.ty ty.Device) xs))) [ true ↦ k.0 | false ↦ find-known xs k.1 ]

  -- being owned by an object is kept
  pub is_owned_by-renamed : (o : Object) → known o ≡ true → (b : Birth) → AreKnown known b.owners → is_owned_by (f o) (renamed_birth f b) ≡ is_owned_by o b
  is_owned_by-renamed o k b ks = rw (slice_get-map f b.owners 0) (are_same-renamed (slice_get b.owners 0) (Some o) (first-known b.owners ks) k)

  module _ (bs : List Birth) (all : KnowsBirths known bs) where
    pub owner_in-renamed : (o : Object) → known o ≡ true → owner_in (map (renamed_birth f) bs) (f o) ≡ option_map f (owner_in bs o)
    owner_in-renamed o ok = rw (owners_in-renamed known f one o ok bs all) (slice_get-map f (owners_in bs o) 0)

    pub owner_in-known : (o : Object) → IsKnown known (owner_in bs o)
    owner_in-known o = first-known (owners_in bs o) (owners_in-known known f one o bs all)

    device_in-renamed : (o : Object) → known o ≡ true → device_in (map (renamed_birth f) bs) (f o) ≡ option_map f (device_in bs o)
    device_in-renamed o ok = ap (find (λ d. same_type d.ty ty.Device)) (ap (λ xs. f o ∷ xs) (owners_in-renamed known f one o ok bs all)) ∙ find-renamed (o ∷ owners_in bs o)

    device_in-known : (o : Object) → known o ≡ true → IsKnown known (device_in bs o)
    device_in-known o ok = find-known (o ∷ owners_in bs o) (ok, owners_in-known known f one o bs all)

    same_device : (o : Object) → known o ≡ true → (first : Option Object) → IsKnown known first
        → option_map_or (λ x. are_same (device_in (map (renamed_birth f) bs) (f o)) (device_in (map (renamed_birth f) bs) x)) (option_map f first) false
        ≡ option_map_or (λ x. are_same (device_in bs o) (device_in bs x)) first false
    same_device o ok None k = refl
    same_device o ok (Some x) k = rw (device_in-renamed o ok, device_in-renamed x k) (are_same-renamed (device_in bs o) (device_in bs x) (device_in-known o ok) (device_in-known x k))

    -- the owner mark holds alike
    owner_holds-renamed : (args : List (List Argument)) → KnowsArgs known args → (m : OwnerMark) (o : Object) → known o ≡ true
        → owner_holds (map (renamed_birth f) bs) (renamed_args f args) m (f o) ≡ owner_holds bs args m o
    owner_holds-renamed args k own.None o ok = refl
    owner_holds-renamed args k own.Device o ok = rw (first_in-renamed known f one args 0) (same_device o ok (first_in args 0) (first_in-known known f one args k 0))
    owner_holds-renamed args k (own.Param p) o ok =
        rw (owner_in-renamed o ok, first_in-renamed known f one args p) (are_same-renamed (owner_in bs o) (first_in args p) (owner_in-known o) (first_in-known known f one args k p))

    module _ (living living' : Object → Bool) (alike : (o : Object) → known o ≡ true → living' (f o) ≡ living o) where
      parameter_holds-renamed : (p : ParamSpec) (a : Argument) → KnowsArgument known a → parameter_holds living' p (renamed_argument f a) ≡ parameter_holds living p a
      parameter_holds-renamed p Null k = refl
      parameter_holds-renamed p Unborn k = refl
      parameter_holds-renamed p (The o) k = alike o k

      parent_holds-renamed : (args : List (List Argument)) → KnowsArgs known args → (p : ParamSpec) (a : Argument) → KnowsArgument known a
          → parent_holds (map (renamed_birth f) bs) living' (renamed_args f args) p (renamed_argument f a) ≡ parent_holds bs living args p a
      parent_holds-renamed args kc p Null k = refl
      parent_holds-renamed args kc p Unborn k = refl
      parent_holds-renamed args kc p (The o) k = rw (alike o k, owner_holds-renamed args kc p.owner o k)

      -- the children are the renamed ones
      children_of-renamed : (o : Object) → known o ≡ true → (cs : List Birth) → KnowsBirths known cs
          → children_in (map (renamed_birth f) cs) living' (f o) ≡ map f (children_in cs living o)
      children_of-renamed o ok [] k = refl
      children_of-renamed o ok (b ∷ cs) k =
          rw (alike b.object k.0.0, is_owned_by-renamed o ok b k.0.1) (
          elim (b.created && living b.object && is_owned_by o b) as (λ t.
          map (λ b. b.object) (cond t (renamed_birth f b ∷ filter (λ b. b.created && living' b.object && is_owned_by (f o) b) (map (renamed_birth f) cs)) (filter (λ b. b.created && living' b.object && is_owned_by (f o) b) (map (renamed_birth f) cs)))
          ≡ map f (map (λ b. b.object) (cond t (b ∷ filter (λ b. b.created && living b.object && is_owned_by o b) cs) (filter (λ b. b.created && living b.object && is_owned_by o b) cs)))) [
            | true ↦ ap (λ xs. f b.object ∷ xs) (children_of-renamed o ok cs k.1)
            | false ↦ children_of-renamed o ok cs k.1
          ]
          )

      children_at-renamed : (a : Argument) → KnowsArgument known a → children_at (map (renamed_birth f) bs) living' (renamed_argument f a) ≡ children_at bs living a
      children_at-renamed Null k = refl
      children_at-renamed Unborn k = refl
      children_at-renamed (The o) k = rw (children_of-renamed o k bs all, length-map)

      failures_at-renamed : (c : CommandId) (args : List (List Argument)) → KnowsArgs known args → (i : ℕ) (p : ParamSpec) (k : ℕ) (a : Argument) → KnowsArgument known a
          → failures_at (map (renamed_birth f) bs) living' c (renamed_args f args) i p k (renamed_argument f a) ≡ failures_at bs living c args i p k a
      failures_at-renamed c args kc i p k a ka = rw (parameter_holds-renamed p a ka, parent_holds-renamed args kc p a ka, children_at-renamed a ka)

  -- ---- each argument

  -- what is found at the places of a parameter is the same where it is at each argument
  places_from-renamed : {X : Type 0} (g g' : ℕ → Argument → List X) → ((k : ℕ) (a : Argument) → KnowsArgument known a → g' k (renamed_argument f a) ≡ g k a)
      → (k : ℕ) (args : List Argument) → AreKnown known (filter_map object_of args) → places_from g' k (map (renamed_argument f) args) ≡ places_from g k args
  places_from-renamed g g' e k [] ks = refl
  places_from-renamed g g' e k (Null ∷ args) ks = rw (e k Null tt, places_from-renamed g g' e (k + 1) args ks)
  places_from-renamed g g' e k (Unborn ∷ args) ks = rw (e k Unborn tt, places_from-renamed g g' e (k + 1) args ks)
  places_from-renamed g g' e k (The o ∷ args) ks = rw (e k (The o) ks.0, places_from-renamed g g' e (k + 1) args ks.1)

  -- so it is over all parameters
  pub params_from-renamed : {X : Type 0} (g g' : ℕ → ParamSpec → ℕ → Argument → List X)
      → ((i : ℕ) (p : ParamSpec) (k : ℕ) (a : Argument) → KnowsArgument known a → g' i p k (renamed_argument f a) ≡ g i p k a) → (i : ℕ) (params : List ParamSpec) (parts : List (List Argument))
      → KnowsArgs known parts → params_from g' i params (renamed_args f parts) ≡ params_from g i params parts
  params_from-renamed g g' e i [] parts ks = refl
  params_from-renamed g g' e i (p ∷ params) [] ks = refl
  params_from-renamed g g' e i (p ∷ params) (args ∷ parts) ks =
      rw (places_from-renamed (g i p) (g' i p) (e i p) 0 args ks.0, params_from-renamed g g' e (i + 1) params parts ks.1)

  -- the three rules fail alike
  pub failures-renamed : (h : History) → KnowsAll known h → (c : Call) → KnowsArgs known c.args → failures (renamed f h) (renamed_call f c) ≡ failures h c
  failures-renamed h kh c kc =
      rw (births-renamed known f one h kh) (
      params_from-renamed (failures_at (births h) (alive h) c.cmd c.args) (failures_at (map (renamed_birth f) (births h)) (alive (renamed f h)) c.cmd (renamed_args f c.args))
      (failures_at-renamed (births h) (births-known known f one h kh) (alive h) (alive (renamed f h)) (alive-renamed known f one h kh) c.cmd c.args kc) 0 (row_of c.cmd).params c.args kc
      )

  -- the children are the renamed ones
  pub children-renamed : (h : History) → KnowsAll known h → (o : Object) → known o ≡ true → children (renamed f h) (f o) ≡ map f (children h o)
  children-renamed h kh o ok =
      rw (births-renamed known f one h kh) (
      children_of-renamed (births h) (births-known known f one h kh) (alive h) (alive (renamed f h)) (alive-renamed known f one h kh) o ok (births h) (births-known known f one h kh)
      )
