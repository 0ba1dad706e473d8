-- Uses and conflicts after a one-to-one renaming.
use Rattle.std.proofs.Common.{◌≡◌, ◌==◌, ◌+◌, ℕ, Bool, true, false, not, cond, ◌&&◌, Option, Some, None, List, [], ◌∷◌, ◌++◌, map, refl, sym, ◌∙◌, ap}
use Rattle.std.specs.Prelude.{filter}
use Rattle.std.specs.List.{list_any, filter_map, flat_map, AllByRecursion}
use Rattle.std.specs.Option.{option_map}
use Rattle.std.proofs.lemmas.List.{map-append}
use Rattle.command_tables.specs.declared.types.CommandId.{CommandId}
use Rattle.command_tables.specs.declared.types.ObjectType.{ObjectType}
use Rattle.command_tables.specs.declared.types.ObjectType.TheVariants as ty
use Rattle.command_tables.specs.declared.types.Implied.{Implied}
use Rattle.command_tables.specs.declared.types.Implied.TheVariants as imp
use Rattle.command_tables.specs.Table.{ParamSpec, row_of}
use Rattle.command_tables.specs.Tests.{same_type}
use Rattle.object_model.specs.declared.Object.{Object}
use Rattle.object_model.specs.declared.Argument.{Argument}
use Rattle.object_model.specs.declared.Argument.TheVariants.{Null, Unborn, The}
use Rattle.object_model.specs.Objects.{object_of}
use Rattle.object_model.specs.History.{Call, Begins, Returns, History, Birth, births, born_in, owner_in, is_owned_by, alive}
use Rattle.object_model.specs.Rules.{places_from, params_from}
use Rattle.object_model.specs.Uses.{Use, use_of, InUse, as_list, owned_in, implied_objects, uses_at, uses_in, uses, in_use, clashes, conflicts_in, least, overlap_at, overlaps}
use Rattle.object_model.specs.Renaming.{renamed_argument, renamed_args, renamed_call, renamed, renamed_use, IsOneToOne, AreKnown, KnowsArgs, KnowsAll}
use Rattle.object_model.proofs.Renaming.{renamed_birth, KnowsBirths, IsKnown, born_in-renamed, births-known, births-renamed, alive-renamed}
use Rattle.object_model.proofs.RenamedRules.{KnowsArgument, is_owned_by-renamed, owner_in-renamed, owner_in-known, params_from-renamed}

-- the open call with its uses of renamed objects
abbrev renamed_in_use : (Object → Object) → InUse → InUse
renamed_in_use f c = record c { uses = map (renamed_use f) c.uses }

-- the objects of these uses are known
abbrev KnowsUses : (Object → Bool) → List Use → Type 0
KnowsUses known us = AllByRecursion (λ u. known u.object ≡ true) us

-- so are those of open calls
abbrev KnowsInUse : (Object → Bool) → List InUse → Type 0
KnowsInUse known os = AllByRecursion (λ c. KnowsUses known c.uses) os

-- known uses, one list after the other
uses_append : (known : Object → Bool) (us vs : List Use) → KnowsUses known us → KnowsUses known vs → KnowsUses known (us ++ vs)
uses_append known [] vs k l = l
uses_append known (u ∷ us) vs k l = (k.0, uses_append known us vs k.1 l)

-- known open calls, one list after the other
in_use_append : (known : Object → Bool) (us vs : List InUse) → KnowsInUse known us → KnowsInUse known vs → KnowsInUse known (us ++ vs)
in_use_append known [] vs k l = l
in_use_append known (u ∷ us) vs k l = (k.0, in_use_append known us vs k.1 l)

module _ (known : Object → Bool) (f : Object → Object) (one : IsOneToOne known f) where
  filter-renamed : (p p' : Object → Bool) → ((q : Object) → known q ≡ true → p' (f q) ≡ p q) → (qs : List Object) → AreKnown known qs → filter p' (map f qs) ≡ map f (filter p qs)
  filter-renamed p p' e [] k = refl
  filter-renamed p p' e (q ∷ qs) k =
      rw (e q k.0) (elim (p q) as (λ t. cond t (f q ∷ filter p' (map f qs)) (filter p' (map f qs)) ≡ map f (cond t (q ∷ filter p qs) (filter p qs))) [
        | true ↦ ap (λ xs. f q ∷ xs) (filter-renamed p p' e qs k.1)
        | false ↦ filter-renamed p p' e qs k.1
      ])

  filter-known : (p : Object → Bool) (qs : List Object) → AreKnown known qs → AreKnown known (filter p qs)
  filter-known p [] k = tt
  filter-known p (q ∷ qs) k = elim (p q) as (λ t. AreKnown known (cond t (q ∷ filter p qs) (filter p qs))) [ true ↦ (k.0, filter-known p qs k.1) | false ↦ filter-known p qs k.1 ]

  as_list-renamed : (o : Option Object) → as_list (option_map f o) ≡ map f (as_list o)
  as_list-renamed None = refl
  as_list-renamed (Some o) = refl

  as_list-known : (o : Option Object) → IsKnown known o → AreKnown known (as_list o)
  as_list-known None k = tt
  as_list-known (Some o) k = (k, tt)

  -- what an object owns of a type is the renamed of that
  owned_in-renamed : (t : ObjectType) (o : Object) → known o ≡ true → (bs : List Birth) → KnowsBirths known bs
      → owned_in (map (renamed_birth f) bs) t (f o) ≡ map f (owned_in bs t o)
  owned_in-renamed t o ok [] k = refl
  owned_in-renamed t o ok (b ∷ bs) k =
      rw (is_owned_by-renamed known f one o ok b k.0.1) (
      go (same_type (f b.object).ty t) (same_type b.object.ty t) (ap (λ x. same_type x t) (one.type_kept b.object)) (is_owned_by o b) (owned_in-renamed t o ok bs k.1)
      )
    where
      go : (t' u : Bool) → t' ≡ u → (v : Bool) → owned_in (map (renamed_birth f) bs) t (f o) ≡ map f (owned_in bs t o)
          → map (λ b. b.object) (cond (t' && v) (renamed_birth f b ∷ filter (λ b. same_type b.object.ty t && is_owned_by (f o) b) (map (renamed_birth f) bs)) (filter (λ b. same_type b.object.ty t && is_owned_by (f o) b) (map (renamed_birth f) bs)))
          ≡ map f (map (λ b. b.object) (cond (u && v) (b ∷ filter (λ b. same_type b.object.ty t && is_owned_by o b) bs) (filter (λ b. same_type b.object.ty t && is_owned_by o b) bs)))
      go true true e true ih = ap (λ xs. f b.object ∷ xs) ih
      go true true e false ih = ih
      go false false e v ih = ih
      go true false e v ih = cc
      go false true e v ih = cc

  owned_in-known : (t : ObjectType) (o : Object) (bs : List Birth) → KnowsBirths known bs → AreKnown known (owned_in bs t o)
  owned_in-known t o [] k = tt
  owned_in-known t o (b ∷ bs) k =
      elim (same_type b.object.ty t && is_owned_by o b) as (λ x. AreKnown known (map (λ b. b.object) (cond x (b ∷ filter (λ b. same_type b.object.ty t && is_owned_by o b) bs) (filter (λ b. same_type b.object.ty t && is_owned_by o b) bs)))) [
        | true ↦ (k.0.0, owned_in-known t o bs k.1)
        | false ↦ owned_in-known t o bs k.1
      ]

  module _ (bs : List Birth) (all : KnowsBirths known bs) (living living' : Object → Bool) (alike : (o : Object) → known o ≡ true → living' (f o) ≡ living o) where
    implied-renamed : (m : Implied) (o : Object) → known o ≡ true → implied_objects (map (renamed_birth f) bs) living' m (f o) ≡ map f (implied_objects bs living m o)
    implied-renamed imp.None o ok = refl
    implied-renamed imp.PoolOf o ok = rw (owner_in-renamed known f one bs all o ok) (as_list-renamed (owner_in bs o))
    implied-renamed imp.QueuesOf o ok = owned_in-renamed ty.Queue o ok bs all
    implied-renamed imp.SetsOf o ok =
        ap (filter living') (owned_in-renamed ty.DescriptorSet o ok bs all) ∙ filter-renamed living living' alike (owned_in bs ty.DescriptorSet o) (owned_in-known ty.DescriptorSet o bs all)

    implied-known : (m : Implied) (o : Object) → AreKnown known (implied_objects bs living m o)
    implied-known imp.None o = tt
    implied-known imp.PoolOf o = as_list-known (owner_in bs o) (owner_in-known known f one bs all o)
    implied-known imp.QueuesOf o = owned_in-known ty.Queue o bs all
    implied-known imp.SetsOf o = filter-known living (owned_in bs ty.DescriptorSet o) (owned_in-known ty.DescriptorSet o bs all)

    use-map : (i k : ℕ) (os : List Object) → map (use_of i k true) (map f os) ≡ map (renamed_use f) (map (use_of i k true) os)
    use-map i k [] = refl
    use-map i k (o ∷ os) = ap (λ xs. use_of i k true (f o) ∷ xs) (use-map i k os)

    use-map-known : (i k : ℕ) (os : List Object) → AreKnown known os → KnowsUses known (map (use_of i k true) os)
    use-map-known i k [] ks = tt
    use-map-known i k (o ∷ os) ks = (ks.0, use-map-known i k os ks.1)

    -- the uses of an object are those of the renamed one
    uses_of-renamed : (i : ℕ) (p : ParamSpec) (k : ℕ) (o : Object) → known o ≡ true
        → uses_at (map (renamed_birth f) bs) living' i p k (Some (f o)) ≡ map (renamed_use f) (uses_at bs living i p k (Some o))
    uses_of-renamed i p k o ok =
        rw (born_in-renamed known f one o ok bs all, implied-renamed p.implied o ok, use-map i k (implied_objects bs living p.implied o)) (
        elim (born_in bs o) as (λ t. cond t (use_of i k p.sync (f o) ∷ map (renamed_use f) (map (use_of i k true) (implied_objects bs living p.implied o))) []
        ≡ map (renamed_use f) (cond t (use_of i k p.sync o ∷ map (use_of i k true) (implied_objects bs living p.implied o)) [])) [ true ↦ refl | false ↦ refl ]
        )

    uses_at-renamed : (i : ℕ) (p : ParamSpec) (k : ℕ) (a : Argument) → KnowsArgument known a
        → uses_at (map (renamed_birth f) bs) living' i p k (object_of (renamed_argument f a)) ≡ map (renamed_use f) (uses_at bs living i p k (object_of a))
    uses_at-renamed i p k Null ka = refl
    uses_at-renamed i p k Unborn ka = refl
    uses_at-renamed i p k (The o) ka = uses_of-renamed i p k o ka

    uses_at-known : (i : ℕ) (p : ParamSpec) (k : ℕ) (a : Argument) → KnowsArgument known a → KnowsUses known (uses_at bs living i p k (object_of a))
    uses_at-known i p k Null ka = tt
    uses_at-known i p k Unborn ka = tt
    uses_at-known i p k (The o) ka =
        elim (born_in bs o) as (λ t. KnowsUses known (cond t (use_of i k p.sync o ∷ map (use_of i k true) (implied_objects bs living p.implied o)) [])) [
          | true ↦ (ka, use-map-known i k (implied_objects bs living p.implied o) (implied-known p.implied o))
          | false ↦ tt
        ]

    -- the uses at the places of a parameter: renamed, and known
    places-uses : (i : ℕ) (p : ParamSpec) (k : ℕ) (args : List Argument) → AreKnown known (filter_map object_of args)
        → (places_from (λ k a. uses_at (map (renamed_birth f) bs) living' i p k (object_of a)) k (map (renamed_argument f) args)
        ≡ map (renamed_use f) (places_from (λ k a. uses_at bs living i p k (object_of a)) k args))
        × KnowsUses known (places_from (λ k a. uses_at bs living i p k (object_of a)) k args)
    places-uses i p k [] ks = (refl, tt)
    places-uses i p k (Null ∷ args) ks = places-uses i p (k + 1) args ks
    places-uses i p k (Unborn ∷ args) ks = places-uses i p (k + 1) args ks
    places-uses i p k (The o ∷ args) ks =
        let rest = places-uses i p (k + 1) args ks.1 in (
          rw (uses_of-renamed i p k o ks.0, rest.0) (sym (map-append (renamed_use f) (uses_at bs living i p k (Some o)) (places_from (λ k a. uses_at bs living i p k (object_of a)) (k + 1) args))),
          uses_append known (uses_at bs living i p k (Some o)) (places_from (λ k a. uses_at bs living i p k (object_of a)) (k + 1) args) (uses_at-known i p k (The o) ks.0) rest.1,
        )

    -- so over all parameters
    params-uses : (i : ℕ) (params : List ParamSpec) (parts : List (List Argument)) → KnowsArgs known parts
        → (params_from (λ i p k a. uses_at (map (renamed_birth f) bs) living' i p k (object_of a)) i params (renamed_args f parts)
        ≡ map (renamed_use f) (params_from (λ i p k a. uses_at bs living i p k (object_of a)) i params parts))
        × KnowsUses known (params_from (λ i p k a. uses_at bs living i p k (object_of a)) i params parts)
    params-uses i [] parts ks = (refl, tt)
    params-uses i (p ∷ params) [] ks = (refl, tt)
    params-uses i (p ∷ params) (args ∷ parts) ks =
        let here = places-uses i p 0 args ks.0 in
        let rest = params-uses (i + 1) params parts ks.1 in (
          rw (here.0, rest.0) (sym (map-append (renamed_use f) (places_from (λ k a. uses_at bs living i p k (object_of a)) 0 args) (params_from (λ i p k a. uses_at bs living i p k (object_of a)) (i + 1) params parts))),
          uses_append known (places_from (λ k a. uses_at bs living i p k (object_of a)) 0 args) (params_from (λ i p k a. uses_at bs living i p k (object_of a)) (i + 1) params parts) here.1 rest.1,
        )

  -- the uses of a call after a history: renamed, and known
  both-uses : (h : History) → KnowsAll known h → (c : CommandId) (args : List (List Argument)) → KnowsArgs known args
      → (uses_in (births (renamed f h)) (alive (renamed f h)) c (renamed_args f args) ≡ map (renamed_use f) (uses_in (births h) (alive h) c args))
      × KnowsUses known (uses_in (births h) (alive h) c args)
  both-uses h kh c args kc =
      rw (births-renamed known f one h kh) (
      params-uses (births h) (births-known known f one h kh) (alive h) (alive (renamed f h)) (alive-renamed known f one h kh) 0 (row_of c).params args kc
      )

  -- the uses are the renamed ones
  pub uses-renamed : (h : History) → KnowsAll known h → (c : Call) → KnowsArgs known c.args → uses (renamed f h) (renamed_call f c) ≡ map (renamed_use f) (uses h c)
  uses-renamed h kh c kc = (both-uses h kh c.cmd c.args kc).0

  -- ---- open calls

  returned-renamed : (t : ℕ) (os : List InUse) → filter (λ c. not (c.thread == t)) (map (renamed_in_use f) os) ≡ map (renamed_in_use f) (filter (λ c. not (c.thread == t)) os)
  returned-renamed t [] = refl
  returned-renamed t (c ∷ os) =
      elim (not (c.thread == t)) as (λ x. cond x (renamed_in_use f c ∷ filter (λ c. not (c.thread == t)) (map (renamed_in_use f) os)) (filter (λ c. not (c.thread == t)) (map (renamed_in_use f) os))
      ≡ map (renamed_in_use f) (cond x (c ∷ filter (λ c. not (c.thread == t)) os) (filter (λ c. not (c.thread == t)) os))) [
        | true ↦ ap (λ xs. renamed_in_use f c ∷ xs) (returned-renamed t os)
        | false ↦ returned-renamed t os
      ]

  returned-known : (t : ℕ) (os : List InUse) → KnowsInUse known os → KnowsInUse known (filter (λ c. not (c.thread == t)) os)
  returned-known t [] k = tt
  returned-known t (c ∷ os) k =
      elim (not (c.thread == t)) as (λ x. KnowsInUse known (cond x (c ∷ filter (λ c. not (c.thread == t)) os) (filter (λ c. not (c.thread == t)) os))) [
        | true ↦ (k.0, returned-known t os k.1)
        | false ↦ returned-known t os k.1
      ]

  -- the open calls use the renamed objects
  in_use-renamed : (h : History) → KnowsAll known h → in_use (renamed f h) ≡ map (renamed_in_use f) (in_use h)
  in_use-renamed [] k = refl
  in_use-renamed (Begins c skipped ∷ past) k =
      rw (in_use-renamed past k.1, (both-uses past k.1 c.cmd c.args k.0).0) (sym (map-append (renamed_in_use f) (in_use past) (record { number = c.number; thread = c.thread; uses = uses past c } ∷ [])))
  in_use-renamed (Returns c made ∷ past) k = rw (in_use-renamed past k.2) (returned-renamed c.thread (in_use past))

  in_use-known : (h : History) → KnowsAll known h → KnowsInUse known (in_use h)
  in_use-known [] k = tt
  in_use-known (Begins c skipped ∷ past) k = in_use_append known (in_use past) (record { number = c.number; thread = c.thread; uses = uses past c } ∷ []) (in_use-known past k.1) ((both-uses past k.1 c.cmd c.args k.0).1, tt)
  in_use-known (Returns c made ∷ past) k = returned-known c.thread (in_use past) (in_use-known past k.2)

  -- ---- conflicts

  clash-renamed : (u : Use) → known u.object ≡ true → (vs : List Use) → KnowsUses known vs → list_any (clashes (renamed_use f u)) (map (renamed_use f) vs) ≡ list_any (clashes u) vs
  clash-renamed u uk [] k = refl
  clash-renamed u uk (v ∷ vs) k = rw (one.same_kept u.object v.object uk k.0, clash-renamed u uk vs k.1)

  -- the same calls conflict
  conflicts-renamed : (t : ℕ) (u : Use) → known u.object ≡ true → (os : List InUse) → KnowsInUse known os
      → conflicts_in (map (renamed_in_use f) os) t (renamed_use f u) ≡ conflicts_in os t u
  conflicts-renamed t u uk [] k = refl
  conflicts-renamed t u uk (c ∷ os) k =
      rw (clash-renamed u uk c.uses k.0) (
      elim (not (c.thread == t) && list_any (clashes u) c.uses) as (λ x.
      map (λ c. c.number) (cond x (renamed_in_use f c ∷ filter (λ c. not (c.thread == t) && list_any (clashes (renamed_use f u)) c.uses) (map (renamed_in_use f) os)) (filter (λ c. not (c.thread == t) && list_any (clashes (renamed_use f u)) c.uses) (map (renamed_in_use f) os)))
      ≡ map (λ c. c.number) (cond x (c ∷ filter (λ c. not (c.thread == t) && list_any (clashes u) c.uses) os) (filter (λ c. not (c.thread == t) && list_any (clashes u) c.uses) os))) [
        | true ↦ ap (λ xs. c.number ∷ xs) (conflicts-renamed t u uk os k.1)
        | false ↦ conflicts-renamed t u uk os k.1
      ]
      )

  all_conflicts : (t : ℕ) (os : List InUse) → KnowsInUse known os → (us : List Use) → KnowsUses known us
      → flat_map (conflicts_in (map (renamed_in_use f) os) t) (map (renamed_use f) us) ≡ flat_map (conflicts_in os t) us
  all_conflicts t os ko [] k = refl
  all_conflicts t os ko (u ∷ us) k = rw (conflicts-renamed t u k.0 os ko, all_conflicts t os ko us k.1)

  -- the rule overlap fails alike
  pub overlaps-renamed : (h : History) → KnowsAll known h → (c : Call) → KnowsArgs known c.args → overlaps (renamed f h) (renamed_call f c) ≡ overlaps h c
  overlaps-renamed h kh c kc =
      rw (births-renamed known f one h kh, in_use-renamed h kh) (
      params_from-renamed known f one
      (λ i p k a. overlap_at i k (least (flat_map (conflicts_in (in_use h) c.thread) (uses_at (births h) (alive h) i p k (object_of a)))))
      (λ i p k a. overlap_at i k (least (flat_map (conflicts_in (map (renamed_in_use f) (in_use h)) c.thread) (uses_at (map (renamed_birth f) (births h)) (alive (renamed f h)) i p k (object_of a)))))
      here 0 (row_of c.cmd).params c.args kc
      )
    where
      here : (i : ℕ) (p : ParamSpec) (k : ℕ) (a : Argument) → KnowsArgument known a
          → overlap_at i k (least (flat_map (conflicts_in (map (renamed_in_use f) (in_use h)) c.thread) (uses_at (map (renamed_birth f) (births h)) (alive (renamed f h)) i p k (object_of (renamed_argument f a)))))
          ≡ overlap_at i k (least (flat_map (conflicts_in (in_use h) c.thread) (uses_at (births h) (alive h) i p k (object_of a))))
      here i p k a ka =
          rw (uses_at-renamed (births h) (births-known known f one h kh) (alive h) (alive (renamed f h)) (alive-renamed known f one h kh) i p k a ka) (
          ap (λ ns. overlap_at i k (least ns)) (
          all_conflicts c.thread (in_use h) (in_use-known h kh) (uses_at (births h) (alive h) i p k (object_of a))
          (uses_at-known (births h) (births-known known f one h kh) (alive h) (alive (renamed f h)) (alive-renamed known f one h kh) i p k a ka)
          )
          )
