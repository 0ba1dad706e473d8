-- A one-to-one renaming changes neither births nor what is alive.
use Rattle.std.proofs.Common.{◌≡◌, ℕ, zero, suc, Bool, true, false, not, cond, Option, Some, None, List, [], ◌∷◌, ◌++◌, map, refl, sym, ap}
use Rattle.std.specs.Prelude.{filter, find, ⊤}
use Rattle.std.specs.List.{list_any, filter_map, AllByRecursion}
use Rattle.std.specs.Option.{option_map, option_map_or}
use Rattle.std.proofs.lemmas.List.{map-append}
use Rattle.command_tables.specs.declared.types.OwnerOf.{OwnerOf}
use Rattle.command_tables.specs.declared.types.OwnerOf.TheVariants as of
use Rattle.command_tables.specs.declared.types.Effect.{Effect}
use Rattle.command_tables.specs.declared.types.Effect.TheVariants as eff
use Rattle.command_tables.specs.Table.{row_of}
use Rattle.object_model.specs.declared.Object.{Object}
use Rattle.object_model.specs.declared.Argument.{Argument}
use Rattle.object_model.specs.declared.Argument.TheVariants.{Null, Unborn, The}
use Rattle.object_model.specs.Objects.{same, is_in, object_of, objects_in, first_in}
use Rattle.object_model.specs.History.{Begins, Returns, History, Birth, born_in, created_in, owners_in, line_of, owners_given, births_of, births_given, births, ends_with, ends_by, alive}
use Rattle.object_model.specs.Renaming.{renamed_argument, renamed_args, renamed, IsOneToOne, AreKnown, KnowsArgs, KnowsAll}

-- the birth of the renamed object
abbrev pub renamed_birth : (Object → Object) → Birth → Birth
renamed_birth f b = record { object = f b.object; created = b.created; owners = map f b.owners }

-- objects and owners of these births are known
abbrev pub KnowsBirths : (Object → Bool) → List Birth → Type 0
KnowsBirths known bs = AllByRecursion (λ b. (known b.object ≡ true) × AreKnown known b.owners) bs

-- the object, if there is one, is known
abbrev pub IsKnown : (Object → Bool) → Option Object → Type 0
IsKnown known None = ⊤
IsKnown known (Some o) = known o ≡ true

-- known births, one list after the other
append-known : (known : Object → Bool) (xs ys : List Birth) → KnowsBirths known xs → KnowsBirths known ys → KnowsBirths known (xs ++ ys)
append-known known [] ys k l = l
append-known known (x ∷ xs) ys k l = (k.0, append-known known xs ys k.1 l)

module _ (known : Object → Bool) (f : Object → Object) (one : IsOneToOne known f) where
  -- being one of them is kept
  pub is_in-renamed : (o : Object) → known o ≡ true → (xs : List Object) → AreKnown known xs → is_in (map f xs) (f o) ≡ is_in xs o
  is_in-renamed o k [] all = refl
  is_in-renamed o k (x ∷ xs) all = rw (one.same_kept x o all.0 k, is_in-renamed o k xs all.1)

  -- being born is kept
  pub born_in-renamed : (o : Object) → known o ≡ true → (bs : List Birth) → KnowsBirths known bs → born_in (map (renamed_birth f) bs) (f o) ≡ born_in bs o
  born_in-renamed o k [] all = refl
  born_in-renamed o k (b ∷ bs) all = rw (one.same_kept b.object o all.0.0 k, born_in-renamed o k bs all.1)

  -- being created is kept
  created_in-renamed : (o : Object) → known o ≡ true → (bs : List Birth) → KnowsBirths known bs → created_in (map (renamed_birth f) bs) (f o) ≡ created_in bs o
  created_in-renamed o k [] all = refl
  created_in-renamed o k (b ∷ bs) all = rw (one.same_kept b.object o all.0.0 k, created_in-renamed o k bs all.1)

  -- the owners are the renamed ones
  pub owners_in-renamed : (o : Object) → known o ≡ true → (bs : List Birth) → KnowsBirths known bs → owners_in (map (renamed_birth f) bs) (f o) ≡ map f (owners_in bs o)
  owners_in-renamed o k [] all = refl
  owners_in-renamed o k (b ∷ bs) all =
      rw (one.same_kept b.object o all.0.0 k) (
      elim (same b.object o) as (λ t. option_map_or (λ c. c.owners) (cond t (Some (renamed_birth f b)) (find (λ c. same c.object (f o)) (map (renamed_birth f) bs))) []
      ≡ map f (option_map_or (λ c. c.owners) (cond t (Some b) (find (λ c. same c.object o) bs)) [])) [ true ↦ refl | false ↦ owners_in-renamed o k bs all.1 ]
      )

  -- the owners are known
  pub owners_in-known : (o : Object) (bs : List Birth) → KnowsBirths known bs → AreKnown known (owners_in bs o)
  owners_in-known o [] all = tt
  owners_in-known o (b ∷ bs) all =
      elim (same b.object o) as (λ t. AreKnown known (option_map_or (λ c. c.owners) (cond t (Some b) (find (λ c. same c.object o) bs)) [])) [
        | true ↦ all.0.1
        | false ↦ owners_in-known o bs all.1
      ]

  -- ---- arguments

  -- the objects of renamed arguments are the renamed ones
  filter_map-renamed : (args : List Argument) → filter_map object_of (map (renamed_argument f) args) ≡ map f (filter_map object_of args)
  filter_map-renamed [] = refl
  filter_map-renamed (Null ∷ args) = filter_map-renamed args
  filter_map-renamed (Unborn ∷ args) = filter_map-renamed args
  filter_map-renamed (The o ∷ args) = ap (λ xs. f o ∷ xs) (filter_map-renamed args)

  -- so it is for one parameter
  objects_in-renamed : (args : List (List Argument)) (p : ℕ) → objects_in (renamed_args f args) p ≡ map f (objects_in args p)
  objects_in-renamed [] p = refl
  objects_in-renamed (a ∷ args) zero = filter_map-renamed a
  objects_in-renamed (a ∷ args) (suc p) = objects_in-renamed args p

  -- and these are known
  objects_in-known : (args : List (List Argument)) (p : ℕ) → KnowsArgs known args → AreKnown known (objects_in args p)
  objects_in-known [] p all = tt
  objects_in-known (a ∷ args) zero all = all.0
  objects_in-known (a ∷ args) (suc p) all = objects_in-known args p all.1

  -- the first object of a parameter is the renamed one
  pub first_in-renamed : (args : List (List Argument)) (p : ℕ) → first_in (renamed_args f args) p ≡ option_map f (first_in args p)
  first_in-renamed [] p = refl
  first_in-renamed ([] ∷ args) zero = refl
  first_in-renamed ((Null ∷ a) ∷ args) zero = refl
  first_in-renamed ((Unborn ∷ a) ∷ args) zero = refl
  first_in-renamed ((The o ∷ a) ∷ args) zero = refl
  first_in-renamed (a ∷ args) (suc p) = first_in-renamed args p

  -- and is known
  pub first_in-known : (args : List (List Argument)) → KnowsArgs known args → (p : ℕ) → IsKnown known (first_in args p)
  first_in-known [] all p = tt
  first_in-known ([] ∷ args) all zero = tt
  first_in-known ((Null ∷ a) ∷ args) all zero = tt
  first_in-known ((Unborn ∷ a) ∷ args) all zero = tt
  first_in-known ((The o ∷ a) ∷ args) all zero = all.0.0
  first_in-known (a ∷ args) all (suc p) = first_in-known args all.1 p

  -- ---- births

  module _ (bs : List Birth) (all : KnowsBirths known bs) where
    line_of-renamed : (o : Option Object) → IsKnown known o → line_of (map (renamed_birth f) bs) (option_map f o) ≡ map f (line_of bs o)
    line_of-renamed None k = refl
    line_of-renamed (Some o) k = ap (λ xs. f o ∷ xs) (owners_in-renamed o k bs all)

    above-renamed : (o : Option Object) → IsKnown known o
        → option_map_or (owners_in (map (renamed_birth f) bs)) (option_map f o) [] ≡ map f (option_map_or (owners_in bs) o [])
    above-renamed None k = refl
    above-renamed (Some o) k = owners_in-renamed o k bs all

    line_of-known : (o : Option Object) → IsKnown known o → AreKnown known (line_of bs o)
    line_of-known None k = tt
    line_of-known (Some o) k = (k, owners_in-known o bs all)

    above-known : (o : Option Object) → AreKnown known (option_map_or (owners_in bs) o [])
    above-known None = tt
    above-known (Some o) = owners_in-known o bs all

    -- the owners that a call gives are the renamed ones
    owners_given-renamed : (args : List (List Argument)) → KnowsArgs known args → (o : OwnerOf)
        → owners_given (map (renamed_birth f) bs) (renamed_args f args) o ≡ map f (owners_given bs args o)
    owners_given-renamed args k of.Nobody = refl
    owners_given-renamed args k (of.Param p) = rw (first_in-renamed args p) (line_of-renamed (first_in args p) (first_in-known args k p))
    owners_given-renamed args k (of.OwnerOfParam p) = rw (first_in-renamed args p) (above-renamed (first_in args p) (first_in-known args k p))

    owners_given-known : (args : List (List Argument)) → KnowsArgs known args → (o : OwnerOf) → AreKnown known (owners_given bs args o)
    owners_given-known args k of.Nobody = tt
    owners_given-known args k (of.Param p) = line_of-known (first_in args p) (first_in-known args k p)
    owners_given-known args k (of.OwnerOfParam p) = above-known (first_in args p)

    -- the births of new objects are those of the renamed ones
    births_of-renamed : (created : Bool) (owners made : List Object) → AreKnown known made
        → births_of (map (renamed_birth f) bs) created (map f owners) (map f made) ≡ map (renamed_birth f) (births_of bs created owners made)
    births_of-renamed created owners [] k = refl
    births_of-renamed created owners (o ∷ made) k =
        rw (born_in-renamed o k.0 bs all) (
        elim (born_in bs o) as (λ t. map (λ x. record { object = x; created = created; owners = map f owners }) (cond (not t) (f o ∷ filter (λ x. not (born_in (map (renamed_birth f) bs) x)) (map f made)) (filter (λ x. not (born_in (map (renamed_birth f) bs) x)) (map f made)))
        ≡ map (renamed_birth f) (map (λ x. record { object = x; created = created; owners = owners }) (cond (not t) (o ∷ filter (λ x. not (born_in bs x)) made) (filter (λ x. not (born_in bs x)) made)))) [
          | true ↦ births_of-renamed created owners made k.1
          | false ↦ ap (λ xs. record { object = f o; created = created; owners = map f owners } ∷ xs) (births_of-renamed created owners made k.1)
        ]
        )

    births_of-known : (created : Bool) (owners made : List Object) → AreKnown known owners → AreKnown known made → KnowsBirths known (births_of bs created owners made)
    births_of-known created owners [] ks k = tt
    births_of-known created owners (o ∷ made) ks k =
        elim (born_in bs o) as (λ t. KnowsBirths known (map (λ x. record { object = x; created = created; owners = owners }) (cond (not t) (o ∷ filter (λ x. not (born_in bs x)) made) (filter (λ x. not (born_in bs x)) made)))) [
          | true ↦ births_of-known created owners made ks k.1
          | false ↦ ((k.0, ks), births_of-known created owners made ks k.1)
        ]

    -- so are the births that a call gives
    births_given-renamed : (args : List (List Argument)) → KnowsArgs known args → (made : List Object) → AreKnown known made → (e : Effect)
        → births_given (map (renamed_birth f) bs) (renamed_args f args) e (map f made) ≡ map (renamed_birth f) (births_given bs args e made)
    births_given-renamed args k made m (eff.Create t owner many) = rw (owners_given-renamed args k owner) (births_of-renamed true (owners_given bs args owner) made m)
    births_given-renamed args k made m (eff.Retrieve t owner many) = rw (owners_given-renamed args k owner) (births_of-renamed false (owners_given bs args owner) made m)
    births_given-renamed args k made m eff.None = refl
    births_given-renamed args k made m (eff.Destroy p) = refl
    births_given-renamed args k made m (eff.Free p) = refl
    births_given-renamed args k made m (eff.Reset p) = refl

    births_given-known : (args : List (List Argument)) → KnowsArgs known args → (made : List Object) → AreKnown known made → (e : Effect) → KnowsBirths known (births_given bs args e made)
    births_given-known args k made m (eff.Create t owner many) = births_of-known true (owners_given bs args owner) made (owners_given-known args k owner) m
    births_given-known args k made m (eff.Retrieve t owner many) = births_of-known false (owners_given bs args owner) made (owners_given-known args k owner) m
    births_given-known args k made m eff.None = tt
    births_given-known args k made m (eff.Destroy p) = tt
    births_given-known args k made m (eff.Free p) = tt
    births_given-known args k made m (eff.Reset p) = tt

    -- ---- ends

    -- going with a named object is kept
    ends_with-renamed : (o named : Object) → known o ≡ true → known named ≡ true → ends_with (map (renamed_birth f) bs) (f o) (f named) ≡ ends_with bs o named
    ends_with-renamed o named k l =
        rw (created_in-renamed named l bs all, one.same_kept o named k l, owners_in-renamed o k bs all, is_in-renamed named l (owners_in bs o) (owners_in-known o bs all))

    -- so it is for one of several
    any_ends-renamed : (o : Object) → known o ≡ true → (os : List Object) → AreKnown known os
        → list_any (ends_with (map (renamed_birth f) bs) (f o)) (map f os) ≡ list_any (ends_with bs o) os
    any_ends-renamed o k [] ks = refl
    any_ends-renamed o k (n ∷ os) ks = rw (ends_with-renamed o n k ks.0, any_ends-renamed o k os ks.1)

    -- being owned by one of several is kept
    any_owns-renamed : (o : Object) → known o ≡ true → (os : List Object) → AreKnown known os
        → list_any (is_in (map f (owners_in bs o))) (map f os) ≡ list_any (is_in (owners_in bs o)) os
    any_owns-renamed o k [] ks = refl
    any_owns-renamed o k (n ∷ os) ks = rw (is_in-renamed n ks.0 (owners_in bs o) (owners_in-known o bs all), any_owns-renamed o k os ks.1)

    -- a call ends the renamed object where it ended the object
    ends_by-renamed : (args : List (List Argument)) → KnowsArgs known args → (e : Effect) (o : Object) → known o ≡ true
        → ends_by (map (renamed_birth f) bs) (renamed_args f args) e (f o) ≡ ends_by bs args e o
    ends_by-renamed args k (eff.Destroy p) o ok = rw (objects_in-renamed args p) (any_ends-renamed o ok (objects_in args p) (objects_in-known args p k))
    ends_by-renamed args k (eff.Free p) o ok = rw (objects_in-renamed args p) (any_ends-renamed o ok (objects_in args p) (objects_in-known args p k))
    ends_by-renamed args k (eff.Reset p) o ok = rw (objects_in-renamed args p, owners_in-renamed o ok bs all) (any_owns-renamed o ok (objects_in args p) (objects_in-known args p k))
    ends_by-renamed args k eff.None o ok = refl
    ends_by-renamed args k (eff.Create t owner many) o ok = refl
    ends_by-renamed args k (eff.Retrieve t owner many) o ok = refl

  -- the births of a history that is known are known
  pub births-known : (h : History) → KnowsAll known h → KnowsBirths known (births h)
  births-known [] k = tt
  births-known (Begins c skipped ∷ past) k = births-known past k.1
  births-known (Returns c made ∷ past) k =
      append-known known (births past) (births_given (births past) c.args (row_of c.cmd).effect made) (births-known past k.2) (
      births_given-known (births past) (births-known past k.2) c.args k.0 made k.1 (row_of c.cmd).effect
      )

  -- the births of the renamed history are the renamed ones
  pub births-renamed : (h : History) → KnowsAll known h → births (renamed f h) ≡ map (renamed_birth f) (births h)
  births-renamed [] k = refl
  births-renamed (Begins c skipped ∷ past) k = births-renamed past k.1
  births-renamed (Returns c made ∷ past) k =
      rw (births-renamed past k.2, births_given-renamed (births past) (births-known past k.2) c.args k.0 made k.1 (row_of c.cmd).effect)
      (sym (map-append (renamed_birth f) (births past) (births_given (births past) c.args (row_of c.cmd).effect made)))

  -- being born is kept
  pub is_born-renamed : (h : History) → KnowsAll known h → (o : Object) → known o ≡ true → born_in (births (renamed f h)) (f o) ≡ born_in (births h) o
  is_born-renamed h k o ok = rw (births-renamed h k) (born_in-renamed o ok (births h) (births-known h k))

  -- being alive is kept
  pub alive-renamed : (h : History) → KnowsAll known h → (o : Object) → known o ≡ true → alive (renamed f h) (f o) ≡ alive h o
  alive-renamed [] k o ok = refl
  alive-renamed (Begins c skipped ∷ past) k o ok =
      rw (alive-renamed past k.1 o ok, births-renamed past k.1, ends_by-renamed (births past) (births-known past k.1) c.args k.0 (row_of c.cmd).effect o ok)
  alive-renamed (Returns c made ∷ past) k o ok = rw (alive-renamed past k.2 o ok, is_born-renamed past k.2 o ok, is_born-renamed (Returns c made ∷ past) k o ok)
