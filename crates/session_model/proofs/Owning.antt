-- In the past of an accepted trace the owners of what lives live, and what was retrieved lives as long as its owner.
use Rattle.std.proofs.Common.{◌≡◌, ◌⊎◌, inl, inr, ℕ, Bool, true, false, not, cond, ◌&&◌, ◌||◌, Option, Some, None, List, [], ◌∷◌, ◌++◌, map, refl, sym, ◌∙◌, ap, subst, rules}
use Rattle.std.specs.Prelude.{filter, find, slice_get}
use Rattle.std.specs.List.{AllByRecursion}
use Rattle.std.specs.Option.{option_map_or}
use Rattle.command_tables.specs.declared.types.CommandId.{CommandId}
use Rattle.command_tables.specs.declared.types.CommandId.TheVariants as cmd
use Rattle.command_tables.specs.declared.types.ObjectType.{ObjectType}
use Rattle.command_tables.specs.declared.types.ObjectType.TheVariants as ty
use Rattle.command_tables.specs.declared.types.OwnerOf.{OwnerOf}
use Rattle.command_tables.specs.declared.types.OwnerOf.TheVariants as of
use Rattle.command_tables.specs.declared.types.Effect.{Effect}
use Rattle.command_tables.specs.declared.types.Effect.TheVariants as eff
use Rattle.command_tables.specs.Effects.{succeeds, type_made}
use Rattle.command_tables.specs.Table.{ParamSpec, row_of}
use Rattle.command_tables.specs.Tests.{same_command, same_type}
use Rattle.trace_format.specs.Content.{TraceEvent, Begin, Return}
use Rattle.object_model.specs.declared.Object.{Object}
use Rattle.object_model.specs.declared.Argument.{Argument}
use Rattle.object_model.specs.Objects.{first_in, is_in, same}
use Rattle.object_model.specs.History.{Begins, Birth, Call, History, Returns, alive, births, births_given, born_in, created_in, ends_by, is_ended, line_of, owners_given, owners_in}
use Rattle.object_model.specs.Renaming.{KnowsArgs}
use Rattle.object_model.proofs.Ended.{alive-born}
use Rattle.object_model.proofs.Renaming.{IsKnown, first_in-known}
use Rattle.replay_model.specs.declared.Born.{Born}
use Rattle.replay_model.specs.Setup.{Setup}
use Rattle.replay_model.specs.Past.{Opened, Past, Retrieval, call_of, history, is_new, is_of, is_skipped, objects_of, open_calls, owner_by, retrieval, retrievals, retrieved_by, retrieves}
use Rattle.replay_model.specs.Births.{bears, born_with, bearable, owner_lives}
use Rattle.replay_model.specs.Judged.{begun_of, judged, made_of, returned_by}
use Rattle.layer_model.proofs.Same.{and_true, same_is}
use Rattle.chain_model.proofs.Accepted.{IsAccepted, accepted_judged, open_apart}
use Rattle.chain_model.proofs.Eventing.{all_append, all_found}
use Rattle.chain_model.proofs.Naming.{AreFresh, made_well}
use Rattle.chain_model.proofs.OneByOne.{AreDecided}
use Rattle.chain_model.proofs.OneToOne.{born_grown}
use Rattle.chain_model.proofs.Owners.{type_at}
use Rattle.chain_model.proofs.Passing.{AreTyped, HaveMade, asking_by, creates, owners_by}
use Rattle.chain_model.proofs.Shapes.{AreShaped}
use Rattle.session_tables.specs.Lined.{AreLined, IsLine}
use Rattle.session_model.proofs.Lines.{all_in, born_behind, created_behind, ends_owned, ends_owner, first_typed, given_as, given_fresh, given_made, given_none, line_grown, or_left, or_right, owners_fresh, owners_old, resets_pools, unborn_owners, unborn_uncreated}
use Rattle.session_model.proofs.Living.{born_more, new_given}
use Rattle.chain_model.specs.Gaps.{may_all_come, may_come}

-- ---- what holds

-- what was retrieved has an owner that isn't a descriptor pool, and lives while this lives
abbrev pub LivesWithOwner : History → List Object → Object → Type 0
LivesWithOwner h [] x = ⊥
LivesWithOwner h (w ∷ ws) x = (same_type w.ty ty.DescriptorPool ≡ false) × (alive h w ≡ true → alive h x ≡ true)

-- a kept retrieval is of an object that was born with this owner, and not created
abbrev pub IsRetrievedOf : List Birth → Retrieval → Type 0
IsRetrievedOf bs r = (born_in bs r.object ≡ true) × (created_in bs r.object ≡ false) × (slice_get (owners_in bs r.object) 0 ≡ r.owner)

-- Owners stand in a line; the owners of what lives live; what was retrieved lives as long as its owner; no physical device is created; and what is
-- kept of retrieved objects says whose they are.
pub record IsOwning (h : History) (rs : List Retrieval) : Type 0 where
  pub lined : AreLined (births h)
  pub owned : (x y : Object) → alive h x ≡ true → is_in (owners_in (births h) x) y ≡ true → alive h y ≡ true
  pub retrieved : (x : Object) → born_in (births h) x ≡ true → created_in (births h) x ≡ false → LivesWithOwner h (owners_in (births h) x) x
  pub devices : (x : Object) → same_type x.ty ty.PhysicalDevice ≡ true → created_in (births h) x ≡ false
  pub kept : AllByRecursion (IsRetrievedOf (births h)) rs

pub owning_nothing : IsOwning [] []
owning_nothing = record { lined = λ x. tt; owned = λ x y lives. cc lives; retrieved = λ x born. cc born; devices = λ x device. refl; kept = tt }

-- what lives was born
pub alive_born : (h : History) (x : Object) → alive h x ≡ true → born_in (births h) x ≡ true
alive_born h x lives = (and_true (born_in (births h) x) (not (is_ended h x)) (sym (alive-born h x) ∙ lives)).0

-- ---- the table

resets_pools_all : (c : CommandId) → resets_pools (row_of c).params (row_of c).effect ≡ true
unfolding row_of same_type
resets_pools_all c = search rules

-- what is retrieved has the object of a parameter as its owner, which isn't a descriptor pool
abbrev pub gets_of_no_pool : List ParamSpec → Effect → Bool
gets_of_no_pool ps (eff.Retrieve t (of.Param p) many) = option_map_or (λ u. not (same_type u ty.DescriptorPool)) (type_at ps p) false
gets_of_no_pool ps (eff.Retrieve t of.Nobody many) = false
gets_of_no_pool ps (eff.Retrieve t (of.OwnerOfParam p) many) = false
gets_of_no_pool ps _ = true

pub gets_of_no_pool_all : (c : CommandId) → gets_of_no_pool (row_of c).params (row_of c).effect ≡ true
unfolding row_of same_type
gets_of_no_pool_all c = search rules

-- no physical device is created
abbrev pub creates_no_device : Effect → Bool
creates_no_device (eff.Create t owner many) = not (same_type t ty.PhysicalDevice)
creates_no_device _ = true

creates_no_device_all : (c : CommandId) → creates_no_device (row_of c).effect ≡ true
unfolding row_of same_type
creates_no_device_all c = search rules

-- an owner of a parameter's object is asked for at a physical device alone, by what creates
abbrev pub owner_of_device : List ParamSpec → Effect → Bool
owner_of_device ps (eff.Create t (of.OwnerOfParam p) many) = option_map_or (λ u. same_type u ty.PhysicalDevice) (type_at ps p) false
owner_of_device ps (eff.Retrieve t (of.OwnerOfParam p) many) = false
owner_of_device ps _ = true

pub owner_of_device_all : (c : CommandId) → owner_of_device (row_of c).params (row_of c).effect ≡ true
unfolding row_of same_type
owner_of_device_all c = search rules

-- an instance is created, and of nobody
abbrev pub makes_unowned : Effect → Bool
makes_unowned (eff.Create t of.Nobody many) = true
makes_unowned _ = false

abbrev pub unowned_fits : CommandId → Bool
unowned_fits c = not (same_command c cmd.CreateInstance) || makes_unowned (row_of c).effect

pub unowned_fits_all : (c : CommandId) → unowned_fits c ≡ true
unfolding row_of same_command
unowned_fits_all c = search rules

unowned : (bs : List Birth) (args : List (List Argument)) (e : Effect) → makes_unowned e ≡ true → (owners_by bs args e ≡ []) × (creates e ≡ true)
unowned bs args (eff.Create t of.Nobody many) is = (refl, refl)
unowned bs args (eff.Create t (of.Param p) many) is = cc is
unowned bs args (eff.Create t (of.OwnerOfParam p) many) is = cc is
unowned bs args (eff.Retrieve t owner many) is = cc is
unowned bs args eff.None is = cc is
unowned bs args (eff.Destroy p) is = cc is
unowned bs args (eff.Free p) is = cc is
unowned bs args (eff.Reset p) is = cc is

-- ---- a begin

-- what holds of an object that lives on holds of one that lives and ends no sooner
passes : (a b s e f : Bool) → (a ≡ true → b ≡ true) → (f ≡ true → e ≡ true) → (a && (s || not e)) ≡ true → (b && (s || not f)) ≡ true
passes true true true e f h k p = refl
passes true true false e false h k p = refl
passes true true false true true h k p = cc p
passes true true false false true h k p = cc (k refl)
passes true false s e f h k p = cc (h refl)
passes false b s e f h k p = cc p

pub owning_begun : (h : History) (rs : List Retrieval) (call : Call) (skipped : Bool) → AreTyped (row_of call.cmd).params call.args → IsOwning h rs → IsOwning (Begins call skipped ∷ h) rs
owning_begun h rs call skipped typed own = record {
  lined = own.lined;
  owned = λ x y lives there.
      passes (alive h x) (alive h y) skipped (ends_by (births h) call.args (row_of call.cmd).effect x) (ends_by (births h) call.args (row_of call.cmd).effect y) (λ l. own.owned x y l there)
      (λ e. ends_owned (births h) own.lined call.args (row_of call.cmd).effect x y there e) lives;
  retrieved = λ x born given. still x given (owners_in (births h) x) refl (own.retrieved x born given);
  devices = own.devices;
  kept = own.kept;
}
  where
    still : (x : Object) → created_in (births h) x ≡ false → (os : List Object) → owners_in (births h) x ≡ os → LivesWithOwner h os x → LivesWithOwner (Begins call skipped ∷ h) os x
    still x given [] is l = l
    still x given (w ∷ ws) is l =
        let line : IsLine (births h) (w ∷ ws) = subst (IsLine (births h)) is (own.lined x) in (
          l.0,
          λ lives. passes (alive h w) (alive h x) skipped (ends_by (births h) call.args (row_of call.cmd).effect w) (ends_by (births h) call.args (row_of call.cmd).effect x) l.1
              (λ e. ends_owner (births h) (row_of call.cmd).params call.args typed (row_of call.cmd).effect (resets_pools_all call.cmd) x w ws is line.1 given l.0 e) lives,
        )

-- ---- owners of what is made

-- where the first owner lives, all owners in a line live
pub line_lives : (h : History) (rs : List Retrieval) → IsOwning h rs → (os : List Object) → IsLine (births h) os → option_map_or (alive h) (slice_get os 0) false ≡ true → (y : Object) → is_in os y ≡ true → alive h y ≡ true
line_lives h rs own [] line first y there = cc first
line_lives h rs own (w ∷ ws) line first y there = go (same w y) refl there
  where
    go : (t : Bool) → same w y ≡ t → (t || is_in ws y) ≡ true → alive h y ≡ true
    go true e k = ap (alive h) (sym (same_is w y e)) ∙ first
    go false e k = own.owned w y first (ap (λ zs. is_in zs y) (sym line.1) ∙ k)

-- the object of a parameter is born
pub first_born : (bs : List Birth) (args : List (List Argument)) → KnowsArgs (born_in bs) args → (p : ℕ) → IsKnown (born_in bs) (first_in args p)
first_born bs args known p = first_in-known (born_in bs) (λ o. o) (record { type_kept = λ o. refl; same_kept = λ a b ka kb. refl }) args known p

-- the owners of what a call makes stand in a line
owners_line : (bs : List Birth) → AreLined bs → (args : List (List Argument)) → KnowsArgs (born_in bs) args → (owner : OwnerOf) → IsLine bs (owners_given bs args owner)
owners_line bs lined args known of.Nobody = tt
owners_line bs lined args known (of.Param p) = go (first_in args p) (first_born bs args known p)
  where
    go : (f : Option Object) → IsKnown (born_in bs) f → IsLine bs (line_of bs f)
    go None k = tt
    go (Some w) k = (k, refl)
owners_line bs lined args known (of.OwnerOfParam p) = go (first_in args p)
  where
    go : (f : Option Object) → IsLine bs (option_map_or (owners_in bs) f [])
    go None = tt
    go (Some w) = lined w

pub line_by : (bs : List Birth) → AreLined bs → (args : List (List Argument)) → KnowsArgs (born_in bs) args → (e : Effect) → IsLine bs (owners_by bs args e)
line_by bs lined args known (eff.Create t owner many) = owners_line bs lined args known owner
line_by bs lined args known (eff.Retrieve t owner many) = owners_line bs lined args known owner
line_by bs lined args known eff.None = tt
line_by bs lined args known (eff.Destroy p) = tt
line_by bs lined args known (eff.Free p) = tt
line_by bs lined args known (eff.Reset p) = tt

pub owner_first : (bs : List Birth) (args : List (List Argument)) (e : Effect) → owner_by bs args e ≡ slice_get (owners_by bs args e) 0
owner_first bs args (eff.Create t owner many) = refl
owner_first bs args (eff.Retrieve t owner many) = refl
owner_first bs args eff.None = refl
owner_first bs args (eff.Destroy p) = refl
owner_first bs args (eff.Free p) = refl
owner_first bs args (eff.Reset p) = refl

-- what a call makes has no owner, or one that lives
pub record HasLivingOwner (h : History) (o : Opened) : Type 0 where
  pub lives : ((owners_by (births h) o.args (row_of o.cmd).effect ≡ []) × (creates (row_of o.cmd).effect ≡ true)) ⊎ (option_map_or (alive h) (slice_get (owners_by (births h) o.args (row_of o.cmd).effect) 0) false ≡ true)

pub bears_owned : (h : History) (o : Opened) → bears (births h) (alive h) o ≡ true → HasLivingOwner h o
bears_owned h o is = record { lives = go (same_command o.cmd cmd.CreateInstance) refl parts.1 }
  where
    first : (not (is_skipped o) ≡ true) × ((succeeds o.cmd o.code && owner_lives (alive h) o.cmd (owner_by (births h) o.args (row_of o.cmd).effect)) ≡ true)
    first = and_true (not (is_skipped o)) (succeeds o.cmd o.code && owner_lives (alive h) o.cmd (owner_by (births h) o.args (row_of o.cmd).effect)) is

    parts : (succeeds o.cmd o.code ≡ true) × (owner_lives (alive h) o.cmd (owner_by (births h) o.args (row_of o.cmd).effect) ≡ true)
    parts = and_true (succeeds o.cmd o.code) (owner_lives (alive h) o.cmd (owner_by (births h) o.args (row_of o.cmd).effect)) first.1

    fits : (t : Bool) → t ≡ true → (not t || makes_unowned (row_of o.cmd).effect) ≡ true → makes_unowned (row_of o.cmd).effect ≡ true
    fits true e f = f
    fits false e f = cc e

    go : (t : Bool) → same_command o.cmd cmd.CreateInstance ≡ t → (t || option_map_or (alive h) (owner_by (births h) o.args (row_of o.cmd).effect) false) ≡ true
        → ((owners_by (births h) o.args (row_of o.cmd).effect ≡ []) × (creates (row_of o.cmd).effect ≡ true)) ⊎ (option_map_or (alive h) (slice_get (owners_by (births h) o.args (row_of o.cmd).effect) 0) false ≡ true)
    go true e k = inl (unowned (births h) o.args (row_of o.cmd).effect (fits (same_command o.cmd cmd.CreateInstance) e (unowned_fits_all o.cmd)))
    go false e k = inr (ap (λ (w : Option Object). option_map_or (alive h) w false) (sym (owner_first (births h) o.args (row_of o.cmd).effect)) ∙ k)

-- ---- a return

-- what is made has the type of its command
abbrev pub AreOfType : Effect → List Object → Type 0
AreOfType e os = AllByRecursion (λ (x : Object). type_made e ≡ Some x.ty) os

-- where something is given, something was made
made_some : (bs : List Birth) (args : List (List Argument)) (e : Effect) (made : List Object) (x : Object) → born_in (births_given bs args e made) x ≡ true → made ≡ [] → ⊥
made_some bs args e made x born none =
    let no : born_in (births_given bs args e made) x ≡ false = ap (λ (os : List Object). born_in (births_given bs args e os) x) none ∙ ap (λ (gs : List Birth). born_in gs x) (given_none bs args e) in cc

module _ (h : History) (rs : List Retrieval) (o : Opened) (made : List Born) (own : IsOwning h rs) (known : KnowsArgs (born_in (births h)) o.args) (typed : AreTyped (row_of o.cmd).params o.args)
    (bearing : (bears (births h) (alive h) o ≡ true) ⊎ (made ≡ [])) (types : AreOfType (row_of o.cmd).effect (objects_of made)) where
  abbrev bs : List Birth
  bs = births h

  abbrev e : Effect
  e = (row_of o.cmd).effect

  abbrev given : List Birth
  given = births_given (births h) o.args (row_of o.cmd).effect (objects_of made)

  abbrev later : History
  later = Returns (call_of o) (objects_of made) ∷ h

  pub alive_later : (x : Object) → alive (Returns (call_of o) (objects_of made) ∷ h) x ≡ (alive h x || born_in (births_given (births h) o.args (row_of o.cmd).effect (objects_of made)) x)
  alive_later x = sym (born_more (alive h x) bs o.args e (objects_of made) x)

  -- what is given is new
  pub given_new : (x : Object) → born_in (births_given (births h) o.args (row_of o.cmd).effect (objects_of made)) x ≡ true → born_in (births h) x ≡ false
  given_new x there = go (born_in bs x) refl
    where
      go : (t : Bool) → born_in bs x ≡ t → born_in bs x ≡ false
      go true born = let no : born_in given x ≡ false = new_given bs o.args e (objects_of made) x born in cc
      go false none = none

  -- what was born is as it was
  pub created_old : (x : Object) → born_in (births h) x ≡ true → created_in (births h ++ births_given (births h) o.args (row_of o.cmd).effect (objects_of made)) x ≡ created_in (births h) x
  created_old x born =
      created_behind bs given x ∙ (ap (λ t. created_in bs x || t) (unborn_uncreated given x (new_given bs o.args e (objects_of made) x born)) ∙ none (created_in bs x))
    where
      none : (t : Bool) → (t || false) ≡ t
      none true = refl
      none false = refl

  -- what is new is as it was given
  pub created_new : (x : Object) → born_in (births h) x ≡ false → created_in (births h ++ births_given (births h) o.args (row_of o.cmd).effect (objects_of made)) x ≡ created_in (births_given (births h) o.args (row_of o.cmd).effect (objects_of made)) x
  created_new x fresh = created_behind bs given x ∙ ap (λ t. t || created_in given x) (unborn_uncreated bs x fresh)

  -- where something is given, its owner lives
  owned_given : (x : Object) → born_in given x ≡ true → HasLivingOwner h o
  owned_given x there = go bearing
    where
      go : (bears (births h) (alive h) o ≡ true) ⊎ (made ≡ []) → HasLivingOwner h o
      go (inl is) = bears_owned h o is
      go (inr none) = absurd (made_some bs o.args e (objects_of made) x there (ap objects_of none))

  lines_then : AreLined (bs ++ given)
  lines_then x = go (born_in bs x) refl (born_in given x) refl
    where
      go : (t : Bool) → born_in bs x ≡ t → (u : Bool) → born_in given x ≡ u → IsLine (bs ++ given) (owners_in (bs ++ given) x)
      go true born u n = subst (IsLine (bs ++ given)) (sym (owners_old bs given x born)) (line_grown bs given (owners_in bs x) (own.lined x))
      go false fresh true there =
          subst (IsLine (bs ++ given)) (sym (owners_fresh bs given x fresh ∙ (given_as bs o.args e (objects_of made) x there).0)) (line_grown bs given (owners_by bs o.args e) (line_by bs own.lined o.args known e))
      go false fresh false none = subst (IsLine (bs ++ given)) (sym (owners_fresh bs given x fresh ∙ unborn_owners given x none)) tt

  owned_then : (x y : Object) → alive later x ≡ true → is_in (owners_in (bs ++ given) x) y ≡ true → alive later y ≡ true
  owned_then x y lives there = alive_later y ∙ or_left (alive h y) (born_in given y) (go (alive h x) refl (sym (alive_later x) ∙ lives))
    where
      fresh_owned : born_in given x ≡ true → alive h y ≡ true
      fresh_owned new =
          let here : is_in (owners_by bs o.args e) y ≡ true = ap (λ zs. is_in zs y) (sym (owners_fresh bs given x (given_new x new) ∙ (given_as bs o.args e (objects_of made) x new).0)) ∙ there in at here (owned_given x new).lives
        where
          at : is_in (owners_by bs o.args e) y ≡ true → ((owners_by bs o.args e ≡ []) × (creates e ≡ true)) ⊎ (option_map_or (alive h) (slice_get (owners_by bs o.args e) 0) false ≡ true) → alive h y ≡ true
          at here (inl none) = let no : is_in (owners_by bs o.args e) y ≡ false = ap (λ zs. is_in zs y) none.0 in cc
          at here (inr first) = line_lives h rs own (owners_by bs o.args e) (line_by bs own.lined o.args known e) first y here

      go : (t : Bool) → alive h x ≡ t → (t || born_in given x) ≡ true → alive h y ≡ true
      go true l k = own.owned x y l (ap (λ zs. is_in zs y) (sym (owners_old bs given x (alive_born h x l))) ∙ there)
      go false n k = fresh_owned k

  -- what is retrieved has an owner that isn't a descriptor pool
  of_no_pool : (f : Effect) → gets_of_no_pool (row_of o.cmd).params f ≡ true → creates f ≡ false → (w : Object) (ws : List Object) → owners_by bs o.args f ≡ w ∷ ws → same_type w.ty ty.DescriptorPool ≡ false
  of_no_pool (eff.Create t owner many) fits given w ws is = cc given
  of_no_pool (eff.Retrieve t (of.Param p) many) fits given w ws is = go (first_in o.args p) refl is
    where
      flip : (t : Bool) → not t ≡ true → t ≡ false
      flip true e = cc e
      flip false e = refl

      go : (f : Option Object) → first_in o.args p ≡ f → line_of bs f ≡ w ∷ ws → same_type w.ty ty.DescriptorPool ≡ false
      go None e i = cc i
      go (Some v) e i =
          let one : v ≡ w = cc in
          let has : type_at (row_of o.cmd).params p ≡ Some v.ty = first_typed (row_of o.cmd).params o.args typed p v e in
          flip (same_type w.ty ty.DescriptorPool) (ap (λ (y : Object). not (same_type y.ty ty.DescriptorPool)) (sym one) ∙ (ap (λ (u : Option ObjectType). option_map_or (λ t. not (same_type t ty.DescriptorPool)) u false) (sym has) ∙ fits))
  of_no_pool (eff.Retrieve t of.Nobody many) fits given w ws is = cc fits
  of_no_pool (eff.Retrieve t (of.OwnerOfParam p) many) fits given w ws is = cc fits
  of_no_pool eff.None fits given w ws is = cc is
  of_no_pool (eff.Destroy p) fits given w ws is = cc is
  of_no_pool (eff.Free p) fits given w ws is = cc is
  of_no_pool (eff.Reset p) fits given w ws is = cc is

  retrieved_then : (x : Object) → born_in (bs ++ given) x ≡ true → created_in (bs ++ given) x ≡ false → LivesWithOwner later (owners_in (bs ++ given) x) x
  retrieved_then x born none = go (born_in bs x) refl (sym (born_behind bs given x) ∙ born)
    where
      old : (os : List Object) → IsLine bs os → LivesWithOwner h os x → LivesWithOwner later os x
      old [] line l = l
      old (w ∷ ws) line l = (l.0, λ lives. alive_later x ∙ or_left (alive h x) (born_in given x) (l.1 (at (alive h w) refl (sym (alive_later w) ∙ lives))))
        where
          at : (t : Bool) → alive h w ≡ t → (t || born_in given w) ≡ true → alive h w ≡ true
          at true is k = is
          at false is k = let no : born_in bs w ≡ false = given_new w k in let yes : born_in bs w ≡ true = line.0 in cc

      new : born_in given x ≡ true → (os : List Object) → owners_by bs o.args e ≡ os → creates e ≡ false → LivesWithOwner later os x
      new there [] is gives = at (owned_given x there).lives
        where
          at : ((owners_by bs o.args e ≡ []) × (creates e ≡ true)) ⊎ (option_map_or (alive h) (slice_get (owners_by bs o.args e) 0) false ≡ true) → ⊥
          at (inl k) = let yes : creates e ≡ true = k.1 in cc
          at (inr k) = let no : false ≡ true = ap (λ (os : List Object). option_map_or (alive h) (slice_get os 0) false) (sym is) ∙ k in cc
      new there (w ∷ ws) is gives = (of_no_pool e (gets_of_no_pool_all o.cmd) gives w ws is, λ lives. alive_later x ∙ or_right (alive h x) (born_in given x) there)

      go : (t : Bool) → born_in bs x ≡ t → (t || born_in given x) ≡ true → LivesWithOwner later (owners_in (bs ++ given) x) x
      go true was k =
          subst (λ (os : List Object). LivesWithOwner later os x) (sym (owners_old bs given x was)) (old (owners_in bs x) (own.lined x) (own.retrieved x was (sym (created_old x was) ∙ none)))
      go false fresh k =
          let is = given_as bs o.args e (objects_of made) x k in
          subst (λ (os : List Object). LivesWithOwner later os x) (sym (owners_fresh bs given x fresh ∙ is.0)) (new k (owners_by bs o.args e) refl (sym is.1 ∙ (sym (created_new x fresh) ∙ none)))

  -- what creates makes no physical device
  no_device : (f : Effect) → creates_no_device f ≡ true → (x : Object) → type_made f ≡ Some x.ty → same_type x.ty ty.PhysicalDevice ≡ true → creates f ≡ false
  no_device (eff.Create t owner many) fits x is device =
      let one : t ≡ x.ty = cc in let no : not (same_type x.ty ty.PhysicalDevice) ≡ true = ap (λ u. not (same_type u ty.PhysicalDevice)) (sym one) ∙ fits in absurd (clash (same_type x.ty ty.PhysicalDevice) device no)
    where
      clash : (t : Bool) → t ≡ true → not t ≡ true → ⊥
      clash true a b = cc b
      clash false a b = cc a
  no_device (eff.Retrieve t owner many) fits x is device = refl
  no_device eff.None fits x is device = refl
  no_device (eff.Destroy p) fits x is device = refl
  no_device (eff.Free p) fits x is device = refl
  no_device (eff.Reset p) fits x is device = refl

  devices_then : (x : Object) → same_type x.ty ty.PhysicalDevice ≡ true → created_in (bs ++ given) x ≡ false
  devices_then x device = created_behind bs given x ∙ (ap (λ t. t || created_in given x) (own.devices x device) ∙ go (born_in given x) refl)
    where
      go : (t : Bool) → born_in given x ≡ t → created_in given x ≡ false
      go true there =
          (given_as bs o.args e (objects_of made) x there).1
          ∙ no_device e (creates_no_device_all o.cmd) x (given_made (λ (y : Object). type_made e ≡ Some y.ty) bs o.args e (objects_of made) types x there) device
      go false none = unborn_uncreated given x none

  kept_old : (ks : List Retrieval) → AllByRecursion (IsRetrievedOf bs) ks → AllByRecursion (IsRetrievedOf (bs ++ given)) ks
  kept_old [] all = tt
  kept_old (r ∷ ks) all = (
    (born_grown bs given r.object all.0.0, created_old r.object all.0.0 ∙ all.0.1, ap (λ (os : List Object). slice_get os 0) (owners_old bs given r.object all.0.0) ∙ all.0.2),
    kept_old ks all.1,
  )

  -- the objects that are retrieved first are given
  kept_new : (f : Effect) → e ≡ f → (ms : List Born) → AllByRecursion (λ (b : Born). born_in bs b.object ≡ false → born_in given b.object ≡ true) ms
      → AllByRecursion (IsRetrievedOf (bs ++ given)) (cond (retrieves f) (map (retrieval o (owner_by bs o.args f)) (filter (is_new bs) ms)) [])
  kept_new (eff.Create t owner many) is ms all = tt
  kept_new eff.None is ms all = tt
  kept_new (eff.Destroy p) is ms all = tt
  kept_new (eff.Free p) is ms all = tt
  kept_new (eff.Reset p) is ms all = tt
  kept_new (eff.Retrieve t owner many) is [] all = tt
  kept_new (eff.Retrieve t owner many) is (b ∷ ms) all = go (born_in bs b.object) refl (kept_new (eff.Retrieve t owner many) is ms all.1)
    where
      one : born_in bs b.object ≡ false → IsRetrievedOf (bs ++ given) (retrieval o (owner_by bs o.args (eff.Retrieve t owner many)) b)
      one fresh =
          let there : born_in given b.object ≡ true = all.0 fresh in
          let as0 = given_as bs o.args e (objects_of made) b.object there in (
            born_behind bs given b.object ∙ or_right (born_in bs b.object) (born_in given b.object) there,
            created_new b.object fresh ∙ (as0.1 ∙ ap creates is),
            ap (λ (os : List Object). slice_get os 0) (owners_fresh bs given b.object fresh ∙ as0.0) ∙ ap (λ (f : Effect). slice_get (owners_by bs o.args f) 0) is,
          )

      go : (u : Bool) → born_in bs b.object ≡ u → AllByRecursion (IsRetrievedOf (bs ++ given)) (map (retrieval o (owner_by bs o.args (eff.Retrieve t owner many))) (filter (is_new bs) ms))
          → AllByRecursion (IsRetrievedOf (bs ++ given)) (map (retrieval o (owner_by bs o.args (eff.Retrieve t owner many))) (cond (not u) (b ∷ filter (is_new bs) ms) (filter (is_new bs) ms)))
      go true was ih = ih
      go false fresh ih = (one fresh, ih)

  made_given : AllByRecursion (λ (b : Born). born_in bs b.object ≡ false → born_in given b.object ≡ true) made
  made_given = go made types (all_in (objects_of made) (objects_of made) (λ x there. there))
    where
      go : (ms : List Born) → AreOfType e (objects_of ms) → AllByRecursion (λ (x : Object). is_in (objects_of made) x ≡ true) (objects_of ms) → AllByRecursion (λ (b : Born). born_in bs b.object ≡ false → born_in given b.object ≡ true) ms
      go [] all there = tt
      go (b ∷ ms) all there = (λ fresh. given_fresh bs o.args e (objects_of made) b.object all.0 there.0 fresh, go ms all.1 there.1)

  pub owning_returned : IsOwning (Returns (call_of o) (objects_of made) ∷ h) (rs ++ retrieved_by (births h) o made)
  owning_returned = record {
    lined = lines_then;
    owned = owned_then;
    retrieved = retrieved_then;
    devices = devices_then;
    kept = all_append (IsRetrievedOf (bs ++ given)) rs (retrieved_by bs o made) (kept_old rs own.kept) (kept_new e refl made made_given);
  }

-- ---- what an open call makes

-- what is made has the type of its command
types_decided : (h : History) (rs : List Retrieval) (o : Opened) (made : List Born) → HaveMade (births h) rs o.cmd o.payload o.args (type_made (row_of o.cmd).effect) made → AreOfType (row_of o.cmd).effect (objects_of made)
types_decided h rs o made have = go (type_made (row_of o.cmd).effect) have
  where
    typed : (t : ObjectType) (ms : List Born) → AreDecided (asking_by (births h) o.cmd o.payload o.args (row_of o.cmd).effect) t (births h) rs ms → AllByRecursion (λ (x : Object). Some t ≡ Some x.ty) (objects_of ms)
    typed t [] d = tt
    typed t (b ∷ ms) d = (ap (λ u. Some u) (sym d.1), typed t ms d.2)

    go : (mt : Option ObjectType) → HaveMade (births h) rs o.cmd o.payload o.args mt made → AllByRecursion (λ (x : Object). mt ≡ Some x.ty) (objects_of made)
    go None have = subst (λ (ms : List Born). AllByRecursion (λ (x : Object). None ≡ Some x.ty) (objects_of ms)) (sym have) tt
    go (Some t) have = typed t made have

-- what an open call of an accepted trace makes, and what its arguments are
pub record MakesWell (past : Past) (o : Opened) (made : List Born) : Type 0 where
  pub known : KnowsArgs (born_in (births (history past))) o.args
  pub typed : AreTyped (row_of o.cmd).params o.args
  pub bearing : (bears (births (history past)) (alive (history past)) o ≡ true) ⊎ (made ≡ [])
  pub have : HaveMade (births (history past)) (retrievals past) o.cmd o.payload o.args (type_made (row_of o.cmd).effect) made
  pub types : AreOfType (row_of o.cmd).effect (objects_of made)

pub makes_well : (s : Setup) (events : List TraceEvent) (past : Past) (thread : ℕ) (o : Opened) → IsAccepted events past → find (is_of thread) (open_calls past) ≡ Some o → MakesWell past o (made_of s past o)
makes_well s events past thread o a is =
    let have : HaveMade (births (history past)) (retrievals past) o.cmd o.payload o.args (type_made (row_of o.cmd).effect) (made_of s past o) =
    (made_well (births (history past)) (retrievals past) o a.knowing.retrieved a.kept s.drivers (alive (history past)) (all_found (λ x. AreFresh (births (history past)) x.results) (is_of thread) (open_calls past) o a.names.fresh is)
    (open_apart (is_of thread) (open_calls past) o a.names.apart is)).have in
    record {
      known = all_found (λ (x : Opened). KnowsArgs (born_in (births (history past))) x.args) (is_of thread) (open_calls past) o a.knowing.opens is;
      typed = all_found (λ (x : Opened). AreTyped (row_of x.cmd).params x.args) (is_of thread) (open_calls past) o a.args is;
      bearing = bearing (bears (births (history past)) (alive (history past)) o) refl;
      have = have;
      types = types_decided (history past) (retrievals past) o (made_of s past o) have;
    }
  where
    bearing : (t : Bool) → bears (births (history past)) (alive (history past)) o ≡ t → (bears (births (history past)) (alive (history past)) o ≡ true) ⊎ (made_of s past o ≡ [])
    bearing true e = inl e
    bearing false e = inr (ap (λ t. cond t (born_with (births (history past)) (retrievals past) o (bearable s.drivers o)) []) e)

-- ---- all events

last_of : {X : Type 0} (P : X → Type 0) (xs : List X) (x : X) → AllByRecursion P (xs ++ x ∷ []) → P x
last_of P [] x all = all.0
last_of P (y ∷ xs) x all = last_of P xs x all.1

-- so it is after every accepted trace
pub owning_judged : (s : Setup) (events : List TraceEvent) → may_all_come events ≡ true → AreShaped events → IsOwning (history (judged s events)) (retrievals (judged s events))
owning_judged s [] ok shaped = owning_nothing
owning_judged s (Begin b ∷ before) ok shaped =
    let parts = and_true (may_all_come before) (may_come before (Begin b)) ok in
    let o : Opened = (begun_of s (judged s before) b).opened in
    let a : IsAccepted (Begin b ∷ before) (judged s (Begin b ∷ before)) = accepted_judged s (Begin b ∷ before) ok shaped in
    owning_begun (history (judged s before)) (retrievals (judged s before)) (call_of o) (is_skipped o) (last_of (λ (x : Opened). AreTyped (row_of x.cmd).params x.args) (open_calls (judged s before)) o a.args) (owning_judged s before parts.0 shaped.1)
owning_judged s (Return thread ∷ before) ok shaped =
    let parts = and_true (may_all_come before) (may_come before (Return thread)) ok in
    go (find (is_of thread) (open_calls (judged s before))) refl (accepted_judged s before parts.0 shaped.1) (owning_judged s before parts.0 shaped.1)
  where
    go : (f : Option Opened) → find (is_of thread) (open_calls (judged s before)) ≡ f → IsAccepted before (judged s before) → IsOwning (history (judged s before)) (retrievals (judged s before))
        → IsOwning (history (returned_by s (judged s before) f)) (retrievals (returned_by s (judged s before) f))
    go None is a own = own
    go (Some o) is a own =
        let m : MakesWell (judged s before) o (made_of s (judged s before) o) = makes_well s before (judged s before) thread o a is in
        owning_returned (history (judged s before)) (retrievals (judged s before)) o (made_of s (judged s before) o) own m.known m.typed m.bearing m.types
