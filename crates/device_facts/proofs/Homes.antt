-- Each object has the device of the name of which its number is made: what is owned by something on a device, or retrieved of it, is on that device too.
use Rattle.std.proofs.Common.{◌≡◌, ◌∙◌, ◌+◌, ◌/◌, ◌%◌, ◌<◌, ◌==◌, ℕ, Bool, true, false, not, cond, ◌&&◌, Option, Some, None, List, [], ◌∷◌, ◌++◌, map, take, refl, sym, ap, subst}
use Rattle.std.specs.Prelude.{⊤, filter, find, slice_get}
use Rattle.std.specs.List.{AllByRecursion, enumerate_from}
use Rattle.std.specs.Option.{option_map_or}
use Rattle.std.specs.Str.{bytes_eq}
use Rattle.std.proofs.lemmas.Nat.{div-mul-add, mod-mul-add}
use Rattle.command_tables.specs.declared.types.CommandId.TheVariants as cmd
use Rattle.command_tables.specs.declared.types.ObjectType.{ObjectType}
use Rattle.command_tables.specs.declared.types.Effect.{Effect}
use Rattle.command_tables.specs.declared.types.Effect.TheVariants as eff
use Rattle.command_tables.specs.declared.types.OwnerOf.{OwnerOf}
use Rattle.command_tables.specs.declared.types.OwnerOf.TheVariants as of
use Rattle.command_tables.specs.Effects.{type_made}
use Rattle.command_tables.specs.Table.{row_of}
use Rattle.command_tables.specs.Tests.{same_command, same_type}
use Rattle.trace_format.specs.declared.event.Name.{Name}
use Rattle.object_model.specs.declared.Object.{Object}
use Rattle.object_model.specs.declared.Argument.{Argument}
use Rattle.object_model.specs.Objects.{are_same, first_in, same}
use Rattle.object_model.specs.History.{Birth, births, births_given, births_of, born_in, line_of, owners_given, owners_in}
use Rattle.object_model.specs.Keys.{key_payload}
use Rattle.object_model.specs.Findings.{Report}
use Rattle.trace_format.specs.Content.{BeginEvent}
use Rattle.replay_model.specs.declared.Born.{Born}
use Rattle.replay_model.specs.declared.Named.{Named}
use Rattle.replay_model.specs.Past.{Began, Opened, Past, Retrieval, Returned, history, is_new, is_of, named, named_of, objects_of, open_calls, owner_by, retrieval, retrievals, retrieved_by, retrieves}
use Rattle.replay_model.specs.Births.{bears, born_with, is_kept, made_by, own_number, own_object, result_object}
use Rattle.layer_model.proofs.Same.{and_true, same_is}
use Rattle.device_facts.proofs.Looks.{all_join, all_mapped, all_part, all_take, all_to, at_found}

-- what tells the devices of names and of objects: an object of a name's own is where the name is
pub record Homes : Type 0 where
  pub name : Name → Option Name
  pub object : Object → Option Name
  pub own : (t : ObjectType) (n : Name) → n.thread < 2048 → object (own_object t n) ≡ name n

-- the name of which an object's number is made
abbrev pub name_made : Object → Name
name_made o = record { thread = o.number % 2048; number = o.number / 2048 }

pub made_back : (t : ObjectType) (n : Name) → n.thread < 2048 → name_made (own_object t n) ≡ n
made_back t n less =
    ap (λ (x : ℕ). record { thread = x; number = own_number n / 2048 }) (mod-mul-add n.number 2048 n.thread less) ∙ ap (λ (y : ℕ). record { thread = n.thread; number = y }) (div-mul-add n.number 2048 n.thread less)

-- by what tells the devices of names
abbrev pub homes : (Name → Option Name) → Homes
homes device_of = record { name = device_of; object = λ o. device_of (name_made o); own = λ t n less. ap device_of (made_back t n less) }

-- where the first is a device, the second is the same
abbrev pub Within : Option Name → Option Name → Type 0
Within a b = (e : Name) → a ≡ Some e → b ≡ Some e

-- the owner, where there is one, has this device
abbrev pub OfOwner : Homes → Option Object → Option Name → Type 0
OfOwner h None d = ⊤
OfOwner h (Some x) d = h.object x ≡ d

-- no owner is on another device than what it owns
abbrev pub Owned : Homes → Birth → Type 0
Owned h b = AllByRecursion (λ x. Within (h.object x) (h.object b.object)) b.owners

-- what a call makes has the device of its owner, and the owner of that whose owner it gets has none
abbrev pub GivenBy : Homes → List (List Argument) → OwnerOf → Option Name → Type 0
GivenBy h args of.Nobody d = ⊤
GivenBy h args (of.Param p) d = OfOwner h (first_in args p) d
GivenBy h args (of.OwnerOfParam p) d = OfOwner h (first_in args p) None

abbrev pub RetrievedBy : Homes → List (List Argument) → OwnerOf → Option Name → Type 0
RetrievedBy h args of.Nobody d = ⊤
RetrievedBy h args (of.Param p) d = OfOwner h (first_in args p) d
RetrievedBy h args (of.OwnerOfParam p) d = ⊥

abbrev pub Given : Homes → List (List Argument) → Effect → Option Name → Type 0
Given h args (eff.Create t owner many) d = GivenBy h args owner d
Given h args (eff.Retrieve t owner many) d = RetrievedBy h args owner d
Given h args _ d = ⊤

-- an open call's results
abbrev pub FitsOpen : Homes → Opened → Type 0
FitsOpen h o = AllByRecursion (λ (n : Name). (n.thread < 2048) × Given h o.args (row_of o.cmd).effect (h.name n)) o.results

-- a past in which devices are kept to
pub record Held (h : Homes) (past : Past) : Type 0 where
  pub names : AllByRecursion (λ (n : Named). h.object n.object ≡ h.name n.name) (named past)
  pub born : AllByRecursion (Owned h) (births (history past))
  pub kept : AllByRecursion (λ (r : Retrieval). OfOwner h r.owner (h.object r.object)) (retrievals past)
  pub opens : AllByRecursion (FitsOpen h) (open_calls past)

module _ (h : Homes) where
  -- ---- owners

  pub owners_within : (bs : List Birth) (o : Object) → AllByRecursion (Owned h) bs → AllByRecursion (λ x. Within (h.object x) (h.object o)) (owners_in bs o)
  owners_within [] o all = tt
  owners_within (b ∷ bs) o all = go (same b.object o) refl (owners_within bs o all.1)
    where
      go : (u : Bool) → same b.object o ≡ u → AllByRecursion (λ x. Within (h.object x) (h.object o)) (option_map_or (λ (c : Birth). c.owners) (find (λ (c : Birth). same c.object o) bs) [])
          → AllByRecursion (λ x. Within (h.object x) (h.object o)) (option_map_or (λ (c : Birth). c.owners) (cond u (Some b) (find (λ (c : Birth). same c.object o) bs)) [])
      go true e rest = subst (λ y. AllByRecursion (λ x. Within (h.object x) (h.object y)) b.owners) (same_is b.object o e) all.0
      go false e rest = rest

  nowhere : (d : Option Name) (a b : Option Name) → b ≡ None → Within a b → Within a d
  nowhere d a b none w e is = let bad : b ≡ Some e = w e is in cc

  line_within : (bs : List Birth) (x : Option Object) (d : Option Name) → AllByRecursion (Owned h) bs → OfOwner h x d → AllByRecursion (λ y. Within (h.object y) d) (line_of bs x)
  line_within bs None d all is = tt
  line_within bs (Some x) d all is = (
    λ e at. sym is ∙ at,
    all_to (λ y. Within (h.object y) (h.object x)) (λ y. Within (h.object y) d) (λ y w e at. sym is ∙ w e at) (owners_in bs x) (owners_within bs x all),
  )

  above_within : (bs : List Birth) (x : Option Object) (d : Option Name) → AllByRecursion (Owned h) bs → OfOwner h x None → AllByRecursion (λ y. Within (h.object y) d) (option_map_or (owners_in bs) x [])
  above_within bs None d all is = tt
  above_within bs (Some x) d all is =
      all_to (λ y. Within (h.object y) (h.object x)) (λ y. Within (h.object y) d) (λ y w. nowhere d (h.object y) (h.object x) is w) (owners_in bs x) (owners_within bs x all)

  given_within : (bs : List Birth) (args : List (List Argument)) (owner : OwnerOf) (d : Option Name) → AllByRecursion (Owned h) bs → GivenBy h args owner d → AllByRecursion (λ y. Within (h.object y) d) (owners_given bs args owner)
  given_within bs args of.Nobody d all is = tt
  given_within bs args (of.Param p) d all is = line_within bs (first_in args p) d all is
  given_within bs args (of.OwnerOfParam p) d all is = above_within bs (first_in args p) d all is

  -- what retrieves does it by a parameter
  plainly : (args : List (List Argument)) (owner : OwnerOf) (d : Option Name) → RetrievedBy h args owner d → GivenBy h args owner d
  plainly args of.Nobody d is = is
  plainly args (of.Param p) d is = is
  plainly args (of.OwnerOfParam p) d is = absurd is

  -- the owner by which something is retrieved
  pub owner_home : (bs : List Birth) (args : List (List Argument)) (owner : OwnerOf) (d : Option Name) → RetrievedBy h args owner d → OfOwner h (slice_get (owners_given bs args owner) 0) d
  owner_home bs args of.Nobody d is = tt
  owner_home bs args (of.Param p) d is = go (first_in args p) is
    where
      go : (x : Option Object) → OfOwner h x d → OfOwner h (slice_get (line_of bs x) 0) d
      go None k = tt
      go (Some x) k = k
  owner_home bs args (of.OwnerOfParam p) d is = absurd is

  -- ---- what is made

  found_home : (r : Retrieval) (owner : Option Object) (d : Option Name) → are_same r.owner owner ≡ true → OfOwner h r.owner (h.object r.object) → OfOwner h owner d → h.object r.object ≡ d
  found_home r owner d is by given = go r.owner owner is by given
    where
      go : (a b : Option Object) → are_same a b ≡ true → OfOwner h a (h.object r.object) → OfOwner h b d → h.object r.object ≡ d
      go None b e p q = cc e
      go (Some a) None e p q = cc e
      go (Some a) (Some b) e p q = sym p ∙ (ap h.object (same_is a b e) ∙ q)

  result_home : (bs : List Birth) (kept : List Retrieval) (o : Opened) (e : Effect) (t : ObjectType) (place : ℕ) (n : Name) → AllByRecursion (λ (r : Retrieval). OfOwner h r.owner (h.object r.object)) kept
      → n.thread < 2048 → Given h o.args e (h.name n) → h.object (result_object bs kept o e t place n) ≡ h.name n
  result_home bs kept o (eff.Retrieve r owner many) t place n all less given = go (find (is_kept t by place (key_payload o.cmd o.payload)) kept) refl
    where
      by : Option Object
      by = owner_by bs o.args (eff.Retrieve r owner many)

      go : (f : Option Retrieval) → find (is_kept t by place (key_payload o.cmd o.payload)) kept ≡ f → h.object (option_map_or (λ (x : Retrieval). x.object) f (own_object t n)) ≡ h.name n
      go None is = h.own t n less
      go (Some x) is =
          let both = at_found (λ (y : Retrieval). OfOwner h y.owner (h.object y.object)) (is_kept t by place (key_payload o.cmd o.payload)) kept x all is in
          let keyed = and_true (same_type x.object.ty t) (are_same x.owner by && (x.place == place && bytes_eq x.payload (key_payload o.cmd o.payload))) both.1 in
          let owned = and_true (are_same x.owner by) (x.place == place && bytes_eq x.payload (key_payload o.cmd o.payload)) keyed.1 in
          found_home x by (h.name n) owned.0 both.0 (owner_home bs o.args owner (h.name n) given)
  result_home bs kept o (eff.Create r owner many) t place n all less given = h.own t n less
  result_home bs kept o eff.None t place n all less given = h.own t n less
  result_home bs kept o (eff.Destroy p) t place n all less given = h.own t n less
  result_home bs kept o (eff.Free p) t place n all less given = h.own t n less
  result_home bs kept o (eff.Reset p) t place n all less given = h.own t n less

  -- what a call makes has its name's device, which is that of its owner
  abbrev pub MadeBy : Opened → Born → Type 0
  MadeBy o b = (h.object b.object ≡ h.name b.name) × Given h o.args (row_of o.cmd).effect (h.name b.name)

  module _ (bs : List Birth) (kept : List Retrieval) (o : Opened) (all : AllByRecursion (λ (r : Retrieval). OfOwner h r.owner (h.object r.object)) kept) where
    each_made : (t : ObjectType) (k : ℕ) (names : List Name) → AllByRecursion (λ (n : Name). (n.thread < 2048) × Given h o.args (row_of o.cmd).effect (h.name n)) names
        → AllByRecursion (MadeBy o) (map (λ (x : ℕ × Name). record { place = x.0; name = x.1; object = result_object bs kept o (row_of o.cmd).effect t x.0 x.1 }) (enumerate_from k names))
    each_made t k [] fits = tt
    each_made t k (n ∷ names) fits = ((result_home bs kept o (row_of o.cmd).effect t k n all fits.0.0 fits.0.1, fits.0.1), each_made t (k + 1) names fits.1)

    born_made : (names : List Name) → AllByRecursion (λ (n : Name). (n.thread < 2048) × Given h o.args (row_of o.cmd).effect (h.name n)) names → AllByRecursion (MadeBy o) (born_with bs kept o names)
    born_made names fits = go (type_made (row_of o.cmd).effect)
      where
        go : (t : Option ObjectType) → AllByRecursion (MadeBy o)
            (option_map_or (λ t. map (λ (x : ℕ × Name). record { place = x.0; name = x.1; object = result_object bs kept o (row_of o.cmd).effect t x.0 x.1 }) (enumerate_from 0 names)) t [])
        go None = tt
        go (Some t) = each_made t 0 names fits

  pub made_homes : (drivers : ℕ) (bs : List Birth) (living : Object → Bool) (kept : List Retrieval) (o : Opened) → AllByRecursion (λ (r : Retrieval). OfOwner h r.owner (h.object r.object)) kept → FitsOpen h o
      → AllByRecursion (MadeBy o) (made_by drivers bs living kept o)
  made_homes drivers bs living kept o all fits = go (bears bs living o) (same_command o.cmd cmd.EnumeratePhysicalDevices)
    where
      go : (u v : Bool) → AllByRecursion (MadeBy o) (cond u (born_with bs kept o (cond v (take drivers o.results) o.results)) [])
      go false v = tt
      go true true = born_made bs kept o all (take drivers o.results) (all_take (λ (n : Name). (n.thread < 2048) × Given h o.args (row_of o.cmd).effect (h.name n)) drivers o.results fits)
      go true false = born_made bs kept o all o.results fits

  -- ---- one event more

  names_more : (past : Past) (o : Opened) (made : List Born) → AllByRecursion (λ (n : Named). h.object n.object ≡ h.name n.name) (named past) → AllByRecursion (MadeBy o) made
      → AllByRecursion (λ (n : Named). h.object n.object ≡ h.name n.name) (named past ++ map named_of made)
  names_more past o made all fits =
      all_join (λ (n : Named). h.object n.object ≡ h.name n.name) (named past) (map named_of made) all
      (all_mapped (MadeBy o) (λ (n : Named). h.object n.object ≡ h.name n.name) named_of (λ b m. m.0) made fits)

  -- the births of a call
  of_these : (bs : List Birth) (created : Bool) (owners : List Object) (args : List (List Argument)) (made : List Born) → AllByRecursion (λ (b : Born). AllByRecursion (λ y. Within (h.object y) (h.object b.object)) owners) made
      → AllByRecursion (Owned h) (births_of bs created owners (objects_of made))
  of_these bs created owners args made all =
      all_mapped (λ o. AllByRecursion (λ y. Within (h.object y) (h.object o)) owners) (Owned h) (λ o. record { object = o; created = created; owners = owners }) (λ o w. w) (filter (λ o. not (born_in bs o)) (objects_of made))
      (all_part (λ o. AllByRecursion (λ y. Within (h.object y) (h.object o)) owners) (λ o. not (born_in bs o)) (objects_of made)
      (all_mapped (λ (b : Born). AllByRecursion (λ y. Within (h.object y) (h.object b.object)) owners) (λ o. AllByRecursion (λ y. Within (h.object y) (h.object o)) owners) (λ b. b.object) (λ b w. w) made all))

  owned_made : (bs : List Birth) (args : List (List Argument)) (e : Effect) (made : List Born) → AllByRecursion (Owned h) bs → AllByRecursion (λ (b : Born). (h.object b.object ≡ h.name b.name) × Given h args e (h.name b.name)) made
      → AllByRecursion (Owned h) (births_given bs args e (objects_of made))
  owned_made bs args (eff.Create t owner many) made all fits =
      of_these bs true (owners_given bs args owner) args made
      (all_to (λ (b : Born). (h.object b.object ≡ h.name b.name) × GivenBy h args owner (h.name b.name)) (λ (b : Born). AllByRecursion (λ y. Within (h.object y) (h.object b.object)) (owners_given bs args owner))
      (λ b m. subst (λ d. AllByRecursion (λ y. Within (h.object y) d) (owners_given bs args owner)) (sym m.0) (given_within bs args owner (h.name b.name) all m.1)) made fits)
  owned_made bs args (eff.Retrieve t owner many) made all fits =
      of_these bs false (owners_given bs args owner) args made
      (all_to (λ (b : Born). (h.object b.object ≡ h.name b.name) × RetrievedBy h args owner (h.name b.name)) (λ (b : Born). AllByRecursion (λ y. Within (h.object y) (h.object b.object)) (owners_given bs args owner))
      (λ b m. subst (λ d. AllByRecursion (λ y. Within (h.object y) d) (owners_given bs args owner)) (sym m.0) (given_within bs args owner (h.name b.name) all (plainly args owner (h.name b.name) m.1))) made fits)
  owned_made bs args eff.None made all fits = tt
  owned_made bs args (eff.Destroy p) made all fits = tt
  owned_made bs args (eff.Free p) made all fits = tt
  owned_made bs args (eff.Reset p) made all fits = tt

  retrieved_home : (bs : List Birth) (args : List (List Argument)) (e : Effect) (x : Object) (d : Option Name) → retrieves e ≡ true → h.object x ≡ d → Given h args e d → OfOwner h (owner_by bs args e) (h.object x)
  retrieved_home bs args (eff.Retrieve t owner many) x d is at given = subst (OfOwner h (slice_get (owners_given bs args owner) 0)) (sym at) (owner_home bs args owner d given)
  retrieved_home bs args (eff.Create t owner many) x d is at given = cc is
  retrieved_home bs args eff.None x d is at given = tt
  retrieved_home bs args (eff.Destroy p) x d is at given = tt
  retrieved_home bs args (eff.Free p) x d is at given = tt
  retrieved_home bs args (eff.Reset p) x d is at given = tt

  pub kept_made : (bs : List Birth) (o : Opened) (made : List Born) → AllByRecursion (MadeBy o) made → AllByRecursion (λ (r : Retrieval). OfOwner h r.owner (h.object r.object)) (retrieved_by bs o made)
  kept_made bs o made fits = go (retrieves (row_of o.cmd).effect) refl
    where
      go : (u : Bool) → retrieves (row_of o.cmd).effect ≡ u
          → AllByRecursion (λ (r : Retrieval). OfOwner h r.owner (h.object r.object)) (cond u (map (retrieval o (owner_by bs o.args (row_of o.cmd).effect)) (filter (is_new bs) made)) [])
      go false is = tt
      go true is =
          all_mapped (MadeBy o) (λ (r : Retrieval). OfOwner h r.owner (h.object r.object)) (retrieval o (owner_by bs o.args (row_of o.cmd).effect))
          (λ b m. retrieved_home bs o.args (row_of o.cmd).effect b.object (h.name b.name) is m.0 m.1) (filter (is_new bs) made) (all_part (MadeBy o) (is_new bs) made fits)

  pub held_begun : (past : Past) (e : BeginEvent) (o : Opened) (reports : List Report) → Held h past → FitsOpen h o → Held h (Began e o reports ∷ past)
  held_begun past e o reports w fits = record { names = w.names; born = w.born; kept = w.kept; opens = all_join (FitsOpen h) (open_calls past) (o ∷ []) w.opens (fits, tt) }

  pub held_returned : (past : Past) (o : Opened) (made : List Born) → Held h past → AllByRecursion (MadeBy o) made → Held h (Returned o made ∷ past)
  held_returned past o made w fits = record {
    names = names_more past o made w.names fits;
    born = all_join (Owned h) (births (history past)) (births_given (births (history past)) o.args (row_of o.cmd).effect (objects_of made)) w.born (owned_made (births (history past)) o.args (row_of o.cmd).effect made w.born fits);
    kept = all_join (λ (r : Retrieval). OfOwner h r.owner (h.object r.object)) (retrievals past) (retrieved_by (births (history past)) o made) w.kept (kept_made (births (history past)) o made fits);
    opens = all_part (FitsOpen h) (λ c. not (is_of o.thread c)) (open_calls past) w.opens;
  }
