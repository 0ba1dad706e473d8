-- What a call on a device makes is on that device, and is the same by two pasts that say the same of it.
use Rattle.std.proofs.Common.{◌≡◌, ◌∙◌, ◌==◌, ℕ, Bool, true, false, not, cond, ◌&&◌, ◌||◌, Option, Some, None, List, [], ◌∷◌, map, refl, sym, ap, subst}
use Rattle.std.specs.Prelude.{filter, find, slice_get}
use Rattle.std.specs.List.{AllByRecursion, enumerate_from, list_any}
use Rattle.std.specs.Option.{option_map_or}
use Rattle.std.specs.Str.{bytes_eq}
use Rattle.command_tables.specs.declared.types.CommandId.TheVariants as cmd
use Rattle.command_tables.specs.declared.types.ObjectType.{ObjectType}
use Rattle.command_tables.specs.declared.types.Effect.{Effect}
use Rattle.command_tables.specs.declared.types.Effect.TheVariants as eff
use Rattle.command_tables.specs.declared.types.OwnerOf.{OwnerOf}
use Rattle.command_tables.specs.declared.types.OwnerOf.TheVariants as of
use Rattle.command_tables.specs.Effects.{succeeds, type_made}
use Rattle.command_tables.specs.Table.{row_of}
use Rattle.command_tables.specs.Tests.{same_command, same_type}
use Rattle.trace_format.specs.declared.event.Name.{Name}
use Rattle.object_model.specs.declared.Object.{Object}
use Rattle.object_model.specs.declared.Argument.{Argument}
use Rattle.object_model.specs.Keys.{key_payload}
use Rattle.object_model.specs.Objects.{are_same, first_in, is_in, objects_in, same}
use Rattle.object_model.specs.History.{Birth, births_given, births_of, born_in, created_in, ends_by, ends_with, line_of, owners_given, owners_in}
use Rattle.object_model.specs.Routes.{is_routed}
use Rattle.replay_model.specs.declared.Born.{Born}
use Rattle.replay_model.specs.Births.{bearable, bears, born_with, is_kept, made_by, own_object, result_object}
use Rattle.replay_model.specs.Past.{Opened, Retrieval, is_new, is_skipped, objects_of, owner_by, retrieval, retrieved_by, retrieves, routed_by, routed_of}
use Rattle.layer_model.proofs.Same.{and_true}
use Rattle.device_facts.proofs.Beside.{ArgsAt, born_alike, births_at, created_alike, first_at, objects_at, owners_alike, retrieved_from}
use Rattle.device_facts.proofs.Homes.{Given, GivenBy, Homes, MadeBy, OfOwner}
use Rattle.device_facts.proofs.Looks.{all_mapped, all_to, any_alike, find_part, mapped_alike, none_found, same_left}

-- an effect gives no object the owner of another's
abbrev pub is_plain_owner : OwnerOf → Bool
is_plain_owner of.Nobody = true
is_plain_owner (of.Param p) = true
is_plain_owner (of.OwnerOfParam p) = false

abbrev pub is_plain : Effect → Bool
is_plain (eff.Create t owner many) = is_plain_owner owner
is_plain (eff.Retrieve t owner many) = is_plain_owner owner
is_plain _ = true

-- a call whose arguments are on a device, and that makes no device and no instance
pub record On (h : Homes) (device : Name) (o : Opened) : Type 0 where
  pub args : ArgsAt h device o.args
  pub plain : is_plain (row_of o.cmd).effect ≡ true
  pub instance : same_command o.cmd cmd.CreateInstance ≡ false

module _ (h : Homes) (device : Name) where
  -- ---- on which device it is

  owner_at : (bs : List Birth) (args : List (List Argument)) (owner : OwnerOf) → is_plain_owner owner ≡ true → ArgsAt h device args → OfOwner h (slice_get (owners_given bs args owner) 0) (Some device)
  owner_at bs args of.Nobody plain all = tt
  owner_at bs args (of.Param p) plain all = go (first_in args p) (first_at h device args p all)
    where
      go : (x : Option Object) → OfOwner h x (Some device) → OfOwner h (slice_get (line_of bs x) 0) (Some device)
      go None k = tt
      go (Some x) k = k
  owner_at bs args (of.OwnerOfParam p) plain all = cc plain

  pub by_at : (bs : List Birth) (args : List (List Argument)) (e : Effect) → is_plain e ≡ true → ArgsAt h device args → OfOwner h (owner_by bs args e) (Some device)
  by_at bs args (eff.Create t owner many) plain all = owner_at bs args owner plain all
  by_at bs args (eff.Retrieve t owner many) plain all = owner_at bs args owner plain all
  by_at bs args eff.None plain all = tt
  by_at bs args (eff.Destroy p) plain all = tt
  by_at bs args (eff.Free p) plain all = tt
  by_at bs args (eff.Reset p) plain all = tt

  owned_at : (bs : List Birth) (args : List (List Argument)) (owner : OwnerOf) (x : Object) (d : Option Name) → is_plain_owner owner ≡ true → ArgsAt h device args → GivenBy h args owner d → slice_get (owners_given bs args owner) 0 ≡ Some x → d ≡ Some device
  owned_at bs args of.Nobody x d plain all given is = cc is
  owned_at bs args (of.Param p) x d plain all given is = go (first_in args p) (first_at h device args p all) given is
    where
      go : (y : Option Object) → OfOwner h y (Some device) → OfOwner h y d → slice_get (line_of bs y) 0 ≡ Some x → d ≡ Some device
      go None k g e = cc e
      go (Some y) k g e = sym g ∙ k
  owned_at bs args (of.OwnerOfParam p) x d plain all given is = cc plain

  given_at : (bs : List Birth) (args : List (List Argument)) (e : Effect) (x : Object) (d : Option Name) → is_plain e ≡ true → ArgsAt h device args → Given h args e d → owner_by bs args e ≡ Some x → d ≡ Some device
  given_at bs args (eff.Create t owner many) x d plain all given is = owned_at bs args owner x d plain all given is
  given_at bs args (eff.Retrieve t of.Nobody many) x d plain all given is = cc is
  given_at bs args (eff.Retrieve t (of.Param p) many) x d plain all given is = owned_at bs args (of.Param p) x d plain all given is
  given_at bs args (eff.Retrieve t (of.OwnerOfParam p) many) x d plain all given is = absurd given
  given_at bs args eff.None x d plain all given is = cc is
  given_at bs args (eff.Destroy p) x d plain all given is = cc is
  given_at bs args (eff.Free p) x d plain all given is = cc is
  given_at bs args (eff.Reset p) x d plain all given is = cc is

  unborn : (a b c : Bool) (living : Object → Bool) (owner : Option Object) → c ≡ false → owner ≡ None → (a && (b && (c || option_map_or living owner false))) ≡ false
  unborn a b c living owner e n = ap (λ u. a && (b && (u || option_map_or living owner false))) e ∙ (ap (λ w. a && (b && option_map_or living w false)) n ∙ none a b)
    where
      none : (u v : Bool) → (u && (v && false)) ≡ false
      none true true = refl
      none true false = refl
      none false v = refl

  -- what is made there
  pub made_at : (drivers : ℕ) (bs : List Birth) (living : Object → Bool) (kept : List Retrieval) (o : Opened) → On h device o → AllByRecursion (MadeBy h o) (made_by drivers bs living kept o)
      → AllByRecursion (λ (b : Born). (h.object b.object ≡ Some device) × (h.name b.name ≡ Some device)) (made_by drivers bs living kept o)
  made_at drivers bs living kept o on fits = go (owner_by bs o.args (row_of o.cmd).effect) refl
    where
      go : (x : Option Object) → owner_by bs o.args (row_of o.cmd).effect ≡ x → AllByRecursion (λ (b : Born). (h.object b.object ≡ Some device) × (h.name b.name ≡ Some device)) (made_by drivers bs living kept o)
      go None e =
          subst (λ u. AllByRecursion (λ (b : Born). (h.object b.object ≡ Some device) × (h.name b.name ≡ Some device)) (cond u (born_with bs kept o (bearable drivers o)) []))
          (sym (unborn (not (is_skipped o)) (succeeds o.cmd o.code) (same_command o.cmd cmd.CreateInstance) living (owner_by bs o.args (row_of o.cmd).effect) on.instance e)) tt
      go (Some x) e =
          all_to (MadeBy h o) (λ (b : Born). (h.object b.object ≡ Some device) × (h.name b.name ≡ Some device))
          (λ b m. let at : h.name b.name ≡ Some device = given_at bs o.args (row_of o.cmd).effect x (h.name b.name) on.plain on.args m.1 e in (m.0 ∙ at, at)) (made_by drivers bs living kept o) fits

  -- ---- by two pasts

  module _ (bs cs : List Birth) (born : (o : Object) → h.object o ≡ Some device → births_at o bs ≡ births_at o cs) where
    pub owners_given_alike : (args : List (List Argument)) (owner : OwnerOf) → ArgsAt h device args → owners_given bs args owner ≡ owners_given cs args owner
    owners_given_alike args of.Nobody all = refl
    owners_given_alike args (of.Param p) all = go (first_in args p) (first_at h device args p all)
      where
        go : (x : Option Object) → OfOwner h x (Some device) → line_of bs x ≡ line_of cs x
        go None k = refl
        go (Some x) k = ap (λ xs. x ∷ xs) (owners_alike x bs cs (born x k))
    owners_given_alike args (of.OwnerOfParam p) all = go (first_in args p) (first_at h device args p all)
      where
        go : (x : Option Object) → OfOwner h x (Some device) → option_map_or (owners_in bs) x [] ≡ option_map_or (owners_in cs) x []
        go None k = refl
        go (Some x) k = owners_alike x bs cs (born x k)

    pub by_alike : (args : List (List Argument)) (e : Effect) → ArgsAt h device args → owner_by bs args e ≡ owner_by cs args e
    by_alike args (eff.Create t owner many) all = ap (λ xs. slice_get xs 0) (owners_given_alike args owner all)
    by_alike args (eff.Retrieve t owner many) all = ap (λ xs. slice_get xs 0) (owners_given_alike args owner all)
    by_alike args eff.None all = refl
    by_alike args (eff.Destroy p) all = refl
    by_alike args (eff.Free p) all = refl
    by_alike args (eff.Reset p) all = refl

    -- what a call ends
    with_alike : (o named : Object) → h.object o ≡ Some device → h.object named ≡ Some device → ends_with bs o named ≡ ends_with cs o named
    with_alike o named at there =
        ap (λ u. u && (same o named || is_in (owners_in bs o) named)) (created_alike named bs cs (born named there)) ∙ ap (λ xs. created_in cs named && (same o named || is_in xs named)) (owners_alike o bs cs (born o at))

    pub ends_alike : (args : List (List Argument)) (e : Effect) (o : Object) → ArgsAt h device args → h.object o ≡ Some device → ends_by bs args e o ≡ ends_by cs args e o
    ends_alike args (eff.Destroy p) o all at =
        any_alike (ends_with bs o) (ends_with cs o) (objects_in args p) (all_to (λ x. h.object x ≡ Some device) (λ x. ends_with bs o x ≡ ends_with cs o x) (λ x there. with_alike o x at there) (objects_in args p) (objects_at h device args p all))
    ends_alike args (eff.Free p) o all at =
        any_alike (ends_with bs o) (ends_with cs o) (objects_in args p) (all_to (λ x. h.object x ≡ Some device) (λ x. ends_with bs o x ≡ ends_with cs o x) (λ x there. with_alike o x at there) (objects_in args p) (objects_at h device args p all))
    ends_alike args (eff.Reset p) o all at = ap (λ xs. list_any (is_in xs) (objects_in args p)) (owners_alike o bs cs (born o at))
    ends_alike args eff.None o all at = refl
    ends_alike args (eff.Create t owner many) o all at = refl
    ends_alike args (eff.Retrieve t owner many) o all at = refl

    module _ (kept others : List Retrieval) (same_kept : (x : Object) → h.object x ≡ Some device → retrieved_from x kept ≡ retrieved_from x others) where
      find_alike : (t : ObjectType) (by : Option Object) (place : ℕ) (payload : List ℕ) → OfOwner h by (Some device) → find (is_kept t by place payload) kept ≡ find (is_kept t by place payload) others
      find_alike t None place payload at = none_found (is_kept t None place payload) kept (no_owner kept) ∙ sym (none_found (is_kept t None place payload) others (no_owner others))
        where
          nothing : (u : Bool) (x : Option Object) (v : Bool) → (u && (are_same x None && v)) ≡ false
          nothing true None v = refl
          nothing true (Some x) v = refl
          nothing false x v = refl

          no_owner : (rs : List Retrieval) → AllByRecursion (λ r. is_kept t None place payload r ≡ false) rs
          no_owner [] = tt
          no_owner (r ∷ rs) = (nothing (same_type r.object.ty t) r.owner (r.place == place && bytes_eq r.payload payload), no_owner rs)
      find_alike t (Some x) place payload at =
          sym (find_part (is_kept t (Some x) place payload) (λ (r : Retrieval). are_same r.owner (Some x)) weaker kept)
          ∙ (ap (find (is_kept t (Some x) place payload)) (same_kept x at) ∙ find_part (is_kept t (Some x) place payload) (λ (r : Retrieval). are_same r.owner (Some x)) weaker others)
        where
          weaker : (r : Retrieval) → is_kept t (Some x) place payload r ≡ true → are_same r.owner (Some x) ≡ true
          weaker r e =
              (and_true (are_same r.owner (Some x)) (r.place == place && bytes_eq r.payload payload) (and_true (same_type r.object.ty t) (are_same r.owner (Some x) && (r.place == place && bytes_eq r.payload payload)) e).1).0

      result_alike : (o : Opened) (e : Effect) (t : ObjectType) (place : ℕ) (n : Name) → ArgsAt h device o.args → is_plain e ≡ true → result_object bs kept o e t place n ≡ result_object cs others o e t place n
      result_alike o (eff.Retrieve r owner many) t place n all plain =
          ap (λ (f : Option Retrieval). option_map_or (λ (x : Retrieval). x.object) f (own_object t n)) (
          find_alike t (owner_by bs o.args (eff.Retrieve r owner many)) place (key_payload o.cmd o.payload) (by_at bs o.args (eff.Retrieve r owner many) plain all)
          ∙ ap (λ by. find (is_kept t by place (key_payload o.cmd o.payload)) others) (by_alike o.args (eff.Retrieve r owner many) all))
      result_alike o (eff.Create r owner many) t place n all plain = refl
      result_alike o eff.None t place n all plain = refl
      result_alike o (eff.Destroy p) t place n all plain = refl
      result_alike o (eff.Free p) t place n all plain = refl
      result_alike o (eff.Reset p) t place n all plain = refl

      born_with_alike : (o : Opened) (names : List Name) → On h device o → born_with bs kept o names ≡ born_with cs others o names
      born_with_alike o names on = go (type_made (row_of o.cmd).effect)
        where
          go : (t : Option ObjectType) → option_map_or (λ (t : ObjectType). map {B = Born} (λ (x : ℕ × Name). record { place = x.0; name = x.1; object = result_object bs kept o (row_of o.cmd).effect t x.0 x.1 }) (enumerate_from 0 names)) t []
              ≡ option_map_or (λ (t : ObjectType). map {B = Born} (λ (x : ℕ × Name). record { place = x.0; name = x.1; object = result_object cs others o (row_of o.cmd).effect t x.0 x.1 }) (enumerate_from 0 names)) t []
          go None = refl
          go (Some t) =
              mapped_alike (λ (x : ℕ × Name). record { place = x.0; name = x.1; object = result_object bs kept o (row_of o.cmd).effect t x.0 x.1 })
              (λ (x : ℕ × Name). record { place = x.0; name = x.1; object = result_object cs others o (row_of o.cmd).effect t x.0 x.1 })
              (λ x. ap (λ (y : Object). record { place = x.0; name = x.1; object = y }) (result_alike o (row_of o.cmd).effect t x.0 x.1 on.args on.plain)) (enumerate_from 0 names)

      -- the same is made
      pub made_alike : (drivers : ℕ) (living here : Object → Bool) (o : Opened) → ((x : Object) → h.object x ≡ Some device → living x ≡ here x) → On h device o → made_by drivers bs living kept o ≡ made_by drivers cs here others o
      made_alike drivers living here o lives on =
          ap (λ u. cond u (born_with bs kept o (bearable drivers o)) []) bears_alike ∙ ap (λ xs. cond (bears cs here o) xs []) (born_with_alike o (bearable drivers o) on)
        where
          lives_alike : (x : Option Object) → OfOwner h x (Some device) → option_map_or living x false ≡ option_map_or here x false
          lives_alike None k = refl
          lives_alike (Some x) k = lives x k

          bears_alike : bears bs living o ≡ bears cs here o
          bears_alike =
              ap (λ u. not (is_skipped o) && (succeeds o.cmd o.code && (same_command o.cmd cmd.CreateInstance || u))) (
              lives_alike (owner_by bs o.args (row_of o.cmd).effect) (by_at bs o.args (row_of o.cmd).effect on.plain on.args) ∙ ap (λ x. option_map_or here x false) (by_alike o.args (row_of o.cmd).effect on.args))

    -- ---- what is new by it

    new_alike : (made : List Born) → AllByRecursion (λ (b : Born). h.object b.object ≡ Some device) made → AllByRecursion (λ (b : Born). is_new bs b ≡ is_new cs b) made
    new_alike made at = all_to (λ (b : Born). h.object b.object ≡ Some device) (λ (b : Born). is_new bs b ≡ is_new cs b) (λ b k. ap not (born_alike b.object bs cs (born b.object k))) made at

    births_of_alike : (created : Bool) (owners others : List Object) (made : List Born) → owners ≡ others → AllByRecursion (λ (b : Born). h.object b.object ≡ Some device) made → births_of bs created owners (objects_of made) ≡ births_of cs created others (objects_of made)
    births_of_alike created owners others made same_owners at =
        ap (λ os. map (λ o. record { object = o; created = created; owners = owners }) os)
        (same_left (λ o. not (born_in bs o)) (λ o. not (born_in cs o)) (objects_of made)
        (all_mapped (λ (b : Born). is_new bs b ≡ is_new cs b) (λ o. not (born_in bs o) ≡ not (born_in cs o)) (λ b. b.object) (λ b k. k) made (new_alike made at)))
        ∙ ap (λ os. births_of cs created os (objects_of made)) same_owners

    pub births_alike : (args : List (List Argument)) (e : Effect) (made : List Born) → ArgsAt h device args → AllByRecursion (λ (b : Born). h.object b.object ≡ Some device) made → births_given bs args e (objects_of made) ≡ births_given cs args e (objects_of made)
    births_alike args (eff.Create t owner many) made all at = births_of_alike true (owners_given bs args owner) (owners_given cs args owner) made (owners_given_alike args owner all) at
    births_alike args (eff.Retrieve t owner many) made all at = births_of_alike false (owners_given bs args owner) (owners_given cs args owner) made (owners_given_alike args owner all) at
    births_alike args eff.None made all at = refl
    births_alike args (eff.Destroy p) made all at = refl
    births_alike args (eff.Free p) made all at = refl
    births_alike args (eff.Reset p) made all at = refl

    pub retrieved_alike : (o : Opened) (made : List Born) → ArgsAt h device o.args → AllByRecursion (λ (b : Born). h.object b.object ≡ Some device) made → retrieved_by bs o made ≡ retrieved_by cs o made
    retrieved_alike o made all at =
        ap (λ by. cond (retrieves (row_of o.cmd).effect) (map (retrieval o by) (filter (is_new bs) made)) []) (by_alike o.args (row_of o.cmd).effect all)
        ∙ ap (λ ms. cond (retrieves (row_of o.cmd).effect) (map (retrieval o (owner_by cs o.args (row_of o.cmd).effect)) ms) []) (same_left (is_new bs) (is_new cs) made (new_alike made at))

    pub routed_alike : (o : Opened) (made : List Born) → AllByRecursion (λ (b : Born). h.object b.object ≡ Some device) made → routed_by bs o made ≡ routed_by cs o made
    routed_alike o made at =
        ap (λ ms. map (routed_of o) ms) (same_left (λ (b : Born). is_routed b.object.ty && is_new bs b) (λ (b : Born). is_routed b.object.ty && is_new cs b) made
        (all_to (λ (b : Born). is_new bs b ≡ is_new cs b) (λ (b : Born). (is_routed b.object.ty && is_new bs b) ≡ (is_routed b.object.ty && is_new cs b)) (λ b k. ap (λ u. is_routed b.object.ty && u) k) made (new_alike made at)))
