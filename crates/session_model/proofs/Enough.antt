-- The births of what lives are enough: a call ends, makes and gives by them what it does by all births.
use Rattle.std.proofs.Common.{◌≡◌, ◌⊎◌, inl, inr, ℕ, Bool, true, false, not, cond, ◌&&◌, ◌||◌, Option, Some, None, List, [], ◌∷◌, ◌++◌, map, refl, sym, ◌∙◌, ap, subst}
use Rattle.std.specs.Prelude.{filter, find, slice_get}
use Rattle.std.specs.List.{AllByRecursion, enumerate_from, list_any}
use Rattle.std.specs.Option.{option_map, option_map_or}
use Rattle.command_tables.specs.declared.types.CommandId.TheVariants as cmd
use Rattle.command_tables.specs.declared.types.ObjectType.{ObjectType}
use Rattle.command_tables.specs.declared.types.ObjectType.TheVariants as ty
use Rattle.command_tables.specs.declared.types.OwnerOf.TheVariants as of
use Rattle.command_tables.specs.declared.types.Effect.{Effect}
use Rattle.command_tables.specs.declared.types.Effect.TheVariants as eff
use Rattle.command_tables.specs.Effects.{succeeds, type_made}
use Rattle.command_tables.specs.Table.{row_of}
use Rattle.command_tables.specs.Tests.{same_command, same_type}
use Rattle.trace_format.specs.declared.event.Name.{Name}
use Rattle.object_model.specs.declared.Object.{Object}
use Rattle.object_model.specs.declared.Argument.{Argument}
use Rattle.object_model.specs.Objects.{are_same, first_in, is_in, objects_in, same}
use Rattle.object_model.specs.History.{Begins, Birth, History, Returns, alive, births, births_given, births_of, born_in, created_in, ends_by, ends_with, line_of, owners_given, owners_in}
use Rattle.object_model.specs.Keys.{key_payload}
use Rattle.object_model.specs.Renaming.{KnowsArgs}
use Rattle.replay_model.specs.declared.Born.{Born}
use Rattle.replay_model.specs.Past.{Opened, Retrieval, call_of, is_new, is_skipped, objects_of, owner_by, retrieval, retrieved_by, retrieves}
use Rattle.replay_model.specs.Births.{bearable, bears, born_with, is_kept, made_by, result_object, retrieved_object}
use Rattle.layer_model.proofs.Same.{and_true, same_is, same_self}
use Rattle.chain_model.proofs.Leaving.{plainly}
use Rattle.chain_model.proofs.OneByOne.{AreDecided, kept_object, only}
use Rattle.chain_model.proofs.Owners.{retrieves_plainly, type_at}
use Rattle.chain_model.proofs.Passing.{AreTyped, HaveMade, asking_by, creates, owners_by}
use Rattle.object_model.proofs.Renaming.{IsKnown}
use Rattle.session_tables.specs.Lined.{AreAdded, AreLined, IsLine}
use Rattle.session_model.specs.Living.{AreOfLiving, ArePast}
use Rattle.session_model.proofs.Lines.{any_alike, created_behind, filter_alike, first_typed, given_none, or_left, owners_fresh, owners_old, unborn_owners, unborn_uncreated}
use Rattle.session_model.proofs.Living.{born_more, new_given}
use Rattle.session_model.proofs.Owning.{HasLivingOwner, IsOwning, IsRetrievedOf, LivesWithOwner, alive_born, bears_owned, first_born, owner_first, owner_of_device, owner_of_device_all}

-- ---- what a call ends

module _ (h : History) (rs : List Retrieval) (own : IsOwning h rs) (ls : List Birth) (of_living : AreOfLiving ls h) where
  -- the owners of what lives stand in a line among what lives
  pub lined_living : AreLined ls
  lined_living x = at (alive h x) refl
    where
      lined : (os : List Object) → owners_in (births h) x ≡ os → IsLine (births h) os → ((w : Object) → is_in os w ≡ true → alive h w ≡ true) → IsLine ls os
      lined [] is line all = tt
      lined (w ∷ ws) is line all = let lives : alive h w ≡ true = all w (or_left (same w w) (is_in ws w) (same_self w)) in (of_living.lives w ∙ lives, line.1 ∙ sym (of_living.owners w lives))

      at : (t : Bool) → alive h x ≡ t → IsLine ls (owners_in ls x)
      at true lives = subst (IsLine ls) (sym (of_living.owners x lives)) (lined (owners_in (births h) x) refl (own.lined x) (λ w there. own.owned x w lives there))
      at false dead = subst (IsLine ls) (sym (unborn_owners ls x (of_living.lives x ∙ dead))) tt

  -- of what lives, the same goes with a named object
  with_alike : (x : Object) → alive h x ≡ true → (n : Object) → ends_with ls x n ≡ ends_with (births h) x n
  with_alike x lives n =
      ap (λ os. created_in ls n && (same x n || is_in os n)) (of_living.owners x lives) ∙ go (alive h n) refl
    where
      none : (b : Bool) → (b && false) ≡ false
      none true = refl
      none false = refl

      -- what doesn't live is neither the object nor an owner of it
      apart : alive h n ≡ false → (same x n || is_in (owners_in (births h) x) n) ≡ false
      apart dead = at (same x n) refl (is_in (owners_in (births h) x) n) refl
        where
          at : (t : Bool) → same x n ≡ t → (u : Bool) → is_in (owners_in (births h) x) n ≡ u → (t || u) ≡ false
          at true is u e = let yes : alive h n ≡ true = ap (alive h) (sym (same_is x n is)) ∙ lives in cc
          at false is true e = let yes : alive h n ≡ true = own.owned x n lives e in cc
          at false is false e = refl

      go : (t : Bool) → alive h n ≡ t → (created_in ls n && (same x n || is_in (owners_in (births h) x) n)) ≡ (created_in (births h) n && (same x n || is_in (owners_in (births h) x) n))
      go true l = ap (λ c. c && (same x n || is_in (owners_in (births h) x) n)) (of_living.created n l)
      go false dead =
          ap (λ t. created_in ls n && t) (apart dead) ∙ (none (created_in ls n) ∙ sym (ap (λ t. created_in (births h) n && t) (apart dead) ∙ none (created_in (births h) n)))

  -- of what lives, a call ends the same
  pub ends_alike : (args : List (List Argument)) (e : Effect) (x : Object) → alive h x ≡ true → ends_by ls args e x ≡ ends_by (births h) args e x
  ends_alike args (eff.Destroy p) x lives = any_alike (ends_with ls x) (ends_with (births h) x) (objects_in args p) (with_alike x lives)
  ends_alike args (eff.Free p) x lives = any_alike (ends_with ls x) (ends_with (births h) x) (objects_in args p) (with_alike x lives)
  ends_alike args (eff.Reset p) x lives = ap (λ (os : List Object). list_any (is_in os) (objects_in args p)) (of_living.owners x lives)
  ends_alike args eff.None x lives = refl
  ends_alike args (eff.Create t owner many) x lives = refl
  ends_alike args (eff.Retrieve t owner many) x lives = refl

  -- what is left after a begin are the births of what lives then
  pub living_past : (o : Opened) (after : List Birth) → ArePast ls o after → AreOfLiving after (Begins (call_of o) (is_skipped o) ∷ h)
  living_past o after past = record {
    lives = λ x. past.lives x ∙ (ap (λ t. t && (is_skipped o || not (ends_by ls o.args (row_of o.cmd).effect x))) (of_living.lives x) ∙ go x (alive h x) refl);
    created = λ x lives. (past.alike x (there x lives)).created ∙ of_living.created x (before x lives);
    owners = λ x lives. (past.alike x (there x lives)).owners ∙ of_living.owners x (before x lives);
  }
    where
      go : (x : Object) (t : Bool) → alive h x ≡ t
          → (t && (is_skipped o || not (ends_by ls o.args (row_of o.cmd).effect x))) ≡ (t && (is_skipped o || not (ends_by (births h) o.args (row_of o.cmd).effect x)))
      go x true l = ap (λ t. is_skipped o || not t) (ends_alike o.args (row_of o.cmd).effect x l)
      go x false l = refl

      before : (x : Object) → alive (Begins (call_of o) (is_skipped o) ∷ h) x ≡ true → alive h x ≡ true
      before x lives = (and_true (alive h x) (is_skipped o || not (ends_by (births h) o.args (row_of o.cmd).effect x)) lives).0

      there : (x : Object) → alive (Begins (call_of o) (is_skipped o) ∷ h) x ≡ true → born_in after x ≡ true
      there x lives = past.lives x ∙ (ap (λ t. t && (is_skipped o || not (ends_by ls o.args (row_of o.cmd).effect x))) (of_living.lives x) ∙ (go x (alive h x) refl ∙ lives))

-- ---- what a call makes

module _ (h : History) (rs : List Retrieval) (own : IsOwning h rs) (ls : List Birth) (of_living : AreOfLiving ls h) (o : Opened) (known : KnowsArgs (born_in (births h)) o.args) (typed : AreTyped (row_of o.cmd).params o.args) where
  abbrev bs : List Birth
  bs = births h

  abbrev e : Effect
  e = (row_of o.cmd).effect

  -- the first owner lives
  abbrev first_lives : List Object → Bool
  first_lives os = option_map_or (alive h) (slice_get os 0) false

  -- an object whose owner is asked for lives, or its owner doesn't
  device_alike : (p : ℕ) → option_map_or (λ u. same_type u ty.PhysicalDevice) (type_at (row_of o.cmd).params p) false ≡ true → (v : Object) → first_in o.args p ≡ Some v
      → (owners_in ls v ≡ owners_in bs v) ⊎ ((first_lives (owners_in ls v) ≡ false) × (first_lives (owners_in bs v) ≡ false))
  device_alike p fits v is = go (alive h v) refl
    where
      there : born_in bs v ≡ true
      there = subst (λ (f : Option Object). IsKnown (born_in bs) f) is (first_born bs o.args known p)

      given : created_in bs v ≡ false
      given = own.devices v (ap (λ (u : Option ObjectType). option_map_or (λ t. same_type t ty.PhysicalDevice) u false) (sym (first_typed (row_of o.cmd).params o.args typed p v is)) ∙ fits)

      dead_owner : (os : List Object) → LivesWithOwner h os v → alive h v ≡ false → first_lives os ≡ false
      dead_owner [] l dead = refl
      dead_owner (w ∷ ws) l dead = at (alive h w) refl
        where
          at : (t : Bool) → alive h w ≡ t → alive h w ≡ false
          at true lives = let yes : alive h v ≡ true = l.1 lives in cc
          at false e = e

      go : (t : Bool) → alive h v ≡ t → (owners_in ls v ≡ owners_in bs v) ⊎ ((first_lives (owners_in ls v) ≡ false) × (first_lives (owners_in bs v) ≡ false))
      go true lives = inl (of_living.owners v lives)
      go false dead = inr (ap first_lives (unborn_owners ls v (of_living.lives v ∙ dead)), dead_owner (owners_in bs v) (own.retrieved v there given) dead)

  -- an owner that is asked for lives by the births of what lives where it lives by all
  first_alike : (f : Effect) → owner_of_device (row_of o.cmd).params f ≡ true → option_map_or (alive h) (owner_by ls o.args f) false ≡ option_map_or (alive h) (owner_by bs o.args f) false
  first_alike (eff.Create t of.Nobody many) fits = refl
  first_alike (eff.Create t (of.Param p) many) fits = go (first_in o.args p)
    where
      go : (f : Option Object) → first_lives (line_of ls f) ≡ first_lives (line_of bs f)
      go None = refl
      go (Some w) = refl
  first_alike (eff.Create t (of.OwnerOfParam p) many) fits = go (first_in o.args p) refl
    where
      at : (v : Object) → (owners_in ls v ≡ owners_in bs v) ⊎ ((first_lives (owners_in ls v) ≡ false) × (first_lives (owners_in bs v) ≡ false)) → first_lives (owners_in ls v) ≡ first_lives (owners_in bs v)
      at v (inl is) = ap first_lives is
      at v (inr are) = are.0 ∙ sym are.1

      go : (f : Option Object) → first_in o.args p ≡ f → first_lives (option_map_or (owners_in ls) f []) ≡ first_lives (option_map_or (owners_in bs) f [])
      go None is = refl
      go (Some v) is = at v (device_alike p fits v is)
  first_alike (eff.Retrieve t of.Nobody many) fits = refl
  first_alike (eff.Retrieve t (of.Param p) many) fits = go (first_in o.args p)
    where
      go : (f : Option Object) → first_lives (line_of ls f) ≡ first_lives (line_of bs f)
      go None = refl
      go (Some w) = refl
  first_alike (eff.Retrieve t (of.OwnerOfParam p) many) fits = cc fits
  first_alike eff.None fits = refl
  first_alike (eff.Destroy p) fits = refl
  first_alike (eff.Free p) fits = refl
  first_alike (eff.Reset p) fits = refl

  -- the owners of an object of a parameter that lives
  line_alike : (f : Option Object) → first_lives (line_of bs f) ≡ true → line_of ls f ≡ line_of bs f
  line_alike None lives = refl
  line_alike (Some w) lives = ap (λ os. w ∷ os) (of_living.owners w lives)

  -- where the owner of what is made lives, its owners are the same
  owners_alike : (f : Effect) → owner_of_device (row_of o.cmd).params f ≡ true → first_lives (owners_by bs o.args f) ≡ true → owners_by ls o.args f ≡ owners_by bs o.args f
  owners_alike (eff.Create t of.Nobody many) fits lives = refl
  owners_alike (eff.Create t (of.Param p) many) fits lives = line_alike (first_in o.args p) lives
  owners_alike (eff.Create t (of.OwnerOfParam p) many) fits lives = go (first_in o.args p) refl lives
    where
      at : (v : Object) → (owners_in ls v ≡ owners_in bs v) ⊎ ((first_lives (owners_in ls v) ≡ false) × (first_lives (owners_in bs v) ≡ false)) → first_lives (owners_in bs v) ≡ true → owners_in ls v ≡ owners_in bs v
      at v (inl is) l = is
      at v (inr are) l = let no : first_lives (owners_in bs v) ≡ false = are.1 in cc

      go : (f : Option Object) → first_in o.args p ≡ f → first_lives (option_map_or (owners_in bs) f []) ≡ true → option_map_or (owners_in ls) f [] ≡ option_map_or (owners_in bs) f []
      go None is l = refl
      go (Some v) is l = at v (device_alike p fits v is) l
  owners_alike (eff.Retrieve t of.Nobody many) fits lives = refl
  owners_alike (eff.Retrieve t (of.Param p) many) fits lives = line_alike (first_in o.args p) lives
  owners_alike (eff.Retrieve t (of.OwnerOfParam p) many) fits lives = cc fits
  owners_alike eff.None fits lives = refl
  owners_alike (eff.Destroy p) fits lives = refl
  owners_alike (eff.Free p) fits lives = refl
  owners_alike (eff.Reset p) fits lives = refl

  -- an effect that makes what nobody owns
  nobody_alike : (f : Effect) → owners_by bs o.args f ≡ [] → creates f ≡ true → owner_of_device (row_of o.cmd).params f ≡ true → owners_by ls o.args f ≡ owners_by bs o.args f
  nobody_alike (eff.Create t of.Nobody many) none gives fits = refl
  nobody_alike (eff.Create t (of.Param p) many) none gives fits = go (first_in o.args p) none
    where
      go : (f : Option Object) → line_of bs f ≡ [] → line_of ls f ≡ line_of bs f
      go None is = refl
      go (Some w) is = cc is
  nobody_alike (eff.Create t (of.OwnerOfParam p) many) none gives fits = go (first_in o.args p) refl none
    where
      born : (v : Object) → first_in o.args p ≡ Some v → owners_in bs v ≡ [] → owners_in ls v ≡ []
      born v is none = at (alive h v) refl
        where
          at : (t : Bool) → alive h v ≡ t → owners_in ls v ≡ []
          at true lives = of_living.owners v lives ∙ none
          at false dead = unborn_owners ls v (of_living.lives v ∙ dead)

      go : (f : Option Object) → first_in o.args p ≡ f → option_map_or (owners_in bs) f [] ≡ [] → option_map_or (owners_in ls) f [] ≡ option_map_or (owners_in bs) f []
      go None is none = refl
      go (Some v) is none = born v is none ∙ sym none
  nobody_alike (eff.Retrieve t owner many) none gives fits = cc gives
  nobody_alike eff.None none gives fits = refl
  nobody_alike (eff.Destroy p) none gives fits = refl
  nobody_alike (eff.Free p) none gives fits = refl
  nobody_alike (eff.Reset p) none gives fits = refl

  -- so the owners of what is made are the same
  owners_made : HasLivingOwner h o → owners_by ls o.args (row_of o.cmd).effect ≡ owners_by (births h) o.args (row_of o.cmd).effect
  owners_made owner = go owner.lives
    where
      go : ((owners_by bs o.args e ≡ []) × (creates e ≡ true)) ⊎ (first_lives (owners_by bs o.args e) ≡ true) → owners_by ls o.args e ≡ owners_by bs o.args e
      go (inl k) = nobody_alike e k.0 k.1 (owner_of_device_all o.cmd)
      go (inr lives) = owners_alike e (owner_of_device_all o.cmd) lives

  -- the results of a call are born by them where they are by all births
  pub bears_alike : bears ls (born_in ls) o ≡ bears (births h) (alive h) o
  bears_alike =
      ap (λ (f : Object → Bool). bears ls f o) (λ i x. of_living.lives x i)
      ∙ ap (λ t. not (is_skipped o) && (succeeds o.cmd o.code && (same_command o.cmd cmd.CreateInstance || t))) (first_alike e (owner_of_device_all o.cmd))

  -- what a call retrieves by is the same
  result_alike : (kept : List Retrieval) (f : Effect) → retrieves_plainly f ≡ true → (t : ObjectType) (place : ℕ) (name : Name) → result_object ls kept o f t place name ≡ result_object bs kept o f t place name
  result_alike kept (eff.Retrieve r of.Nobody many) plain t place name = refl
  result_alike kept (eff.Retrieve r (of.Param p) many) plain t place name = ap (λ (own : Option Object). retrieved_object kept o own t place name) (go (first_in o.args p))
    where
      go : (f : Option Object) → slice_get (line_of ls f) 0 ≡ slice_get (line_of bs f) 0
      go None = refl
      go (Some w) = refl
  result_alike kept (eff.Retrieve r (of.OwnerOfParam p) many) plain t place name = cc plain
  result_alike kept (eff.Create r owner many) plain t place name = refl
  result_alike kept eff.None plain t place name = refl
  result_alike kept (eff.Destroy p) plain t place name = refl
  result_alike kept (eff.Free p) plain t place name = refl
  result_alike kept (eff.Reset p) plain t place name = refl

  with_alike_results : (kept : List Retrieval) (results : List Name) → born_with ls kept o results ≡ born_with bs kept o results
  with_alike_results kept results =
      ap (λ (f : ObjectType → ℕ → Name → Object). option_map_or (λ t. map (λ (x : ℕ × Name). record { place = x.0; name = x.1; object = f t x.0 x.1 }) (enumerate_from 0 results)) (type_made e) [])
      (λ i t place name. result_alike kept e (plainly o.cmd) t place name i)

  -- a call makes the same
  pub made_alike : (drivers : ℕ) (kept : List Retrieval) → made_by drivers ls (born_in ls) kept o ≡ made_by drivers (births h) (alive h) kept o
  made_alike drivers kept =
      ap (λ t. cond t (born_with ls kept o (bearable drivers o)) []) bears_alike
      ∙ ap (λ (ms : List Born). cond (bears bs (alive h) o) ms []) (with_alike_results kept (bearable drivers o))

  -- ---- what was made before lives

  module _ (made : List Born) (bearing : (bears (births h) (alive h) o ≡ true) ⊎ (made ≡ [])) (have : HaveMade (births h) rs o.cmd o.payload o.args (type_made (row_of o.cmd).effect) made) where
    -- what was retrieved before by an owner that lives, lives
    kept_lives : (kept : List Retrieval) → AllByRecursion (IsRetrievedOf (births h)) kept → (t : ObjectType) (owner : Option Object) (place : ℕ) (payload : List ℕ) → option_map_or (alive h) owner false ≡ true
        → (x : Object) → option_map (λ (r : Retrieval). r.object) (find (is_kept t owner place payload) kept) ≡ Some x → alive h x ≡ true
    kept_lives [] all t owner place payload lives x is = cc is
    kept_lives (r ∷ kept) all t owner place payload lives x is = go (kept_lives kept all.1 t owner place payload lives x) (is_kept t owner place payload r) refl is
      where
        same_owner : is_kept t owner place payload r ≡ true → (a b : Option Object) → r.owner ≡ a → owner ≡ b → are_same a b ≡ true → a ≡ b
        same_owner passes (Some a) (Some b) p q e = ap (λ y. Some y) (same_is a b e)
        same_owner passes (Some a) None p q e = cc e
        same_owner passes None b p q e = cc e

        lives_too : (os : List Object) → LivesWithOwner h os r.object → slice_get os 0 ≡ owner → alive h r.object ≡ true
        lives_too [] l first = let no : false ≡ true = ap (λ (f : Option Object). option_map_or (alive h) f false) first ∙ lives in cc
        lives_too (w ∷ ws) l first = l.1 (ap (λ (f : Option Object). option_map_or (alive h) f false) first ∙ lives)

        go : (option_map (λ (y : Retrieval). y.object) (find (is_kept t owner place payload) kept) ≡ Some x → alive h x ≡ true) → (u : Bool) → is_kept t owner place payload r ≡ u
            → option_map (λ (y : Retrieval). y.object) (cond u (Some r) (find (is_kept t owner place payload) kept)) ≡ Some x → alive h x ≡ true
        go ih true passes found =
            let one : r.object ≡ x = cc in
            let owners = and_true (are_same r.owner owner) _ (and_true (same_type r.object.ty t) _ passes).1 in
            let first : slice_get (owners_in (births h) r.object) 0 ≡ owner = all.0.2 ∙ same_owner passes r.owner owner refl refl owners.0 in
            ap (alive h) (sym one) ∙ lives_too (owners_in (births h) r.object) (own.retrieved r.object all.0.0 all.0.1) first
        go ih false passes found = ih found

    -- a result that was born before lives
    result_lives : (f : Effect) → e ≡ f → (t : ObjectType) (b : Born) → HasLivingOwner h o → kept_object (asking_by (births h) o.cmd o.payload o.args f) t rs b.place ≡ only (born_in (births h) b.object) b.object → born_in (births h) b.object ≡ true
        → alive h b.object ≡ true
    result_lives (eff.Retrieve r owner many) is t b owned decided was =
        let found : option_map (λ (y : Retrieval). y.object) (find (is_kept t (slice_get (owners_given (births h) o.args owner) 0) b.place (key_payload o.cmd o.payload)) rs) ≡ Some b.object = decided ∙ ap (λ u. only u b.object) was in
        kept_lives rs own.kept t (slice_get (owners_given (births h) o.args owner) 0) b.place (key_payload o.cmd o.payload) (go owned.lives) b.object found
      where
        go : ((owners_by (births h) o.args e ≡ []) × (creates e ≡ true)) ⊎ (first_lives (owners_by (births h) o.args e) ≡ true) → first_lives (owners_given (births h) o.args owner) ≡ true
        go (inl k) = let no : creates e ≡ false = ap creates is in let yes : creates e ≡ true = k.1 in cc
        go (inr lives) = ap (λ (f : Effect). first_lives (owners_by (births h) o.args f)) (sym is) ∙ lives
    result_lives (eff.Create r owner many) is t b owned decided was = let no : None ≡ Some b.object = decided ∙ ap (λ u. only u b.object) was in cc
    result_lives eff.None is t b owned decided was = let no : None ≡ Some b.object = decided ∙ ap (λ u. only u b.object) was in cc
    result_lives (eff.Destroy p) is t b owned decided was = let no : None ≡ Some b.object = decided ∙ ap (λ u. only u b.object) was in cc
    result_lives (eff.Free p) is t b owned decided was = let no : None ≡ Some b.object = decided ∙ ap (λ u. only u b.object) was in cc
    result_lives (eff.Reset p) is t b owned decided was = let no : None ≡ Some b.object = decided ∙ ap (λ u. only u b.object) was in cc

    -- so a result is born by them where it is by all births
    pub results_alike : HasLivingOwner h o → AllByRecursion (λ (b : Born). born_in ls b.object ≡ born_in (births h) b.object) made
    results_alike owned = go (type_made e) have
      where
        one : (x : Object) → (born_in (births h) x ≡ true → alive h x ≡ true) → born_in ls x ≡ born_in (births h) x
        one x lives = of_living.lives x ∙ at (alive h x) refl (born_in (births h) x) refl
          where
            at : (t : Bool) → alive h x ≡ t → (u : Bool) → born_in (births h) x ≡ u → t ≡ u
            at true l true b = refl
            at true l false b = let yes : born_in (births h) x ≡ true = alive_born h x l in cc
            at false l true b = let yes : alive h x ≡ true = lives b in cc
            at false l false b = refl

        each : (t : ObjectType) (ms : List Born) → AreDecided (asking_by (births h) o.cmd o.payload o.args e) t (births h) rs ms → AllByRecursion (λ (b : Born). born_in ls b.object ≡ born_in (births h) b.object) ms
        each t [] d = tt
        each t (b ∷ ms) d = (one b.object (result_lives e refl t b owned d.0), each t ms d.2)

        go : (mt : Option ObjectType) → HaveMade (births h) rs o.cmd o.payload o.args mt made → AllByRecursion (λ (b : Born). born_in ls b.object ≡ born_in (births h) b.object) made
        go None d = subst (λ (ms : List Born). AllByRecursion (λ (b : Born). born_in ls b.object ≡ born_in (births h) b.object) ms) (sym d) tt
        go (Some t) d = each t made d

    objects_alike : HasLivingOwner h o → AllByRecursion (λ (x : Object). not (born_in ls x) ≡ not (born_in (births h) x)) (objects_of made)
    objects_alike owned = go made (results_alike owned)
      where
        go : (ms : List Born) → AllByRecursion (λ (b : Born). born_in ls b.object ≡ born_in (births h) b.object) ms → AllByRecursion (λ (x : Object). not (born_in ls x) ≡ not (born_in (births h) x)) (objects_of ms)
        go [] all = tt
        go (b ∷ ms) all = (ap not all.0, go ms all.1)

    new_alike : HasLivingOwner h o → AllByRecursion (λ (b : Born). is_new ls b ≡ is_new (births h) b) made
    new_alike owned = go made (results_alike owned)
      where
        go : (ms : List Born) → AllByRecursion (λ (b : Born). born_in ls b.object ≡ born_in (births h) b.object) ms → AllByRecursion (λ (b : Born). is_new ls b ≡ is_new (births h) b) ms
        go [] all = tt
        go (b ∷ ms) all = (ap not all.0, go ms all.1)

    -- by an effect, what is born then is the same
    given_by : HasLivingOwner h o → (f : Effect) → owners_by ls o.args f ≡ owners_by (births h) o.args f → births_given ls o.args f (objects_of made) ≡ births_given (births h) o.args f (objects_of made)
    given_by owned f same_owners = go f same_owners
      where
        of_alike : (created : Bool) (x y : List Object) → x ≡ y → births_of ls created x (objects_of made) ≡ births_of (births h) created y (objects_of made)
        of_alike created x y is =
            ap (λ (os : List Object). map (λ w. record { object = w; created = created; owners = x }) os) (filter_alike (λ w. not (born_in ls w)) (λ w. not (born_in (births h) w)) (objects_of made) (objects_alike owned))
            ∙ ap (λ (owners : List Object). births_of (births h) created owners (objects_of made)) is

        go : (f : Effect) → owners_by ls o.args f ≡ owners_by (births h) o.args f → births_given ls o.args f (objects_of made) ≡ births_given (births h) o.args f (objects_of made)
        go (eff.Create t owner many) is = of_alike true (owners_given ls o.args owner) (owners_given (births h) o.args owner) is
        go (eff.Retrieve t owner many) is = of_alike false (owners_given ls o.args owner) (owners_given (births h) o.args owner) is
        go eff.None is = refl
        go (eff.Destroy p) is = refl
        go (eff.Free p) is = refl
        go (eff.Reset p) is = refl

    -- what is born at a return is the same
    pub given_alike : births_given ls o.args (row_of o.cmd).effect (objects_of made) ≡ births_given (births h) o.args (row_of o.cmd).effect (objects_of made)
    given_alike = go bearing
      where
        go : (bears (births h) (alive h) o ≡ true) ⊎ (made ≡ []) → births_given ls o.args e (objects_of made) ≡ births_given (births h) o.args e (objects_of made)
        go (inl is) = let owned : HasLivingOwner h o = bears_owned h o is in given_by owned e (owners_made owned)
        go (inr none) =
            ap (λ (ms : List Born). births_given ls o.args e (objects_of ms)) none
            ∙ (given_none ls o.args e ∙ sym (ap (λ (ms : List Born). births_given (births h) o.args e (objects_of ms)) none ∙ given_none (births h) o.args e))

    -- what is retrieved first is the same
    pub retrieved_alike : retrieved_by ls o made ≡ retrieved_by (births h) o made
    retrieved_alike = go bearing
      where
        none_by : (xs : List Birth) → retrieved_by xs o [] ≡ []
        none_by xs = at (retrieves e)
          where
            at : (t : Bool) → cond t (map (retrieval o (owner_by xs o.args e)) []) [] ≡ []
            at true = refl
            at false = refl

        go : (bears (births h) (alive h) o ≡ true) ⊎ (made ≡ []) → retrieved_by ls o made ≡ retrieved_by (births h) o made
        go (inl is) =
            let owned : HasLivingOwner h o = bears_owned h o is in
            let owner : owner_by ls o.args e ≡ owner_by (births h) o.args e = owner_first ls o.args e ∙ (ap (λ (os : List Object). slice_get os 0) (owners_made owned) ∙ sym (owner_first (births h) o.args e)) in
            ap (λ (w : Option Object). cond (retrieves e) (map (retrieval o w) (filter (is_new ls) made)) []) owner
            ∙ ap (λ (ms : List Born). cond (retrieves e) (map (retrieval o (owner_by (births h) o.args e)) ms) []) (filter_alike (is_new ls) (is_new (births h)) made (new_alike owned))
        go (inr none) = ap (λ (ms : List Born). retrieved_by ls o ms) none ∙ (none_by ls ∙ sym (ap (λ (ms : List Born). retrieved_by (births h) o ms) none ∙ none_by (births h)))

    -- the births before and what is given are the births of what lives then
    pub living_since : (after : List Birth) → AreAdded ls (births_given ls o.args (row_of o.cmd).effect (objects_of made)) after → AreOfLiving after (Returns (call_of o) (objects_of made) ∷ h)
    living_since after since = record {
      lives = λ x. now_lives x;
      created = λ x lives. (since.alike x (now_lives x ∙ lives)).created ∙ (ap (λ (gs : List Birth). created_in (ls ++ gs) x) given_alike ∙ at_created x (alive h x) refl (sym (later x) ∙ lives));
      owners = λ x lives. (since.alike x (now_lives x ∙ lives)).owners ∙ (ap (λ (gs : List Birth). owners_in (ls ++ gs) x) given_alike ∙ at_owners x (alive h x) refl (sym (later x) ∙ lives));
    }
      where
        later : (x : Object) → alive (Returns (call_of o) (objects_of made) ∷ h) x ≡ (alive h x || born_in (births_given (births h) o.args (row_of o.cmd).effect (objects_of made)) x)
        later x = sym (born_more (alive h x) (births h) o.args (row_of o.cmd).effect (objects_of made) x)

        now_lives : (x : Object) → born_in after x ≡ alive (Returns (call_of o) (objects_of made) ∷ h) x
        now_lives x = since.lives x ∙ (ap (λ t. t || born_in (births_given ls o.args (row_of o.cmd).effect (objects_of made)) x) (of_living.lives x)
            ∙ (ap (λ (gs : List Birth). alive h x || born_in gs x) given_alike ∙ sym (later x)))

        -- what is new wasn't born
        fresh : (x : Object) → born_in (births_given (births h) o.args (row_of o.cmd).effect (objects_of made)) x ≡ true → born_in (births h) x ≡ false
        fresh x there = at (born_in (births h) x) refl
          where
            at : (t : Bool) → born_in (births h) x ≡ t → born_in (births h) x ≡ false
            at true was = let no : born_in (births_given (births h) o.args (row_of o.cmd).effect (objects_of made)) x ≡ false = new_given (births h) o.args (row_of o.cmd).effect (objects_of made) x was in cc
            at false e = e

        at_created : (x : Object) (t : Bool) → alive h x ≡ t → (t || born_in (births_given (births h) o.args (row_of o.cmd).effect (objects_of made)) x) ≡ true
            → created_in (ls ++ births_given (births h) o.args (row_of o.cmd).effect (objects_of made)) x ≡ created_in (births h ++ births_given (births h) o.args (row_of o.cmd).effect (objects_of made)) x
        at_created x true lives k =
            created_behind ls (births_given (births h) o.args (row_of o.cmd).effect (objects_of made)) x
            ∙ (ap (λ c. c || created_in (births_given (births h) o.args (row_of o.cmd).effect (objects_of made)) x) (of_living.created x lives)
            ∙ sym (created_behind (births h) (births_given (births h) o.args (row_of o.cmd).effect (objects_of made)) x))
        at_created x false dead k =
            created_behind ls (births_given (births h) o.args (row_of o.cmd).effect (objects_of made)) x
            ∙ (ap (λ c. c || created_in (births_given (births h) o.args (row_of o.cmd).effect (objects_of made)) x) (unborn_uncreated ls x (of_living.lives x ∙ dead) ∙ sym (unborn_uncreated (births h) x (fresh x k)))
            ∙ sym (created_behind (births h) (births_given (births h) o.args (row_of o.cmd).effect (objects_of made)) x))

        at_owners : (x : Object) (t : Bool) → alive h x ≡ t → (t || born_in (births_given (births h) o.args (row_of o.cmd).effect (objects_of made)) x) ≡ true
            → owners_in (ls ++ births_given (births h) o.args (row_of o.cmd).effect (objects_of made)) x ≡ owners_in (births h ++ births_given (births h) o.args (row_of o.cmd).effect (objects_of made)) x
        at_owners x true lives k =
            owners_old ls (births_given (births h) o.args (row_of o.cmd).effect (objects_of made)) x (of_living.lives x ∙ lives)
            ∙ (of_living.owners x lives ∙ sym (owners_old (births h) (births_given (births h) o.args (row_of o.cmd).effect (objects_of made)) x (alive_born h x lives)))
        at_owners x false dead k =
            owners_fresh ls (births_given (births h) o.args (row_of o.cmd).effect (objects_of made)) x (of_living.lives x ∙ dead)
            ∙ sym (owners_fresh (births h) (births_given (births h) o.args (row_of o.cmd).effect (objects_of made)) x (fresh x k))
