-- What the drivers are told, and what becomes of their replies.
use Rattle.std.proofs.Common.{◌≡◌, ◌==◌, ◌≤◌, ℕ, zero, suc, ◌+◌, Bool, true, false, not, cond, ◌||◌, Option, Some, None, List, [], ◌∷◌, ◌++◌, length, map, refl, sym, ◌∙◌, ap, arith, rules}
use Rattle.std.specs.Prelude.{unwrap_or}
use Rattle.std.specs.List.{filter_map, AllByRecursion}
use Rattle.std.specs.Option.{option_map_or}
use Rattle.command_tables.specs.declared.types.CommandId.{CommandId}
use Rattle.command_tables.specs.declared.types.ObjectType.{ObjectType}
use Rattle.command_tables.specs.declared.types.CommandId.TheVariants as cmd
use Rattle.object_model.specs.declared.Object.{Object}
use Rattle.object_model.specs.declared.Argument.{Argument}
use Rattle.object_model.specs.declared.Argument.TheVariants.{Null, Unborn, The}
use Rattle.replay_model.specs.declared.Born.{Born}
use Rattle.command_tables.specs.Table.{ParamSpec, row_of}
use Rattle.command_tables.specs.Tests.{same_type, same_command}
use Rattle.object_model.specs.Objects.{same, object_of, first_in}
use Rattle.object_model.specs.History.{Birth, born_in}
use Rattle.object_model.specs.Renaming.{AreKnown, KnowsArgs}
use Rattle.replay_model.specs.Past.{Retrieval}
use Rattle.object_model.specs.Values.{Answered, Value, first_value, value_for, handle_at, values_answered}
use Rattle.replay_model.specs.Direct.{Valued, last_values, value_in}
use Rattle.layer_model.specs.Ids.{is_wrapped, is_bare}
use Rattle.handle_map.specs.Pairs.{MapEntry, values_of}
use Rattle.chain_model.specs.Tokens.{births_before, number_in}
use Rattle.chain_model.specs.Mirrored.{entries_from, Mirrors}
use Rattle.chain_model.proofs.OneByOne.{with_value, values_after, AreOther, AreApart, ArePlaced, offered}
use Rattle.layer_model.specs.Reading.{read_handle, read_handles, read_params}
use Rattle.chain_model.specs.Chained.{handle_by, is_unborn, handle_above}
use Rattle.chain_model.proofs.Passing.{HasType, AreTyped, is_made}
use Rattle.layer_model.specs.Terminator.{Terminator, told_params, values_from, plain_handle}
use Rattle.chain_model.proofs.Owners.{is_bare_at, owner_is_bare}
use Rattle.layer_model.proofs.Same.{same_self, same_sym}
use Rattle.chain_model.proofs.Positions.{entry_found, entry_absent}

-- ---- what the drivers are told

-- one number for a bare object
bare_number : (bs : List Birth) (o : Object) → is_wrapped o.ty ≡ false → number_in bs o ≡ 1 + births_before is_bare bs o
bare_number bs o is = let e : number_in bs o ≡ suc (births_before is_bare bs o) = ap (λ u. suc (births_before (cond u is_wrapped is_bare) bs o)) is in omega (arith, e)

-- the one driver that made a wrapped object has its one value
pub record HasOneValue (vs : List Valued) (o : Object) : Type 0 where
  pub one : (driver : ℕ) → value_for driver (last_values vs o) ≡ first_value (last_values vs o)

module _ (vs : List Valued) (f : Object → ℕ) (bs : List Birth) (rs : List Retrieval) (m : Terminator) (firsts : (o : Object) → f o ≡ first_value (last_values vs o)) (sole : (o : Object) → is_wrapped o.ty ≡ true → HasOneValue vs o)
    (s : Mirrors (List Value) is_bare (last_values vs) bs rs m) (driver : ℕ) where
  -- the handle of an object below the last part
  abbrev low : Object → ℕ
  low = handle_above [] bs f

  absent : (t : ObjectType) → value_for driver (unwrap_or (values_of m.entries t 0) []) ≡ 0
  absent t = ap (λ (es : List (MapEntry (List Value))). value_for driver (unwrap_or (values_of es t 0) [])) s.entries ∙ ap (λ (x : Option (List Value)). value_for driver (unwrap_or x [])) (entry_absent is_bare (last_values vs) t 0 1 (omega arith) bs)

  told_bare : (t : ObjectType) → is_wrapped t ≡ false → (args : List Argument) → AllByRecursion (HasType t) args → AreKnown (born_in bs) (filter_map object_of args)
      → map (λ h. value_for driver (unwrap_or (values_of m.entries t h) [])) (map (handle_by low) args) ≡ map (value_in vs driver) args
  told_bare t w [] typed ks = refl
  told_bare t w (Null ∷ args) typed ks = ap (λ x. x ∷ map (λ h. value_for driver (unwrap_or (values_of m.entries t h) [])) (map (handle_by low) args)) (absent t) ∙ ap (λ xs. 0 ∷ xs) (told_bare t w args typed.1 ks)
  told_bare t w (Unborn ∷ args) typed ks = ap (λ x. x ∷ map (λ h. value_for driver (unwrap_or (values_of m.entries t h) [])) (map (handle_by low) args)) (absent t) ∙ ap (λ xs. 0 ∷ xs) (told_bare t w args typed.1 ks)
  told_bare t w (The o ∷ args) typed ks =
      let bare : is_wrapped o.ty ≡ false = ap is_wrapped typed.0 ∙ w in
      let low_is : low o ≡ number_in bs o = ap (λ u. cond u (f o) (number_in bs o)) bare in
      let found : values_of (entries_from is_bare (last_values vs) 1 bs) o.ty (number_in bs o) ≡ Some (last_values vs o) = entry_found is_bare (last_values vs) o (ap not bare) bs ks.0 1 (number_in bs o) (bare_number bs o bare) in
      ap (λ x. x ∷ map (λ h. value_for driver (unwrap_or (values_of m.entries t h) [])) (map (handle_by low) args))
      (ap (λ (h : ℕ). value_for driver (unwrap_or (values_of m.entries t h) [])) low_is
      ∙ (ap (λ (es : List (MapEntry (List Value))). value_for driver (unwrap_or (values_of es t (number_in bs o)) [])) s.entries
      ∙ (ap (λ (u : ObjectType). value_for driver (unwrap_or (values_of (entries_from is_bare (last_values vs) 1 bs) u (number_in bs o)) [])) (sym typed.0) ∙ ap (λ (x : Option (List Value)). value_for driver (unwrap_or x [])) found)))
      ∙ ap (λ xs. value_for driver (last_values vs o) ∷ xs) (told_bare t w args typed.1 ks.1)

  told_wrapped : (t : ObjectType) → is_wrapped t ≡ true → (args : List Argument) → AllByRecursion (HasType t) args → map (handle_by low) args ≡ map (value_in vs driver) args
  told_wrapped t w [] typed = refl
  told_wrapped t w (Null ∷ args) typed = ap (λ xs. 0 ∷ xs) (told_wrapped t w args typed.1)
  told_wrapped t w (Unborn ∷ args) typed = ap (λ xs. 0 ∷ xs) (told_wrapped t w args typed.1)
  told_wrapped t w (The o ∷ args) typed =
      let own : is_wrapped o.ty ≡ true = ap is_wrapped typed.0 ∙ w in
      ap (λ x. x ∷ map (handle_by low) args) (ap (λ u. cond u (f o) (number_in bs o)) own ∙ (firsts o ∙ sym ((sole o own).one driver))) ∙ ap (λ xs. value_for driver (last_values vs o) ∷ xs) (told_wrapped t w args typed.1)

  -- what a driver is told is what the past says
  pub told_is : (ps : List ParamSpec) (args : List (List Argument)) → AreTyped ps args → KnowsArgs (born_in bs) args → told_params m driver ps (map (map (handle_by low)) args) ≡ map (map (value_in vs driver)) args
  told_is [] [] typed ks = refl
  told_is [] (a ∷ args) typed ks = absurd typed
  told_is (p ∷ ps) [] typed ks = absurd typed
  told_is (p ∷ ps) (a ∷ args) typed ks =
      ap (λ x. x ∷ told_params m driver ps (map (map (handle_by low)) args)) (one (is_wrapped p.ty) refl) ∙ ap (λ xs. map (value_in vs driver) a ∷ xs) (told_is ps args typed.1 ks.1)
    where
      one : (u : Bool) → is_wrapped p.ty ≡ u → cond u (map (handle_by low) a) (map (λ h. value_for driver (unwrap_or (values_of m.entries p.ty h) [])) (map (handle_by low) a)) ≡ map (value_in vs driver) a
      one true w = told_wrapped p.ty w a typed.0
      one false w = told_bare p.ty w a typed.0 ks.0

-- ---- what becomes of replies

-- the values of the results that aren't lost
lost_values : {X : Type 0} (c : CommandId) (answers : List Answered) (k : ℕ) (lost : List X) → values_from c answers k (map (λ _. false) lost) ≡ map (λ _. None) lost
lost_values c answers k [] = refl
lost_values c answers k (x ∷ lost) = ap (λ xs. None ∷ xs) (lost_values c answers (k + 1) lost)

pub values_offered : {X : Type 0} (c : CommandId) (answers : List Answered) (k : ℕ) (lost : List X) (made : List Born) → ArePlaced k made
    → values_from c answers k (map (λ _. true) made ++ map (λ _. false) lost) ≡ offered (λ b. values_answered c answers b.place) made lost
values_offered c answers k lost [] placed = lost_values c answers k lost
values_offered c answers k lost (b ∷ made) placed =
    ap (λ n. Some (values_answered c answers n) ∷ values_from c answers (k + 1) (map (λ _. true) made ++ map (λ _. false) lost)) (sym placed.0) ∙ ap (λ xs. Some (values_answered c answers b.place) ∷ xs) (values_offered c answers (k + 1) lost made placed.1)

-- the values of objects that weren't made stay
pub values_other : {V : Type 0} (val : Born → V) (made : List Born) (f : Object → V) (o : Object) → is_made made o ≡ false → values_after val f made o ≡ f o
values_other val [] f o e = refl
values_other val (b ∷ made) f o e =
    values_other val made (with_value f b.object (val b)) o (right (same b.object o) (is_made made o) e) ∙ ap (λ u. cond u (val b) (f o)) (left (same b.object o) (is_made made o) e)
  where
    left : (p q : Bool) → (p || q) ≡ false → p ≡ false
    left false q e = refl
    left true q e = cc e

    right : (p q : Bool) → (p || q) ≡ false → q ≡ false
    right false q e = e
    right true q e = cc e

not_other : (o : Object) (made : List Born) → AreOther o made → is_made made o ≡ false
not_other o [] other = refl
not_other o (b ∷ made) other = rw (sym (same_sym o b.object) ∙ other.0) (not_other o made other.1)

-- each result has its own value
pub values_own : {V : Type 0} (val : Born → V) (f : Object → V) (made : List Born) → AreApart made → AllByRecursion (λ b. values_after val f made b.object ≡ val b) made
values_own val f [] apart = tt
values_own val f (b ∷ made) apart = (
  values_other val made (with_value f b.object (val b)) b.object (not_other b.object made apart.0) ∙ ap (λ u. cond u (val b) (f b.object)) (same_self b.object),
  values_own val (with_value f b.object (val b)) made apart.1,
)

-- the handles of wrapped results below the last part
pub plain_results : {X : Type 0} (val : Born → List Value) (g : Object → ℕ) (lost : List X) (made : List Born) → AllByRecursion (λ b. g b.object ≡ first_value (val b)) made
    → map plain_handle (offered val made lost) ≡ map (λ b. g b.object) made ++ map (λ _. 0) lost
plain_results val g lost [] all = plain_lost lost
  where
    plain_lost : {Y : Type 0} (ys : List Y) → map plain_handle (map (λ _. None) ys) ≡ map (λ _. 0) ys
    plain_lost [] = refl
    plain_lost (y ∷ ys) = ap (λ xs. 0 ∷ xs) (plain_lost ys)
plain_results val g lost (b ∷ made) all = ap (λ x. x ∷ map plain_handle (offered val made lost)) (sym all.0) ∙ ap (λ xs. g b.object ∷ xs) (plain_results val g lost made all.1)

-- ---- the key at the terminator

-- a bare parameter is read in the form above the terminator as elsewhere
bare_first : (bs : List Birth) (f : Object → ℕ) (t : ObjectType) → is_wrapped t ≡ false → (args : List Argument) → AllByRecursion (HasType t) args
    → read_handles t (map (handle_by (handle_above [] bs f)) args) (map is_unborn args) ≡ read_handles t (map (handle_by (number_in bs)) args) (map is_unborn args)
bare_first bs f t w [] typed = refl
bare_first bs f t w (Null ∷ args) typed = ap (λ xs. Null ∷ xs) (bare_first bs f t w args typed.1)
bare_first bs f t w (Unborn ∷ args) typed = ap (λ xs. Unborn ∷ xs) (bare_first bs f t w args typed.1)
bare_first bs f t w (The o ∷ args) typed =
    ap (λ h. read_handle t h false ∷ read_handles t (map (handle_by (handle_above [] bs f)) args) (map is_unborn args)) (ap (λ u. cond u (f o) (number_in bs o)) (ap is_wrapped typed.0 ∙ w))
    ∙ ap (λ xs. read_handle t (number_in bs o) false ∷ xs) (bare_first bs f t w args typed.1)

pub bare_owner : (bs : List Birth) (f : Object → ℕ) (ps : List ParamSpec) (args : List (List Argument)) → AreTyped ps args → (p : ℕ) → is_bare_at ps p ≡ true
    → first_in (read_params ps (map (map (handle_by (handle_above [] bs f))) args) (map (map is_unborn) args)) p ≡ first_in (read_params ps (map (map (handle_by (number_in bs))) args) (map (map is_unborn) args)) p
bare_owner bs f [] args typed p bare = refl
bare_owner bs f (x ∷ ps) [] typed p bare = absurd typed
bare_owner bs f (x ∷ ps) (a ∷ args) typed zero bare = ap (λ as0. first_in (as0 ∷ []) 0) (bare_first bs f x.ty (wrapped (is_wrapped x.ty) bare) a typed.0)
  where
    wrapped : (u : Bool) → not u ≡ true → u ≡ false
    wrapped false e = refl
    wrapped true e = cc e
bare_owner bs f (x ∷ ps) (a ∷ args) typed (suc p) bare = bare_owner bs f ps args typed.1 p bare

-- what is retrieved with an id of the terminator has an owner with one
pub owners_bare : (c : CommandId) → owner_is_bare (row_of c).params (row_of c).effect ≡ true
unfolding row_of same_type
owners_bare c = search rules

-- ---- one driver's answer

-- where one driver answered, each result has one value
pub one_answer : (c : CommandId) (answers : List Answered) (place : ℕ) → length answers ≤ 1 → (driver : ℕ) → value_for driver (values_answered c answers place) ≡ first_value (values_answered c answers place)
one_answer c [] place few driver = go (same_command c cmd.EnumeratePhysicalDevices)
  where
    go : (u : Bool) → value_for driver (cond u [] []) ≡ first_value (cond u [] [])
    go true = refl
    go false = refl
one_answer c (a ∷ []) place few driver = go (same_command c cmd.EnumeratePhysicalDevices) (a.driver == place)
  where
    alone : (v : Value) → value_for driver (v ∷ []) ≡ first_value (v ∷ [])
    alone v = at (v.driver == driver)
      where
        at : (u : Bool) → option_map_or (λ (x : Value). x.value) (cond u (Some v) None) v.value ≡ v.value
        at true = refl
        at false = refl

    go : (u w : Bool) → value_for driver (cond u (map (handle_at 0) (cond w (a ∷ []) [])) (handle_at place a ∷ [])) ≡ first_value (cond u (map (handle_at 0) (cond w (a ∷ []) [])) (handle_at place a ∷ []))
    go true true = alone (handle_at 0 a)
    go true false = refl
    go false w = alone (handle_at place a)
one_answer c (a ∷ b ∷ answers) place few driver = absurd (omega (arith, few))
