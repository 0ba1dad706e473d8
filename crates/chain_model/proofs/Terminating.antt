-- Replies become ids and handles, and the terminator mirrors the past then.
use Rattle.std.proofs.Common.{◌≡◌, ℕ, Bool, true, false, not, cond, ◌||◌, Option, Some, None, List, [], ◌∷◌, ◌++◌, map, refl, sym, ◌∙◌, ap, subst}
use Rattle.std.specs.List.{AllByRecursion}
use Rattle.command_tables.specs.declared.types.CommandId.{CommandId}
use Rattle.command_tables.specs.declared.types.ObjectType.{ObjectType}
use Rattle.command_tables.specs.declared.types.OwnerOf.TheVariants as of
use Rattle.command_tables.specs.declared.types.Effect.{Effect}
use Rattle.command_tables.specs.declared.types.Effect.TheVariants as eff
use Rattle.object_model.specs.declared.Object.{Object}
use Rattle.object_model.specs.declared.Argument.{Argument}
use Rattle.replay_model.specs.declared.Born.{Born}
use Rattle.command_tables.specs.Calls.{CallContent}
use Rattle.command_tables.specs.Table.{ParamSpec, row_of}
use Rattle.command_tables.specs.Effects.{type_made}
use Rattle.object_model.specs.Objects.{same}
use Rattle.object_model.specs.History.{Birth}
use Rattle.replay_model.specs.Past.{Retrieval}
use Rattle.object_model.specs.Keys.{key_payload}
use Rattle.object_model.specs.Values.{Answered, Value, first_value, values_answered}
use Rattle.replay_model.specs.Direct.{Valued, last_values}
use Rattle.layer_model.specs.Ids.{is_wrapped, is_bare, IssuedAll, issue_all}
use Rattle.chain_model.specs.Tokens.{issued_with, number_in}
use Rattle.chain_model.specs.Mirrored.{Mirrors}
use Rattle.chain_model.proofs.OneByOne.{Asking, AreDecided, AreApart, ArePlaced, AreOnce, AreRetrieved, AsksBorn, key_of, values_after, offered, numbered}
use Rattle.layer_model.specs.Reading.{read_call, read_params}
use Rattle.layer_model.specs.Parts.{key_read}
use Rattle.chain_model.specs.Chained.{form_by, handle_by, is_unborn, handle_above}
use Rattle.chain_model.proofs.Passing.{AreTyped, creates, owners_by, asking_by, births_then, retrievals_then, HaveMade, is_made, results_above}
use Rattle.layer_model.specs.Terminator.{Terminator, plain_handle, terminator_results, terminator_leave}
use Rattle.chain_model.proofs.Owners.{is_bare_at, owner_is_bare}
use Rattle.layer_model.proofs.Same.{same_is}
use Rattle.chain_model.proofs.Issuing.{AllStepped, issue_mirrors}
use Rattle.chain_model.proofs.Reading.{read_form}
use Rattle.chain_model.proofs.Borne.{values_one_by_one}
use Rattle.chain_model.proofs.Leaving.{entries_cong, all_born, unissued_mirrors, key_is, plainly, types_of}
use Rattle.chain_model.proofs.Ending.{values_offered, values_other, values_own, plain_results, bare_owner, owners_bare}

-- ---- the key

bare_key : (bs : List Birth) (f : Object → ℕ) (c : CommandId) (payload : List ℕ) (ps : List ParamSpec) (args : List (List Argument)) (e : Effect) (t : ObjectType) → AreTyped ps args → type_made e ≡ Some t → is_wrapped t ≡ false → owner_is_bare ps e ≡ true
    → key_read c payload (read_params ps (map (map (handle_by (handle_above [] bs f))) args) (map (map is_unborn) args)) e ≡ key_read c payload (read_params ps (map (map (handle_by (number_in bs))) args) (map (map is_unborn) args)) e
bare_key bs f c payload ps args (eff.Create u owner many) t typed is w bare = refl
bare_key bs f c payload ps args (eff.Retrieve u of.Nobody many) t typed is w bare = refl
bare_key bs f c payload ps args (eff.Retrieve u (of.Param p) many) t typed is w bare =
    let same_t : u ≡ t = cc in
    let mine : is_wrapped u ≡ false = ap is_wrapped same_t ∙ w in
    let at : is_bare_at ps p ≡ true = sym (ap (λ x. x || is_bare_at ps p) mine) ∙ bare in
    ap (λ (o : Option Object). Some (record { owner = o; ty = u; place = 0; payload = key_payload c payload })) (bare_owner bs f ps args typed p at)
bare_key bs f c payload ps args (eff.Retrieve u (of.OwnerOfParam p) many) t typed is w bare = refl
bare_key bs f c payload ps args eff.None t typed is w bare = refl
bare_key bs f c payload ps args (eff.Destroy p) t typed is w bare = refl
bare_key bs f c payload ps args (eff.Free p) t typed is w bare = refl
bare_key bs f c payload ps args (eff.Reset p) t typed is w bare = refl

-- ---- a return

-- what replies come to
pub record Answered_by (X : Type 0) (vs : List Valued) (bs : List Birth) (rs : List Retrieval) (made : List Born) (lost : List X) (all : IssuedAll (List Value)) : Type 0 where
  pub results : all.results ≡ results_above [] bs (λ o. first_value (last_values vs o)) made lost
  pub mirrors : Mirrors (List Value) is_bare (last_values vs) bs rs all.ids

module _ {X : Type 0} (now : List Birth) (kept_now : List Retrieval) (vs : List Valued) (f : Object → ℕ) (c : CallContent) (args : List (List Argument)) (typed : AreTyped (row_of c.cmd).params args)
    (made : List Born) (lost : List X) (once : AreOnce now) (are_retrieved : AreRetrieved now kept_now) (asks : AsksBorn now (asking_by now c.cmd c.payload args (row_of c.cmd).effect)) (are_placed : ArePlaced 0 made) (are_apart : AreApart made)
    (have : HaveMade now kept_now c.cmd c.payload args (type_made (row_of c.cmd).effect) made) (answers : List Answered) (m : Terminator) (s : Mirrors (List Value) is_bare (last_values vs) now kept_now m) where
  abbrev val : Born → List Value
  val b = values_answered c.cmd answers b.place

  abbrev valued_then : List Valued
  valued_then = vs ++ map (λ b. record { object = b.object; values = val b }) made

  abbrev then_born : List Birth
  then_born = births_then now c.cmd args made

  abbrev then_kept : List Retrieval
  then_kept = retrievals_then now kept_now c.cmd c.payload args made

  abbrev low : Object → ℕ
  low = handle_above [] then_born (λ o. first_value (last_values valued_then o))

  abbrev Good : IssuedAll (List Value) → Type 0
  Good all = Answered_by X valued_then then_born then_kept made lost all

  own_values : AllByRecursion (λ b. last_values valued_then b.object ≡ val b) made
  own_values = subst (λ (g : Object → List Value). AllByRecursion (λ b. g b.object ≡ val b) made) (values_one_by_one val vs made) (values_own val (last_values vs) made are_apart)

  other_values : (o : Object) → is_made made o ≡ false → last_values vs o ≡ last_values valued_then o
  other_values o e = sym (values_other val made (last_values vs) o e) ∙ ap (λ (g : Object → List Value). g o) (values_one_by_one val vs made)

  -- wrapped results go up as the driver's handles
  lows_wrapped : (ms : List Born) → AllByRecursion (λ b. is_wrapped b.object.ty ≡ true) ms → AllByRecursion (λ b. last_values valued_then b.object ≡ val b) ms → AllByRecursion (λ b. low b.object ≡ first_value (val b)) ms
  lows_wrapped [] ws own = tt
  lows_wrapped (b ∷ ms) ws own = (ap (λ u. cond u (first_value (last_values valued_then b.object)) (number_in then_born b.object)) ws.0 ∙ ap first_value own.0, lows_wrapped ms ws.1 own.1)

  -- bare results go up as ids
  lows_bare : (ms : List Born) → AllByRecursion (λ b. is_wrapped b.object.ty ≡ false) ms → numbered then_born ms lost ≡ map (λ b. low b.object) ms ++ map (λ _. 0) lost
  lows_bare [] ws = refl
  lows_bare (b ∷ ms) ws =
      ap (λ x. x ∷ numbered then_born ms lost) (sym (ap (λ u. cond u (first_value (last_values valued_then b.object)) (number_in then_born b.object)) ws.0)) ∙ ap (λ xs. low b.object ∷ xs) (lows_bare ms ws.1)

  not_bare : (ms : List Born) → AllByRecursion (λ b. is_wrapped b.object.ty ≡ true) ms → AllByRecursion (λ b. is_bare b.object.ty ≡ false) ms
  not_bare [] ws = tt
  not_bare (b ∷ ms) ws = (ap not ws.0, not_bare ms ws.1)

  other_type : (ms : List Born) → AllByRecursion (λ b. is_bare b.object.ty ≡ false) ms → (o : Object) → is_bare o.ty ≡ true → is_made ms o ≡ false
  other_type [] all o w = refl
  other_type (b ∷ ms) all o w = go (same b.object o) refl (other_type ms all.1 o w)
    where
      go : (u : Bool) → same b.object o ≡ u → is_made ms o ≡ false → (u || is_made ms o) ≡ false
      go true e rest = let k : is_bare b.object.ty ≡ true = ap (λ (x : Object). is_bare x.ty) (same_is b.object o e) ∙ w in let n : is_bare b.object.ty ≡ false = all.0 in cc
      go false e rest = rest

  -- what wraps, or makes nothing
  plain : AllByRecursion (λ b. is_wrapped b.object.ty ≡ true) made → Good (record { results = map plain_handle (offered val made lost); ids = m })
  plain ws =
      let still : Mirrors (List Value) is_bare (last_values vs) then_born then_kept m = unissued_mirrors is_bare (last_values vs) (creates (row_of c.cmd).effect) (owners_by now args (row_of c.cmd).effect)
      (asking_by now c.cmd c.payload args (row_of c.cmd).effect) made now kept_now m (not_bare made ws) s are_retrieved asks in
      record {
        results = plain_results val low lost made (lows_wrapped made ws own_values);
        mirrors = record {
          entries = still.entries
              ∙ entries_cong is_bare (last_values vs) (last_values valued_then) then_born then_born 1 (λ o w b. other_values o (other_type made (not_bare made ws) o w)) (all_born [] then_born);
          kept = still.kept;
        };
      }

  -- what is bare
  bare : (t : ObjectType) → is_wrapped t ≡ false → AreDecided (asking_by now c.cmd c.payload args (row_of c.cmd).effect) t now kept_now made
      → Good (issue_all m (key_of now (asking_by now c.cmd c.payload args (row_of c.cmd).effect) t) t 0 (offered val made lost))
  bare t w decided =
      let p : Option Asking = asking_by now c.cmd c.payload args (row_of c.cmd).effect in
      let issues : issued_with t ≡ is_bare = ap (λ u. cond u is_wrapped is_bare) w in
      let start : Mirrors (List Value) (issued_with t) (last_values vs) now kept_now m = subst (λ (i : ObjectType → Bool). Mirrors (List Value) i (last_values vs) now kept_now m) (sym issues) s in
      let all : AllStepped (List Value) X t (values_after val (last_values vs) made) then_born then_kept made lost (issue_all m (key_of now p t) t 0 (offered val made lost)) =
      issue_mirrors t (creates (row_of c.cmd).effect) (owners_by now args (row_of c.cmd).effect) p val lost made 0 (last_values vs) now kept_now m start once are_retrieved asks are_placed are_apart decided in
      record {
        results = all.results ∙ lows_bare made (bares t w made (types_of p t now kept_now made decided));
        mirrors = subst (λ (i : ObjectType → Bool). Mirrors (List Value) i (last_values valued_then) then_born then_kept (issue_all m (key_of now p t) t 0 (offered val made lost)).ids) issues
            (subst (λ (g : Object → List Value). Mirrors (List Value) (issued_with t) g then_born then_kept (issue_all m (key_of now p t) t 0 (offered val made lost)).ids) (values_one_by_one val vs made) all.mirrors);
      }
    where
      bares : (u : ObjectType) → is_wrapped u ≡ false → (ms : List Born) → AllByRecursion (λ b. b.object.ty ≡ u) ms → AllByRecursion (λ b. is_wrapped b.object.ty ≡ false) ms
      bares u e [] ts = tt
      bares u e (b ∷ ms) ts = (ap is_wrapped ts.0 ∙ e, bares u e ms ts.1)

  -- replies
  pub answers_well : Good (terminator_leave m (form_by (handle_above [] now f) c args) answers (map (λ _. true) made ++ map (λ _. false) lost))
  answers_well =
      subst (λ values. Good (terminator_results m (key_read c.cmd c.payload (read_call (form_by (handle_above [] now f) c args)) (row_of c.cmd).effect) (type_made (row_of c.cmd).effect) values)) (sym (values_offered c.cmd answers 0 lost made are_placed))
      (go (type_made (row_of c.cmd).effect) refl have)
    where
      wrapped_all : (u : ObjectType) → is_wrapped u ≡ true → (ms : List Born) → AllByRecursion (λ b. b.object.ty ≡ u) ms → AllByRecursion (λ b. is_wrapped b.object.ty ≡ true) ms
      wrapped_all u e [] ts = tt
      wrapped_all u e (b ∷ ms) ts = (ap is_wrapped ts.0 ∙ e, wrapped_all u e ms ts.1)

      by_type : (t : ObjectType) → type_made (row_of c.cmd).effect ≡ Some t → AreDecided (asking_by now c.cmd c.payload args (row_of c.cmd).effect) t now kept_now made → (u : Bool) → is_wrapped t ≡ u
          → Good (cond u (record { results = map plain_handle (offered val made lost); ids = m }) (issue_all m (key_read c.cmd c.payload (read_call (form_by (handle_above [] now f) c args)) (row_of c.cmd).effect) t 0 (offered val made lost)))
      by_type t is d true w = plain (wrapped_all t w made (types_of (asking_by now c.cmd c.payload args (row_of c.cmd).effect) t now kept_now made d))
      by_type t is d false w =
          subst (λ k. Good (issue_all m k t 0 (offered val made lost)))
          (sym (bare_key now f c.cmd c.payload (row_of c.cmd).params args (row_of c.cmd).effect t typed is w (owners_bare c.cmd)
          ∙ (ap (λ as0. key_read c.cmd c.payload as0 (row_of c.cmd).effect) (read_form now (row_of c.cmd).params args typed) ∙ key_is now c.cmd c.payload args (row_of c.cmd).effect t (plainly c.cmd) is)))
          (bare t w d)

      go : (mt : Option ObjectType) → type_made (row_of c.cmd).effect ≡ mt → HaveMade now kept_now c.cmd c.payload args mt made
          → Good (terminator_results m (key_read c.cmd c.payload (read_call (form_by (handle_above [] now f) c args)) (row_of c.cmd).effect) mt (offered val made lost))
      go None is d = plain (subst (λ ms. AllByRecursion (λ b. is_wrapped b.object.ty ≡ true) ms) (sym d) tt)
      go (Some t) is d = by_type t is d (is_wrapped t) refl
