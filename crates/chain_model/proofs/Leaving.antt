-- Results on their way up become the objects' handles, and the parts keep what they have seen then.
use Rattle.std.proofs.Common.{◌≡◌, ◌==◌, ℕ, suc, ◌+◌, Bool, true, false, not, cond, ◌||◌, Option, Some, None, List, [], ◌∷◌, ◌++◌, map, refl, sym, ◌∙◌, ap, subst, rules}
use Rattle.std.specs.Prelude.{filter, slice_get}
use Rattle.std.specs.List.{filter_map, AllByRecursion}
use Rattle.std.specs.Option.{option_map}
use Rattle.command_tables.specs.declared.types.CommandId.{CommandId}
use Rattle.command_tables.specs.declared.types.ObjectType.{ObjectType}
use Rattle.command_tables.specs.declared.types.OwnerOf.{OwnerOf}
use Rattle.command_tables.specs.declared.types.OwnerOf.TheVariants as of
use Rattle.command_tables.specs.declared.types.Effect.{Effect}
use Rattle.command_tables.specs.declared.types.Effect.TheVariants as eff
use Rattle.object_model.specs.declared.Object.{Object}
use Rattle.object_model.specs.declared.Argument.{Argument}
use Rattle.object_model.specs.declared.Argument.TheVariants.{Null, Unborn, The}
use Rattle.replay_model.specs.declared.Born.{Born}
use Rattle.object_model.specs.declared.PartKind.TheVariants as part
use Rattle.command_tables.specs.Calls.{CallContent}
use Rattle.command_tables.specs.Table.{row_of}
use Rattle.command_tables.specs.Effects.{type_made}
use Rattle.object_model.specs.Objects.{same, object_of, first_in}
use Rattle.object_model.specs.History.{Call, Begins, Returns, History, Birth, born_in, line_of, owners_given, births}
use Rattle.object_model.specs.Renaming.{renamed, renamed_call, renamed_args, renamed_argument, AreKnown, KnowsAll, KnowsArgs}
use Rattle.object_model.proofs.Renaming.{first_in-renamed}
use Rattle.replay_model.specs.Past.{Past, Retrieval, history, retrievals, objects_of}
use Rattle.object_model.specs.Keys.{key_payload}
use Rattle.replay_model.specs.ChainPlaces.{seen_past}
use Rattle.layer_model.specs.Ids.{is_wrapped, is_bare, IdMap, IssuedAll, issue_all}
use Rattle.chain_model.specs.Tokens.{issued_with, births_before, number_in, token_in}
use Rattle.chain_model.specs.Mirrored.{entries_from, kept_from, Mirrors, kept_in}
use Rattle.chain_model.proofs.OneByOne.{Asking, AreDecided, AreApart, ArePlaced, AreOnce, AreRetrieved, AsksBorn, key_of, bear, keep_one, births_after, retrievals_after, values_after, offered, numbered}
use Rattle.layer_model.specs.Reading.{read_call, read_results, read_made}
use Rattle.layer_model.specs.Parts.{LifeModel, UseModel, life_leave, use_leave, owner_read, key_read, there, unique_results, unique_leave}
use Rattle.layer_model.specs.Walks.{PartState, Threads, Lifetimes, Unique, has_unique, is_guarded, Left, leave_part, leave_parts}
use Rattle.chain_model.proofs.Owners.{retrieves_plainly}
use Rattle.chain_model.specs.Chained.{form_by, handle_above, StatesMirror, AreForms}
use Rattle.chain_model.proofs.Passing.{AreTyped, creates, owners_by, asking_by, births_then, retrievals_then, HaveMade, is_made, seen_returned, results_above, LeavesWell}
use Rattle.layer_model.proofs.Same.{same_is, same_self}
use Rattle.chain_model.proofs.OneToOne.{one_to_one, number_after}
use Rattle.chain_model.proofs.Issuing.{AllStepped, issue_mirrors, kept_grown, retrieved_one, asks_one}
use Rattle.chain_model.proofs.Reading.{read_form, not_zero}
use Rattle.chain_model.proofs.Walking.{above_unique, above_kinds, guarded_unique, guarded_rest}
use Rattle.chain_model.proofs.Borne.{values_final, born_not_made}
use Rattle.layer_model.proofs.Steps.{life_leaves, use_leaves}
use Rattle.layer_model.specs.Histories.{LifeMirrors, UseMirrors}

-- ---- tokens of what was born before stay

module _ (known : Object → Bool) (f g : Object → Object) (alike : (o : Object) → known o ≡ true → g o ≡ f o) where
  list_alike : (xs : List Argument) → AreKnown known (filter_map object_of xs) → map (renamed_argument g) xs ≡ map (renamed_argument f) xs
  list_alike [] ks = refl
  list_alike (Null ∷ xs) ks = ap (λ ys. Null ∷ ys) (list_alike xs ks)
  list_alike (Unborn ∷ xs) ks = ap (λ ys. Unborn ∷ ys) (list_alike xs ks)
  list_alike (The o ∷ xs) ks = ap (λ x. The x ∷ map (renamed_argument g) xs) (alike o ks.0) ∙ ap (λ ys. The (f o) ∷ ys) (list_alike xs ks.1)

  pub args_alike : (args : List (List Argument)) → KnowsArgs known args → renamed_args g args ≡ renamed_args f args
  args_alike [] ks = refl
  args_alike (xs ∷ args) ks = ap (λ y. y ∷ renamed_args g args) (list_alike xs ks.0) ∙ ap (λ ys. map (renamed_argument f) xs ∷ ys) (args_alike args ks.1)

  objects_alike : (os : List Object) → AreKnown known os → map g os ≡ map f os
  objects_alike [] ks = refl
  objects_alike (o ∷ os) ks = ap (λ x. x ∷ map g os) (alike o ks.0) ∙ ap (λ xs. f o ∷ xs) (objects_alike os ks.1)

  pub renamed_alike : (h : History) → KnowsAll known h → renamed g h ≡ renamed f h
  renamed_alike [] ks = refl
  renamed_alike (Begins c skipped ∷ h) ks =
      ap (λ args. Begins (record c { args = args }) skipped ∷ renamed g h) (args_alike c.args ks.0) ∙ ap (λ hs. Begins (renamed_call f c) skipped ∷ hs) (renamed_alike h ks.1)
  renamed_alike (Returns c made ∷ h) ks =
      ap (λ args. Returns (record c { args = args }) (map g made) ∷ renamed g h) (args_alike c.args ks.0)
      ∙ (ap (λ os. Returns (renamed_call f c) os ∷ renamed g h) (objects_alike made ks.1) ∙ ap (λ hs. Returns (renamed_call f c) (map f made) ∷ hs) (renamed_alike h ks.2))

-- ---- results

lost_none : {X : Type 0} (t : ObjectType) (lost : List X) → read_results t (map (λ _. 0) lost) ≡ []
lost_none t [] = refl
lost_none t (x ∷ lost) = lost_none t lost

-- the results that are read are the tokens of what was made
results_read : {X : Type 0} (bs : List Birth) (t : ObjectType) (lost : List X) (made : List Born) → AllByRecursion (λ b. b.object.ty ≡ t) made
    → read_results t (map (λ b. number_in bs b.object) made ++ map (λ _. 0) lost) ≡ map (token_in bs) (objects_of made)
results_read bs t lost [] all = lost_none t lost
results_read bs t lost (b ∷ made) all =
    rw (not_zero (births_before (issued_with b.object.ty) bs b.object))
    (ap (λ u. record { ty = u; number = number_in bs b.object } ∷ read_results t (map (λ x. number_in bs x.object) made ++ map (λ _. 0) lost)) (sym all.0)
    ∙ ap (λ xs. token_in bs b.object ∷ xs) (results_read bs t lost made all.1))

-- which results aren't lost
lost_there : {X : Type 0} (lost : List X) → map there (map (λ _. 0) lost) ≡ map (λ _. None) lost
lost_there [] = refl
lost_there (x ∷ lost) = ap (λ xs. None ∷ xs) (lost_there lost)

all_there : {X : Type 0} (val : Born → ℕ) (lost : List X) (made : List Born) → AllByRecursion (λ b. (val b == 0) ≡ false) made → map there (map val made ++ map (λ _. 0) lost) ≡ offered val made lost
all_there val lost [] all = lost_there lost
all_there val lost (b ∷ made) all = rw all.0 (ap (λ xs. Some (val b) ∷ xs) (all_there val lost made all.1))

-- entries speak of born objects of their types alone
pub entries_cong : {V : Type 0} (issues : ObjectType → Bool) (f g : Object → V) (all bs : List Birth) (n : ℕ) → ((o : Object) → issues o.ty ≡ true → born_in all o ≡ true → f o ≡ g o) → AllByRecursion (λ b. born_in all b.object ≡ true) bs
    → entries_from issues f n bs ≡ entries_from issues g n bs
entries_cong issues f g all [] n alike ks = refl
entries_cong {V = V} issues f g all (b ∷ bs) n alike ks = go (entries_cong issues f g all bs (suc n) alike ks.1) (entries_cong issues f g all bs n alike ks.1) (issues b.object.ty) refl
  where
    go : entries_from issues f (suc n) bs ≡ entries_from issues g (suc n) bs → entries_from issues f n bs ≡ entries_from issues g n bs → (u : Bool) → issues b.object.ty ≡ u
        → cond u (record { ty = b.object.ty; id = n; values = f b.object } ∷ entries_from issues f (suc n) bs) (entries_from issues f n bs)
        ≡ cond u (record { ty = b.object.ty; id = n; values = g b.object } ∷ entries_from issues g (suc n) bs) (entries_from issues g n bs)
    go ih jh true e = ap (λ v. record { ty = b.object.ty; id = n; values = v } ∷ entries_from issues f (suc n) bs) (alike b.object e ks.0) ∙ ap (λ xs. record { ty = b.object.ty; id = n; values = g b.object } ∷ xs) ih
    go ih jh false e = jh

-- a list's own objects are born in it
pub all_born : (before bs : List Birth) → AllByRecursion (λ b. born_in (before ++ bs) b.object ≡ true) bs
all_born before [] = tt
all_born before (b ∷ bs) = (in_middle before b bs, subst (λ xs. AllByRecursion (λ x. born_in xs x.object ≡ true) bs) (middle before b bs) (all_born (before ++ b ∷ []) bs))
  where
    middle : (xs : List Birth) (x : Birth) (ys : List Birth) → (xs ++ x ∷ []) ++ ys ≡ xs ++ x ∷ ys
    middle [] x ys = refl
    middle (z ∷ xs) x ys = ap (λ zs. z ∷ zs) (middle xs x ys)

    or_true : (t : Bool) → (t || true) ≡ true
    or_true true = refl
    or_true false = refl

    in_middle : (xs : List Birth) (x : Birth) (ys : List Birth) → born_in (xs ++ x ∷ ys) x.object ≡ true
    in_middle [] x ys = ap (λ t. t || born_in ys x.object) (same_self x.object)
    in_middle (z ∷ xs) x ys = ap (λ t. same z.object x.object || t) (in_middle xs x ys) ∙ or_true (same z.object x.object)

-- ---- results of a type for which a part issues no ids

-- births of such objects give no entries
entries_unissued : {V : Type 0} (issues : ObjectType → Bool) (f : Object → V) (n : ℕ) (bs : List Birth) (b : Birth) → issues b.object.ty ≡ false → entries_from issues f n (bs ++ b ∷ []) ≡ entries_from issues f n bs
entries_unissued issues f n [] b e = rw e refl
entries_unissued issues f n (x ∷ bs) b e = rw (entries_unissued issues f (suc n) bs b e, entries_unissued issues f n bs b e) refl

kept_unissued : (issues : ObjectType → Bool) (bs : List Birth) (rs : List Retrieval) (r : Retrieval) → issues r.object.ty ≡ false → kept_from issues bs (rs ++ r ∷ []) ≡ kept_from issues bs rs
kept_unissued issues bs [] r e = rw e refl
kept_unissued issues bs (x ∷ rs) r e = go (issues x.object.ty) (kept_unissued issues bs rs r e)
  where
    go : (u : Bool) → kept_from issues bs (rs ++ r ∷ []) ≡ kept_from issues bs rs
        → map (kept_in bs) (cond u (x ∷ filter (λ y. issues y.object.ty) (rs ++ r ∷ [])) (filter (λ y. issues y.object.ty) (rs ++ r ∷ [])))
        ≡ map (kept_in bs) (cond u (x ∷ filter (λ y. issues y.object.ty) rs) (filter (λ y. issues y.object.ty) rs))
    go true ih = ap (λ xs. kept_in bs x ∷ xs) ih
    go false ih = ih

unissued_one : {V : Type 0} (issues : ObjectType → Bool) (f : Object → V) (created : Bool) (owners : List Object) (q : Option Asking) (bs : List Birth) (rs : List Retrieval) (m : IdMap V) (b : Born) → issues b.object.ty ≡ false → Mirrors V issues f bs rs m → AreRetrieved bs rs
    → Mirrors V issues f (bear created owners bs b.object) (keep_one q bs rs b) m
unissued_one issues f created owners q bs rs m b not s all = record {
  entries = s.entries ∙ sym (entries (born_in bs b.object));
  kept = s.kept ∙ sym (kept (born_in bs b.object) refl q);
}
  where
    w : Birth
    w = record { object = b.object; created = created; owners = owners }

    entries : (u : Bool) → entries_from issues f 1 (cond u bs (bs ++ record { object = b.object; created = created; owners = owners } ∷ [])) ≡ entries_from issues f 1 bs
    entries true = refl
    entries false = entries_unissued issues f 1 bs (record { object = b.object; created = created; owners = owners }) not

    kept : (u : Bool) → born_in bs b.object ≡ u → (p : Option Asking) → kept_from issues (cond u bs (bs ++ record { object = b.object; created = created; owners = owners } ∷ [])) (keep_one p bs rs b) ≡ kept_from issues bs rs
    kept true e None = refl
    kept true e (Some p) = rw e refl
    kept false e None = kept_grown issues bs (record { object = b.object; created = created; owners = owners } ∷ []) rs all
    kept false e (Some p) =
        rw e (kept_unissued issues (bs ++ record { object = b.object; created = created; owners = owners } ∷ []) rs (record { owner = p.owner; place = b.place; payload = p.payload; object = b.object }) not
        ∙ kept_grown issues bs (record { object = b.object; created = created; owners = owners } ∷ []) rs all)

-- a part for whose types nothing was made keeps what it kept
pub unissued_mirrors : {V : Type 0} (issues : ObjectType → Bool) (f : Object → V) (created : Bool) (owners : List Object) (q : Option Asking) (made : List Born) (bs : List Birth) (rs : List Retrieval) (m : IdMap V)
    → AllByRecursion (λ b. issues b.object.ty ≡ false) made → Mirrors V issues f bs rs m → AreRetrieved bs rs → AsksBorn bs q → Mirrors V issues f (births_after created owners bs made) (retrievals_after created owners q bs rs made) m
unissued_mirrors issues f created owners q [] bs rs m not s all asks = s
unissued_mirrors issues f created owners q (b ∷ made) bs rs m not s all asks =
    unissued_mirrors issues f created owners q made (bear created owners bs b.object) (keep_one q bs rs b) m not.1 (unissued_one issues f created owners q bs rs m b not.0 s all) (retrieved_one created owners q bs rs b all asks) (asks_one created owners bs b.object q asks)

-- ---- what a call retrieves by

owner_is : (bs : List Birth) (args : List (List Argument)) (o : OwnerOf) (t : ObjectType) (many : Bool) → retrieves_plainly (eff.Retrieve t o many) ≡ true
    → owner_read (renamed_args (token_in bs) args) o ≡ option_map (token_in bs) (slice_get (owners_given bs args o) 0)
owner_is bs args of.Nobody t many plain = refl
owner_is bs args (of.Param p) t many plain = first_in-renamed (born_in bs) (token_in bs) (one_to_one bs) args p ∙ ap (option_map (token_in bs)) (first (first_in args p))
  where
    first : (x : Option Object) → x ≡ slice_get (line_of bs x) 0
    first None = refl
    first (Some o) = refl
owner_is bs args (of.OwnerOfParam p) t many plain = cc

pub key_is : (bs : List Birth) (c : CommandId) (payload : List ℕ) (args : List (List Argument)) (e : Effect) (t : ObjectType) → retrieves_plainly e ≡ true → type_made e ≡ Some t
    → key_read c payload (renamed_args (token_in bs) args) e ≡ key_of bs (asking_by bs c payload args e) t
key_is bs c payload args (eff.Create u owner many) t plain is = refl
key_is bs c payload args (eff.Retrieve u owner many) t plain is =
    let same_t : u ≡ t = cc in
    ap (λ (o : Option Object). Some (record { owner = o; ty = u; place = 0; payload = key_payload c payload })) (owner_is bs args owner u many plain)
    ∙ ap (λ (v : ObjectType). Some (record { owner = option_map (token_in bs) (slice_get (owners_given bs args owner) 0); ty = v; place = 0; payload = key_payload c payload })) same_t
key_is bs c payload args eff.None t plain is = refl
key_is bs c payload args (eff.Destroy p) t plain is = refl
key_is bs c payload args (eff.Free p) t plain is = refl
key_is bs c payload args (eff.Reset p) t plain is = refl

-- every command that retrieves names its owner plainly
pub plainly : (c : CommandId) → retrieves_plainly (row_of c).effect ≡ true
unfolding row_of
plainly c = search rules

-- the types of what was made
pub types_of : (q : Option Asking) (t : ObjectType) (bs : List Birth) (rs : List Retrieval) (ms : List Born) → AreDecided q t bs rs ms → AllByRecursion (λ b. b.object.ty ≡ t) ms
types_of q t bs rs [] d = tt
types_of q t bs rs (b ∷ ms) d = (d.1, types_of q t bs rs ms d.2)

-- ---- a return

module _ {X : Type 0} (past : Past) (f f2 : Object → ℕ) (c : CallContent) (thread number : ℕ) (args : List (List Argument)) (typed : AreTyped (row_of c.cmd).params args) (knows : KnowsArgs (born_in (births (history past))) args)
    (known_seen : (k : ℕ) → KnowsAll (born_in (births (history past))) (seen_past past k)) (made : List Born) (lost : List X) (once : AreOnce (births (history past))) (are_retrieved : AreRetrieved (births (history past)) (retrievals past))
    (asks : AsksBorn (births (history past)) (asking_by (births (history past)) c.cmd c.payload args (row_of c.cmd).effect)) (are_placed : ArePlaced 0 made) (are_apart : AreApart made)
    (have : HaveMade (births (history past)) (retrievals past) c.cmd c.payload args (type_made (row_of c.cmd).effect) made) (keeps : (o : Object) → is_made made o ≡ false → f2 o ≡ f o)
    (live : AllByRecursion (λ b. is_wrapped b.object.ty ≡ true → (f2 b.object == 0) ≡ false) made) (reach : ℕ → Bool) (unreached : (j : ℕ) → reach j ≡ false → made ≡ []) where
  abbrev now : List Birth
  now = births (history past)

  abbrev kept_now : List Retrieval
  kept_now = retrievals past

  abbrev then_born : List Birth
  then_born = births_then now c.cmd args made

  abbrev then_kept : List Retrieval
  then_kept = retrievals_then now kept_now c.cmd c.payload args made

  abbrev the_call : Call
  the_call = record { number = number; thread = thread; cmd = c.cmd; args = args }

  abbrev in_tokens : Call
  in_tokens = renamed_call (token_in now) the_call

  abbrev form : CallContent
  form = form_by (number_in now) c args

  abbrev Good : ℕ → List PartState → Left → Type 0
  Good k states l = LeavesWell X past f2 then_born then_kept reach the_call made lost k states l

  -- tokens of what was born before stay
  number_stays : (o : Object) → born_in now o ≡ true → number_in then_born o ≡ number_in now o
  number_stays o born = number_after (creates (row_of c.cmd).effect) (owners_by now args (row_of c.cmd).effect) now made o born

  token_stays : (o : Object) → born_in now o ≡ true → token_in then_born o ≡ token_in now o
  token_stays o born = ap (λ n. record { ty = o.ty; number = n }) (number_stays o born)

  seen_stays : (k : ℕ) → renamed (token_in then_born) (seen_past past k) ≡ renamed (token_in now) (seen_past past k)
  seen_stays k = renamed_alike (born_in now) (token_in now) (token_in then_born) token_stays (seen_past past k) (known_seen k)

  -- what a checking part has seen with the return
  seen_then : (k : ℕ) → reach k ≡ true → renamed (token_in then_born) (seen_returned (seen_past past) reach the_call made k) ≡ Returns in_tokens (map (token_in then_born) (objects_of made)) ∷ renamed (token_in now) (seen_past past k)
  seen_then k e =
      rw e (ap (λ as0. Returns (record the_call { args = as0 }) (map (token_in then_born) (objects_of made)) ∷ renamed (token_in then_born) (seen_past past k)) (args_alike (born_in now) (token_in now) (token_in then_born) token_stays args knows)
      ∙ ap (λ h. Returns in_tokens (map (token_in then_born) (objects_of made)) ∷ h) (seen_stays k))

  -- what a checking part reads of the results
  reads_made : (states : List PartState) → has_unique states ≡ true → read_made (type_made (row_of c.cmd).effect) (results_above states then_born f2 made lost) ≡ map (token_in then_born) (objects_of made)
  reads_made states u =
      ap (λ (g : Object → ℕ). read_made (type_made (row_of c.cmd).effect) (map (λ b. g b.object) made ++ map (λ _. 0) lost)) (above_unique states then_born f2 u) ∙ go (type_made (row_of c.cmd).effect) have
    where
      go : (mt : Option ObjectType) → HaveMade now kept_now c.cmd c.payload args mt made → read_made mt (map (λ b. number_in then_born b.object) made ++ map (λ _. 0) lost) ≡ map (token_in then_born) (objects_of made)
      go None none = ap (λ (ms : List Born). map (token_in then_born) (objects_of ms)) (sym none)
      go (Some t) d = results_read then_born t lost made (types_of (asking_by now c.cmd c.payload args (row_of c.cmd).effect) t now kept_now made d)

  -- ---- a unique part

  -- objects that weren't made have the handle that they had
  handle_stays : (states : List PartState) (o : Object) → is_made made o ≡ false → born_in then_born o ≡ true → handle_above states now f o ≡ handle_above states then_born f2 o
  handle_stays states o other born =
      let was : born_in now o ≡ true = sym (born_not_made (creates (row_of c.cmd).effect) (owners_by now args (row_of c.cmd).effect) now made o other) ∙ born in
      ap (λ n. cond (has_unique states) n (cond (is_wrapped o.ty) (f o) n)) (sym (number_stays o was))
      ∙ ap (λ n. cond (has_unique states) (number_in then_born o) (cond (is_wrapped o.ty) n (number_in then_born o))) (sym (keeps o other))

  -- what all results of a unique part come to
  record Raised (states : List PartState) (all : IssuedAll ℕ) : Type 0 where
    pub results : all.results ≡ numbered then_born made lost
    pub mirrors : Mirrors ℕ is_wrapped (handle_above states then_born f2) then_born then_kept all.ids

  -- an object of another type isn't among what was made
  other_type : (ms : List Born) → AllByRecursion (λ b. is_wrapped b.object.ty ≡ false) ms → (o : Object) → is_wrapped o.ty ≡ true → is_made ms o ≡ false
  other_type [] all o w = refl
  other_type (b ∷ ms) all o w = go (same b.object o) refl (other_type ms all.1 o w)
    where
      go : (u : Bool) → same b.object o ≡ u → is_made ms o ≡ false → (u || is_made ms o) ≡ false
      go true e rest = let k : is_wrapped b.object.ty ≡ true = ap (λ (x : Object). is_wrapped x.ty) (same_is b.object o e) ∙ w in let n : is_wrapped b.object.ty ≡ false = all.0 in cc
      go false e rest = rest

  -- bare results stay as they are
  bare_results : (states : List PartState) (ms : List Born) → AllByRecursion (λ b. is_wrapped b.object.ty ≡ false) ms
      → map (λ b. handle_above states then_born f2 b.object) ms ++ map (λ _. 0) lost ≡ numbered then_born ms lost
  bare_results states [] all = refl
  bare_results states (b ∷ ms) all =
      ap (λ x. x ∷ map (λ b. handle_above states then_born f2 b.object) ms ++ map (λ _. 0) lost) (bare (has_unique states)) ∙ ap (λ xs. number_in then_born b.object ∷ xs) (bare_results states ms all.1)
    where
      bare : (u : Bool) → cond u (number_in then_born b.object) (cond (is_wrapped b.object.ty) (f2 b.object) (number_in then_born b.object)) ≡ number_in then_born b.object
      bare true = refl
      bare false = rw all.0 refl

  raised_bare : (states : List PartState) (m : IdMap ℕ) → AllByRecursion (λ b. is_wrapped b.object.ty ≡ false) made → Mirrors ℕ is_wrapped (handle_above states now f) now kept_now m
      → Raised states (record { results = results_above states then_born f2 made lost; ids = m })
  raised_bare states m bare s =
      let kept : Mirrors ℕ is_wrapped (handle_above states now f) then_born then_kept m = unissued_mirrors is_wrapped (handle_above states now f) (creates (row_of c.cmd).effect) (owners_by now args (row_of c.cmd).effect)
      (asking_by now c.cmd c.payload args (row_of c.cmd).effect) made now kept_now m bare s are_retrieved asks in
      record {
        results = bare_results states made bare;
        mirrors = record {
          entries = kept.entries
              ∙ entries_cong is_wrapped (handle_above states now f) (handle_above states then_born f2) then_born then_born 1 (λ o w b. handle_stays states o (other_type made bare o w) b) (all_born [] then_born);
          kept = kept.kept;
        };
      }

  -- handles of what was made aren't 0
  handle_live : (states : List PartState) (t : ObjectType) → is_wrapped t ≡ true → (ms : List Born) → AllByRecursion (λ b. b.object.ty ≡ t) ms → AllByRecursion (λ b. is_wrapped b.object.ty ≡ true → (f2 b.object == 0) ≡ false) ms
      → AllByRecursion (λ b. (handle_above states then_born f2 b.object == 0) ≡ false) ms
  handle_live states t w [] ts ls = tt
  handle_live states t w (b ∷ ms) ts ls = (one (has_unique states), handle_live states t w ms ts.1 ls.1)
    where
      mine : is_wrapped b.object.ty ≡ true
      mine = ap is_wrapped ts.0 ∙ w

      one : (u : Bool) → (cond u (number_in then_born b.object) (cond (is_wrapped b.object.ty) (f2 b.object) (number_in then_born b.object)) == 0) ≡ false
      one true = not_zero (births_before (issued_with b.object.ty) then_born b.object)
      one false = rw mine (ls.0 mine)

  raised_wrapped : (states : List PartState) (m : IdMap ℕ) (t : ObjectType) → is_wrapped t ≡ true → AreDecided (asking_by now c.cmd c.payload args (row_of c.cmd).effect) t now kept_now made → Mirrors ℕ is_wrapped (handle_above states now f) now kept_now m
      → Raised states (issue_all m (key_of now (asking_by now c.cmd c.payload args (row_of c.cmd).effect) t) t 0 (map there (results_above states then_born f2 made lost)))
  raised_wrapped states m t w decided s =
      let val : Born → ℕ = λ (b : Born). handle_above states then_born f2 b.object in
      let q : Option Asking = asking_by now c.cmd c.payload args (row_of c.cmd).effect in
      let issues : issued_with t ≡ is_wrapped = ap (λ u. cond u is_wrapped is_bare) w in
      let ts : AllByRecursion (λ b. b.object.ty ≡ t) made = types_of q t now kept_now made decided in
      let start : Mirrors ℕ (issued_with t) (handle_above states now f) now kept_now m = subst (λ (i : ObjectType → Bool). Mirrors ℕ i (handle_above states now f) now kept_now m) (sym issues) s in
      let all : AllStepped ℕ X t (values_after val (handle_above states now f) made) then_born then_kept made lost (issue_all m (key_of now q t) t 0 (offered val made lost)) =
      issue_mirrors t (creates (row_of c.cmd).effect) (owners_by now args (row_of c.cmd).effect) q val lost made 0 (handle_above states now f) now kept_now m start once are_retrieved asks are_placed are_apart decided in
      let done : Mirrors ℕ is_wrapped (values_after val (handle_above states now f) made) then_born then_kept (issue_all m (key_of now q t) t 0 (offered val made lost)).ids =
      subst (λ (i : ObjectType → Bool). Mirrors ℕ i (values_after val (handle_above states now f) made) then_born then_kept (issue_all m (key_of now q t) t 0 (offered val made lost)).ids) issues all.mirrors in
      subst (λ vs. Raised states (issue_all m (key_of now q t) t 0 vs)) (sym (all_there val lost made (handle_live states t w made ts live)))
      (record {
        results = all.results;
        mirrors = record {
          entries = done.entries
              ∙ entries_cong is_wrapped (values_after val (handle_above states now f) made) (handle_above states then_born f2) then_born then_born 1
              (λ o i b. values_final val (handle_above states then_born f2) made (own_values made) (handle_above states now f) o (λ e. handle_stays states o e b)) (all_born [] then_born);
          kept = done.kept;
        };
      })
    where
      own_values : (ms : List Born) → AllByRecursion (λ b. handle_above states then_born f2 b.object ≡ handle_above states then_born f2 b.object) ms
      own_values [] = tt
      own_values (b ∷ ms) = (refl, own_values ms)

  raised : (states : List PartState) (m : IdMap ℕ) → Mirrors ℕ is_wrapped (handle_above states now f) now kept_now m → Raised states (unique_leave m form (results_above states then_born f2 made lost))
  raised states m s =
      subst (λ as0. Raised states (unique_results m (key_read c.cmd c.payload as0 (row_of c.cmd).effect) (type_made (row_of c.cmd).effect) (results_above states then_born f2 made lost))) (sym (read_form now (row_of c.cmd).params args typed))
      (go (type_made (row_of c.cmd).effect) refl have)
    where
      none_bare : made ≡ [] → AllByRecursion (λ b. is_wrapped b.object.ty ≡ false) made
      none_bare e = subst (λ ms. AllByRecursion (λ b. is_wrapped b.object.ty ≡ false) ms) (sym e) tt

      all_bare : (t : ObjectType) → is_wrapped t ≡ false → (ms : List Born) → AllByRecursion (λ b. b.object.ty ≡ t) ms → AllByRecursion (λ b. is_wrapped b.object.ty ≡ false) ms
      all_bare t w [] ts = tt
      all_bare t w (b ∷ ms) ts = (ap is_wrapped ts.0 ∙ w, all_bare t w ms ts.1)

      by_type : (t : ObjectType) → type_made (row_of c.cmd).effect ≡ Some t → AreDecided (asking_by now c.cmd c.payload args (row_of c.cmd).effect) t now kept_now made → (u : Bool) → is_wrapped t ≡ u
          → Raised states (cond u (issue_all m (key_read c.cmd c.payload (renamed_args (token_in now) args) (row_of c.cmd).effect) t 0 (map there (results_above states then_born f2 made lost))) (record { results = results_above states then_born f2 made lost; ids = m }))
      by_type t is d true w =
          subst (λ k. Raised states (issue_all m k t 0 (map there (results_above states then_born f2 made lost)))) (sym (key_is now c.cmd c.payload args (row_of c.cmd).effect t (plainly c.cmd) is)) (raised_wrapped states m t w d s)
      by_type t is d false w = raised_bare states m (all_bare t w made (types_of (asking_by now c.cmd c.payload args (row_of c.cmd).effect) t now kept_now made d)) s

      go : (mt : Option ObjectType) → type_made (row_of c.cmd).effect ≡ mt → HaveMade now kept_now c.cmd c.payload args mt made
          → Raised states (unique_results m (key_read c.cmd c.payload (renamed_args (token_in now) args) (row_of c.cmd).effect) mt (results_above states then_born f2 made lost))
      go None is d = raised_bare states m (none_bare d) s
      go (Some t) is d = by_type t is d (is_wrapped t) refl

  -- ---- the parts

  -- a part that the call didn't reach keeps what it kept
  unreached_mirror : (k : ℕ) (states : List PartState) → AreForms reach form k states [] → StatesMirror now kept_now f (seen_past past) k states → StatesMirror now kept_now f (seen_returned (seen_past past) reach the_call made) k states
  unreached_mirror k [] forms s = tt
  unreached_mirror k (Threads m ∷ states) forms s =
      (subst (λ h. UseMirrors (renamed (token_in now) h) m) (sym (ap (λ (t : Bool). cond t (Returns the_call (objects_of made) ∷ seen_past past k) (seen_past past k)) forms.0)) s.0, unreached_mirror (k + 1) states forms.1 s.1)
  unreached_mirror k (Lifetimes m ∷ states) forms s =
      (subst (λ h. LifeMirrors (renamed (token_in now) h) m) (sym (ap (λ (t : Bool). cond t (Returns the_call (objects_of made) ∷ seen_past past k) (seen_past past k)) forms.0)) s.0, unreached_mirror (k + 1) states forms.1 s.1)
  unreached_mirror k (Unique m ∷ states) forms s = (s.0, unreached_mirror (k + 1) states forms.1 s.1)

  stays_still : (k : ℕ) (states : List PartState) → made ≡ [] → StatesMirror now kept_now f (seen_returned (seen_past past) reach the_call made) k states → StatesMirror then_born then_kept f2 (seen_returned (seen_past past) reach the_call made) k states
  stays_still k states none s =
      let a : then_born ≡ now = ap (λ ms. births_then now c.cmd args ms) none in
      let b : then_kept ≡ kept_now = ap (λ ms. retrievals_then now kept_now c.cmd c.payload args ms) none in
      let g : f2 ≡ f = λ i o. keeps o (ap (λ ms. is_made ms o) none) i in
      subst (λ bs. StatesMirror bs then_kept f2 (seen_returned (seen_past past) reach the_call made) k states) (sym a)
      (subst (λ rs. StatesMirror now rs f2 (seen_returned (seen_past past) reach the_call made) k states) (sym b)
      (subst (λ (h : Object → ℕ). StatesMirror now kept_now h (seen_returned (seen_past past) reach the_call made) k states) (sym g) s))

  leaves_none : (k : ℕ) (p : PartState) (states : List PartState) → made ≡ [] → AreForms reach form k (p ∷ states) [] → StatesMirror now kept_now f (seen_past past) k (p ∷ states)
      → Good k (p ∷ states) (record { states = p ∷ states; results = results_above [] then_born f2 made lost })
  leaves_none k p states none forms s = record {
    mirror = stays_still k (p ∷ states) none (unreached_mirror k (p ∷ states) forms s);
    kinds = refl;
    results = ap (λ ms. map (λ b. handle_above [] then_born f2 b.object) ms ++ map (λ _. 0) lost) none ∙ sym (ap (λ ms. map (λ b. handle_above (p ∷ states) then_born f2 b.object) ms ++ map (λ _. 0) lost) none);
  }

  leaves_threads : (k : ℕ) (m : UseModel) (states : List PartState) (l : Left) → has_unique states ≡ true → reach k ≡ true → UseMirrors (renamed (token_in now) (seen_past past k)) m → Good (k + 1) states l → Good k (Threads m ∷ states) (leave_part thread (Threads m) form l)
  leaves_threads k m states l u e s rest =
      let results : read_made (type_made (row_of c.cmd).effect) l.results ≡ map (token_in then_born) (objects_of made) = ap (λ hs. read_made (type_made (row_of c.cmd).effect) hs) rest.results ∙ reads_made states u in
      let done : UseMirrors (Returns in_tokens (map (token_in then_born) (objects_of made)) ∷ renamed (token_in now) (seen_past past k)) (use_leave m thread c.cmd (read_call form) (read_made (type_made (row_of c.cmd).effect) l.results)) =
      subst (λ as0. UseMirrors (Returns in_tokens (map (token_in then_born) (objects_of made)) ∷ renamed (token_in now) (seen_past past k)) (use_leave m thread c.cmd as0 (read_made (type_made (row_of c.cmd).effect) l.results))) (sym (read_form now (row_of c.cmd).params args typed))
      (subst (λ os. UseMirrors (Returns in_tokens (map (token_in then_born) (objects_of made)) ∷ renamed (token_in now) (seen_past past k)) (use_leave m thread c.cmd (renamed_args (token_in now) args) os)) (sym results)
      (use_leaves (renamed (token_in now) (seen_past past k)) m in_tokens (map (token_in then_born) (objects_of made)) s)) in
      record {
        mirror = (subst (λ h. UseMirrors h (use_leave m thread c.cmd (read_call form) (read_made (type_made (row_of c.cmd).effect) l.results))) (sym (seen_then k e)) done, rest.mirror);
        kinds = ap (λ ks. part.Threads ∷ ks) rest.kinds;
        results = rest.results;
      }

  leaves_life : (k : ℕ) (m : LifeModel) (states : List PartState) (l : Left) → has_unique states ≡ true → reach k ≡ true → LifeMirrors (renamed (token_in now) (seen_past past k)) m → Good (k + 1) states l → Good k (Lifetimes m ∷ states) (leave_part thread (Lifetimes m) form l)
  leaves_life k m states l u e s rest =
      let results : read_made (type_made (row_of c.cmd).effect) l.results ≡ map (token_in then_born) (objects_of made) = ap (λ hs. read_made (type_made (row_of c.cmd).effect) hs) rest.results ∙ reads_made states u in
      let done : LifeMirrors (Returns in_tokens (map (token_in then_born) (objects_of made)) ∷ renamed (token_in now) (seen_past past k)) (life_leave m c.cmd (read_call form) (read_made (type_made (row_of c.cmd).effect) l.results)) =
      subst (λ as0. LifeMirrors (Returns in_tokens (map (token_in then_born) (objects_of made)) ∷ renamed (token_in now) (seen_past past k)) (life_leave m c.cmd as0 (read_made (type_made (row_of c.cmd).effect) l.results))) (sym (read_form now (row_of c.cmd).params args typed))
      (subst (λ os. LifeMirrors (Returns in_tokens (map (token_in then_born) (objects_of made)) ∷ renamed (token_in now) (seen_past past k)) (life_leave m c.cmd (renamed_args (token_in now) args) os)) (sym results)
      (life_leaves (renamed (token_in now) (seen_past past k)) m in_tokens (map (token_in then_born) (objects_of made)) s)) in
      record {
        mirror = (subst (λ h. LifeMirrors h (life_leave m c.cmd (read_call form) (read_made (type_made (row_of c.cmd).effect) l.results))) (sym (seen_then k e)) done, rest.mirror);
        kinds = ap (λ ks. part.Lifetimes ∷ ks) rest.kinds;
        results = rest.results;
      }

  leaves_unique : (k : ℕ) (m : IdMap ℕ) (states : List PartState) (l : Left) → Mirrors ℕ is_wrapped (handle_above states now f) now kept_now m → Good (k + 1) states l → Good k (Unique m ∷ states) (leave_part thread (Unique m) form l)
  leaves_unique k m states l s rest =
      let up : Raised states (unique_leave m form l.results) = subst (λ hs. Raised states (unique_leave m form hs)) (sym rest.results) (raised states m s) in
      record {
        mirror = (subst (λ (x : Object → ℕ). Mirrors ℕ is_wrapped x then_born then_kept (unique_leave m form l.results).ids) (sym (above_kinds l.states states then_born f2 rest.kinds)) up.mirrors, rest.mirror);
        kinds = ap (λ ks. part.Unique ∷ ks) rest.kinds;
        results = up.results;
      }

  -- all parts
  pub leaves : (k : ℕ) (states : List PartState) (forms : List CallContent) → is_guarded states ≡ true → StatesMirror now kept_now f (seen_past past) k states → AreForms reach form k states forms
      → Good k states (leave_parts thread states forms (results_above [] then_born f2 made lost))
  leaves k [] [] guard s forms = record { mirror = tt; kinds = refl; results = refl }
  leaves k [] (x ∷ forms) guard s good = absurd good
  leaves k (p ∷ states) [] guard s forms = leaves_none k p states (unreached k forms.0) forms s
  leaves k (Threads m ∷ states) (x ∷ forms) guard s good =
      subst (λ y. Good k (Threads m ∷ states) (leave_part thread (Threads m) y (leave_parts thread states forms (results_above [] then_born f2 made lost)))) (sym good.1)
      (leaves_threads k m states (leave_parts thread states forms (results_above [] then_born f2 made lost)) (guarded_unique (Threads m) states guard) good.0 s.0 (leaves (k + 1) states forms (guarded_rest (Threads m) states guard) s.1 good.2))
  leaves k (Lifetimes m ∷ states) (x ∷ forms) guard s good =
      subst (λ y. Good k (Lifetimes m ∷ states) (leave_part thread (Lifetimes m) y (leave_parts thread states forms (results_above [] then_born f2 made lost)))) (sym good.1)
      (leaves_life k m states (leave_parts thread states forms (results_above [] then_born f2 made lost)) (guarded_unique (Lifetimes m) states guard) good.0 s.0 (leaves (k + 1) states forms (guarded_rest (Lifetimes m) states guard) s.1 good.2))
  leaves k (Unique m ∷ states) (x ∷ forms) guard s good =
      subst (λ y. Good k (Unique m ∷ states) (leave_part thread (Unique m) y (leave_parts thread states forms (results_above [] then_born f2 made lost)))) (sym good.1)
      (leaves_unique k m states (leave_parts thread states forms (results_above [] then_born f2 made lost)) s.0 (leaves (k + 1) states forms guard s.1 good.2))
