-- What is spoken of is born, one event more.
use Rattle.std.proofs.Common.{◌≡◌, ℕ, Bool, true, false, not, cond, ◌&&◌, ◌||◌, Option, Some, None, List, [], ◌∷◌, ◌++◌, map, refl, ◌∙◌, ap, subst}
use Rattle.std.specs.Prelude.{filter, is_some, nat_le, slice_get}
use Rattle.std.specs.List.{AllByRecursion}
use Rattle.std.specs.Option.{option_map_or}
use Rattle.command_tables.specs.declared.types.CommandId.{CommandId}
use Rattle.command_tables.specs.declared.types.OwnerOf.TheVariants as of
use Rattle.command_tables.specs.declared.types.Effect.{Effect}
use Rattle.command_tables.specs.declared.types.Effect.TheVariants as eff
use Rattle.object_model.specs.declared.Object.{Object}
use Rattle.object_model.specs.declared.Argument.{Argument}
use Rattle.replay_model.specs.declared.Born.{Born}
use Rattle.replay_model.specs.declared.Named.{Named}
use Rattle.command_tables.specs.Table.{row_of}
use Rattle.command_tables.specs.Effects.{type_made}
use Rattle.trace_format.specs.Content.{BeginEvent}
use Rattle.object_model.specs.Objects.{first_in}
use Rattle.object_model.specs.History.{Begins, Returns, Birth, born_in, line_of, births_given, births}
use Rattle.object_model.specs.Renaming.{AreKnown, KnowsAll, KnowsArgs}
use Rattle.object_model.proofs.Renaming.{IsKnown, first_in-known}
use Rattle.replay_model.specs.Past.{Opened, Past, Began, Returned, Retrieval, is_of, is_skipped, call_of, objects_of, history, retrievals, open_calls, named, named_of}
use Rattle.object_model.specs.Findings.{Report}
use Rattle.replay_model.specs.ChainPlaces.{seen_past, reaches, stops_at}
use Rattle.replay_model.specs.Judged.{made_of}
use Rattle.replay_model.specs.Setup.{Setup}
use Rattle.chain_model.proofs.OneByOne.{bear, keep_one, Asking, births_after, retrievals_after, AreOnce, AreApart, AreRetrieved, IsBorn, AsksBorn}
use Rattle.chain_model.proofs.Owners.{retrieves_plainly}
use Rattle.chain_model.proofs.Passing.{creates, owners_by, asking_by, births_then, retrievals_then}
use Rattle.chain_model.proofs.OneToOne.{born_grown, born_itself, born_after, once_after}
use Rattle.chain_model.proofs.Issuing.{retrieved_one, asks_one}
use Rattle.chain_model.proofs.Borne.{births_then_is, retrievals_then_is}
use Rattle.chain_model.proofs.Leaving.{plainly}
use Rattle.chain_model.proofs.Sounding.{args_known, history_known, NamesKnown, NoneUnreached}

-- what is spoken of is born, and no object is born twice
pub record IsKnowing (past : Past) : Type 0 where
  pub names : NamesKnown (born_in (births (history past))) (named past)
  pub opens : AllByRecursion (λ o. KnowsArgs (born_in (births (history past))) o.args) (open_calls past)
  pub seen : (k : ℕ) → KnowsAll (born_in (births (history past))) (seen_past past k)
  pub once : AreOnce (births (history past))
  pub retrieved : AreRetrieved (births (history past)) (retrievals past)
  pub unreached : (k : ℕ) → NoneUnreached k past

pub nothing_known : IsKnowing []
nothing_known = record { names = tt; opens = tt; seen = λ k. tt; once = tt; retrieved = tt; unreached = λ k. tt }

opens_more : (known : Object → Bool) (o : Opened) → KnowsArgs known o.args → (os : List Opened) → AllByRecursion (λ x. KnowsArgs known x.args) os → AllByRecursion (λ x. KnowsArgs known x.args) (os ++ o ∷ [])
opens_more known o k [] ks = (k, tt)
opens_more known o k (x ∷ os) ks = (ks.0, opens_more known o k os ks.1)

-- a begin
pub knows_begun : (past : Past) (e : BeginEvent) (o : Opened) (reports : List Report) → IsKnowing past → KnowsArgs (born_in (births (history past))) o.args → IsKnowing (Began e o reports ∷ past)
knows_begun past e o reports s k = record {
  names = s.names;
  opens = opens_more (born_in (births (history past))) o k (open_calls past) s.opens;
  seen = λ j. go j (reaches o j);
  once = s.once;
  retrieved = s.retrieved;
  unreached = s.unreached;
}
  where
    go : (j : ℕ) (u : Bool) → KnowsAll (born_in (births (history past))) (cond u (Begins (call_of o) (stops_at o j) ∷ seen_past past j) (seen_past past j))
    go j true = (k, s.seen j)
    go j false = s.seen j

-- ---- a return

-- all that was made is born
pub made_born : (created : Bool) (owners : List Object) (bs : List Birth) (made : List Born) → AreKnown (born_in (births_after created owners bs made)) (objects_of made)
made_born created owners bs [] = tt
made_born created owners bs (b ∷ made) = (born_after created owners (bear created owners bs b.object) made b.object (born_itself created owners bs b.object), made_born created owners (bear created owners bs b.object) made)

pub retrieved_after : (created : Bool) (owners : List Object) (q : Option Asking) (bs : List Birth) (rs : List Retrieval) (made : List Born) → AreRetrieved bs rs → AsksBorn bs q → AreRetrieved (births_after created owners bs made) (retrievals_after created owners q bs rs made)
retrieved_after created owners q bs rs [] all asks = all
retrieved_after created owners q bs rs (b ∷ made) all asks =
    retrieved_after created owners q (bear created owners bs b.object) (keep_one q bs rs b) made (retrieved_one created owners q bs rs b all asks) (asks_one created owners bs b.object q asks)

-- the owner by which a call retrieves is born
pub asks_born : (bs : List Birth) (c : CommandId) (payload : List ℕ) (args : List (List Argument)) → KnowsArgs (born_in bs) args → AsksBorn bs (asking_by bs c payload args (row_of c).effect)
asks_born bs c payload args ks = go (row_of c).effect (plainly c)
  where
    line : (x : Option Object) → IsKnown (born_in bs) x → IsBorn bs (slice_get (line_of bs x) 0)
    line None k = tt
    line (Some o) k = k

    go : (e : Effect) → retrieves_plainly e ≡ true → AsksBorn bs (asking_by bs c payload args e)
    go (eff.Create t owner many) p = tt
    go (eff.Retrieve t of.Nobody many) p = tt
    go (eff.Retrieve t (of.Param x) many) p = line (first_in args x) (first_in-known (born_in bs) (λ o. o) (record { type_kept = λ o. refl; same_kept = λ a b ka kb. refl }) args ks x)
    go (eff.Retrieve t (of.OwnerOfParam x) many) p = cc p
    go eff.None p = tt
    go (eff.Destroy x) p = tt
    go (eff.Free x) p = tt
    go (eff.Reset x) p = tt

names_more : (known more : Object → Bool) → ((o : Object) → known o ≡ true → more o ≡ true) → (ns : List Named) → NamesKnown known ns → (made : List Born) → AreKnown more (objects_of made) → NamesKnown more (ns ++ map named_of made)
names_more known more grows [] ks [] ms = tt
names_more known more grows [] ks (b ∷ made) ms = (ms.0, names_more known more grows [] tt made ms.1)
names_more known more grows (n ∷ ns) ks made ms = (grows n.object ks.0, names_more known more grows ns ks.1 made ms)

opens_left : (known more : Object → Bool) → ((o : Object) → known o ≡ true → more o ≡ true) → (thread : ℕ) (os : List Opened) → AllByRecursion (λ x. KnowsArgs known x.args) os → AllByRecursion (λ x. KnowsArgs more x.args) (filter (λ x. not (is_of thread x)) os)
opens_left known more grows thread [] ks = tt
opens_left known more grows thread (o ∷ os) ks = go (not (is_of thread o)) (opens_left known more grows thread os ks.1)
  where
    go : (u : Bool) → AllByRecursion (λ x. KnowsArgs more x.args) (filter (λ x. not (is_of thread x)) os) → AllByRecursion (λ x. KnowsArgs more x.args) (cond u (o ∷ filter (λ x. not (is_of thread x)) os) (filter (λ x. not (is_of thread x)) os))
    go true ih = (args_known known more grows o.args ks.0, ih)
    go false ih = ih

pub knows_returned : (past : Past) (o : Opened) (made : List Born) → IsKnowing past → KnowsArgs (born_in (births (history past))) o.args → AreApart made → (type_made (row_of o.cmd).effect ≡ None → made ≡ []) → ((k : ℕ) → reaches o k ≡ false → made ≡ [])
    → IsKnowing (Returned o made ∷ past)
knows_returned past o made s k apart none unreached =
    let bs : List Birth = births (history past) in
    let tb_is : births_then bs o.cmd o.args made ≡ births (history (Returned o made ∷ past)) = births_then_is bs o.cmd o.args made apart none in
    let tk_is : retrievals_then bs (retrievals past) o.cmd o.payload o.args made ≡ retrievals (Returned o made ∷ past) = retrievals_then_is bs (retrievals past) o made apart in
    let grows : (x : Object) → born_in bs x ≡ true → born_in (births (history (Returned o made ∷ past))) x ≡ true = λ (x : Object) (b : born_in bs x ≡ true). born_grown bs (births_given bs o.args (row_of o.cmd).effect (objects_of made)) x b in
    let ms : AreKnown (born_in (births (history (Returned o made ∷ past)))) (objects_of made) =
    subst (λ b. AreKnown (born_in b) (objects_of made)) tb_is (made_born (creates (row_of o.cmd).effect) (owners_by bs o.args (row_of o.cmd).effect) bs made) in
    record {
      names = names_more (born_in bs) (born_in (births (history (Returned o made ∷ past)))) grows (named past) s.names made ms;
      opens = opens_left (born_in bs) (born_in (births (history (Returned o made ∷ past)))) grows o.thread (open_calls past) s.opens;
      seen = λ j. at j (reaches o j) ms (history_known (born_in bs) (born_in (births (history (Returned o made ∷ past)))) grows (seen_past past j) (s.seen j)) (args_known (born_in bs) (born_in (births (history (Returned o made ∷ past)))) grows o.args k);
      once = subst AreOnce tb_is (once_after (creates (row_of o.cmd).effect) (owners_by bs o.args (row_of o.cmd).effect) bs made s.once);
      retrieved = subst (λ b. AreRetrieved b (retrievals (Returned o made ∷ past))) tb_is (subst (λ r. AreRetrieved (births_then bs o.cmd o.args made) r) tk_is
          (retrieved_after (creates (row_of o.cmd).effect) (owners_by bs o.args (row_of o.cmd).effect) (asking_by bs o.cmd o.payload o.args (row_of o.cmd).effect) bs (retrievals past) made s.retrieved (asks_born bs o.cmd o.payload o.args k)));
      unreached = λ j. (unreached j, s.unreached j);
    }
  where
    at : (j : ℕ) (u : Bool) → AreKnown (born_in (births (history (Returned o made ∷ past)))) (objects_of made) → KnowsAll (born_in (births (history (Returned o made ∷ past)))) (seen_past past j) → KnowsArgs (born_in (births (history (Returned o made ∷ past)))) o.args
        → KnowsAll (born_in (births (history (Returned o made ∷ past)))) (cond u (Returns (call_of o) (objects_of made) ∷ seen_past past j) (seen_past past j))
    at j true ms h a = (a, ms, h)
    at j false ms h a = h

-- a call that doesn't reach a place has made nothing
pub unreached_made : (s : Setup) (past : Past) (o : Opened) (k : ℕ) → reaches o k ≡ false → made_of s past o ≡ []
unreached_made s past o k e = go o.refused refl o.stop refl
  where
    skips : is_skipped o ≡ true → made_of s past o ≡ []
    skips h = rw h refl

    go : (r : Bool) → o.refused ≡ r → (st : Option ℕ) → o.stop ≡ st → made_of s past o ≡ []
    go true p st q = skips (ap (λ t. t || is_some o.stop) p)
    go false p None q = let bad : reaches o k ≡ true = ap (λ t. not t && option_map_or (nat_le k) o.stop true) p ∙ ap (λ (t : Option ℕ). option_map_or (nat_le k) t true) q in cc
    go false p (Some j) q = skips (ap (λ t. t || is_some o.stop) p ∙ ap (λ (t : Option ℕ). is_some t) q)
