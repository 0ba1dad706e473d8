-- Tokens that are taken back by owners, whose logs and lists stay.
use Rattle.std.proofs.Common.{◌≡◌, ◌<◌, ℕ, zero, suc, true, Option, Some, None, List, [], ◌∷◌, ◌++◌, length, map, refl, sym, ◌∙◌, ap, subst, is_some, reverse, arith}
use Rattle.std.specs.Prelude.{option_and_then, option_map, slice_get, slice_set}
use Rattle.std.specs.List.{AllByRecursion, AllZip}
use Rattle.std.proofs.lemmas.List.{length-map}
use Rattle.std.proofs.lemmas.Option.{slice_get-map, slice_get_within}
use Rattle.atomic_table.specs.Seated.{TableId}
use Rattle.stream_log.specs.declared.line.Line.{Line}
use Rattle.stream_log.specs.Log.{OwnerView, SeenView}
use Rattle.trace_format.specs.declared.event.Name.{Name}
use Rattle.shard_model.specs.Followed.{Follows}
use Rattle.device_shard.specs.Closing.{IsOwnerOf, IsSeenIn, at_device, lists_of}
use Rattle.device_shard.specs.Shards.{ShardName}
use Rattle.device_shard.proofs.Lists.{one}

-- ---- at a device's place

-- what stands at it says that there is one
pub place_there : {X : Type 0} (xs : List X) (at : Option ℕ) (x : X) → option_and_then (slice_get xs) at ≡ Some x → is_some at ≡ true
place_there xs None x e = cc e
place_there xs (Some k) x e = refl

from_place : {X : Type 0} (xs : List X) (at : Option ℕ) (k : ℕ) (x : X) → option_and_then (slice_get xs) at ≡ Some x → at ≡ Some k → slice_get xs k ≡ Some x
from_place xs at k x e is = sym (ap (option_and_then (slice_get xs)) is) ∙ e

pub to_place : {X : Type 0} (xs : List X) (at : Option ℕ) (k : ℕ) (x : X) → at ≡ Some k → slice_get xs k ≡ Some x → option_and_then (slice_get xs) at ≡ Some x
to_place xs at k x is here = ap (option_and_then (slice_get xs)) is ∙ here

-- what is seen of an owner at a place
pub seen_at : {X : Type 0} (f : OwnerView → X) (owners : List OwnerView) (k : ℕ) (o : OwnerView) → slice_get owners k ≡ Some o → slice_get (map f owners) k ≡ Some (f o)
seen_at f owners k o at = slice_get-map f owners k ∙ ap (option_map f) at

-- a place that has a log has an owner
pub record HasPlace (logs : List TableId) (owners : List OwnerView) (place : ℕ) (log : TableId) : Type 0 where
  pub here : slice_get logs place ≡ Some log
  pub within : place < length logs
  pub inside : place < length owners

pub has_place : (logs : List TableId) (owners : List OwnerView) (at : Option ℕ) (place : ℕ) (log : TableId) → at ≡ Some place → map (λ (o : OwnerView). o.log) owners ≡ logs → option_and_then (slice_get logs) at ≡ Some log → HasPlace logs owners place log
has_place logs owners at place log is same token =
    let here : slice_get logs place ≡ Some log = from_place logs at place log token is in
    let within : place < length logs = slice_get_within logs place log here in
    let mapped = length-map owners (λ (o : OwnerView). o.log) in
    let count = ap (λ (ids : List TableId). length ids) same in
    record { here = here; within = within; inside = omega (arith, within, mapped, count) }

-- the owner at the place of a log is the log's
pub same_log : (owners : List OwnerView) (logs : List TableId) (k : ℕ) (o : OwnerView) (log : TableId) → map (λ (p : OwnerView). p.log) owners ≡ logs → slice_get owners k ≡ Some o → slice_get logs k ≡ Some log → o.log ≡ log
same_log owners logs k o log same at here =
    let there : slice_get logs k ≡ Some o.log = ap (λ (ids : List TableId). slice_get ids k) (sym same) ∙ seen_at (λ (p : OwnerView). p.log) owners k o at in
    one o.log log (sym there ∙ here)

-- an owner that is seen as before
pub kept_set : {X : Type 0} (f : OwnerView → X) (owners : List OwnerView) (k : ℕ) (o p : OwnerView) → slice_get owners k ≡ Some o → f p ≡ f o → map f (slice_set owners k p) ≡ map f owners
kept_set {X} f [] k o p at same = cc at
kept_set {X} f (q ∷ owners) zero o p at same = ap (λ (x : X). x ∷ map f owners) (same ∙ sym (ap f (one q o at)))
kept_set {X} f (q ∷ owners) (suc k) o p at same = ap (λ (xs : List X). f q ∷ xs) (kept_set f owners k o p at same)

-- ---- all tokens

pub all_pushed : {X : Type 0} (P : X → Type 0) (xs : List X) (x : X) → AllByRecursion P xs → P x → AllByRecursion P (xs ++ x ∷ [])
all_pushed P [] x all here = (here, tt)
all_pushed P (y ∷ xs) x all here = (all.0, all_pushed P xs x all.1 here)

-- what tokens have seen, by other names and lists that are the same
pub seen_same : (devices others : List Name) (lists wholes : List (List Line)) (tokens : List (Name × SeenView)) → devices ≡ others → lists ≡ wholes
    → AllByRecursion (λ (t : Name × SeenView). IsSeenIn (at_device devices lists t.0) t.1) tokens → AllByRecursion (λ (t : Name × SeenView). IsSeenIn (at_device others wholes t.0) t.1) tokens
seen_same devices others lists wholes tokens named same all =
    subst (λ (ls : List (List Line)). AllByRecursion (λ (t : Name × SeenView). IsSeenIn (at_device others ls t.0) t.1) tokens) same
    (subst (λ (ds : List Name). AllByRecursion (λ (t : Name × SeenView). IsSeenIn (at_device ds lists t.0) t.1) tokens) named all)

-- the token of a device's log, where these are the devices and the logs
pub tokens_same : (devices others : List Name) (logs ids : List TableId) (tokens : List (Name × SeenView)) → devices ≡ others → logs ≡ ids
    → AllByRecursion (λ (t : Name × SeenView). at_device devices logs t.0 ≡ Some t.1.log) tokens → AllByRecursion (λ (t : Name × SeenView). at_device others ids t.0 ≡ Some t.1.log) tokens
tokens_same devices others logs ids tokens named same all =
    subst (λ (ls : List TableId). AllByRecursion (λ (t : Name × SeenView). at_device others ls t.0 ≡ Some t.1.log) tokens) same
    (subst (λ (ds : List Name). AllByRecursion (λ (t : Name × SeenView). at_device ds logs t.0 ≡ Some t.1.log) tokens) named all)

-- owners with the same logs and lists are owners of the same
pub owners_same : (names : List ShardName) (owners others : List OwnerView) → AllZip IsOwnerOf names owners → map (λ (o : OwnerView). o.log) others ≡ map (λ (o : OwnerView). o.log) owners → lists_of others ≡ lists_of owners → AllZip IsOwnerOf names others
owners_same [] [] [] all logs lists = tt
owners_same [] [] (p ∷ others) all logs lists = cc logs
owners_same [] (o ∷ owners) others all logs lists = absurd all
owners_same (n ∷ names) [] others all logs lists = absurd all
owners_same (n ∷ names) (o ∷ owners) [] all logs lists = cc logs
owners_same (n ∷ names) (o ∷ owners) (p ∷ others) all logs lists =
    let log : p.log ≡ o.log = cc logs in
    let list : p.list ≡ o.list = cc lists in
    let more : map (λ (q : OwnerView). q.log) others ≡ map (λ (q : OwnerView). q.log) owners = cc logs in
    let rest : lists_of others ≡ lists_of owners = cc lists in
    (record { log = log ∙ all.0.log; follows = subst (λ (l : List Line). Follows n.plan.streams (reverse l)) (sym list) all.0.follows }, owners_same names owners others all.1 more rest)

-- they are as many
pub same_count : (owners others : List OwnerView) → lists_of others ≡ lists_of owners → length others ≡ length owners
same_count owners others lists =
    let one = length-map others (λ (o : OwnerView). o.list) in
    let two = length-map owners (λ (o : OwnerView). o.list) in
    let count = ap (λ (ls : List (List Line)). length ls) lists in
    omega (arith, one, two, count)
