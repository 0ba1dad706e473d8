-- The owners of a set's logs, one for each lock.
use Rattle.std.proofs.Common.{◌≡◌, ◌≤◌, ◌<◌, ◌+◌, ℕ, zero, suc, Bool, nat_lt, Result, Ok, Err, IfOk, List, [], ◌∷◌, ◌++◌, length, map, take, drop, get_or, refl, sym, ◌∙◌, ap, subst, arith}
use Rattle.std.specs.List.{AllByRecursion, AllZip, range_with_len}
use Rattle.std.proofs.lemmas.List.{length-map, take_all}
use Rattle.stream_log.specs.Log.{OwnerView, RisesFrom}
use Rattle.trace_format.specs.declared.event.Name.{Name}
use Rattle.atomic_table.specs.Seated.{TableId}
use Rattle.device_shard.specs.Closing.{AreHeldFrom, IsClosed, IsOwnerOf, lists_of}
use Rattle.device_shard.specs.Sets.{devices_of, held_of, logs_of}
use Rattle.device_shard.specs.Shards.{OfShard, ShardName}

-- ---- the first so many

next : (k : ℕ) → suc k ≡ k + 1
next k = omega arith

one_more : (names : List ShardName) (k : ℕ) (owners : List OwnerView) (o : OwnerView) → AllZip IsOwnerOf (take k names) owners → k < length names → OfShard names k (λ (n : ShardName). IsOwnerOf n o) → AllZip IsOwnerOf (take (suc k) names) (owners ++ o ∷ [])
one_more [] k owners o before less is = absurd (omega (arith, less))
one_more (n ∷ names) zero [] o before less is = (is n refl, tt)
one_more (n ∷ names) zero (p ∷ owners) o before less is = absurd before
one_more (n ∷ names) (suc k) [] o before less is = absurd before
one_more (n ∷ names) (suc k) (p ∷ owners) o before less is = (before.0, one_more names k owners o before.1 (omega (arith, less)) is)

-- with the next one
pub owners_more : (names : List ShardName) (k : ℕ) (owners : List OwnerView) (o : OwnerView) → AllZip IsOwnerOf (take k names) owners → k < length names → OfShard names k (λ (n : ShardName). IsOwnerOf n o) → AllZip IsOwnerOf (take (k + 1) names) (owners ++ o ∷ [])
owners_more names k owners o before less is = subst (λ (m : ℕ). AllZip IsOwnerOf (take m names) (owners ++ o ∷ [])) (next k) (one_more names k owners o before less is)

-- where there is none, they are all
pub owners_all : (names : List ShardName) (k : ℕ) (owners : List OwnerView) → AllZip IsOwnerOf (take k names) owners → length names ≤ k → AllZip IsOwnerOf (take (k + 1) names) owners
owners_all names k owners before past =
    let longer : length names ≤ k + 1 = omega (arith, past) in
    subst (λ (ns : List ShardName). AllZip IsOwnerOf ns owners) (take_all k names past ∙ sym (take_all (k + 1) names longer)) before

pub owners_whole : (names : List ShardName) (devices : List Name) (owners : List OwnerView) → devices ≡ devices_of names → length devices ≤ 16 → AllZip IsOwnerOf (take 16 names) owners → AllZip IsOwnerOf names owners
owners_whole names devices owners are few all =
    let same : length devices ≡ length names = ap (λ (ds : List Name). length ds) are ∙ length-map names (λ (n : ShardName). n.plan.device) in
    let short : length names ≤ 16 = omega (arith, same, few) in
    subst (λ (ns : List ShardName). AllZip IsOwnerOf ns owners) (take_all 16 names short) all

-- ---- which fields hold a lock

held_from : (names : List ShardName) (k : ℕ) (held : List Bool) → held ≡ map (λ (j : ℕ). nat_lt j (length names)) (range_with_len k (length held)) → AreHeldFrom names k held
held_from names k [] e = tt
held_from names k (b ∷ held) e = (ap (λ (bs : List Bool). get_or bs 0 b) e, held_from names (k + 1) held (ap (λ (bs : List Bool). drop 1 bs) e))

held_before : (names : List ShardName) (k : ℕ) (first rest : List Bool) → AreHeldFrom names k (first ++ rest) → AreHeldFrom names k first
held_before names k [] rest held = tt
held_before names k (b ∷ first) rest held = (held.0, held_before names (k + 1) first rest held.1)

module _ (names : List ShardName) (b0 b1 b2 b3 b4 b5 b6 b7 b8 b9 b10 b11 b12 b13 b14 b15 : Bool) (e : b0 ∷ b1 ∷ b2 ∷ b3 ∷ b4 ∷ b5 ∷ b6 ∷ b7 ∷ b8 ∷ b9 ∷ b10 ∷ b11 ∷ b12 ∷ b13 ∷ b14 ∷ b15 ∷ [] ≡ held_of names) where
  all_held : AreHeldFrom names 0 (b0 ∷ b1 ∷ b2 ∷ b3 ∷ b4 ∷ b5 ∷ b6 ∷ b7 ∷ b8 ∷ b9 ∷ b10 ∷ b11 ∷ b12 ∷ b13 ∷ b14 ∷ b15 ∷ [])
  all_held = held_from names 0 (b0 ∷ b1 ∷ b2 ∷ b3 ∷ b4 ∷ b5 ∷ b6 ∷ b7 ∷ b8 ∷ b9 ∷ b10 ∷ b11 ∷ b12 ∷ b13 ∷ b14 ∷ b15 ∷ []) e

  pub first_held : AreHeldFrom names 0 (b0 ∷ b1 ∷ b2 ∷ b3 ∷ b4 ∷ b5 ∷ b6 ∷ b7 ∷ [])
  first_held = held_before names 0 (b0 ∷ b1 ∷ b2 ∷ b3 ∷ b4 ∷ b5 ∷ b6 ∷ b7 ∷ []) (b8 ∷ b9 ∷ b10 ∷ b11 ∷ b12 ∷ b13 ∷ b14 ∷ b15 ∷ []) all_held

  pub last_held : AreHeldFrom names 8 (b8 ∷ b9 ∷ b10 ∷ b11 ∷ b12 ∷ b13 ∷ b14 ∷ b15 ∷ [])
  last_held = all_held.1.1.1.1.1.1.1.1

-- ---- all of them

pub both_ok : {T E : Type 0} (r : Result T E) (P Q : T → Type 0) → IfOk r P → IfOk r Q → IfOk r (λ (x : T). P x × Q x)
both_ok (Ok x) P Q p q = (p, q)
both_ok (Err e) P Q p q = tt

-- their logs are those of the plans
pub logs_owned : (names : List ShardName) (owners : List OwnerView) → AllZip IsOwnerOf names owners → map (λ (o : OwnerView). o.log) owners ≡ logs_of names
logs_owned [] [] all = refl
logs_owned [] (o ∷ owners) all = absurd all
logs_owned (n ∷ names) [] all = absurd all
logs_owned (n ∷ names) (o ∷ owners) all = ap (λ (id : TableId). id ∷ map (λ (p : OwnerView). p.log) owners) all.0.log ∙ ap (λ (ids : List TableId). n.log ∷ ids) (logs_owned names owners all.1)

-- the lists with which they close follow the plans
pub closed_all : (names : List ShardName) (owners : List OwnerView) → AllZip IsOwnerOf names owners → AllByRecursion (RisesFrom 0) (lists_of owners) → AllZip IsClosed names (lists_of owners)
closed_all [] [] all rises = tt
closed_all [] (o ∷ owners) all rises = absurd all
closed_all (n ∷ names) [] all rises = absurd all
closed_all (n ∷ names) (o ∷ owners) all rises = (record { follows = all.0.follows; rises = rises.0 }, closed_all names owners all.1 rises.1)
