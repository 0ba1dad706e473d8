-- Where there is room for all that is listed, there is for each part of it.
use Rattle.std.proofs.Common.{◌≡◌, ◌≤◌, ◌∙◌, ℕ, suc, ◌+◌, Bool, cond, true, List, [], ◌∷◌, ◌++◌, length, map, take, drop, reverse, refl, sym, ap, arith, length-append}
use Rattle.std.specs.Prelude.{Some, filter, slice_get}
use Rattle.std.proofs.lemmas.List.{length-reverse, map-append, take-append-drop}
use Rattle.std.proofs.lemmas.List.Elements.{filter-append}
use Rattle.std.proofs.lemmas.Option.{same_Some}
use Rattle.command_tables.specs.declared.types.ObjectType.{ObjectType}
use Rattle.command_tables.specs.declared.types.ObjectType.TheVariants as ty
use Rattle.command_tables.specs.Tests.{same_type}
use Rattle.object_model.specs.declared.Object.{Object}
use Rattle.object_model.specs.History.{Birth}
use Rattle.object_model.specs.Uses.{owned_in}
use Rattle.object_records.specs.declared.record.ObjectRecord.{ObjectRecord}
use Rattle.object_records.specs.Links.{alone_if, owned_of_type}
use Rattle.object_records.specs.Queues.{queue_seen, queues_seen}
use Rattle.object_records.specs.Records.{owned_at}
use Rattle.object_records.specs.Table.{AreOnce, objects_kept}
use Rattle.object_records.proofs.Born.{is_owned, owned_next}
use Rattle.object_records.proofs.Listing.{IsListed, list_parted, living_of}
use Rattle.object_records.proofs.SeenQueues.{seen_at, seen_owned, seen_queue}
use Rattle.object_records.proofs.Walked.{IsWalked, latest}

-- a front with one more is no longer than the whole
front_low : (now front one start all : List Object) (left : List Object) → now ++ reverse left ≡ start ++ reverse all → left ≡ front ++ one → length now + length one ≤ length start + length all
front_low now front one start all left is parts =
    let whole = ap (λ (os : List Object). length os) is in
    let was = length-append now (reverse left) in
    let will = length-append start (reverse all) in
    let a = length-reverse left in
    let b = length-reverse all in
    let split = ap (λ (os : List Object). length os) parts ∙ length-append front one in
    omega (arith, whole, was, will, a, b, split)

-- for the object of the record to which a walk came
pub walk_fits : (rs : List ObjectRecord) (t : ObjectType) (place : ℕ) (start now : List Object) (link at : ℕ) (r : ObjectRecord) (room room2 : ℕ) → IsWalked rs t place start now link → link ≡ suc at → slice_get rs at ≡ Some r → room ≤ room2
    → length start + length (owned_of_type rs t place) ≤ room → length now + length (alone_if t r.object) ≤ room2
walk_fits rs t place start now link at r room room2 w is here more low =
    let step = latest rs t place w.left at (sym w.next ∙ is) in
    let same : step.kept ≡ r = same_Some step.kept r (sym step.here ∙ here) in
    let parts = step.owned ∙ ap (λ (y : ObjectRecord). owned_of_type (take at rs) t place ++ alone_if t y.object) same in
    let fits = front_low now (owned_of_type (take at rs) t place) (alone_if t r.object) start (owned_of_type rs t place) (owned_of_type (take w.left rs) t place) w.added parts in
    omega (arith, fits, more, low)

-- for a queue
pub queue_fits : (rs : List ObjectRecord) (place : ℕ) (start now : List Object) (link at : ℕ) (r : ObjectRecord) (room room2 : ℕ) → IsWalked (queues_seen rs) ty.Queue place start now link → link ≡ suc at → slice_get rs at ≡ Some r → room ≤ room2
    → length start + length (owned_of_type rs ty.Queue place) ≤ room → suc (length now) ≤ room2
queue_fits rs place start now link at r room room2 w is here more low =
    let seen : slice_get (queues_seen rs) at ≡ Some (queue_seen r) = seen_at rs at r here in
    let step = latest (queues_seen rs) ty.Queue place w.left at (sym w.next ∙ is) in
    let same : step.kept ≡ queue_seen r = same_Some step.kept (queue_seen r) (sym step.here ∙ seen) in
    let queue : same_type r.object.ty ty.Queue ≡ true = seen_queue r place (ap (λ (y : ObjectRecord). y.owner) (sym same) ∙ step.owner) in
    let one : length (alone_if ty.Queue r.object) ≡ 1 = ap (λ u. length (cond u (r.object ∷ []) [])) queue in
    let all : length (owned_of_type (queues_seen rs) ty.Queue place) ≡ length (owned_of_type rs ty.Queue place) = ap (λ (os : List Object). length os) (seen_owned rs place) in
    let fits = walk_fits (queues_seen rs) ty.Queue place start now link at (queue_seen r) room room2 w is seen more (omega (arith, all, low)) in
    omega (arith, one, fits)

-- for what lives
pub list_fits : (rs : List ObjectRecord) (t : ObjectType) (place : ℕ) (start now : List Object) (link at : ℕ) (r : ObjectRecord) (room room2 : ℕ) → AreOnce (objects_kept rs) → IsListed rs t place start now link → link ≡ suc at → slice_get rs at ≡ Some r
    → room ≤ room2 → length start + length (living_of rs (owned_of_type rs t place)) ≤ room → length now + length (cond r.lives (alone_if t r.object) []) ≤ room2
list_fits rs t place start now link at r room room2 once w is here more low =
    let parts = list_parted rs t place start now link at r once w is here in
    let fits = front_low now (living_of rs (owned_of_type (take at rs) t place)) (cond r.lives (alone_if t r.object) []) start (living_of rs (owned_of_type rs t place)) (living_of rs (owned_of_type (take w.left rs) t place)) w.added parts in
    omega (arith, fits, more, low)

-- ---- from record to record

owned_append : (t : ObjectType) (o : Object) (bs cs : List Birth) → owned_in (bs ++ cs) t o ≡ owned_in bs t o ++ owned_in cs t o
owned_append t o bs cs = ap (λ (xs : List Birth). map (λ (b : Birth). b.object) xs) (filter-append (is_owned t o) bs cs) ∙ map-append (λ (b : Birth). b.object) (filter (is_owned t o) bs) (filter (is_owned t o) cs)

-- what the first so many births own that passes a test, with what the next one adds, is no longer than all of it
pub tested_fits : (test : Object → Bool) (t : ObjectType) (o : Object) (bs : List Birth) (i : ℕ) (start now : List Object) (room room2 : ℕ) → now ≡ start ++ filter test (owned_in (take i bs) t o) → room ≤ room2
    → length start + length (filter test (owned_in bs t o)) ≤ room → length now + length (filter test (owned_at bs t o i)) ≤ room2
tested_fits test t o bs i start now room room2 is more low =
    let was = ap (λ (os : List Object). length os) is ∙ length-append start (filter test (owned_in (take i bs) t o)) in
    let next = ap (λ (os : List Object). length (filter test os)) (owned_next t o bs i) ∙ (ap (λ (os : List Object). length os) (filter-append test (owned_in (take i bs) t o) (owned_at bs t o i)) ∙ length-append (filter test (owned_in (take i bs) t o)) (filter test (owned_at bs t o i))) in
    let whole = ap (λ (cs : List Birth). length (filter test (owned_in cs t o))) (sym (take-append-drop (suc i) bs))
    ∙ (ap (λ (os : List Object). length (filter test os)) (owned_append t o (take (suc i) bs) (drop (suc i) bs))
    ∙ (ap (λ (os : List Object). length os) (filter-append test (owned_in (take (suc i) bs) t o) (owned_in (drop (suc i) bs) t o)) ∙ length-append (filter test (owned_in (take (suc i) bs) t o)) (filter test (owned_in (drop (suc i) bs) t o)))) in
    omega (arith, was, next, whole, more, low)

all_kept : (os : List Object) → filter (λ o. true) os ≡ os
all_kept [] = refl
all_kept (o ∷ os) = ap (λ (xs : List Object). o ∷ xs) (all_kept os)

-- the same with no test
pub owned_fits : (t : ObjectType) (o : Object) (bs : List Birth) (i : ℕ) (start now : List Object) (room room2 : ℕ) → now ≡ start ++ owned_in (take i bs) t o → room ≤ room2 → length start + length (owned_in bs t o) ≤ room → length now + length (owned_at bs t o i) ≤ room2
owned_fits t o bs i start now room room2 is more low =
    let a = ap (λ (os : List Object). length os) (all_kept (owned_at bs t o i)) in
    let b = ap (λ (os : List Object). length os) (all_kept (owned_in bs t o)) in
    let fits = tested_fits (λ x. true) t o bs i start now room room2 (is ∙ ap (λ (os : List Object). start ++ os) (sym (all_kept (owned_in (take i bs) t o)))) more (omega (arith, b, low)) in
    omega (arith, a, fits)
