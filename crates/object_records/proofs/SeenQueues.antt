-- The links between the queues of an owner.
use Rattle.std.proofs.Common.{◌≡◌, ◌≤◌, ◌<◌, ◌∙◌, ◌&&◌, ℕ, zero, suc, cond, Bool, true, false, Some, List, [], ◌∷◌, ◌++◌, length, map, get_or, reverse, refl, sym, ap, subst, arith}
use Rattle.std.specs.Prelude.{filter, slice_get}
use Rattle.std.proofs.lemmas.List.{length-map, map-append}
use Rattle.std.proofs.lemmas.Option.{same_Some}
use Rattle.command_tables.specs.declared.types.ObjectType.TheVariants as ty
use Rattle.command_tables.specs.Tests.{same_type}
use Rattle.object_model.specs.declared.Object.{Object}
use Rattle.object_records.specs.declared.kept_owner.KeptOwner.TheVariants.{Nobody, At}
use Rattle.object_records.specs.declared.links.Links.{Links}
use Rattle.object_records.specs.declared.record.ObjectRecord.{ObjectRecord}
use Rattle.object_records.specs.Links.{AreLinked, IsPrevious, is_owned_there, is_owner_at, last_link, owned_of_type, with_linked}
use Rattle.object_records.specs.Queues.{no_links, padded, queue_owner, queue_seen, queues_seen}
use Rattle.object_records.specs.Table.{AreOwnersBefore, before_owned, ended_at}
use Rattle.object_records.proofs.Linking.{added_linked, ended_other, last_read, previous_read}
use Rattle.object_records.proofs.Padding.{padded_read}
use Rattle.object_records.proofs.Walked.{IsWalked, latest, walk_back, walk_ends, walk_goes, walk_within}

-- ---- records as the queues' links see them

pub seen_length : (rs : List ObjectRecord) → length (queues_seen rs) ≡ length rs
seen_length rs = length-map rs queue_seen

pub seen_at : (rs : List ObjectRecord) (at : ℕ) (r : ObjectRecord) → slice_get rs at ≡ Some r → slice_get (queues_seen rs) at ≡ Some (queue_seen r)
seen_at [] at r e = cc e
seen_at (x ∷ rs) zero r e = ap (λ (y : ObjectRecord). Some (queue_seen y)) (same_Some x r e)
seen_at (x ∷ rs) (suc at) r e = seen_at rs at r e

-- no later owner
pub seen_low : (r : ObjectRecord) (k : ℕ) → before_owned r.owner ≤ k → before_owned (queue_owner r) ≤ k
seen_low r k low = go (same_type r.object.ty ty.Queue)
  where
    go : (u : Bool) → before_owned (cond u r.owner Nobody) ≤ k
    go true = low
    go false = omega arith

pub seen_owners : (k : ℕ) (rs : List ObjectRecord) → AreOwnersBefore k rs → AreOwnersBefore k (queues_seen rs)
seen_owners k [] all = tt
seen_owners k (r ∷ rs) all = (seen_low r k all.0, seen_owners (suc k) rs all.1)

-- an end changes no owner
pub seen_ended : (rs : List ObjectRecord) (at : ℕ) → queues_seen (ended_at rs at) ≡ ended_at (queues_seen rs) at
seen_ended [] at = refl
seen_ended (r ∷ rs) zero = refl
seen_ended (r ∷ rs) (suc at) = ap (λ (xs : List ObjectRecord). queue_seen r ∷ xs) (seen_ended rs at)

-- the same queues are owned
pub seen_owned : (rs : List ObjectRecord) (place : ℕ) → owned_of_type (queues_seen rs) ty.Queue place ≡ owned_of_type rs ty.Queue place
seen_owned [] place = refl
seen_owned (r ∷ rs) place = go (same_type r.object.ty ty.Queue) (seen_owned rs place)
  where
    one : (v : Bool) → owned_of_type (queues_seen rs) ty.Queue place ≡ owned_of_type rs ty.Queue place
        → map (λ (x : ObjectRecord). x.object) (cond v (queue_seen r ∷ filter (is_owned_there ty.Queue place) (queues_seen rs)) (filter (is_owned_there ty.Queue place) (queues_seen rs)))
        ≡ map (λ (x : ObjectRecord). x.object) (cond v (r ∷ filter (is_owned_there ty.Queue place) rs) (filter (is_owned_there ty.Queue place) rs))
    one true ih = ap (λ (os : List Object). r.object ∷ os) ih
    one false ih = ih

    go : (u : Bool) → owned_of_type (queues_seen rs) ty.Queue place ≡ owned_of_type rs ty.Queue place
        → map (λ (x : ObjectRecord). x.object) (cond (u && is_owner_at place (cond u r.owner Nobody)) (queue_seen r ∷ filter (is_owned_there ty.Queue place) (queues_seen rs)) (filter (is_owned_there ty.Queue place) (queues_seen rs)))
        ≡ map (λ (x : ObjectRecord). x.object) (cond (u && is_owner_at place r.owner) (r ∷ filter (is_owned_there ty.Queue place) rs) (filter (is_owned_there ty.Queue place) rs))
    go true ih = one (is_owner_at place r.owner) ih
    go false ih = ih

-- what has its owner at a place so is a queue
pub seen_queue : (r : ObjectRecord) (place : ℕ) → queue_owner r ≡ At place → same_type r.object.ty ty.Queue ≡ true
seen_queue r place e = go (same_type r.object.ty ty.Queue) e
  where
    go : (u : Bool) → cond u r.owner Nobody ≡ At place → u ≡ true
    go true f = refl
    go false f = cc f

-- ---- the links kept

-- a further record is linked
pub added_queues : (rs : List ObjectRecord) (queues : List Links) (r : ObjectRecord) → AreLinked (queues_seen rs) queues → AreOwnersBefore 0 rs → before_owned r.owner ≤ length rs
    → AreLinked (queues_seen (rs ++ r ∷ [])) (with_linked queues (queue_owner r) false)
added_queues rs queues r are all low =
    subst (λ (xs : List ObjectRecord). AreLinked xs (with_linked queues (queue_owner r) false)) (sym (map-append queue_seen rs (r ∷ [])))
    (added_linked (queues_seen rs) queues (queue_seen r) are (seen_owners 0 rs all) (seen_low r (length (queues_seen rs)) (omega (arith, low, seen_length rs))))

-- an end leaves the links
pub ended_queues : (rs : List ObjectRecord) (queues : List Links) (at : ℕ) (r : ObjectRecord) → AreLinked (queues_seen rs) queues → slice_get rs at ≡ Some r → r.lives ≡ true → AreLinked (queues_seen (ended_at rs at)) queues
ended_queues rs queues at r are here lives =
    subst (λ (xs : List ObjectRecord). AreLinked xs queues) (sym (seen_ended rs at)) (ended_other (queues_seen rs) queues at (queue_seen r) are (seen_at rs at r here) lives refl)

-- the link at a place
pub last_queue_read : (rs : List ObjectRecord) (queues : List Links) (place : ℕ) → AreLinked (queues_seen rs) (padded (length rs) queues) → place < length rs → (get_or queues place no_links).last_owned ≡ last_link (queues_seen rs) place
last_queue_read rs queues place are low =
    ap (λ (l : Links). l.last_owned) (sym (padded_read (length rs) queues place no_links low)) ∙ last_read (queues_seen rs) (padded (length rs) queues) place no_links are (omega (arith, low, seen_length rs))

-- the way on from a place
pub previous_queue_read : (rs : List ObjectRecord) (queues : List Links) (place : ℕ) → AreLinked (queues_seen rs) (padded (length rs) queues) → place < length rs → IsPrevious (queues_seen rs) place (get_or queues place no_links).previous
previous_queue_read rs queues place are low =
    subst (λ (l : Links). IsPrevious (queues_seen rs) place l.previous) (padded_read (length rs) queues place no_links low) (previous_read (queues_seen rs) (padded (length rs) queues) place no_links are (omega (arith, low, seen_length rs)))

-- ---- the walk

pub queue_goes : (rs : List ObjectRecord) (place : ℕ) (start now next : List Object) (link at before : ℕ) (r : ObjectRecord) → IsWalked (queues_seen rs) ty.Queue place start now link → link ≡ suc at
    → slice_get rs at ≡ Some r → IsPrevious (queues_seen rs) at before → next ≡ now ++ r.object ∷ [] → IsWalked (queues_seen rs) ty.Queue place start next before
queue_goes rs place start now next link at before r w is here previous more =
    let seen : slice_get (queues_seen rs) at ≡ Some (queue_seen r) = seen_at rs at r here in
    let step = latest (queues_seen rs) ty.Queue place w.left at (sym w.next ∙ is) in
    let same : step.kept ≡ queue_seen r = same_Some step.kept (queue_seen r) (sym step.here ∙ seen) in
    let queue : same_type r.object.ty ty.Queue ≡ true = seen_queue r place (ap (λ (y : ObjectRecord). y.owner) (sym same) ∙ step.owner) in
    walk_goes (queues_seen rs) ty.Queue place start now next link at before (queue_seen r) w is seen previous (more ∙ ap (λ u. now ++ cond u (r.object ∷ []) []) (sym queue))

pub queue_within : (rs : List ObjectRecord) (place : ℕ) (start now : List Object) (link at : ℕ) → IsWalked (queues_seen rs) ty.Queue place start now link → link ≡ suc at → at < length rs
queue_within rs place start now link at w is = omega (arith, walk_within (queues_seen rs) ty.Queue place start now link at w is, seen_length rs)

pub queue_back : (rs : List ObjectRecord) (at before : ℕ) (r : ObjectRecord) → slice_get rs at ≡ Some r → IsPrevious (queues_seen rs) at before → before ≤ at
queue_back rs at before r here previous = walk_back (queues_seen rs) at before (queue_seen r) (seen_at rs at r here) previous

pub queue_ends : (rs : List ObjectRecord) (place : ℕ) (start now : List Object) (link : ℕ) → IsWalked (queues_seen rs) ty.Queue place start now link → link ≡ 0 → now ≡ start ++ reverse (owned_of_type rs ty.Queue place)
queue_ends rs place start now link w is = walk_ends (queues_seen rs) ty.Queue place start now link w is ∙ ap (λ (os : List Object). start ++ reverse os) (seen_owned rs place)
