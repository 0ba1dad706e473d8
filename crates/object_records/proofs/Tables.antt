-- The parts of the table.
use Rattle.std.proofs.Common.{◌≡◌, ◌≤◌, ◌∙◌, ◌&&◌, ◌||◌, ◌+◌, ℕ, zero, suc, cond, Bool, true, false, Some, List, [], ◌∷◌, ◌++◌, length, sym, ap, subst, arith, length-append}
use Rattle.std.specs.Prelude.{slice_get}
use Rattle.std.specs.Option.{option_map_or}
use Rattle.object_records.specs.declared.kept_owner.KeptOwner.{KeptOwner}
use Rattle.object_records.specs.declared.record.ObjectRecord.{ObjectRecord}
use Rattle.object_records.specs.declared.links.Links.{Links}
use Rattle.object_records.specs.Links.{AreLinked, is_unborn, unlinked, with_linked}
use Rattle.object_records.specs.Passed.{WasWidened, reopened}
use Rattle.object_records.specs.Queues.{padded, queue_owner, queues_seen}
use Rattle.object_records.specs.Table.{AreOwnersBefore, IsTable, LivesAt, before_owned, ended_at}
use Rattle.object_records.proofs.Linking.{added_linked, ended_length, ended_linked, strays_ended, strays_more}
use Rattle.object_records.proofs.Passing.{added_passed, ended_passed}
use Rattle.object_records.proofs.SeenQueues.{added_queues, ended_queues}

-- one record more, with its owner before it
owners_from : (k : ℕ) (rs : List ObjectRecord) (r : ObjectRecord) → AreOwnersBefore k rs → before_owned r.owner ≤ k + length rs → AreOwnersBefore k (rs ++ r ∷ [])
owners_from k [] r all low = (omega (arith, low), tt)
owners_from k (x ∷ rs) r all low = (all.0, owners_from (suc k) rs r all.1 (omega (arith, low)))

pub owners_last : (rs : List ObjectRecord) (r : ObjectRecord) → AreOwnersBefore 0 rs → before_owned r.owner ≤ length rs → AreOwnersBefore 0 (rs ++ r ∷ [])
owners_last rs r all low = owners_from 0 rs r all (omega (arith, low))

-- an end changes no owner
pub ended_owners : (k : ℕ) (rs : List ObjectRecord) (place : ℕ) → AreOwnersBefore k rs → AreOwnersBefore k (ended_at rs place)
ended_owners k [] place all = tt
ended_owners k (r ∷ rs) zero all = all
ended_owners k (r ∷ rs) (suc place) all = (all.0, ended_owners (suc k) rs place all.1)

-- ---- the whole table

-- what a further record makes of each part
pub record Adds (rs next : List ObjectRecord) (links links' queues queues' : List Links) (passed passed' : List ℕ) (strays strays' : Bool) (r : ObjectRecord) : Type 0 where
  pub records_are : next ≡ rs ++ r ∷ []
  pub child : Bool
  pub child_is : child ≡ (r.is_created && r.lives)
  pub links_are : links' ≡ with_linked links r.owner child
  pub owner : KeptOwner
  pub owner_is : owner ≡ queue_owner r
  pub queues_are : padded (length rs + 1) queues' ≡ with_linked (padded (length rs) queues) owner false
  pub short : length queues' ≤ length rs + 1
  pub passed_are : WasWidened (reopened rs passed r.owner) passed'
  pub stray_is : strays' ≡ (strays || is_unborn r.owner)

-- with a further record all parts fit
pub added_table : (rs next : List ObjectRecord) (links links' queues queues' : List Links) (passed passed' : List ℕ) (strays strays' : Bool) (r : ObjectRecord) → IsTable rs links queues passed strays → before_owned r.owner ≤ length rs → Adds rs next links links' queues queues' passed passed' strays strays' r → IsTable next links' queues' passed' strays'
added_table rs next links links' queues queues' passed passed' strays strays' r table low adds =
    subst (λ (xs : List ObjectRecord). IsTable xs links' queues' passed' strays') (sym adds.records_are) (record {
      owners = owners_last rs r table.owners low;
      linked = subst (λ (ls : List Links). AreLinked (rs ++ r ∷ []) ls) (sym (adds.links_are ∙ ap (λ u. with_linked links r.owner u) adds.child_is)) (added_linked rs links r table.linked table.owners low);
      queued = subst (λ (ls : List Links). AreLinked (queues_seen (rs ++ r ∷ [])) ls) (sym (ap (λ n. padded n queues') more ∙ (adds.queues_are ∙ ap (λ (w : KeptOwner). with_linked (padded (length rs) queues) w false) adds.owner_is))) (added_queues rs (padded (length rs) queues) r table.queued table.owners low);
      short = omega (arith, adds.short, more);
      passing = added_passed rs passed passed' r table.passing adds.passed_are;
      stray = adds.stray_is ∙ (ap (λ u. u || is_unborn r.owner) table.stray ∙ sym (strays_more rs r));
    })
  where
    more : length (rs ++ r ∷ []) ≡ length rs + 1
    more = length-append rs (r ∷ [])

-- the object of a record lives
pub living_there : (rs : List ObjectRecord) (place : ℕ) (r : ObjectRecord) → slice_get rs place ≡ Some r → LivesAt rs place → r.lives ≡ true
living_there rs place r at lives = ap (λ x. option_map_or (λ (q : ObjectRecord). q.lives) x false) (sym at) ∙ lives

-- after an end all parts fit
pub ended_table : (rs next : List ObjectRecord) (links links' queues : List Links) (passed : List ℕ) (strays : Bool) (place : ℕ) (r : ObjectRecord) → IsTable rs links queues passed strays → LivesAt rs place
    → slice_get rs place ≡ Some r → next ≡ ended_at rs place → links' ≡ cond r.is_created (unlinked links r.owner) links → IsTable next links' queues passed strays
ended_table rs next links links' queues passed strays place r table lives at is links_are =
    let living : r.lives ≡ true = living_there rs place r at lives in
    subst (λ (xs : List ObjectRecord). IsTable xs links' queues passed strays) (sym is) (record {
      owners = ended_owners 0 rs place table.owners;
      linked = subst (λ (ls : List Links). AreLinked (ended_at rs place) ls) (sym links_are) (ended_linked rs links place r table.linked at living);
      queued = subst (λ n. AreLinked (queues_seen (ended_at rs place)) (padded n queues)) (sym (ended_length rs place)) (ended_queues rs (padded (length rs) queues) place r table.queued at living);
      short = omega (arith, table.short, ended_length rs place);
      passing = ended_passed rs passed place table.passing;
      stray = table.stray ∙ sym (strays_ended rs place);
    })
