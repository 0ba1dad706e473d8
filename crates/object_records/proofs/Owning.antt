-- The links of all records as they are kept.
use Rattle.std.proofs.Common.{◌≡◌, ◌≤◌, ◌<◌, ◌∙◌, ◌+◌, ◌-◌, ℕ, zero, suc, cond, Bool, true, false, List, [], ◌∷◌, ◌++◌, length, get_or, refl, sym, ap, arith, length-append}
use Rattle.std.specs.Prelude.{replicate, slice_get}
use Rattle.std.specs.Option.{option_map_or}
use Rattle.std.proofs.Math.ListN.{set}
use Rattle.object_records.specs.declared.link_table.Owned.{Owned}
use Rattle.object_records.specs.declared.links.Links.{Links}
use Rattle.object_records.specs.declared.kept_owner.KeptOwner.{KeptOwner}
use Rattle.object_records.specs.declared.kept_owner.KeptOwner.TheVariants.{At}
use Rattle.object_records.specs.Links.{AreFew, HasChild, linked_at, unlinked_at}
use Rattle.object_records.specs.Owning.{link_read, links_read, no_owned}

pub links_length : (ps : List ℕ) (os : List Owned) → length (links_read ps os) ≡ length ps
links_length [] os = refl
links_length (p ∷ ps) [] = ap suc (links_length ps [])
links_length (p ∷ ps) (o ∷ os) = ap suc (links_length ps os)

-- the links at a place
links_at : (ps : List ℕ) (os : List Owned) (place : ℕ) (d : Links) → place < length ps → get_or (links_read ps os) place d ≡ link_read (get_or ps place 0) (get_or os place no_owned)
links_at [] os place d less = absurd (omega (arith, less))
links_at (p ∷ ps) [] zero d less = refl
links_at (p ∷ ps) [] (suc place) d less = links_at ps [] place d (omega (arith, less))
links_at (p ∷ ps) (o ∷ os) zero d less = refl
links_at (p ∷ ps) (o ∷ os) (suc place) d less = links_at ps os place d (omega (arith, less))

-- whatever stands in for what isn't there
same_there : (ps : List ℕ) (place a b : ℕ) → place < length ps → get_or ps place a ≡ get_or ps place b
same_there [] place a b less = absurd (omega (arith, less))
same_there (p ∷ ps) zero a b less = refl
same_there (p ∷ ps) (suc place) a b less = same_there ps place a b (omega (arith, less))

pub links_there : (ps : List ℕ) (os : List Owned) (place p : ℕ) (o : Owned) (d : Links) → place < length ps → p ≡ get_or ps place p → o ≡ get_or os place no_owned → link_read p o ≡ get_or (links_read ps os) place d
links_there ps os place p o d less is at = ap (λ n. link_read n o) (is ∙ same_there ps place p 0 less) ∙ (ap (link_read (get_or ps place 0)) at ∙ sym (links_at ps os place d less))

-- ---- room for what is owned

nothing_more : (n : ℕ) → n ≡ 0 → replicate n no_owned ≡ []
nothing_more n is = ap (λ (m : ℕ). replicate m no_owned) is

append_nothing : (os : List Owned) → os ++ [] ≡ os
append_nothing [] = refl
append_nothing (o ∷ os) = ap (λ (xs : List Owned). o ∷ xs) (append_nothing os)

pub none_filled : (os : List Owned) (count : ℕ) → count ≤ length os → os ≡ os ++ replicate (count - length os) no_owned
none_filled os count long = sym (ap (λ (xs : List Owned). os ++ xs) (nothing_more (count - length os) (omega (arith, long))) ∙ append_nothing os)

-- what owns nothing need not be kept
read_more : (ps : List ℕ) (k : ℕ) → links_read ps (replicate k no_owned) ≡ links_read ps []
read_more [] k = refl
read_more (p ∷ ps) zero = refl
read_more (p ∷ ps) (suc k) = ap (λ (ls : List Links). link_read p no_owned ∷ ls) (read_more ps k)

pub read_filled : (ps : List ℕ) (os : List Owned) (k : ℕ) → links_read ps (os ++ replicate k no_owned) ≡ links_read ps os
read_filled [] os k = refl
read_filled (p ∷ ps) [] k = read_more (p ∷ ps) k
read_filled (p ∷ ps) (o ∷ os) k = ap (λ (ls : List Links). link_read p o ∷ ls) (read_filled ps os k)

length_filled : (count : ℕ) → length (replicate count no_owned) ≡ count
length_filled zero = refl
length_filled (suc count) = ap suc (length_filled count)

pub filled_length : (os : List Owned) (count : ℕ) → (count ≤ length (os ++ replicate (count - length os) no_owned)) × ((most : ℕ) → length os ≤ most → count ≤ most → length (os ++ replicate (count - length os) no_owned) ≤ most)
filled_length os count =
    let all : length (os ++ replicate (count - length os) no_owned) ≡ length os + (count - length os) = length-append os (replicate (count - length os) no_owned) ∙ ap (λ n. length os + n) (length_filled (count - length os)) in
    (omega (arith, all), λ most low up. omega (arith, all, low, up))

-- ---- a further record

-- what is written over one that owns is what a further record makes of it
pub written_linked : (ps : List ℕ) (os : List Owned) (place link n : ℕ) (child : Bool) (o : Owned) → place < length os → length os ≤ length ps → o ≡ get_or os place o → n ≡ cond child 1 0
    → links_read ps (set os place (record { last = link; children = o.children + n })) ≡ linked_at (links_read ps os) place link child
written_linked ps [] place link n child o less long is more = absurd (omega (arith, less))
written_linked [] (x ∷ os) place link n child o less long is more = refl
written_linked (p ∷ ps) (x ∷ os) zero link n child o less long is more =
    ap (λ m. link_read p (record { last = link; children = o.children + m }) ∷ links_read ps os) more ∙ ap (λ (y : Owned). link_read p (record { last = link; children = y.children + cond child 1 0 }) ∷ links_read ps os) is
written_linked (p ∷ ps) (x ∷ os) (suc place) link n child o less long is more = ap (λ (ls : List Links). link_read p x ∷ ls) (written_linked ps os place link n child o (omega (arith, less)) (omega (arith, long)) is more)

-- a child counts one
pub one_at_most : (child : Bool) → cond child 1 0 ≤ 1
one_at_most true = omega arith
one_at_most false = omega arith

pub set_length : (os : List Owned) (place : ℕ) (o : Owned) → length (set os place o) ≡ length os
set_length [] place o = refl
set_length (x ∷ os) zero o = refl
set_length (x ∷ os) (suc place) o = ap suc (set_length os place o)

-- the link that is read
pub last_read : (ps : List ℕ) (os : List Owned) (place : ℕ) (o : Owned) → place < length os → length os ≤ length ps → o ≡ get_or os place o → o.last ≡ option_map_or (λ (l : Links). l.last_owned) (slice_get (links_read ps os) place) 0
last_read ps [] place o less long is = absurd (omega (arith, less))
last_read [] (x ∷ os) place o less long is = absurd (omega (arith, long))
last_read (p ∷ ps) (x ∷ os) zero o less long is = ap (λ (y : Owned). y.last) is
last_read (p ∷ ps) (x ∷ os) (suc place) o less long is = last_read ps os place o (omega (arith, less)) (omega (arith, long)) is

-- the further record owns nothing
pub read_snoc : (ps : List ℕ) (os : List Owned) (p : ℕ) → length os ≤ length ps → links_read (ps ++ p ∷ []) os ≡ links_read ps os ++ link_read p no_owned ∷ []
read_snoc [] [] p long = refl
read_snoc [] (o ∷ os) p long = absurd (omega (arith, long))
read_snoc (q ∷ ps) [] p long = ap (λ (ls : List Links). link_read q no_owned ∷ ls) (read_snoc ps [] p (omega arith))
read_snoc (q ∷ ps) (o ∷ os) p long = ap (λ (ls : List Links). link_read q o ∷ ls) (read_snoc ps os p (omega (arith, long)))

owned_there : (xs : List Owned) (n : ℕ) (a b : Owned) → n < length xs → get_or xs n a ≡ get_or xs n b
owned_there [] n a b within = absurd (omega (arith, within))
owned_there (x ∷ xs) zero a b within = refl
owned_there (x ∷ xs) (suc n) a b within = owned_there xs n a b (omega (arith, within))

-- no count is greater than the number of records
pub few_owned : (ps : List ℕ) (os : List Owned) (place : ℕ) (o : Owned) → AreFew (links_read ps os) → length os ≤ length ps → place < length os → o ≡ get_or os place o → o.children ≤ length ps
few_owned ps os place o few long less is =
    let d : Links = link_read 0 no_owned in
    let at : get_or (links_read ps os) place d ≡ link_read (get_or ps place 0) (get_or os place no_owned) = links_at ps os place d (omega (arith, less, long)) in
    let same : get_or os place o ≡ get_or os place no_owned = owned_there os place o no_owned less in
    omega (arith, few place d (omega (arith, less, long, links_length ps os)), ap (λ (l : Links). l.children) at, ap (λ (y : Owned). y.children) (is ∙ same), links_length ps os)

-- ---- a further record with its owner at a place

-- what is owned, up to the place
pub record IsFilled (ps : List ℕ) (os filled : List Owned) (place : ℕ) : Type 0 where
  pub same : links_read ps filled ≡ links_read ps os
  pub there : place < length filled
  pub within : length filled ≤ length ps

pub is_filled : (ps : List ℕ) (os filled : List Owned) (place : ℕ) → filled ≡ os ++ replicate (place + 1 - length os) no_owned → length os ≤ length ps → place < length ps → IsFilled ps os filled place
is_filled ps os filled place is long low =
    let longs = filled_length os (place + 1) in
    let count : length filled ≡ length (os ++ replicate (place + 1 - length os) no_owned) = ap length is in
    record {
      same = ap (links_read ps) is ∙ read_filled ps os (place + 1 - length os);
      there = omega (arith, longs.0, count);
      within = omega (arith, longs.1 (length ps) long (omega (arith, low)), count);
    }

-- ---- an end

pub written_unlinked : (ps : List ℕ) (os : List Owned) (place : ℕ) (o : Owned) → place < length os → length os ≤ length ps → o ≡ get_or os place o → links_read ps (set os place (record { last = o.last; children = o.children - 1 })) ≡ unlinked_at (links_read ps os) place
written_unlinked ps [] place o less long is = absurd (omega (arith, less))
written_unlinked [] (x ∷ os) place o less long is = refl
written_unlinked (p ∷ ps) (x ∷ os) zero o less long is = ap (λ (y : Owned). link_read p (record { last = y.last; children = y.children - 1 }) ∷ links_read ps os) is
written_unlinked (p ∷ ps) (x ∷ os) (suc place) o less long is = ap (λ (ls : List Links). link_read p x ∷ ls) (written_unlinked ps os place o (omega (arith, less)) (omega (arith, long)) is)

-- behind the latest owner there is no child to be counted no more
pub none_unlinked : (ps : List ℕ) (os : List Owned) (place : ℕ) → length os ≤ place → links_read ps os ≡ unlinked_at (links_read ps os) place
none_unlinked [] os place past = refl
none_unlinked (p ∷ ps) [] zero past = refl
none_unlinked (p ∷ ps) [] (suc place) past = ap (λ (ls : List Links). link_read p no_owned ∷ ls) (none_unlinked ps [] place (omega arith))
none_unlinked (p ∷ ps) (o ∷ os) zero past = absurd (omega (arith, past))
none_unlinked (p ∷ ps) (o ∷ os) (suc place) past = ap (λ (ls : List Links). link_read p o ∷ ls) (none_unlinked ps os place (omega (arith, past)))

-- an owner counts its child
pub child_owned : (ps : List ℕ) (os : List Owned) (place : ℕ) (o : Owned) (w : KeptOwner) → HasChild (links_read ps os) w → w ≡ At place → length os ≤ length ps → place < length os → o ≡ get_or os place o → 1 ≤ o.children
child_owned ps os place o w has at long less is =
    let d : Links = link_read 0 no_owned in
    omega (arith, has place d at (omega (arith, less, long, links_length ps os)), ap (λ (l : Links). l.children) (links_at ps os place d (omega (arith, less, long))), ap (λ (y : Owned). y.children) (is ∙ owned_there os place o no_owned less))
