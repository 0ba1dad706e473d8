-- Links of which the last ones are not kept.
use Rattle.std.proofs.Common.{◌≡◌, ◌≤◌, ◌<◌, ◌⊎◌, ◌+◌, ◌-◌, ◌∙◌, ℕ, zero, suc, false, inl, inr, List, [], ◌∷◌, ◌++◌, length, get_or, refl, sym, ap, arith}
use Rattle.std.specs.Prelude.{replicate}
use Rattle.std.proofs.lemmas.List.{append-nil, append_assoc}
use Rattle.object_model.specs.declared.Object.{Object}
use Rattle.object_records.specs.declared.kept_owner.KeptOwner.{KeptOwner}
use Rattle.object_records.specs.declared.kept_owner.KeptOwner.TheVariants.{Nobody, Unborn}
use Rattle.object_records.specs.declared.links.Links.{Links}
use Rattle.object_records.specs.Links.{with_linked}
use Rattle.object_records.specs.Queues.{no_links, padded}

-- all are kept
pub padded_full : (count : ℕ) (links : List Links) → length links ≡ count → padded count links ≡ links
padded_full count links all = ap (λ n. links ++ replicate n no_links) (let none : count - length links ≡ 0 = omega (arith, all) in none) ∙ append-nil links

one_more : (n : ℕ) → replicate (suc n) no_links ≡ replicate n no_links ++ no_links ∷ []
one_more zero = refl
one_more (suc n) = ap (λ ls. no_links ∷ ls) (one_more n)

-- one more that links nothing
pub padded_more : (count : ℕ) (links : List Links) → length links ≤ count → padded (count + 1) links ≡ padded count links ++ no_links ∷ []
padded_more count links long =
    ap (λ n. links ++ replicate n no_links) (let next : count + 1 - length links ≡ suc (count - length links) = omega (arith, long) in next)
    ∙ (ap (λ ls. links ++ ls) (one_more (count - length links)) ∙ sym (append_assoc links (replicate (count - length links) no_links) (no_links ∷ [])))

-- what has no owner that was born links nothing
pub padded_next : (count : ℕ) (links : List Links) (w : KeptOwner) → length links ≤ count → (w ≡ Nobody) ⊎ ((x : Object) × (w ≡ Unborn x)) → padded (count + 1) links ≡ with_linked (padded count links) w false
padded_next count links w long (inl is) = padded_more count links long ∙ ap (λ (k : KeptOwner). with_linked (padded count links) k false) (sym is)
padded_next count links w long (inr is) = padded_more count links long ∙ ap (λ (k : KeptOwner). with_linked (padded count links) k false) (sym is.1)

none_there : (n place : ℕ) (d : Links) → place < n → get_or (replicate n no_links) place d ≡ no_links
none_there zero place d low = absurd (omega (arith, low))
none_there (suc n) zero d low = refl
none_there (suc n) (suc place) d low = none_there n place d (omega (arith, low))

read_from : (n : ℕ) (links : List Links) (place : ℕ) (d : Links) → place < length links + n → get_or (links ++ replicate n no_links) place d ≡ get_or links place no_links
read_from n [] place d low = none_there n place d (omega (arith, low))
read_from n (l ∷ links) zero d low = refl
read_from n (l ∷ links) (suc place) d low = read_from n links place d (omega (arith, low))

-- what isn't kept links nothing
pub padded_read : (count : ℕ) (links : List Links) (place : ℕ) (d : Links) → place < count → get_or (padded count links) place d ≡ get_or links place no_links
padded_read count links place d low = read_from (count - length links) links place d (omega (arith, low))

-- ---- reading, with something else where there is nothing

pub got_there : {X : Type 0} (xs : List X) (i : ℕ) (x d : X) → i < length xs → x ≡ get_or xs i x → x ≡ get_or xs i d
got_there [] i x d low is = absurd (omega (arith, low))
got_there (y ∷ xs) zero x d low is = is
got_there (y ∷ xs) (suc i) x d low is = got_there xs i x d (omega (arith, low)) is

pub got_past : {X : Type 0} (xs : List X) (i : ℕ) (d : X) → length xs ≤ i → d ≡ get_or xs i d
got_past [] i d past = refl
got_past (y ∷ xs) zero d past = absurd (omega (arith, past))
got_past (y ∷ xs) (suc i) d past = got_past xs i d (omega (arith, past))
