-- Pairs kept in one list.
use Rattle.std.proofs.Common.{◌≡◌, ◌≤◌, ◌<◌, ◌+◌, ◌∙◌, ℕ, zero, suc, cond, Bool, true, false, Some, List, [], ◌∷◌, ◌++◌, length, get_or, refl, sym, ap, subst, arith, length-append}
use Rattle.std.specs.Prelude.{nat_lt, slice_get}
use Rattle.handle_map.specs.declared.kept_pair.KeptPair.{KeptPair}
use Rattle.handle_map.specs.KeptPairs.{AreAmongWide, IsPairList, IsAmongWide, id_of, pair_in, pairs_in, wide_with}
use Rattle.handle_map.specs.Pairs.{Pair, pair}

-- ---- reading, with something else where there is nothing

pub got_there : {X : Type 0} (xs : List X) (i : ℕ) (x d : X) → i < length xs → x ≡ get_or xs i x → x ≡ get_or xs i d
got_there [] i x d low is = absurd (omega (arith, low))
got_there (y ∷ xs) zero x d low is = is
got_there (y ∷ xs) (suc i) x d low is = got_there xs i x d (omega (arith, low)) is

pub got_past : {X : Type 0} (xs : List X) (i : ℕ) (d : X) → length xs ≤ i → d ≡ get_or xs i d
got_past [] i d past = refl
got_past (y ∷ xs) zero d past = absurd (omega (arith, past))
got_past (y ∷ xs) (suc i) d past = got_past xs i d (omega (arith, past))

-- ---- the pairs of a list

pub pairs_length : (wide : List ℕ) (ks : List KeptPair) → length (pairs_in wide ks) ≡ length ks
pairs_length wide [] = refl
pairs_length wide (k ∷ ks) = ap suc (pairs_length wide ks)

pub pair_there : (wide : List ℕ) (ks : List KeptPair) (place : ℕ) (k : KeptPair) → place < length ks → k ≡ get_or ks place k → slice_get (pairs_in wide ks) place ≡ Some (pair_in wide k)
pair_there wide [] place k low at = absurd (omega (arith, low))
pair_there wide (l ∷ ks) zero k low at = ap (λ (x : KeptPair). Some (pair_in wide x)) (sym at)
pair_there wide (l ∷ ks) (suc place) k low at = pair_there wide ks place k (omega (arith, low)) at

pub within_there : (count : ℕ) (ks : List KeptPair) (place : ℕ) (k : KeptPair) → AreAmongWide count ks → place < length ks → k ≡ get_or ks place k → IsAmongWide count k.number k.is_wide
within_there count [] place k all low at = absurd (omega (arith, low))
within_there count (l ∷ ks) zero k all low at = subst (λ (x : KeptPair). IsAmongWide count x.number x.is_wide) (sym at) all.0
within_there count (l ∷ ks) (suc place) k all low at = within_there count ks place k all.1 (omega (arith, low)) at

-- ---- a further pair

-- an id among the wide ones stays where it is
front_there : (wide : List ℕ) (id n : ℕ) → n < length wide → get_or (wide ++ id ∷ []) n 0 ≡ get_or wide n 0
front_there [] id n low = absurd (omega (arith, low))
front_there (w ∷ wide) id zero low = refl
front_there (w ∷ wide) id (suc n) low = front_there wide id n (omega (arith, low))

id_same : (wide : List ℕ) (id n : ℕ) (u : Bool) → IsAmongWide (length wide) n u → id_of (wide_with wide id) n u ≡ id_of wide n u
id_same wide id n false inner = refl
id_same wide id n true inner = go (nat_lt id 4294967296) refl
  where
    go : (b : Bool) → nat_lt id 4294967296 ≡ b → id_of (wide_with wide id) n true ≡ id_of wide n true
    go true is = ap (λ (c : Bool). get_or (cond c wide (wide ++ id ∷ [])) n 0) is
    go false is = ap (λ (c : Bool). get_or (cond c wide (wide ++ id ∷ [])) n 0) is ∙ front_there wide id n (inner refl)

-- so many are no fewer with one more
wide_more : (wide : List ℕ) (id : ℕ) → (length wide ≤ length (wide_with wide id)) × (length (wide_with wide id) ≤ suc (length wide))
wide_more wide id = go (nat_lt id 4294967296) refl
  where
    go : (b : Bool) → nat_lt id 4294967296 ≡ b → (length wide ≤ length (wide_with wide id)) × (length (wide_with wide id) ≤ suc (length wide))
    go true is = let same : length (wide_with wide id) ≡ length wide = ap (λ (c : Bool). length (cond c wide (wide ++ id ∷ []))) is in (omega (arith, same), omega (arith, same))
    go false is =
        let more : length (wide_with wide id) ≡ length wide + 1 = ap (λ (c : Bool). length (cond c wide (wide ++ id ∷ []))) is ∙ length-append wide (id ∷ []) in
        (omega (arith, more), omega (arith, more))

pairs_more : (wide : List ℕ) (ks : List KeptPair) (id : ℕ) (k : KeptPair) → AreAmongWide (length wide) ks → pairs_in (wide_with wide id) (ks ++ k ∷ []) ≡ pairs_in wide ks ++ pair_in (wide_with wide id) k ∷ []
pairs_more wide [] id k inner = refl
pairs_more wide (l ∷ ks) id k inner =
    ap (λ (i : ℕ). pair l.ty i ∷ pairs_in (wide_with wide id) (ks ++ k ∷ [])) (id_same wide id l.number l.is_wide inner.0)
    ∙ ap (λ (ps : List Pair). pair_in wide l ∷ ps) (pairs_more wide ks id k inner.1)

within_more : (count more : ℕ) (ks : List KeptPair) (k : KeptPair) → count ≤ more → AreAmongWide count ks → IsAmongWide more k.number k.is_wide → AreAmongWide more (ks ++ k ∷ [])
within_more count more [] k less inner is = (is, tt)
within_more count more (l ∷ ks) k less inner is = ((λ u. omega (arith, less, inner.0 u)), within_more count more ks k less inner.1 is)

-- what a further pair makes of the list
pub record Pushes (wide next : List ℕ) (ks kept : List KeptPair) (id : ℕ) (k : KeptPair) : Type 0 where
  pub wide_is : next ≡ wide_with wide id
  pub reads : id_of next k.number k.is_wide ≡ id
  pub within : IsAmongWide (length next) k.number k.is_wide
  pub kept_are : kept ≡ ks ++ k ∷ []

pub pushed_pairs : (wide next : List ℕ) (ks kept : List KeptPair) (id : ℕ) (k : KeptPair) → IsPairList wide ks → Pushes wide next ks kept id k → pairs_in next kept ≡ pairs_in wide ks ++ pair k.ty id ∷ []
pushed_pairs wide next ks kept id k are push =
    rw push.kept_are (
    ap (λ (ws : List ℕ). pairs_in ws (ks ++ k ∷ [])) push.wide_is
    ∙ (pairs_more wide ks id k are.within
    ∙ ap (λ (i : ℕ). pairs_in wide ks ++ pair k.ty i ∷ []) (ap (λ (ws : List ℕ). id_of ws k.number k.is_wide) (sym push.wide_is) ∙ push.reads)))

pub pushed_list : (wide next : List ℕ) (ks kept : List KeptPair) (id : ℕ) (k : KeptPair) → IsPairList wide ks → Pushes wide next ks kept id k → IsPairList next kept
pushed_list wide next ks kept id k are push =
    let kept_more : length kept ≡ length ks + 1 = ap length push.kept_are ∙ length-append ks (k ∷ []) in
    let grown : length next ≡ length (wide_with wide id) = ap length push.wide_is in
    let more = wide_more wide id in
    record {
      within = subst (λ (xs : List KeptPair). AreAmongWide (length next) xs) (sym push.kept_are) (within_more (length wide) (length next) ks k (omega (arith, grown, more.0)) are.within push.within);
      few = omega (arith, kept_more, grown, more.1, are.few);
    }
