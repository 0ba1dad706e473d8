-- A table with an entry more, and the entries of pairs.
use Rattle.std.proofs.Common.{◌≡◌, ◌≢◌, ◌≤◌, ◌<◌, ◌⊎◌, ◌+◌, ◌∙◌, ◌||◌, ◌==◌, ℕ, zero, suc, max, cond, Bool, true, false, Option, Some, None, List, [], ◌∷◌, ◌++◌, length, get_or, refl, ap, sym, subst, arith, inl, inr, eq-eqb, length-append, get_or-set_same, get_or-set_other}
use Rattle.std.specs.Prelude.{nat_eq, nat_lt, replicate, slice_get, IfNone, IfSome}
use Rattle.std.proofs.Math.ListN.{set, length-set, get_or-append}
use Rattle.std.proofs.Math.Seq.{get_or-append_seam}
use Rattle.std.proofs.lemmas.Bool.{eqb-true, ltb-true}
use Rattle.std.proofs.lemmas.List.{map-append}
use Rattle.command_tables.specs.declared.types.ObjectType.{ObjectType}
use Rattle.command_tables.specs.Tests.{same_type}
use Rattle.handle_map.specs.declared.entry.Entry.{Entry}
use Rattle.handle_map.specs.Pairs.{AreDistinct, greatest_id, has_pair, place_from, place_of}
use Rattle.handle_map.specs.Chains.{AreFirst, HasNoPlace, chains_made, IsLink, IsPlace, IsTable, chain_of, is_at, pair_of, pairs_of}
use Rattle.handle_map.proofs.Links.{type_is}
use Rattle.handle_map.proofs.PairLists.{and_true, distinct_more, greatest_more, place_none}

-- ---- links

pub got_before : (es : List Entry) (e : Entry) (p : ℕ) (other : Entry) → p < length es → get_or (es ++ e ∷ []) p other ≡ get_or es p other
got_before es e p other below = get_or-append es (e ∷ []) other p below

pub got_last : (es : List Entry) (e : Entry) (p : ℕ) (other : Entry) → p ≡ length es → get_or (es ++ e ∷ []) p other ≡ e
got_last es e p other at = ap (λ n. get_or (es ++ e ∷ []) n other) at ∙ get_or-append_seam es e [] other

link_more : (chains : ℕ) (es : List Entry) (e : Entry) (chain count link : ℕ) → count ≤ length es → IsLink chains es chain count link → IsLink chains (es ++ e ∷ []) chain count link
link_more chains es e chain count link within is = record {
  within = is.within;
  here = λ p other at. ap (λ (u : Entry). chain_of chains u.ty u.id) (got_before es e p other (omega (arith, at, is.within, within))) ∙ is.here p other at;
  none = λ p other from below. λ (at : chain_of chains (get_or (es ++ e ∷ []) p other).ty (get_or (es ++ e ∷ []) p other).id ≡ chain).
      is.none p other from below (ap (λ (u : Entry). chain_of chains u.ty u.id) (sym (got_before es e p other (omega (arith, below, within)))) ∙ at);
}

-- the entry is the first of its chain now
link_last : (chains : ℕ) (es : List Entry) (e : Entry) → IsLink chains (es ++ e ∷ []) (chain_of chains e.ty e.id) (length es + 1) (length es + 1)
link_last chains es e = record {
  within = omega arith;
  here = λ p other at. ap (λ (u : Entry). chain_of chains u.ty u.id) (got_last es e p other (omega (arith, at)));
  none = λ p other from below. absurd (omega (arith, from, below));
}

-- the other chains are as they were
link_other : (chains : ℕ) (es : List Entry) (e : Entry) (chain link : ℕ) → chain_of chains e.ty e.id ≢ chain → IsLink chains es chain (length es) link → IsLink chains (es ++ e ∷ []) chain (length es + 1) link
link_other chains es e chain link apart is = record {
  within = omega (arith, is.within);
  here = λ p other at. ap (λ (u : Entry). chain_of chains u.ty u.id) (got_before es e p other (omega (arith, at, is.within))) ∙ is.here p other at;
  none = λ p other from below. go p other from below (nat_lt p (length es)) refl;
}
  where
    go : (p : ℕ) (other : Entry) → link ≤ p → p < length es + 1 → (b : Bool) → nat_lt p (length es) ≡ b → chain_of chains (get_or (es ++ e ∷ []) p other).ty (get_or (es ++ e ∷ []) p other).id ≢ chain
    go p other from below true lt = λ (at : chain_of chains (get_or (es ++ e ∷ []) p other).ty (get_or (es ++ e ∷ []) p other).id ≡ chain).
        is.none p other from (ltb-true p (length es) lt) (ap (λ (u : Entry). chain_of chains u.ty u.id) (sym (got_before es e p other (ltb-true p (length es) lt))) ∙ at)
    go p other from below false lt = λ (at : chain_of chains (get_or (es ++ e ∷ []) p other).ty (get_or (es ++ e ∷ []) p other).id ≡ chain).
        apart (ap (λ (u : Entry). chain_of chains u.ty u.id) (sym (got_last es e p other (grind (arith, below, lt)))) ∙ at)

-- ---- the table

-- the entry is linked before the others of its chain
pub record IsAdded (chains : ℕ) (entries : List Entry) (firsts : List ℕ) (e : Entry) : Type 0 where
  pub all : length firsts ≡ chains
  pub next : e.next ≡ get_or firsts (chain_of chains e.ty e.id) 0
  pub chain : chain_of chains e.ty e.id < chains

pub more_pairs : (es : List Entry) (e : Entry) → pairs_of (es ++ e ∷ []) ≡ pairs_of es ++ pair_of e ∷ []
more_pairs es e = map-append pair_of es (e ∷ [])

pub add_table : (chains : ℕ) (es : List Entry) (firsts : List ℕ) (greatest : ℕ) (e : Entry) → IsTable chains es firsts greatest → IsAdded chains es firsts e → has_pair (pairs_of es) e.ty e.id ≡ false
    → IsTable chains (es ++ e ∷ []) (set firsts (chain_of chains e.ty e.id) (length es + 1)) (max greatest e.id)
add_table chains es firsts greatest e table is new = record {
  some = table.some;
  linked = λ p other below. linked p other (omega (arith, below, long)) (nat_lt p (length es)) refl;
  first = record {
    all = inl (length-set firsts (chain_of chains e.ty e.id) (length es + 1) ∙ is.all);
    link = λ c below. subst (λ n. IsLink chains (es ++ e ∷ []) c n (get_or (set firsts (chain_of chains e.ty e.id) (length es + 1)) c 0)) (sym long) (link c (omega (arith, below, length-set firsts (chain_of chains e.ty e.id) (length es + 1))) (nat_eq c (chain_of chains e.ty e.id)) refl);
  };
  distinct = subst AreDistinct (sym all) (distinct_more (pairs_of es) (pair_of e) table.distinct new);
  most = ap (λ n. max n e.id) table.most ∙ (sym (greatest_more (pairs_of es) (pair_of e)) ∙ ap greatest_id (sym all));
}
  where
    long : length (es ++ e ∷ []) ≡ length es + 1
    long = length-append es (e ∷ []) ∙ omega arith

    all : pairs_of (es ++ e ∷ []) ≡ pairs_of es ++ pair_of e ∷ []
    all = more_pairs es e

    at_end : (p : ℕ) → p < length es + 1 → nat_lt p (length es) ≡ false → p ≡ length es
    at_end p below lt = grind (arith, below, lt)

    first_at : IsLink chains es (chain_of chains e.ty e.id) (length es) e.next
    first_at = subst (λ n. IsLink chains es (chain_of chains e.ty e.id) (length es) n) (sym is.next) (table.first.link (chain_of chains e.ty e.id) (omega (arith, is.chain, is.all)))

    linked : (p : ℕ) (other : Entry) → p < length es + 1 → (b : Bool) → nat_lt p (length es) ≡ b
        → IsLink chains (es ++ e ∷ []) (chain_of chains (get_or (es ++ e ∷ []) p other).ty (get_or (es ++ e ∷ []) p other).id) p (get_or (es ++ e ∷ []) p other).next
    linked p other below true lt =
        subst (λ (u : Entry). IsLink chains (es ++ e ∷ []) (chain_of chains u.ty u.id) p u.next) (sym (got_before es e p other (ltb-true p (length es) lt)))
        (link_more chains es e (chain_of chains (get_or es p other).ty (get_or es p other).id) p (get_or es p other).next (omega (arith, ltb-true p (length es) lt)) (table.linked p other (ltb-true p (length es) lt)))
    linked p other below false lt =
        let last = at_end p below lt in
        subst (λ (u : Entry). IsLink chains (es ++ e ∷ []) (chain_of chains u.ty u.id) p u.next) (sym (got_last es e p other last))
        (subst (λ n. IsLink chains (es ++ e ∷ []) (chain_of chains e.ty e.id) n e.next) (sym last) (link_more chains es e (chain_of chains e.ty e.id) (length es) e.next (omega arith) first_at))

    link : (c : ℕ) → c < length firsts → (b : Bool) → nat_eq c (chain_of chains e.ty e.id) ≡ b → IsLink chains (es ++ e ∷ []) c (length es + 1) (get_or (set firsts (chain_of chains e.ty e.id) (length es + 1)) c 0)
    link c below true at =
        let same : c ≡ chain_of chains e.ty e.id = eqb-true c (chain_of chains e.ty e.id) at in
        let first : get_or (set firsts (chain_of chains e.ty e.id) (length es + 1)) c 0 ≡ length es + 1
        = ap (λ n. get_or (set firsts (chain_of chains e.ty e.id) (length es + 1)) n 0) same ∙ get_or-set_same firsts (chain_of chains e.ty e.id) (length es + 1) 0 (omega (arith, is.chain, is.all)) in
        subst (λ n. IsLink chains (es ++ e ∷ []) c (length es + 1) n) (sym first) (subst (λ n. IsLink chains (es ++ e ∷ []) n (length es + 1) (length es + 1)) (sym same) (link_last chains es e))
    link c below false at =
        let differs : c ≢ chain_of chains e.ty e.id = λ (k : c ≡ chain_of chains e.ty e.id). let t : nat_eq c (chain_of chains e.ty e.id) ≡ true = eq-eqb c (chain_of chains e.ty e.id) k in cc in
        subst (λ n. IsLink chains (es ++ e ∷ []) c (length es + 1) n) (sym (get_or-set_other firsts (chain_of chains e.ty e.id) c (length es + 1) 0 differs))
        (link_other chains es e c (get_or firsts c 0) (λ (k : chain_of chains e.ty e.id ≡ c). differs (sym k)) (table.first.link c below))

-- ---- pairs and places

-- no entry is of the pair
pub none_of : (es : List Entry) (t : ObjectType) (id : ℕ) → HasNoPlace es t id → has_pair (pairs_of es) t id ≡ false
none_of [] t id none = refl
none_of (e ∷ es) t id none = ap (λ b. b || has_pair (pairs_of es) t id) (none 0 e (omega arith)) ∙ none_of es t id (λ p other below. none (suc p) other (omega (arith, below)))

-- an entry of the pair stands there
has_there : (es : List Entry) (t : ObjectType) (id place : ℕ) (d : Entry) → place < length es → is_at t id (get_or es place d) ≡ true → has_pair (pairs_of es) t id ≡ true
has_there [] t id place d within is = absurd (omega (arith, within))
has_there (x ∷ es) t id zero d within is = ap (λ b. b || has_pair (pairs_of es) t id) is
has_there (x ∷ es) t id (suc place) d within is = ap (λ b. is_at t id x || b) (has_there es t id place d (omega (arith, within)) is) ∙ late (is_at t id x)
  where
    late : (b : Bool) → (b || true) ≡ true
    late true = refl
    late false = refl

-- an entry before it isn't of the pair
not_before : (x : Entry) (es : List Entry) (t : ObjectType) (id place : ℕ) (d : Entry) → has_pair (pairs_of es) x.ty x.id ≡ false → place < length es → is_at t id (get_or es place d) ≡ true → is_at t id x ≡ false
not_before x es t id place d alone within is = go (is_at t id x) refl
  where
    go : (b : Bool) → is_at t id x ≡ b → is_at t id x ≡ false
    go true same =
        let parts = and_true (same_type x.ty t) (x.id == id) same in
        let none : has_pair (pairs_of es) t id ≡ false
        = ap (λ u. has_pair (pairs_of es) u id) (sym (type_is x.ty t parts.0)) ∙ (ap (has_pair (pairs_of es) x.ty) (sym (eqb-true x.id id parts.1)) ∙ alone) in
        let some : has_pair (pairs_of es) t id ≡ true = has_there es t id place d within is in
        let both : true ≡ false = sym some ∙ none in
        cc
    go false other = other

placed_from : (k n : ℕ) (es : List Entry) (t : ObjectType) (id place : ℕ) (d : Entry) → AreDistinct (pairs_of es) → place < length es → is_at t id (get_or es place d) ≡ true → n ≡ k + place → place_from k (pairs_of es) t id ≡ Some n
placed_from k n [] t id place d distinct within is at = absurd (omega (arith, within))
placed_from k n (x ∷ es) t id zero d distinct within is at = ap (λ b. cond b (Some k) (place_from (suc k) (pairs_of es) t id)) is ∙ ap (λ m. Some m) (omega (arith, at))
placed_from k n (x ∷ es) t id (suc place) d distinct within is at =
    ap (λ b. cond b (Some k) (place_from (suc k) (pairs_of es) t id)) (not_before x es t id place d distinct.0 (omega (arith, within)) is)
    ∙ placed_from (suc k) n es t id place d distinct.1 (omega (arith, within)) is (omega (arith, at))

-- what was found is the place of the pair
pub placed : (es : List Entry) (t : ObjectType) (id : ℕ) (d : Entry) (found : Option ℕ) → AreDistinct (pairs_of es) → IfSome found (IsPlace es t id) → IfNone found (HasNoPlace es t id) → found ≡ place_of (pairs_of es) t id
placed es t id d None distinct some none = sym (place_none 0 (pairs_of es) t id (none_of es t id none))
placed es t id d (Some place) distinct some none = sym (placed_from 0 place es t id place d distinct some.within (some.pair d) (omega arith))

-- ---- chains that are made

abbrev zeros : ℕ → List ℕ
zeros n = replicate n 0

abbrev none_at_all : List ℕ
none_at_all = []

get_zero : (n c : ℕ) → get_or (zeros n) c 0 ≡ 0
get_zero zero c = refl
get_zero (suc n) zero = refl
get_zero (suc n) (suc c) = get_zero n c

long_zero : (n : ℕ) → length (zeros n) ≡ n
long_zero zero = refl
long_zero (suc n) = ap suc (long_zero n)

-- there are as many chains as there are to be
pub made_all : (chains : ℕ) (es : List Entry) (firsts : List ℕ) → AreFirst chains es firsts → length (chains_made chains firsts) ≡ chains
made_all chains es [] first = long_zero chains
made_all chains es (f ∷ firsts) first = go first.all
  where
    go : (length (f ∷ firsts) ≡ chains) ⊎ ((f ∷ firsts ≡ []) × (es ≡ [])) → length (f ∷ firsts) ≡ chains
    go (inl all) = all
    go (inr none) = absurd (omega (arith, ap length none.0))

-- the empty chains of no entries
empty_first : (chains : ℕ) (es : List Entry) → 1 ≤ chains → AreFirst chains es [] → AreFirst chains es (zeros chains)
empty_first chains es some first = record { all = inl (long_zero chains); link = λ c below. link c }
  where
    none_of_all : (length none_at_all ≡ chains) ⊎ ((none_at_all ≡ none_at_all) × (es ≡ [])) → length es ≡ 0
    none_of_all (inl all) = absurd (omega (arith, all, some))
    none_of_all (inr none) = ap length none.1

    no_entry : length es ≡ 0
    no_entry = none_of_all first.all

    link : (c : ℕ) → IsLink chains es c (length es) (get_or (zeros chains) c 0)
    link c = subst (λ n. IsLink chains es c (length es) n) (sym (get_zero chains c)) record {
      within = omega arith;
      here = λ p other at. absurd (omega (arith, at));
      none = λ p other from below. absurd (omega (arith, below, no_entry));
    }

pub made_table : (chains : ℕ) (es : List Entry) (firsts : List ℕ) (greatest : ℕ) → IsTable chains es firsts greatest → IsTable chains es (chains_made chains firsts) greatest
made_table chains es [] greatest table = record { some = table.some; linked = table.linked; first = empty_first chains es table.some table.first; distinct = table.distinct; most = table.most }
made_table chains es (f ∷ firsts) greatest table = table

-- the same table, with the chains made
pub kept_table : (chains : ℕ) (es es' : List Entry) (firsts firsts' : List ℕ) (greatest : ℕ) → IsTable chains es firsts greatest → es' ≡ es → firsts' ≡ chains_made chains firsts → IsTable chains es' firsts' greatest
kept_table chains es es' firsts firsts' greatest table same_es made =
    subst (λ (xs : List Entry). IsTable chains xs firsts' greatest) (sym same_es) (subst (λ fs. IsTable chains es fs greatest) (sym made) (made_table chains es firsts greatest table))

-- what an entry more makes of a table
pub record Adds (chains : ℕ) (entries behind : List Entry) (firsts links : List ℕ) (greatest most : ℕ) (e : Entry) : Type 0 where
  pub entries_are : behind ≡ entries ++ e ∷ []
  pub links_are : links ≡ set (chains_made chains firsts) (chain_of chains e.ty e.id) (length entries + 1)
  pub most_is : most ≡ max greatest e.id
  pub next : e.next ≡ get_or (chains_made chains firsts) (chain_of chains e.ty e.id) 0
  pub chain : chain_of chains e.ty e.id < chains

pub added_table : (chains : ℕ) (es behind : List Entry) (firsts links : List ℕ) (greatest most : ℕ) (e : Entry) → IsTable chains es firsts greatest → Adds chains es behind firsts links greatest most e → has_pair (pairs_of es) e.ty e.id ≡ false
    → IsTable chains behind links most
added_table chains es behind firsts links greatest most e table adds new =
    subst (λ (xs : List Entry). IsTable chains xs links most) (sym adds.entries_are)
    (subst (λ l. IsTable chains (es ++ e ∷ []) l most) (sym adds.links_are)
    (subst (λ n. IsTable chains (es ++ e ∷ []) (set (chains_made chains firsts) (chain_of chains e.ty e.id) (length es + 1)) n) (sym adds.most_is)
    (add_table chains es (chains_made chains firsts) greatest e (made_table chains es firsts greatest table) (record { all = made_all chains es firsts table.first; next = adds.next; chain = adds.chain }) new)))

-- what was read at a place there is
pub read_at : (xs : List ℕ) (i x : ℕ) → i < length xs → x ≡ get_or xs i x → x ≡ get_or xs i 0
read_at [] i x within at = absurd (omega (arith, within))
read_at (y ∷ xs) zero x within at = at
read_at (y ∷ xs) (suc i) x within at = read_at xs i x (omega (arith, within)) at

-- the pair of the entry that was read
pub pair_read : (es : List Entry) (place : ℕ) (e : Entry) → place < length es → e ≡ get_or es place e → slice_get (pairs_of es) place ≡ Some (pair_of e)
pair_read [] place e low is = absurd (omega (arith, low))
pair_read (x ∷ es) zero e low is = ap (λ (u : Entry). Some (pair_of u)) (sym is)
pair_read (x ∷ es) (suc place) e low is = pair_read es place e (omega (arith, low)) is
