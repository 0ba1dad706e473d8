-- The values of pairs in one flat list.
use Rattle.std.proofs.Common.{◌≡◌, ◌≢◌, ◌≤◌, ◌<◌, ◌+◌, ◌-◌, ◌∙◌, ◌||◌, ℕ, zero, suc, max, cond, Bool, true, false, Some, List, [], ◌∷◌, ◌++◌, length, take, drop, get_or, refl, ap, sym, subst, arith, inl, inr, eq-eqb, length-append, get_or-set_same, get_or-set_other}
use Rattle.std.specs.Prelude.{nat_eq, nat_lt, find}
use Rattle.std.specs.Option.{option_map}
use Rattle.std.proofs.Math.ListN.{set, length-set, get_or-append}
use Rattle.std.proofs.Math.Seq.{get_or-append_seam}
use Rattle.std.proofs.lemmas.Bool.{eqb-true, ltb-true}
use Rattle.std.proofs.lemmas.Option.{same_Some}
use Rattle.command_tables.specs.declared.types.ObjectType.{ObjectType}
use Rattle.handle_map.specs.declared.span.Span.{Span}
use Rattle.handle_map.specs.Pairs.{AreDistinct, MapEntry, Pair, greatest_id, has_pair, is_pair, place_from, place_of, values_of}
use Rattle.handle_map.specs.Spans.{AreApart, IsSpread, IsWithin, entries_of, entry_of, put_at, values_at, written}
use Rattle.handle_map.proofs.Flat.{added_own, kept_before, length-written, written_other, written_own}
use Rattle.handle_map.proofs.PairLists.{placed_within}

-- ---- the pairs that are shown

pub shown_length : (values : List ℕ) (ps : List Pair) (ss : List Span) → length ss ≡ length ps → length (entries_of values ps ss) ≡ length ps
shown_length values [] ss all = refl
shown_length values (p ∷ ps) [] all = absurd (omega (arith, all))
shown_length values (p ∷ ps) (s ∷ ss) all = ap suc (shown_length values ps ss (omega (arith, all)))

pub shown_pair : (values : List ℕ) (ps : List Pair) (ss : List Span) (t : ObjectType) (id : ℕ) → length ss ≡ length ps → has_pair (entries_of values ps ss) t id ≡ has_pair ps t id
shown_pair values [] ss t id all = refl
shown_pair values (p ∷ ps) [] t id all = absurd (omega (arith, all))
shown_pair values (p ∷ ps) (s ∷ ss) t id all = ap (λ b. is_pair t id p || b) (shown_pair values ps ss t id (omega (arith, all)))

pub shown_place : (k : ℕ) (values : List ℕ) (ps : List Pair) (ss : List Span) (t : ObjectType) (id : ℕ) → length ss ≡ length ps → place_from k (entries_of values ps ss) t id ≡ place_from k ps t id
shown_place k values [] ss t id all = refl
shown_place k values (p ∷ ps) [] t id all = absurd (omega (arith, all))
shown_place k values (p ∷ ps) (s ∷ ss) t id all = ap (λ o. cond (is_pair t id p) (Some k) o) (shown_place (suc k) values ps ss t id (omega (arith, all)))

pub shown_distinct : (values : List ℕ) (ps : List Pair) (ss : List Span) → length ss ≡ length ps → AreDistinct ps → AreDistinct (entries_of values ps ss)
shown_distinct values [] ss all distinct = tt
shown_distinct values (p ∷ ps) [] all distinct = absurd (omega (arith, all))
shown_distinct values (p ∷ ps) (s ∷ ss) all distinct = (shown_pair values ps ss p.ty p.id (omega (arith, all)) ∙ distinct.0, shown_distinct values ps ss (omega (arith, all)) distinct.1)

pub shown_greatest : (values : List ℕ) (ps : List Pair) (ss : List Span) → length ss ≡ length ps → greatest_id (entries_of values ps ss) ≡ greatest_id ps
shown_greatest values [] ss all = refl
shown_greatest values (p ∷ ps) [] all = absurd (omega (arith, all))
shown_greatest values (p ∷ ps) (s ∷ ss) all = ap (max p.id) (shown_greatest values ps ss (omega (arith, all)))

-- ---- look-ups

found_from : (k n : ℕ) (values : List ℕ) (ps : List Pair) (ss : List Span) (t : ObjectType) (id place : ℕ) (d : Span) → length ss ≡ length ps → place_from k ps t id ≡ Some n → n ≡ k + place
    → values_of (entries_of values ps ss) t id ≡ Some (values_at values (get_or ss place d))
found_from k n values [] ss t id place d all at is = cc at
found_from k n values (p ∷ ps) [] t id place d all at is = absurd (omega (arith, all))
found_from k n values (p ∷ ps) (s ∷ ss) t id zero d all at is = go (is_pair t id p) at (λ f. (placed_within (suc k) ps t id n f).0)
  where
    go : (b : Bool) → cond b (Some k) (place_from (suc k) ps t id) ≡ Some n → (place_from (suc k) ps t id ≡ Some n → suc k ≤ n)
        → option_map (λ (x : MapEntry (List ℕ)). x.values) (cond b (Some (entry_of values p s)) (find (is_pair t id) (entries_of values ps ss))) ≡ Some (values_at values s)
    go true f rest = refl
    go false f rest = absurd (omega (arith, rest f, is))
found_from k n values (p ∷ ps) (s ∷ ss) t id (suc place) d all at is = go (is_pair t id p) at (λ f. found_from (suc k) n values ps ss t id place d (omega (arith, all)) f (omega (arith, is)))
  where
    go : (b : Bool) → cond b (Some k) (place_from (suc k) ps t id) ≡ Some n → (place_from (suc k) ps t id ≡ Some n → values_of (entries_of values ps ss) t id ≡ Some (values_at values (get_or ss place d)))
        → option_map (λ (x : MapEntry (List ℕ)). x.values) (cond b (Some (entry_of values p s)) (find (is_pair t id) (entries_of values ps ss))) ≡ Some (values_at values (get_or ss place d))
    go true f rest = let same : k ≡ n = same_Some k n f in absurd (omega (arith, same, is))
    go false f rest = rest f

-- the values of the span that was read
pub got : (values flat : List ℕ) (ps : List Pair) (ss : List Span) (t : ObjectType) (id place : ℕ) (s : Span) → length ss ≡ length ps → Some place ≡ place_of ps t id → s ≡ get_or ss place s → flat ≡ values
    → values_of (entries_of values ps ss) t id ≡ Some (take (s.start + s.len - s.start) (drop s.start flat))
got values flat ps ss t id place s all at is same =
    found_from 0 place values ps ss t id place s all (sym at) (omega arith)
    ∙ (ap (λ (u : Span). Some (values_at values u)) (sym is)
    ∙ (ap (λ n. Some (take n (drop s.start values))) (omega arith) ∙ ap (λ f. Some (take (s.start + s.len - s.start) (drop s.start f))) (sym same)))

-- ---- the same spans

pub spread_same : (count count' : ℕ) (ss ss' : List Span) (values values' : List ℕ) → count' ≡ count → ss' ≡ ss → values' ≡ values → IsSpread count ss values → IsSpread count' ss' values'
spread_same count count' ss ss' values values' counts spans flats spread =
    subst (λ n. IsSpread n ss' values') (sym counts) (subst (λ (xs : List Span). IsSpread count xs values') (sym spans) (subst (λ vs. IsSpread count ss vs) (sym flats) spread))

-- ---- a span more

got_before : (ss : List Span) (s : Span) (p : ℕ) (other : Span) → p < length ss → get_or (ss ++ s ∷ []) p other ≡ get_or ss p other
got_before ss s p other below = get_or-append ss (s ∷ []) other p below

got_last : (ss : List Span) (s : Span) (p : ℕ) (other : Span) → p ≡ length ss → get_or (ss ++ s ∷ []) p other ≡ s
got_last ss s p other at = ap (λ n. get_or (ss ++ s ∷ []) n other) at ∙ get_or-append_seam ss s [] other

-- values behind all others, and their span
pub record Appends (pairs behind : List Pair) (spans more : List Span) (values flat vs : List ℕ) (p : Pair) (s : Span) : Type 0 where
  pub pairs_are : behind ≡ pairs ++ p ∷ []
  pub spans_are : more ≡ spans ++ s ∷ []
  pub values_are : flat ≡ values ++ vs
  pub short : length values + length vs ≤ 4294967295
  pub start : s.start ≡ length values
  pub len : s.len ≡ length vs
  pub room : s.room ≡ length vs

more_from : (ps : List Pair) (ss : List Span) (values vs : List ℕ) (p : Pair) (s : Span) → length ss ≡ length ps → ((q : ℕ) (other : Span) → q < length ss → IsWithin values (get_or ss q other)) → values_at (values ++ vs) s ≡ vs
    → entries_of (values ++ vs) (ps ++ p ∷ []) (ss ++ s ∷ []) ≡ entries_of values ps ss ++ record { ty = p.ty; id = p.id; values = vs } ∷ []
more_from [] [] values vs p s all within own = ap (λ (xs : List ℕ). let x : MapEntry (List ℕ) = record { ty = p.ty; id = p.id; values = xs } in x ∷ []) own
more_from [] (x ∷ ss) values vs p s all within own = absurd (omega (arith, all))
more_from (q ∷ ps) [] values vs p s all within own = absurd (omega (arith, all))
more_from (q ∷ ps) (x ∷ ss) values vs p s all within own =
    let w = within 0 x (omega arith) in
    ap (λ (xs : List ℕ). let y : MapEntry (List ℕ) = record { ty = q.ty; id = q.id; values = xs } in y ∷ entries_of (values ++ vs) (ps ++ p ∷ []) (ss ++ s ∷ [])) (kept_before values vs x.start x.len (omega (arith, w.few, w.inside)))
    ∙ ap (λ xs. entry_of values q x ∷ xs) (more_from ps ss values vs p s (omega (arith, all)) (λ n other below. within (suc n) other (omega (arith, below))) own)

pub more_entries : (ps behind : List Pair) (ss more : List Span) (values flat vs : List ℕ) (p : Pair) (s : Span) → IsSpread (length ps) ss values → Appends ps behind ss more values flat vs p s
    → entries_of flat behind more ≡ entries_of values ps ss ++ record { ty = p.ty; id = p.id; values = vs } ∷ []
more_entries ps behind ss more values flat vs p s spread is =
    ap (λ f. entries_of f behind more) is.values_are
    ∙ (ap (λ (xs : List Pair). entries_of (values ++ vs) xs more) is.pairs_are
    ∙ (ap (λ (xs : List Span). entries_of (values ++ vs) (ps ++ p ∷ []) xs) is.spans_are ∙ more_from ps ss values vs p s spread.all spread.within own))
  where
    own : values_at (values ++ vs) s ≡ vs
    own = ap (λ n. take n (drop s.start (values ++ vs))) is.len ∙ (ap (λ n. take (length vs) (drop n (values ++ vs))) is.start ∙ added_own values vs)

pub more_spread : (ps behind : List Pair) (ss more : List Span) (values flat vs : List ℕ) (p : Pair) (s : Span) → IsSpread (length ps) ss values → Appends ps behind ss more values flat vs p s → IsSpread (length behind) more flat
more_spread ps behind ss more values flat vs p s spread is = spread_same (length ps + 1) (length behind) (ss ++ s ∷ []) more (values ++ vs) flat (ap length is.pairs_are ∙ (length-append ps (p ∷ []) ∙ omega arith)) is.spans_are is.values_are (record {
  all = omega (arith, long, spread.all);
  short = omega (arith, grown, is.short);
  within = λ q other below. within q other (omega (arith, below, long)) (nat_lt q (length ss)) refl;
  apart = λ a b other below_a below_b ne. apart a b other (omega (arith, below_a, long)) (omega (arith, below_b, long)) ne (nat_lt a (length ss)) (nat_lt b (length ss)) refl refl;
})
  where
    long : length (ss ++ s ∷ []) ≡ length ss + 1
    long = length-append ss (s ∷ []) ∙ omega arith

    grown : length (values ++ vs) ≡ length values + length vs
    grown = length-append values vs

    at_end : (q : ℕ) → q < length ss + 1 → nat_lt q (length ss) ≡ false → q ≡ length ss
    at_end q below lt = grind (arith, below, lt)

    within : (q : ℕ) (other : Span) → q < length ss + 1 → (b : Bool) → nat_lt q (length ss) ≡ b → IsWithin (values ++ vs) (get_or (ss ++ s ∷ []) q other)
    within q other below true lt =
        let w = spread.within q other (ltb-true q (length ss) lt) in
        subst (IsWithin (values ++ vs)) (sym (got_before ss s q other (ltb-true q (length ss) lt))) record { few = w.few; inside = omega (arith, w.inside, grown) }
    within q other below false lt =
        subst (IsWithin (values ++ vs)) (sym (got_last ss s q other (at_end q below lt))) record { few = omega (arith, is.len, is.room); inside = omega (arith, is.start, is.room, grown) }

    apart : (a b : ℕ) (other : Span) → a < length ss + 1 → b < length ss + 1 → a ≢ b → (u v : Bool) → nat_lt a (length ss) ≡ u → nat_lt b (length ss) ≡ v → AreApart (get_or (ss ++ s ∷ []) a other) (get_or (ss ++ s ∷ []) b other)
    apart a b other below_a below_b ne true true lt_a lt_b =
        subst (λ (u : Span). AreApart u (get_or (ss ++ s ∷ []) b other)) (sym (got_before ss s a other (ltb-true a (length ss) lt_a)))
        (subst (AreApart (get_or ss a other)) (sym (got_before ss s b other (ltb-true b (length ss) lt_b))) (spread.apart a b other (ltb-true a (length ss) lt_a) (ltb-true b (length ss) lt_b) ne))
    apart a b other below_a below_b ne true false lt_a lt_b =
        let w = spread.within a other (ltb-true a (length ss) lt_a) in
        subst (λ (u : Span). AreApart u (get_or (ss ++ s ∷ []) b other)) (sym (got_before ss s a other (ltb-true a (length ss) lt_a)))
        (subst (AreApart (get_or ss a other)) (sym (got_last ss s b other (at_end b below_b lt_b))) (inl (omega (arith, w.inside, is.start))))
    apart a b other below_a below_b ne false true lt_a lt_b =
        let w = spread.within b other (ltb-true b (length ss) lt_b) in
        subst (λ (u : Span). AreApart u (get_or (ss ++ s ∷ []) b other)) (sym (got_last ss s a other (at_end a below_a lt_a)))
        (subst (AreApart s) (sym (got_before ss s b other (ltb-true b (length ss) lt_b))) (inr (omega (arith, w.inside, is.start))))
    apart a b other below_a below_b ne false false lt_a lt_b = absurd (ne (at_end a below_a lt_a ∙ sym (at_end b below_b lt_b)))

-- ---- a span changed in its place

-- the values of the span lie in the new flat list, and those of the others lie there as they were
record IsPut (spans : List Span) (values behind : List ℕ) (place : ℕ) (s : Span) : Type 0 where
  within : place < length spans
  short : length behind ≤ 4294967295
  fits : IsWithin behind s
  others : (q : ℕ) (other : Span) → q < length spans → q ≢ place → IsWithin behind (get_or spans q other)
  kept : (q : ℕ) (other : Span) → q < length spans → q ≢ place → values_at behind (get_or spans q other) ≡ values_at values (get_or spans q other)
  apart : (q : ℕ) (other : Span) → q < length spans → q ≢ place → AreApart s (get_or spans q other)

all_kept : (ps : List Pair) (ss : List Span) (values behind : List ℕ) → length ss ≡ length ps → ((q : ℕ) (other : Span) → q < length ss → values_at behind (get_or ss q other) ≡ values_at values (get_or ss q other)) → entries_of behind ps ss ≡ entries_of values ps ss
all_kept [] ss values behind all kept = refl
all_kept (p ∷ ps) [] values behind all kept = absurd (omega (arith, all))
all_kept (p ∷ ps) (s ∷ ss) values behind all kept =
    ap (λ (vs : List ℕ). let x : MapEntry (List ℕ) = record { ty = p.ty; id = p.id; values = vs } in x ∷ entries_of behind ps ss) (kept 0 s (omega arith))
    ∙ ap (λ xs. entry_of values p s ∷ xs) (all_kept ps ss values behind (omega (arith, all)) (λ q other below. kept (suc q) other (omega (arith, below))))

put_entries : (ps : List Pair) (ss : List Span) (values behind : List ℕ) (place : ℕ) (s : Span) → length ss ≡ length ps → place < length ss
    → ((q : ℕ) (other : Span) → q < length ss → q ≢ place → values_at behind (get_or ss q other) ≡ values_at values (get_or ss q other))
    → entries_of behind ps (set ss place s) ≡ put_at (entries_of values ps ss) place (values_at behind s)
put_entries ps [] values behind place s all within kept = absurd (omega (arith, within))
put_entries [] (x ∷ ss) values behind place s all within kept = absurd (omega (arith, all))
put_entries (p ∷ ps) (x ∷ ss) values behind zero s all within kept =
    ap (λ (ys : List (MapEntry (List ℕ))). entry_of behind p s ∷ ys) (all_kept ps ss values behind (omega (arith, all)) (λ q other below. kept (suc q) other (omega (arith, below)) (λ (at : suc q ≡ 0). absurd (omega (arith, at)))))
put_entries (p ∷ ps) (x ∷ ss) values behind (suc place) s all within kept =
    ap (λ (vs : List ℕ). let y : MapEntry (List ℕ) = record { ty = p.ty; id = p.id; values = vs } in y ∷ entries_of behind ps (set ss place s)) (kept 0 x (omega arith) (λ (at : 0 ≡ suc place). absurd (omega (arith, at))))
    ∙ ap (λ xs. entry_of values p x ∷ xs) (put_entries ps ss values behind place s (omega (arith, all)) (omega (arith, within)) (λ q other below ne. kept (suc q) other (omega (arith, below)) (λ (at : suc q ≡ suc place). ne (omega (arith, at)))))

swapped : (a b : Span) → AreApart a b → AreApart b a
swapped a b (inl h) = inr h
swapped a b (inr h) = inl h

put_spread : (count : ℕ) (ss : List Span) (values behind : List ℕ) (place : ℕ) (s : Span) → IsSpread count ss values → IsPut ss values behind place s → IsSpread count (set ss place s) behind
put_spread count ss values behind place s spread is = record {
  all = long ∙ spread.all;
  short = is.short;
  within = λ p other below. within p other (omega (arith, below, long)) (nat_eq p place) refl;
  apart = λ a b other below_a below_b ne. apart a b other (omega (arith, below_a, long)) (omega (arith, below_b, long)) ne (nat_eq a place) (nat_eq b place) refl refl;
}
  where
    long : length (set ss place s) ≡ length ss
    long = length-set ss place s

    there : (p : ℕ) (other : Span) → nat_eq p place ≡ true → get_or (set ss place s) p other ≡ s
    there p other at = ap (λ n. get_or (set ss place s) n other) (eqb-true p place at) ∙ get_or-set_same ss place s other is.within

    differs : (p : ℕ) → nat_eq p place ≡ false → p ≢ place
    differs p at = λ (k : p ≡ place). let t : nat_eq p place ≡ true = eq-eqb p place k in cc

    elsewhere : (p : ℕ) (other : Span) → nat_eq p place ≡ false → get_or (set ss place s) p other ≡ get_or ss p other
    elsewhere p other at = get_or-set_other ss place p s other (differs p at)

    within : (p : ℕ) (other : Span) → p < length ss → (b : Bool) → nat_eq p place ≡ b → IsWithin behind (get_or (set ss place s) p other)
    within p other below true at = subst (IsWithin behind) (sym (there p other at)) is.fits
    within p other below false at = subst (IsWithin behind) (sym (elsewhere p other at)) (is.others p other below (differs p at))

    apart : (a b : ℕ) (other : Span) → a < length ss → b < length ss → a ≢ b → (u v : Bool) → nat_eq a place ≡ u → nat_eq b place ≡ v → AreApart (get_or (set ss place s) a other) (get_or (set ss place s) b other)
    apart a b other below_a below_b ne true true at_a at_b = absurd (ne (eqb-true a place at_a ∙ sym (eqb-true b place at_b)))
    apart a b other below_a below_b ne true false at_a at_b =
        subst (λ (u : Span). AreApart u (get_or (set ss place s) b other)) (sym (there a other at_a)) (subst (AreApart s) (sym (elsewhere b other at_b)) (is.apart b other below_b (differs b at_b)))
    apart a b other below_a below_b ne false true at_a at_b =
        subst (λ (u : Span). AreApart (get_or (set ss place s) a other) u) (sym (there b other at_b))
        (subst (λ (u : Span). AreApart u s) (sym (elsewhere a other at_a)) (swapped s (get_or ss a other) (is.apart a other below_a (differs a at_a))))
    apart a b other below_a below_b ne false false at_a at_b =
        subst (λ (u : Span). AreApart u (get_or (set ss place s) b other)) (sym (elsewhere a other at_a)) (subst (AreApart (get_or ss a other)) (sym (elsewhere b other at_b)) (spread.apart a b other below_a below_b ne))

-- at a place there is, whatever is asked for else
default_free : (xs : List Span) (n : ℕ) (a b : Span) → n < length xs → get_or xs n a ≡ get_or xs n b
default_free [] n a b within = absurd (omega (arith, within))
default_free (x ∷ xs) zero a b within = refl
default_free (x ∷ xs) (suc n) a b within = default_free xs n a b (omega (arith, within))

-- in its room
put_in_room : (count : ℕ) (ss : List Span) (values : List ℕ) (place : ℕ) (x : Span) (vs : List ℕ) → IsSpread count ss values → place < length ss → x ≡ get_or ss place x → length vs ≤ x.room
    → IsPut ss values (written values x.start vs) place (record x { len = length vs })
put_in_room count ss values place x vs spread within at room = record {
  within = within;
  short = omega (arith, long, spread.short);
  fits = record { few = room; inside = omega (arith, mine.inside, long) };
  others = λ q other below ne. let w = spread.within q other below in record { few = w.few; inside = omega (arith, w.inside, long) };
  kept = λ q other below ne. kept q other (spread.within q other below) (apart q other below ne);
  apart = apart;
}
  where
    long : length (written values x.start vs) ≡ length values
    long = length-written values x.start vs

    mine : IsWithin values x
    mine = subst (IsWithin values) (sym at) (spread.within place x within)

    apart : (q : ℕ) (other : Span) → q < length ss → q ≢ place → AreApart x (get_or ss q other)
    apart q other below ne = go (spread.apart place q x within below (λ (k : place ≡ q). ne (sym k)))
      where
        go : AreApart (get_or ss place x) (get_or ss q x) → AreApart x (get_or ss q other)
        go both = subst (λ (u : Span). AreApart u (get_or ss q other)) (sym at) (subst (AreApart (get_or ss place x)) (default_free ss q x other below) both)

    kept : (q : ℕ) (other : Span) → IsWithin values (get_or ss q other) → AreApart x (get_or ss q other) → values_at (written values x.start vs) (get_or ss q other) ≡ values_at values (get_or ss q other)
    kept q other w (inl before) = written_other values vs x.start (get_or ss q other).start (get_or ss q other).len (inr (omega (arith, before, room)))
    kept q other w (inr behind) = written_other values vs x.start (get_or ss q other).start (get_or ss q other).len (inl (omega (arith, behind, w.few)))

-- behind all others
put_at_end : (count : ℕ) (ss : List Span) (values : List ℕ) (place : ℕ) (s : Span) (vs : List ℕ) → IsSpread count ss values → place < length ss → length values + length vs ≤ 4294967295 → s.start ≡ length values → s.len ≡ length vs → s.room ≡ length vs → IsPut ss values (values ++ vs) place s
put_at_end count ss values place s vs spread within short start len room = record {
  within = within;
  short = omega (arith, long, short);
  fits = record { few = omega (arith, len, room); inside = omega (arith, long, start, room) };
  others = λ q other below ne. let w = spread.within q other below in record { few = w.few; inside = omega (arith, w.inside, long) };
  kept = λ q other below ne. let w = spread.within q other below in kept_before values vs (get_or ss q other).start (get_or ss q other).len (omega (arith, w.few, w.inside));
  apart = λ q other below ne. let w = spread.within q other below in inr (omega (arith, w.inside, start));
}
  where
    long : length (values ++ vs) ≡ length values + length vs
    long = length-append values vs

pub room_spread : (count : ℕ) (ss : List Span) (values flat : List ℕ) (place : ℕ) (x : Span) (vs : List ℕ) → IsSpread count ss values → place < length ss → x ≡ get_or ss place x → length vs ≤ x.room → flat ≡ written values x.start vs
    → IsSpread count (set ss place (record x { len = length vs })) flat
room_spread count ss values flat place x vs spread within at room is =
    subst (λ f. IsSpread count (set ss place (record x { len = length vs })) f) (sym is)
    (put_spread count ss values (written values x.start vs) place (record x { len = length vs }) spread (put_in_room count ss values place x vs spread within at room))

pub room_entries : (ps : List Pair) (ss : List Span) (values flat : List ℕ) (place : ℕ) (x : Span) (vs : List ℕ) → IsSpread (length ps) ss values → place < length ss → x ≡ get_or ss place x → length vs ≤ x.room → flat ≡ written values x.start vs
    → entries_of flat ps (set ss place (record x { len = length vs })) ≡ put_at (entries_of values ps ss) place vs
room_entries ps ss values flat place x vs spread within at room is =
    ap (λ f. entries_of f ps (set ss place (record x { len = length vs }))) is
    ∙ (put_entries ps ss values (written values x.start vs) place (record x { len = length vs }) spread.all within put.kept ∙ ap (put_at (entries_of values ps ss) place) (written_own values vs x.start (omega (arith, mine.inside, room))))
  where
    put : IsPut ss values (written values x.start vs) place (record x { len = length vs })
    put = put_in_room (length ps) ss values place x vs spread within at room

    mine : IsWithin values x
    mine = subst (IsWithin values) (sym at) (spread.within place x within)

pub end_spread : (count : ℕ) (ss : List Span) (values flat : List ℕ) (place : ℕ) (s : Span) (vs : List ℕ) → IsSpread count ss values → place < length ss → length values + length vs ≤ 4294967295 → s.start ≡ length values → s.len ≡ length vs → s.room ≡ length vs → flat ≡ values ++ vs
    → IsSpread count (set ss place s) flat
end_spread count ss values flat place s vs spread within short start len room is =
    subst (λ f. IsSpread count (set ss place s) f) (sym is) (put_spread count ss values (values ++ vs) place s spread (put_at_end count ss values place s vs spread within short start len room))

pub end_entries : (ps : List Pair) (ss : List Span) (values flat : List ℕ) (place : ℕ) (s : Span) (vs : List ℕ) → IsSpread (length ps) ss values → place < length ss → length values + length vs ≤ 4294967295 → s.start ≡ length values → s.len ≡ length vs → s.room ≡ length vs → flat ≡ values ++ vs
    → entries_of flat ps (set ss place s) ≡ put_at (entries_of values ps ss) place vs
end_entries ps ss values flat place s vs spread within short start len room is =
    ap (λ f. entries_of f ps (set ss place s)) is
    ∙ (put_entries ps ss values (values ++ vs) place s spread.all within put.kept ∙ ap (put_at (entries_of values ps ss) place) own)
  where
    put : IsPut ss values (values ++ vs) place s
    put = put_at_end (length ps) ss values place s vs spread within short start len room

    own : values_at (values ++ vs) s ≡ vs
    own = ap (λ n. take n (drop s.start (values ++ vs))) len ∙ (ap (λ n. take (length vs) (drop n (values ++ vs))) start ∙ added_own values vs)
