-- Each step of a log keeps its rule.
use Rattle.std.proofs.Common.{◌≡◌, ◌≢◌, ◌⊎◌, ℕ, zero, suc, ◌+◌, ◌/◌, ◌%◌, ◌^◌, ◌<◌, Bool, true, false, true≢false, nat_eq, List, [], ◌∷◌, ◌++◌, length, get_or, set, Option, Some, None, refl, sym, ap, ◌∙◌, subst, ⊎_elim, inl, inr, arith, length-set, length-append, append_assoc}
use Rattle.std.specs.Prelude.{Contains, replicate}
use Rattle.std.proofs.lemmas.List.{length-replicate, append-nil}
use Rattle.std.proofs.lemmas.List.Elements.{All-nil, Contains-push_cases}
use Rattle.std.proofs.Math.Seq.{set-append_seam}
use mathlib.Core.Option.{none, some, some-injective, some-ne-none}
use lib.ListN.{get_elem?}
use Rattle.atomic_table.specs.Table.{State, Me, step, keeps, stepped, opening, Allows, Splits, Joins}
use Rattle.atomic_table.proofs.Lists.{at_set, at_longer, set_here, set_else}
use Rattle.stream_log.specs.declared.place.Place.TheVariants.{Owner, Token, Spent}
use Rattle.stream_log.specs.Log.{line, last_time, without}
use Rattle.stream_log.proofs.Laws.{rises-push, past-push, without_keeps}
use Rattle.stream_log.specs.LogRule.{Line, Ticket, Desk, Place, mark_of, code, codes, ticket, desk, Fits, KeptFits, IsLaid, Stands, IsLog, newcomer, IsWriting, written, Written, line_from, grown, Grown, IsHolding, less, token_of, more, spent, Compared}
use Rattle.stream_log.specs.Log.{RisesFrom}

-- views told apart

blank : Desk
blank = desk [] [] [] None

abbrev desk_in : Place → Desk
desk_in (Owner d) = d
desk_in (Token t) = desk [] [] [] None
desk_in Spent = desk [] [] [] None

abbrev owns : Place → Bool
owns (Owner d) = true
owns (Token t) = false
owns Spent = false

same_desk : (d e : Desk) → Owner d ≡ Owner e → d ≡ e
same_desk d e is = ap desk_in is

apart : (d : Desk) (t : Ticket) → Owner d ≡ Token t → ⊥
apart d t is = true≢false (ap owns is)

bound : (l : List Place) (i : ℕ) (a : Place) → get_elem? l i ≡ some a → i < length l
bound [] i a e = absurd (some-ne-none a (sym e))
bound (x ∷ xs) zero a e = omega arith
bound (x ∷ xs) (suc i) a e = let r = bound xs i a e in omega arith

-- the rule at the owner's own seat
pub mine : (size id : ℕ) (s : State (Unit {0}) Place) (d : Desk) → IsLog size s → get_elem? s.views id ≡ some (Owner d) → Stands size id d s
mine size id s d h at =
    let st = h.2 in
    let there : id ≡ h.0 = st.one_owner id d at in
    let same : h.1 ≡ d = same_desk h.1 d (some-injective (Owner h.1) (Owner d) (sym st.at_owner ∙ (ap (λ (k : ℕ). get_elem? s.views k) (sym there) ∙ at))) in
    subst (λ (z : ℕ × Desk). Stands size z.0 z.1 s) (λ i. (sym there i, same i)) st

-- the owner has a new view, and a word is stored
moved : (size id : ℕ) (d e : Desk) (s : State (Unit {0}) Place) (c : List (ℕ × Unit {0})) (i n : ℕ)
    → Stands size id d s
    → IsLaid size e (set s.words i n)
    → RisesFrom 0 e.list
    → ((t : Ticket) → Fits d.list t → ¬ Contains d.held t.thread → Fits e.list t × (¬ Contains e.held t.thread))
    → KeptFits e.list e.kept
    → Stands size id e (stepped s i n id c (Owner e) keeps)
moved size id d e s c i n st laid rises others kept = record {
  at_owner = set_here s.views id (Owner e) (bound s.views id (Owner d) st.at_owner);
  one_owner = λ j f at. ⊎_elim (λ (t : (j ≡ id) × (Owner e ≡ Owner f)). t.0) (λ (t : (j ≢ id) × (get_elem? s.views j ≡ some (Owner f))). st.one_owner j f t.1) (at_set s.views id j (Owner e) (Owner f) at);
  laid = laid;
  rises = rises;
  fits = λ j t at. let was = token_was j t at in (others t (st.fits j t was) (st.out j t was)).0;
  out = λ j t at. let was = token_was j t at in (others t (st.fits j t was) (st.out j t was)).1;
  once = λ j k t u at at' same. st.once j k t u (token_was j t at) (token_was k u at') same;
  kept = kept;
}
  where
    token_was : (j : ℕ) (t : Ticket) → get_elem? (set s.views id (Owner e)) j ≡ some (Token t) → get_elem? s.views j ≡ some (Token t)
    token_was j t at = ⊎_elim (λ (x : (j ≡ id) × (Owner e ≡ Token t)). absurd (apart e t x.1)) (λ (x : (j ≢ id) × (get_elem? s.views j ≡ some (Token t))). x.1) (at_set s.views id j (Owner e) (Token t) at)

-- words

next_word : (front : List ℕ) (free at size w : ℕ) (words : List ℕ) → words ≡ front ++ replicate free 0 → length words ≡ size → at ≡ length front → at < size
    → (left : ℕ) × (set words at w ≡ (front ++ w ∷ []) ++ replicate left 0)
next_word front zero at size w words is long here fits = absurd (let n : length words ≡ length (front ++ []) = ap length is in let m = length-append front [] in omega arith)
next_word front (suc f) at size w words is long here fits =
    (f, ap (λ (l : List ℕ). set l at w) is ∙ (ap (λ (k : ℕ). set (front ++ 0 ∷ replicate f 0) k w) here ∙ (set-append_seam front 0 (replicate f 0) w ∙ sym (append_assoc front (w ∷ []) (replicate f 0)))))

lays : (size at w : ℕ) (d e : Desk) (words : List ℕ) → IsLaid size d words → at ≡ length (codes d.list ++ d.pending) → at < size
    → codes e.list ++ e.pending ≡ (codes d.list ++ d.pending) ++ w ∷ [] → IsLaid size e (set words at w)
lays size at w d e words l here fits is =
    let n = next_word (codes d.list ++ d.pending) l.free at size w words l.all l.size_is here fits in
    record { free = n.0; all = n.1 ∙ ap (λ (xs : List ℕ). xs ++ replicate n.0 0) (sym is); size_is = length-set words at w ∙ l.size_is }

pub codes-push : (es : List Line) (e : Line) → codes (es ++ e ∷ []) ≡ codes es ++ code e
codes-push [] e = append-nil (code e)
codes-push (x ∷ xs) e = ap (λ (l : List ℕ). code x ++ l) (codes-push xs e) ∙ sym (append_assoc (code x) (codes xs) (code e))

-- lists of entries

no_kept : (list : List Line) (kept : Option Ticket) → kept ≡ None → KeptFits list kept
no_kept list kept is = subst (KeptFits list) (sym is) tt

-- step by step

pub begins : (size : ℕ) (words threads : List ℕ) → words ≡ replicate size 0 → IsLog size (opening words [] (newcomer threads))
begins size words threads is = (
  0,
  desk [] [] threads None,
  record {
    at_owner = refl;
    one_owner = first_alone;
    laid = record { free = size; all = is; size_is = ap length is ∙ length-replicate size 0 };
    rises = tt;
    fits = λ id t at. absurd (no_token id t at);
    out = λ id t at. absurd (no_token id t at);
    once = λ id other t u at at' same. absurd (no_token id t at);
    kept = tt;
  },
)
  where
    first_alone : (id : ℕ) (e : Desk) → get_elem? (newcomer threads ∷ []) id ≡ some (Owner e) → id ≡ 0
    first_alone zero e at = refl
    first_alone (suc id) e at = absurd (some-ne-none (Owner e) (sym at))

    no_token : (id : ℕ) (t : Ticket) → get_elem? (newcomer threads ∷ []) id ≡ some (Token t) → ⊥
    no_token zero t at = apart (desk [] [] threads None) t (some-injective (newcomer threads) (Token t) at)
    no_token (suc id) t at = some-ne-none (Token t) (sym at)

pub writes : (size slots id at w : ℕ) (v : Place) (c : List (ℕ × Unit {0})) → IsWriting at v → at < size
    → Allows (IsLog size) slots id (v, c) at (λ _. w) (λ _. Written (step slots at w 0 none) (v, c) w)
writes size slots id at w (Owner d) c here fits s h _ there small =
    let st = mine size id s d h there in
    let e = desk d.list (d.pending ++ w ∷ []) d.held d.kept in (
      Owner e,
      keeps,
      tt,
      (
        id,
        e,
        moved size id d e s c at w st
            (lays size at w d e s.words st.laid here.0 fits (sym (append_assoc (codes d.list) d.pending (w ∷ []))))
            st.rises
            (λ t f n. (f, n))
            st.kept,
      ),
      refl,
    )
writes size slots id at w (Token t) c here fits s h _ there small = absurd here
writes size slots id at w Spent c here fits s h _ there small = absurd here

pub grows : (size slots id at w : ℕ) (d : Desk) (x : Line) (v : Place) (c : List (ℕ × Unit {0}))
    → v ≡ Owner d → at ≡ length (codes d.list ++ d.pending) → at < size → d.kept ≡ None → line_from d.pending w ≡ x → code x ≡ d.pending ++ w ∷ []
    → last_time d.list < x.time → Contains d.held x.thread
    → Allows (IsLog size) slots id (v, c) at (λ _. w) (λ _. Grown (step slots at w 0 none) (v, c) w)
grows size slots id at w d x v c is here fits kept from made later holds s h _ there small =
    let st = mine size id s d h (there ∙ ap some is) in
    let e = desk (d.list ++ x ∷ []) [] d.held d.kept in (
      Owner e,
      keeps,
      tt,
      (
        id,
        e,
        moved size id d e s c at w st
            (lays size at w d e s.words st.laid here fits (append-nil (codes (d.list ++ x ∷ [])) ∙ (codes-push d.list x ∙ (ap (λ (l : List ℕ). codes d.list ++ l) made ∙ sym (append_assoc (codes d.list) d.pending (w ∷ []))))))
            (rises-push 0 d.list x st.rises later)
            (λ t f n. (past-push t.thread t.list d.list x f (λ same. n (subst (Contains d.held) same holds)), n))
            (no_kept (d.list ++ x ∷ []) d.kept kept),
      ),
      ap (λ (y : Line). (Owner (desk (d.list ++ y ∷ []) [] d.held d.kept), c)) (sym from) ∙ ap (λ (u : Place). (grown u w, c)) (sym is),
    )

pub line_back : (thread time : ℕ) (starts : Bool) (results : List ℕ) → thread < 2 ^ 32 → line_from (time ∷ results) (mark_of thread starts (length results)) ≡ line thread time starts results
line_back thread time starts results small =
    let n : ℕ = mark_of thread starts (length results) in
    let a : n % 2 ^ 32 ≡ thread = low starts in
    let b : nat_eq ((n / 2 ^ 32) % 2) 1 ≡ starts = flag starts in
    λ i. line (a i) time (b i) results
  where
    low : (f : Bool) → mark_of thread f (length results) % 2 ^ 32 ≡ thread
    low true = omega arith
    low false = omega arith

    flag : (f : Bool) → nat_eq ((mark_of thread f (length results) / 2 ^ 32) % 2) 1 ≡ f
    flag true = let e : (mark_of thread true (length results) / 2 ^ 32) % 2 ≡ 1 = omega arith in ap (λ (k : ℕ). nat_eq k 1) e
    flag false = let e : (mark_of thread false (length results) / 2 ^ 32) % 2 ≡ 0 = omega arith in ap (λ (k : ℕ). nat_eq k 1) e

pub writes_as : (size slots id at w : ℕ) (v : Place) (c : List (ℕ × Unit {0})) (me : Me (Unit {0}) Place) → me ≡ (v, c) → IsWriting at v → at < size
    → Allows (IsLog size) slots id me at (λ _. w) (λ _. Written (step slots at w 0 none) me w)
writes_as size slots id at w v c me is here fits =
    subst (λ (m : Me (Unit {0}) Place). Allows (IsLog size) slots id m at (λ _. w) (λ _. Written (step slots at w 0 none) m w)) (sym is) (writes size slots id at w v c here fits)

pub grows_as : (size slots id at w : ℕ) (d : Desk) (x : Line) (c : List (ℕ × Unit {0})) (me : Me (Unit {0}) Place)
    → me ≡ (Owner d, c) → at ≡ length (codes d.list ++ d.pending) → at < size → d.kept ≡ None → line_from d.pending w ≡ x → code x ≡ d.pending ++ w ∷ []
    → last_time d.list < x.time → Contains d.held x.thread
    → Allows (IsLog size) slots id me at (λ _. w) (λ _. Grown (step slots at w 0 none) me w)
grows_as size slots id at w d x c me is here fits kept from made later holds =
    subst (λ (m : Me (Unit {0}) Place). Allows (IsLog size) slots id m at (λ _. w) (λ _. Grown (step slots at w 0 none) m w)) (sym is)
    (grows size slots id at w d x (Owner d) c refl here fits kept from made later holds)

pub writing_on : (at n : ℕ) (v : Place) (ws : List ℕ) → IsWriting at v → length ws ≡ n → IsWriting (at + n) (written v ws)
writing_on at n (Owner d) ws here is =
    let a = here.0 in
    let b = ap length (append_assoc (codes d.list) d.pending ws) in
    let l = length-append (codes d.list ++ d.pending) ws in
    (omega arith, here.1)
writing_on at n (Token t) ws here is = absurd here
writing_on at n Spent ws here is = absurd here

pub written-push : (v : Place) (ws us : List ℕ) → written (written v ws) us ≡ written v (ws ++ us)
written-push (Owner d) ws us = ap (λ (l : List ℕ). Owner (desk d.list l d.held d.kept)) (append_assoc d.pending ws us)
written-push (Token t) ws us = refl
written-push Spent ws us = refl

pub written-nil : (v : Place) → v ≡ written v []
written-nil (Owner d) = ap (λ (l : List ℕ). Owner (desk d.list l d.held d.kept)) (sym (append-nil d.pending))
written-nil (Token t) = refl
written-nil Spent = refl

-- the owner's view before the last word of an entry
pub all_written : (list : List Line) (held : List ℕ) (time : ℕ) (results : List ℕ) (a b d : Me (Unit {0}) Place)
    → a ≡ (Owner (desk list [] held None), []) → b ≡ (written a.0 (time ∷ []), a.1) → d ≡ (written b.0 results, b.1)
    → d ≡ (Owner (desk list (time ∷ results) held None), [])
all_written list held time results a b d is next then =
    then ∙ ap (λ (m : Me (Unit {0}) Place). (written m.0 results, m.1)) (next ∙ ap (λ (m : Me (Unit {0}) Place). (written m.0 (time ∷ []), m.1)) is)

-- the owner's view after it
pub all_grown : (list : List Line) (held : List ℕ) (thread time : ℕ) (starts : Bool) (results : List ℕ) (w : ℕ) (a b : Me (Unit {0}) Place)
    → a ≡ (Owner (desk list (time ∷ results) held None), []) → b ≡ (grown a.0 w, a.1) → w ≡ mark_of thread starts (length results) → thread < 2 ^ 32
    → b ≡ (Owner (desk (list ++ line thread time starts results ∷ []) [] held None), [])
all_grown list held thread time starts results w a b is next word small =
    next ∙ ap (λ (m : Me (Unit {0}) Place). (grown m.0 w, m.1)) is
    ∙ ap (λ (y : Line). (Owner (desk (list ++ y ∷ []) [] held None), [])) (ap (λ (k : ℕ). line_from (time ∷ results) k) word ∙ line_back thread time starts results small)

pub length-codes-push : (list : List Line) (thread time : ℕ) (starts : Bool) (results : List ℕ) → length (codes (list ++ line thread time starts results ∷ [])) ≡ length (codes list) + length results + 2
length-codes-push list thread time starts results =
    let e = line thread time starts results in
    let a : length (codes (list ++ e ∷ [])) ≡ length (codes list ++ code e) = ap length (codes-push list e) in
    let b = length-append (codes list) (code e) in
    let d = length-append results (mark_of thread starts (length results) ∷ []) in
    omega arith

-- tokens

abbrev ticket_in : Place → Ticket
ticket_in (Owner d) = ticket 0 []
ticket_in (Token t) = t
ticket_in Spent = ticket 0 []

abbrev gone : Place → Bool
gone (Owner d) = false
gone (Token t) = false
gone Spent = true

at_end : (l : List Place) (a b : Place) (j : ℕ) → get_elem? (l ++ a ∷ []) j ≡ some b → (get_elem? l j ≡ some b) ⊎ ((j ≡ length l) × (a ≡ b))
at_end [] a b zero e = inr (refl, some-injective a b e)
at_end [] a b (suc j) e = absurd (some-ne-none b (sym e))
at_end (x ∷ xs) a b zero e = inl e
at_end (x ∷ xs) a b (suc j) e = ⊎_elim (λ (h : get_elem? xs j ≡ some b). inl h) (λ (h : (j ≡ length xs) × (a ≡ b)). inr (ap suc h.0, h.1)) (at_end xs a b j e)

pub gives : (size id thread : ℕ) (d : Desk) → Contains d.held thread
    → Splits (IsLog size) id (Owner d) (less thread (Owner d)) (token_of thread (Owner d))
gives size id thread d holds s h there =
    let st = mine size id s d h there in
    let e = desk d.list d.pending (without thread d.held) d.kept in
    let new = ticket thread d.list in
    let views = set s.views id (Owner e) in
    let long : length views ≡ length s.views = length-set s.views id (Owner e) in
    let was : (j : ℕ) (t : Ticket) → get_elem? views j ≡ some (Token t) → get_elem? s.views j ≡ some (Token t)
    = λ j t at. ⊎_elim (λ (x : (j ≡ id) × (Owner e ≡ Token t)). absurd (apart e t x.1)) (λ (x : (j ≢ id) × (get_elem? s.views j ≡ some (Token t))). x.1) (at_set s.views id j (Owner e) (Token t) at) in
    let each : (j : ℕ) (t : Ticket) → get_elem? (views ++ Token new ∷ []) j ≡ some (Token t) → (get_elem? s.views j ≡ some (Token t)) ⊎ ((j ≡ length views) × (new ≡ t))
    = λ j t at. ⊎_elim (λ (x : get_elem? views j ≡ some (Token t)). inl (was j t x)) (λ (x : (j ≡ length views) × (Token new ≡ Token t)). inr (x.0, ap ticket_in x.1)) (at_end views (Token new) (Token t) j at) in
    let taken : (j : ℕ) (t : Ticket) → get_elem? s.views j ≡ some (Token t) → thread ≢ t.thread = λ j t at same. st.out j t at (subst (Contains d.held) same holds) in (
      id,
      e,
      record {
        at_owner = at_longer views (Token new ∷ []) id (Owner e) (set_here s.views id (Owner e) (bound s.views id (Owner d) there));
        one_owner = λ j f at. ⊎_elim
            (λ (x : get_elem? views j ≡ some (Owner f)).
            ⊎_elim (λ (y : (j ≡ id) × (Owner e ≡ Owner f)). y.0) (λ (y : (j ≢ id) × (get_elem? s.views j ≡ some (Owner f))). st.one_owner j f y.1) (at_set s.views id j (Owner e) (Owner f) x))
            (λ (x : (j ≡ length views) × (Token new ≡ Owner f)). absurd (apart f new (sym x.1)))
            (at_end views (Token new) (Owner f) j at);
        laid = record { free = st.laid.free; all = st.laid.all; size_is = st.laid.size_is };
        rises = st.rises;
        fits = λ j t at. ⊎_elim
            (λ (x : get_elem? s.views j ≡ some (Token t)). st.fits j t x)
            (λ (x : (j ≡ length views) × (new ≡ t)). subst (Fits d.list) x.1 ([], sym (append-nil d.list), All-nil (λ (x : Line). x.thread ≢ thread)))
            (each j t at);
        out = λ j t at has. let kept = without_keeps thread d.held t.thread has in ⊎_elim
            (λ (x : get_elem? s.views j ≡ some (Token t)). st.out j t x kept.0)
            (λ (x : (j ≡ length views) × (new ≡ t)). kept.1 (ap (λ (u : Ticket). u.thread) (sym x.1)))
            (each j t at);
        once = λ j k t u at at' same. ⊎_elim
            (λ (x : get_elem? s.views j ≡ some (Token t)). ⊎_elim
            (λ (y : get_elem? s.views k ≡ some (Token u)). st.once j k t u x y same)
            (λ (y : (k ≡ length views) × (new ≡ u)). absurd (taken j t x (ap (λ (z : Ticket). z.thread) y.1 ∙ sym same)))
            (each k u at'))
            (λ (x : (j ≡ length views) × (new ≡ t)). ⊎_elim
            (λ (y : get_elem? s.views k ≡ some (Token u)). absurd (taken k u y (ap (λ (z : Ticket). z.thread) x.1 ∙ same)))
            (λ (y : (k ≡ length views) × (new ≡ u)). x.0 ∙ sym y.0)
            (each k u at'))
            (each j t at);
        kept = st.kept;
      },
    )

pub gives_as : (size id thread : ℕ) (v : Place) → IsHolding thread v → Splits (IsLog size) id v (less thread v) (token_of thread v)
gives_as size id thread (Owner d) holds = gives size id thread d holds
gives_as size id thread (Token t) holds = absurd holds
gives_as size id thread Spent holds = absurd holds

pub takes : (size id other : ℕ) (d : Desk) (t : Ticket) → Joins (IsLog size) id (Owner d) other (Token t) (more (Owner d) (Token t)) spent
takes size id other d t s h there differs at_other =
    let st = mine size id s d h there in
    let e = desk d.list d.pending (d.held ++ t.thread ∷ []) (Some t) in
    let views = set s.views id (Owner e) in
    let theirs : get_elem? s.views other ≡ some (Token t) = ⊎_elim (λ (x : (other ≡ id) × (Owner e ≡ Token t)). absurd (differs x.0)) (λ (x : (other ≢ id) × (get_elem? s.views other ≡ some (Token t))). x.1) (at_set s.views id other (Owner e) (Token t) at_other) in
    let each : (j : ℕ) (u : Ticket) → get_elem? (set views other Spent) j ≡ some (Token u) → (j ≢ other) × (get_elem? s.views j ≡ some (Token u))
    = λ j u at. ⊎_elim
    (λ (x : (j ≡ other) × (Spent ≡ Token u)). absurd (true≢false (ap gone x.1)))
    (λ (x : (j ≢ other) × (get_elem? views j ≡ some (Token u))). (x.0, ⊎_elim (λ (y : (j ≡ id) × (Owner e ≡ Token u)). absurd (apart e u y.1)) (λ (y : (j ≢ id) × (get_elem? s.views j ≡ some (Token u))). y.1) (at_set s.views id j (Owner e) (Token u) x.1)))
    (at_set views other j Spent (Token u) at) in (
      id,
      e,
      record {
        at_owner = set_else views other id Spent (λ same. differs (sym same)) ∙ set_here s.views id (Owner e) (bound s.views id (Owner d) there);
        one_owner = λ j f at. ⊎_elim
            (λ (x : (j ≡ other) × (Spent ≡ Owner f)). absurd (true≢false (ap gone x.1)))
            (λ (x : (j ≢ other) × (get_elem? views j ≡ some (Owner f))).
            ⊎_elim (λ (y : (j ≡ id) × (Owner e ≡ Owner f)). y.0) (λ (y : (j ≢ id) × (get_elem? s.views j ≡ some (Owner f))). st.one_owner j f y.1) (at_set s.views id j (Owner e) (Owner f) x.1))
            (at_set views other j Spent (Owner f) at);
        laid = record { free = st.laid.free; all = st.laid.all; size_is = st.laid.size_is };
        rises = st.rises;
        fits = λ j u at. st.fits j u (each j u at).1;
        out = λ j u at has. let x = each j u at in ⊎_elim
            (λ (y : Contains d.held u.thread). st.out j u x.1 y)
            (λ (y : t.thread ≡ u.thread). x.0 (sym (st.once other j t u theirs x.1 y)))
            (Contains-push_cases d.held t.thread u.thread has);
        once = λ j k u w at at' same. st.once j k u w (each j u at).1 (each k w at').1 same;
        kept = st.fits other t theirs;
      },
    )

pub takes_as : (size id other : ℕ) (d : Desk) (t : Ticket) (v w : Place) → v ≡ Owner d → w ≡ Token t → Joins (IsLog size) id v other w (more v w) spent
takes_as size id other d t v w is is' = subst (λ (z : Place × Place). Joins (IsLog size) id z.0 other z.1 (more z.0 z.1) spent) (λ i. (sym is i, sym is' i)) (takes size id other d t)

same_words : (words : List ℕ) (i : ℕ) → i < length words → set words i (get_or words i 0) ≡ words
same_words [] i lt = absurd (omega arith)
same_words (w ∷ ws) zero lt = refl
same_words (w ∷ ws) (suc i) lt = ap (λ (l : List ℕ). w ∷ l) (same_words ws i (omega arith))

pub compares : (size slots id i : ℕ) (d : Desk) (me : Me (Unit {0}) Place) (c : List (ℕ × Unit {0})) → me ≡ (Owner d, c) → i < size
    → Allows (IsLog size) slots id me i (λ n. n) (Compared (step slots i 0 0 none) me)
compares size slots id i d me c is fits =
    subst (λ (m : Me (Unit {0}) Place). Allows (IsLog size) slots id m i (λ n. n) (Compared (step slots i 0 0 none) m)) (sym is) (λ s h _ there small.
    let st = mine size id s d h there in
    let e = desk d.list d.pending d.held None in
    let lt = st.laid.size_is in
    let same = same_words s.words i (omega arith) in (
      Owner e,
      keeps,
      tt,
      (
        id,
        e,
        moved size id d e s c i (get_or s.words i 0) st
            (record { free = st.laid.free; all = same ∙ st.laid.all; size_is = ap length same ∙ st.laid.size_is })
            st.rises
            (λ t f n. (f, n))
            tt,
      ),
      (refl, st.kept),
    ))
