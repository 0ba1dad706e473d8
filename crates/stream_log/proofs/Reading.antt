-- The words of a list, read from the end.
use Rattle.std.proofs.Common.{◌≡◌, ℕ, zero, suc, ◌+◌, ◌-◌, ◌/◌, ◌%◌, ◌^◌, ◌<◌, ◌≤◌, Bool, true, false, nat_eq, None, List, [], ◌∷◌, ◌++◌, length, take, drop, get_or, refl, sym, ap, ◌∙◌, subst, arith, length-append, append_assoc}
use Rattle.std.specs.Prelude.{replicate, reverse, map, Some}
use Rattle.std.proofs.lemmas.List.Elements.{All-pop}
use Rattle.std.proofs.lemmas.List.{append-nil, reverse-append, map-append, take_more, get_or-drop, length-drop}
use Rattle.std.proofs.Math.Seq.{take-append_seam, drop-append-add}
use mathlib.Core.Option.{some, some-injective}
use lib.ListN.{get_elem?}
use Rattle.atomic_table.specs.Table.{State, Final, Seen}
use Rattle.stream_log.specs.declared.place.Place.TheVariants.{Owner}
use Rattle.stream_log.specs.Log.{line}
use Rattle.stream_log.specs.LogRule.{Line, Place, desk, mark_of, code, codes, ArePlain, IsLog, IsCoded}
use Rattle.stream_log.specs.Log.{RisesFrom}
use Rattle.stream_log.proofs.LogMoves.{codes-push, mine}

-- the last entry of a list, and where its words lie
pub record Last (front : List Line) (end : ℕ) (words : List ℕ) : Type 0 where
  pub before : List Line
  pub entry : Line
  pub front_is : front ≡ before ++ entry ∷ []
  pub small : entry.thread < 2 ^ 32
  pub coded : IsCoded before (length (codes before)) words
  pub end_is : end ≡ length (codes before) + length entry.results + 2
  pub inside : end ≤ length words
  pub time_at : get_elem? words (length (codes before)) ≡ some entry.time
  pub results_at : take (length entry.results) (drop (length (codes before) + 1) words) ≡ entry.results
  pub mark_at : get_elem? words (end - 1) ≡ some (mark_of entry.thread entry.begins (length entry.results))

-- a list that isn't empty has a last entry
pub data Snoc (front : List Line) : Type 0 where
  empty : front ≡ [] → Snoc front
  ends : (before : List Line) (e : Line) → front ≡ before ++ e ∷ [] → Snoc front

snoc : (front : List Line) → Snoc front
snoc [] = empty refl
snoc (x ∷ xs) = more (snoc xs)
  where
    more : Snoc xs → Snoc (x ∷ xs)
    more (empty is) = ends [] x (ap (λ (l : List Line). x ∷ l) is)
    more (ends before e is) = ends (x ∷ before) e (ap (λ (l : List Line). x ∷ l) is)

at_seam : (xs : List ℕ) (y : ℕ) (ys : List ℕ) (n : ℕ) → n ≡ length xs → get_elem? (xs ++ y ∷ ys) n ≡ some y
at_seam [] y ys zero is = refl
at_seam [] y ys (suc n) is = absurd (omega arith)
at_seam (x ∷ xs) y ys zero is = absurd (omega arith)
at_seam (x ∷ xs) y ys (suc n) is = at_seam xs y ys n (omega arith)

last_at : (before : List Line) (e : Line) (end : ℕ) (words : List ℕ) → IsCoded (before ++ e ∷ []) end words → Last (before ++ e ∷ []) end words
last_at before e end words h =
    let B = codes before in
    let m = mark_of e.thread e.begins (length e.results) in
    let rest = h.rest in
    let p = All-pop (λ (x : Line). x.thread < 2 ^ 32) (before ++ e ∷ []) before (Some e) refl h.plain in
    let all : words ≡ B ++ (code e ++ rest) = h.all ∙ (ap (λ (l : List ℕ). l ++ rest) (codes-push before e) ∙ append_assoc B (code e) rest) in
    let split : code e ++ rest ≡ e.time ∷ (e.results ++ m ∷ rest) = ap (λ (l : List ℕ). e.time ∷ l) (append_assoc e.results (m ∷ []) rest) in
    let whole : words ≡ B ++ e.time ∷ (e.results ++ m ∷ rest) = all ∙ ap (λ (l : List ℕ). B ++ l) split in
    let joined : words ≡ (B ++ e.time ∷ e.results) ++ m ∷ rest = whole ∙ sym (append_assoc B (e.time ∷ e.results) (m ∷ rest)) in
    let n1 : length (codes (before ++ e ∷ [])) ≡ length (B ++ code e) = ap length (codes-push before e) in
    let n2 = length-append B (code e) in
    let n3 = length-append e.results (m ∷ []) in
    let n4 = length-append B (e.time ∷ e.results) in
    let n5 : length words ≡ length ((B ++ e.time ∷ e.results) ++ m ∷ rest) = ap length joined in
    let n6 = length-append (B ++ e.time ∷ e.results) (m ∷ rest) in
    let u = h.length_is in
    record {
      before = before;
      entry = e;
      front_is = refl;
      small = p.1;
      coded = record { plain = p.0; length_is = refl; rest = code e ++ rest; all = all };
      end_is = omega arith;
      inside = omega arith;
      time_at = ap (λ (l : List ℕ). get_elem? l (length B)) whole ∙ at_seam B e.time (e.results ++ m ∷ rest) (length B) refl;
      results_at = ap (λ (l : List ℕ). take (length e.results) (drop (length B + 1) l)) whole ∙ (ap (λ (l : List ℕ). take (length e.results) l) (drop-append-add B (e.time ∷ (e.results ++ m ∷ rest)) 1) ∙ take-append_seam e.results (m ∷ rest));
      mark_at = ap (λ (l : List ℕ). get_elem? l (end - 1)) joined ∙ at_seam (B ++ e.time ∷ e.results) m rest (end - 1) (omega arith);
    }

pub last_of : (front : List Line) (end : ℕ) (words : List ℕ) → 0 < end → IsCoded front end words → Last front end words
last_of front end words more h = go (snoc front)
  where
    go : Snoc front → Last front end words
    go (empty is) = absurd (let a = h.length_is in let b : length (codes front) ≡ 0 = ap (λ (l : List Line). length (codes l)) is in omega arith)
    go (ends before e is) = subst (λ (l : List Line). Last l end words) (sym is) (last_at before e end words (subst (λ (l : List Line). IsCoded l end words) is h))

pub none_left : (front : List Line) (words : List ℕ) → IsCoded front 0 words → front ≡ []
none_left [] words h = refl
none_left (x ∷ xs) words h = absurd (let a = h.length_is in let b = length-append (code x) (codes xs) in omega arith)

pub count_back : (thread count : ℕ) (starts : Bool) → thread < 2 ^ 32 → mark_of thread starts count / 8589934592 ≡ count
count_back thread count true lt = omega arith
count_back thread count false lt = omega arith

pub thread_back : (thread count : ℕ) (starts : Bool) → thread < 2 ^ 32 → mark_of thread starts count % 4294967296 ≡ thread
thread_back thread count true lt = omega arith
thread_back thread count false lt = omega arith

pub flag_back : (thread count : ℕ) (starts : Bool) → thread < 2 ^ 32 → nat_eq ((mark_of thread starts count / 4294967296) % 2) 1 ≡ starts
flag_back thread count true lt = let e : (mark_of thread true count / 4294967296) % 2 ≡ 1 = omega arith in ap (λ (k : ℕ). nat_eq k 1) e
flag_back thread count false lt = let e : (mark_of thread false count / 4294967296) % 2 ≡ 0 = omega arith in ap (λ (k : ℕ). nat_eq k 1) e

pub decoded : (front : List Line) (end word : ℕ) (words : List ℕ) (l : Last front end words) → get_elem? words (end - 1) ≡ some word
    → (word / 8589934592 ≡ length l.entry.results) × (word % 4294967296 ≡ l.entry.thread) × (nat_eq ((word / 4294967296) % 2) 1 ≡ l.entry.begins)
decoded front end word words l at =
    let e = l.entry in
    let same : mark_of e.thread e.begins (length e.results) ≡ word = some-injective (mark_of e.thread e.begins (length e.results)) word (sym l.mark_at ∙ at) in
    subst (λ (w : ℕ). (w / 8589934592 ≡ length e.results) × (w % 4294967296 ≡ e.thread) × (nat_eq ((w / 4294967296) % 2) 1 ≡ e.begins)) same
    (count_back e.thread (length e.results) e.begins l.small, thread_back e.thread (length e.results) e.begins l.small, flag_back e.thread (length e.results) e.begins l.small)

pub entry_is : (front : List Line) (end word time : ℕ) (words results : List ℕ) (l : Last front end words)
    → get_elem? words (end - 1) ≡ some word → get_elem? words (end - 2 - word / 8589934592) ≡ some time → results ≡ take (word / 8589934592) (drop (end - 2 - word / 8589934592 + 1) words)
    → line (word % 4294967296) time (nat_eq ((word / 4294967296) % 2) 1) results ≡ l.entry
entry_is front end word time words results l mark_at time_at read =
    let e = l.entry in
    let d = decoded front end word words l mark_at in
    let long = l.end_is in
    let n = d.0 in
    let at : end - 2 - word / 8589934592 ≡ length (codes l.before) = omega arith in
    let t : time ≡ e.time = some-injective time e.time (sym time_at ∙ (ap (λ (k : ℕ). get_elem? words k) at ∙ l.time_at)) in
    let r : results ≡ e.results = read ∙ ((λ i. take (n i) (drop (at i + 1) words)) ∙ l.results_at) in
    λ i. line (d.1 i) (t i) (d.2 i) (r i)

get_of : (l : List ℕ) (i a : ℕ) → get_elem? l i ≡ some a → (i < length l) × (get_or l i 0 ≡ a)
get_of [] i a e = absurd (mathlib.Core.Option.some-ne-none a (sym e))
get_of (x ∷ xs) zero a e = (omega arith, some-injective x a e)
get_of (x ∷ xs) (suc i) a e = let r = get_of xs i a e in (let lt = r.0 in omega arith, r.1)

pub more_read : (items : List ℕ) (from i w : ℕ) → get_elem? items (from + i) ≡ some w → take (i + 1) (drop from items) ≡ take i (drop from items) ++ w ∷ []
more_read items from i w at =
    let g = get_of items (from + i) w at in
    let lt = g.0 in
    let n = length-drop from items in
    take_more (drop from items) i 0 (omega arith) ∙ ap (λ (k : ℕ). take i (drop from items) ++ k ∷ []) (get_or-drop from items i 0 ∙ g.1)

pub map-reverse : {A B : Type 0} (f : A → B) (xs : List A) → map f (reverse xs) ≡ reverse (map f xs)
map-reverse f [] = refl
map-reverse f (x ∷ xs) =
    ap (map f) (reverse-append (x ∷ []) xs)
    ∙ (map-append f (reverse xs) (x ∷ []) ∙ (ap (λ l. l ++ f x ∷ []) (map-reverse f xs) ∙ sym (reverse-append (f x ∷ []) (map f xs))))

-- the words of a closed log are the owner's list
pub closing : (size id used : ℕ) (list : List Line) (held words : List ℕ) (xs : List (Unit {0})) (v : Place)
    → v ≡ Owner (desk list [] held None) → ArePlain list → used ≡ length (codes list) → Final (Seen (IsLog size) id v) words xs → IsCoded list used words
closing size id used list held words xs v is plain long f =
    let s : State (Unit {0}) Place = f.0 in
    let st = mine size id s (desk list [] held None) f.1.0 (f.1.1 ∙ ap some is) in
    record {
      plain = plain;
      length_is = long;
      rest = replicate st.laid.free 0;
      all = sym f.2 ∙ (st.laid.all ∙ ap (λ (l : List ℕ). l ++ replicate st.laid.free 0) (append-nil (codes list)));
    }

-- times rise in the owner's list
pub rising : (size id : ℕ) (list : List Line) (held words : List ℕ) (xs : List (Unit {0})) (v : Place)
    → v ≡ Owner (desk list [] held None) → Final (Seen (IsLog size) id v) words xs → RisesFrom 0 list
rising size id list held words xs v is f =
    let s : State (Unit {0}) Place = f.0 in
    (mine size id s (desk list [] held None) f.1.0 (f.1.1 ∙ ap some is)).rises
