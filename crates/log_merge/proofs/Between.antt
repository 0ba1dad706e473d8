-- The merge of some of the logs, made of those of fewer.
use Rattle.std.proofs.Common.{◌≡◌, ℕ, ◌+◌, ◌<◌, ◌≤◌, Bool, true, false, not, ◌==◌, nat_eq, nat_lt, List, [], ◌∷◌, length, refl, sym, ap, ◌∙◌, subst, arith, true-eqb, eq-eqb, ne_eqb}
use Rattle.std.specs.Prelude.{filter, map}
use Rattle.std.specs.List.{AllByRecursion, slice_index_or}
use Rattle.std.proofs.lemmas.Bool.{lt-ltb, le-ltb, ltb-true, ltb-false}
use Rattle.std.proofs.lemmas.List.{get_or_past}
use Rattle.stream_log.specs.Log.{RisesFrom}
use Rattle.stream_log.specs.declared.line.Line.{Line}
use Rattle.log_merge.specs.Halves.{IsMergeBetween, IsMergeOfTwo, in_log}
use Rattle.log_merge.specs.Merged.{NumberedLine, AreOrdered, PrecedesFirst, IsLogMerge, lines_of_log}
use Rattle.log_merge.proofs.Kept.{weaker, both_kept, filter_none, filter_twice}

-- the entries of a log alone
own_lines : (k : ℕ) (lines : List Line) → lines_of_log k (map (in_log k) lines) ≡ lines
own_lines k [] = refl
own_lines k (x ∷ lines) = rw (eq-eqb k k refl) (ap (λ (l : List Line). x ∷ l) (own_lines k lines))

all_in : (from to k : ℕ) (lines : List Line) → from ≤ k → k < to → AllByRecursion (λ (x : NumberedLine). (from ≤ x.log) × (x.log < to)) (map (in_log k) lines)
all_in from to k [] low high = tt
all_in from to k (x ∷ lines) low high = ((low, high), all_in from to k lines low high)

first_in : (k : ℕ) (x : Line) (lines : List Line) → RisesFrom x.time lines → PrecedesFirst (in_log k x) (map (in_log k) lines)
first_in k x [] h = tt
first_in k x (y ∷ lines) h = rw (lt-ltb x.time y.time h.0) refl

ordered_in : (k n : ℕ) (lines : List Line) → RisesFrom n lines → AreOrdered (map (in_log k) lines)
ordered_in k n [] h = tt
ordered_in k n (x ∷ lines) h = (first_in k x lines h.1, ordered_in k x.time lines h.1)

pub none_between : (logs : List (List Line)) (from to : ℕ) → to ≤ from → IsMergeBetween logs from to []
none_between logs from to le = record { each = λ k low high. absurd (omega arith); within = tt; ordered = tt }

own_at : (logs : List (List Line)) (from k : ℕ) (lines : List Line) → k ≡ from → slice_index_or logs from [] ≡ lines → lines_of_log k (map (in_log from) lines) ≡ slice_index_or logs k []
own_at logs from k lines same is = subst (λ (m : ℕ). lines_of_log m (map (in_log from) lines) ≡ slice_index_or logs m []) (sym same) (own_lines from lines ∙ sym is)

-- a log alone, of those from its number up to the next
pub one_between : (logs : List (List Line)) (from to : ℕ) (lines : List Line) → to ≡ from + 1 → slice_index_or logs from [] ≡ lines → RisesFrom 0 lines → IsMergeBetween logs from to (map (in_log from) lines)
one_between logs from to lines next is rises = record {
  each = λ k low high. own_at logs from k lines (omega arith) is;
  within = all_in from to from lines (omega arith) (omega arith);
  ordered = ordered_in from 0 lines rises;
}

all_left : (from middle : ℕ) (x : NumberedLine) → (from ≤ x.log) × (x.log < middle) → nat_lt x.log middle ≡ true
all_left from middle x h = lt-ltb x.log middle h.1

all_right : (middle to : ℕ) (x : NumberedLine) → (middle ≤ x.log) × (x.log < to) → nat_lt x.log middle ≡ false
all_right middle to x h = le-ltb x.log middle h.0

is_left : (k middle : ℕ) → k < middle → (x : NumberedLine) → nat_eq x.log k ≡ true → nat_lt x.log middle ≡ true
is_left k middle lt x is = let e : x.log ≡ k = true-eqb x.log k (sym is) in lt-ltb x.log middle (omega arith)

is_right : (k middle : ℕ) → middle ≤ k → (x : NumberedLine) → nat_eq x.log k ≡ true → not (nat_lt x.log middle) ≡ true
is_right k middle le x is = let e : x.log ≡ k = true-eqb x.log k (sym is) in ap not (le-ltb x.log middle (omega arith))

lines_by : (p : NumberedLine → Bool) (k : ℕ) (part merged : List NumberedLine) → filter p merged ≡ part → ((x : NumberedLine) → nat_eq x.log k ≡ true → p x ≡ true) → lines_of_log k merged ≡ lines_of_log k part
lines_by p k part merged is f =
    ap (map (λ (x : NumberedLine). x.line)) (sym (filter_twice p (λ (x : NumberedLine). x.log == k) f merged)) ∙ ap (lines_of_log k) is

each_by : (logs : List (List Line)) (from middle to : ℕ) (xs ys merged : List NumberedLine) → IsMergeBetween logs from middle xs → IsMergeBetween logs middle to ys
    → filter (λ (x : NumberedLine). nat_lt x.log middle) merged ≡ xs → filter (λ (x : NumberedLine). not (nat_lt x.log middle)) merged ≡ ys
    → (k : ℕ) → from ≤ k → k < to → (c : Bool) → nat_lt k middle ≡ c → lines_of_log k merged ≡ slice_index_or logs k []
each_by logs from middle to xs ys merged a b l r k low high true is =
    let lt : k < middle = ltb-true k middle is in
    lines_by (λ (x : NumberedLine). nat_lt x.log middle) k xs merged l (is_left k middle lt) ∙ a.each k low lt
each_by logs from middle to xs ys merged a b l r k low high false is =
    let le : middle ≤ k = ltb-false k middle is in
    lines_by (λ (x : NumberedLine). not (nat_lt x.log middle)) k ys merged r (is_right k middle le) ∙ b.each k le high

-- what two make that stand one after the other
pub two_between : (logs : List (List Line)) (from middle to : ℕ) (xs ys merged : List NumberedLine) → from ≤ middle → middle ≤ to
    → IsMergeBetween logs from middle xs → IsMergeBetween logs middle to ys → IsMergeOfTwo xs ys merged → IsMergeBetween logs from to merged
two_between logs from middle to xs ys merged low high a b m =
    let p = m.parts (λ (x : NumberedLine). nat_lt x.log middle)
    (weaker (λ (x : NumberedLine). (from ≤ x.log) × (x.log < middle)) (λ (x : NumberedLine). nat_lt x.log middle ≡ true) (all_left from middle) xs a.within)
    (weaker (λ (x : NumberedLine). (middle ≤ x.log) × (x.log < to)) (λ (x : NumberedLine). nat_lt x.log middle ≡ false) (all_right middle to) ys b.within) in
    let In : NumberedLine → Type 0 = λ x. (from ≤ x.log) × (x.log < to) in
    record {
      each = λ k l h. each_by logs from middle to xs ys merged a b p.0 p.1 k l h (nat_lt k middle) refl;
      within = both_kept In (λ (x : NumberedLine). nat_lt x.log middle) merged
          (subst (AllByRecursion In) (sym p.0) (weaker (λ (x : NumberedLine). (from ≤ x.log) × (x.log < middle)) In (λ x h. (h.0, omega arith)) xs a.within))
          (subst (AllByRecursion In) (sym p.1) (weaker (λ (x : NumberedLine). (middle ≤ x.log) × (x.log < to)) In (λ x h. (omega arith, h.1)) ys b.within));
      ordered = m.ordered;
    }

each_of_all : (logs : List (List Line)) (merged : List NumberedLine) → IsMergeBetween logs 0 (length logs) merged → (k : ℕ) (c : Bool) → nat_lt k (length logs) ≡ c → lines_of_log k merged ≡ slice_index_or logs k []
each_of_all logs merged m k true is = m.each k (omega arith) (ltb-true k (length logs) is)
each_of_all logs merged m k false is =
    let past : length logs ≤ k = ltb-false k (length logs) is in
    ap (map (λ (x : NumberedLine). x.line))
    (filter_none (λ (x : NumberedLine). x.log == k) merged
    (weaker (λ (x : NumberedLine). (0 ≤ x.log) × (x.log < length logs)) (λ (x : NumberedLine). nat_eq x.log k ≡ false) (λ x h. ne_eqb x.log k (λ e. absurd (omega (arith, h.1)))) merged m.within))
    ∙ sym (get_or_past logs k [] past)

-- all logs, from the first on
pub all_between : (logs : List (List Line)) (merged : List NumberedLine) → IsMergeBetween logs 0 (length logs) merged → IsLogMerge logs merged
all_between logs merged m = record { each = λ k. each_of_all logs merged m k (nat_lt k (length logs)) refl; ordered = m.ordered }
