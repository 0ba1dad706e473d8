-- What a step of the merge of two lists keeps.
use Rattle.std.proofs.Common.{◌≡◌, ◌⊎◌, inl, inr, ℕ, ◌+◌, ◌<◌, ◌≤◌, Bool, true, false, not, List, [], ◌∷◌, ◌++◌, length, take, drop, get_or, refl, sym, ap, ◌∙◌, subst, arith, append_assoc}
use Rattle.std.specs.Prelude.{filter}
use Rattle.std.specs.List.{AllByRecursion}
use Rattle.std.proofs.lemmas.List.{append-nil, drop_all, drop_more, take_more, take-append-drop}
use Rattle.std.proofs.lemmas.List.Elements.{filter-append}
use Rattle.log_merge.specs.Halves.{IsMergeOfTwo}
use Rattle.log_merge.specs.Merged.{NumberedLine, AreOrdered, PrecedesFirst, may_precede}
use Rattle.log_merge.proofs.Kept.{all_at, all_drop, weaker, kept, passed_over, filter_all, filter_none}

-- what a test that tells the two lists apart makes of the entries so far
abbrev pub Parted : List NumberedLine → List NumberedLine → List NumberedLine → ℕ → ℕ → Type 0
Parted xs ys merged i j = (is_left : NumberedLine → Bool)
    → AllByRecursion (λ (x : NumberedLine). is_left x ≡ true) xs
    → AllByRecursion (λ (y : NumberedLine). is_left y ≡ false) ys
    → (filter is_left merged ≡ take i xs) × (filter (λ (x : NumberedLine). not (is_left x)) merged ≡ take j ys)

-- what holds between two steps of the merge, which has taken i and j entries of the two lists
pub record State (xs ys merged : List NumberedLine) (i j : ℕ) : Type 0 where
  pub in_left : i ≤ length xs
  pub in_right : j ≤ length ys
  pub left : AreOrdered (merged ++ drop i xs)
  pub right : AreOrdered (merged ++ drop j ys)
  pub parts : Parted xs ys merged i j

pub begun : (xs ys : List NumberedLine) → AreOrdered xs → AreOrdered ys → State xs ys [] 0 0
begun xs ys ox oy = record { in_left = omega arith; in_right = omega arith; left = ox; right = oy; parts = λ is_left l r. (refl, refl) }

first_kept : (y : NumberedLine) (front : List NumberedLine) (x : NumberedLine) (rest tail : List NumberedLine) → PrecedesFirst y (front ++ x ∷ rest) → PrecedesFirst y (front ++ x ∷ tail)
first_kept y [] x rest tail h = h
first_kept y (z ∷ front) x rest tail h = h

ordered_tail : (front tail : List NumberedLine) → AreOrdered (front ++ tail) → AreOrdered tail
ordered_tail [] tail o = o
ordered_tail (y ∷ front) tail o = ordered_tail front tail o.1

-- after x, what follows may be anything in order that x may precede
other_tail : (front : List NumberedLine) (x : NumberedLine) (rest tail : List NumberedLine) → AreOrdered (front ++ x ∷ rest) → AreOrdered tail → PrecedesFirst x tail → AreOrdered (front ++ x ∷ tail)
other_tail [] x rest tail o t p = (p, t)
other_tail (y ∷ front) x rest tail o t p = (first_kept y front x rest tail o.0, other_tail front x rest tail o.1 t p)

-- an entry is taken from the list that has it, and stands before what is left of both
moved : (merged list : List NumberedLine) (i : ℕ) (d : NumberedLine) → i < length list → AreOrdered (merged ++ drop i list) → AreOrdered ((merged ++ get_or list i d ∷ []) ++ drop (i + 1) list)
moved merged list i d lt o =
    let x = get_or list i d in
    subst AreOrdered (ap (λ (l : List NumberedLine). merged ++ l) (drop_more list i d lt) ∙ sym (append_assoc merged (x ∷ []) (drop (i + 1) list))) o

joined : (merged list other : List NumberedLine) (i j : ℕ) (d : NumberedLine) → i < length list → j < length other
    → may_precede (get_or list i d) (get_or other j d) ≡ true → AreOrdered (merged ++ drop i list) → AreOrdered (merged ++ drop j other)
    → AreOrdered ((merged ++ get_or list i d ∷ []) ++ drop j other)
joined merged list other i j d lt lt_other le o o_other =
    let x = get_or list i d in
    let here : AreOrdered (merged ++ x ∷ drop (i + 1) list) = subst (λ (l : List NumberedLine). AreOrdered (merged ++ l)) (drop_more list i d lt) o in
    let first : PrecedesFirst x (drop j other) = subst (PrecedesFirst x) (sym (drop_more other j d lt_other)) le in
    subst AreOrdered (sym (append_assoc merged (x ∷ []) (drop j other))) (other_tail merged x (drop (i + 1) list) (drop j other) here (ordered_tail merged (drop j other) o_other) first)

pub step_left : (xs ys merged : List NumberedLine) (i j : ℕ) (d : NumberedLine) → State xs ys merged i j → i < length xs → j < length ys
    → may_precede (get_or xs i d) (get_or ys j d) ≡ true → State xs ys (merged ++ get_or xs i d ∷ []) (i + 1) j
step_left xs ys merged i j d s lt lt_other le =
    let x = get_or xs i d in
    record {
      in_left = omega (arith, lt);
      in_right = s.in_right;
      left = moved merged xs i d lt s.left;
      right = joined merged xs ys i j d lt lt_other le s.left s.right;
      parts = λ is_left l r.
          let p = s.parts is_left l r in
          let is : is_left x ≡ true = all_at (λ (z : NumberedLine). is_left z ≡ true) xs i d lt l in (
            kept is_left merged x is ∙ (ap (λ (t : List NumberedLine). t ++ x ∷ []) p.0 ∙ sym (take_more xs i d lt)),
            passed_over (λ (z : NumberedLine). not (is_left z)) merged x (ap not is) ∙ p.1,
          );
    }

pub step_right : (xs ys merged : List NumberedLine) (i j : ℕ) (d : NumberedLine) → State xs ys merged i j → i < length xs → j < length ys
    → may_precede (get_or ys j d) (get_or xs i d) ≡ true → State xs ys (merged ++ get_or ys j d ∷ []) i (j + 1)
step_right xs ys merged i j d s lt_other lt le =
    let y = get_or ys j d in
    record {
      in_left = s.in_left;
      in_right = omega (arith, lt);
      left = joined merged ys xs j i d lt lt_other le s.right s.left;
      right = moved merged ys j d lt s.right;
      parts = λ is_left l r.
          let p = s.parts is_left l r in
          let is : is_left y ≡ false = all_at (λ (z : NumberedLine). is_left z ≡ false) ys j d lt r in (
            passed_over is_left merged y is ∙ p.0,
            kept (λ (z : NumberedLine). not (is_left z)) merged y (ap not is) ∙ (ap (λ (t : List NumberedLine). t ++ y ∷ []) p.1 ∙ sym (take_more ys j d lt)),
          );
    }

gathered : (p : NumberedLine → Bool) (merged dx dy a b c : List NumberedLine) → filter p merged ≡ a → filter p dx ≡ b → filter p dy ≡ c → filter p ((merged ++ dx) ++ dy) ≡ (a ++ b) ++ c
gathered p merged dx dy a b c e f g =
    filter-append p (merged ++ dx) dy ∙ (ap (λ (t : List NumberedLine). t ++ filter p dy) (filter-append p merged dx) ∙ (λ i. (e i ++ f i) ++ g i))

ordered_ended : (xs ys merged : List NumberedLine) (i j : ℕ) → State xs ys merged i j → (length xs ≤ i) ⊎ (length ys ≤ j) → AreOrdered ((merged ++ drop i xs) ++ drop j ys)
ordered_ended xs ys merged i j s (inl past) =
    subst AreOrdered (sym (ap (λ (t : List NumberedLine). t ++ drop j ys) (ap (λ (t : List NumberedLine). merged ++ t) (drop_all i xs past) ∙ append-nil merged))) s.right
ordered_ended xs ys merged i j s (inr past) =
    subst AreOrdered (sym (ap (λ (t : List NumberedLine). (merged ++ drop i xs) ++ t) (drop_all j ys past) ∙ append-nil (merged ++ drop i xs))) s.left

-- where one list is all taken, the rest of both follows
pub ended : (xs ys merged : List NumberedLine) (i j : ℕ) → State xs ys merged i j → (length xs ≤ i) ⊎ (length ys ≤ j) → IsMergeOfTwo xs ys ((merged ++ drop i xs) ++ drop j ys)
ended xs ys merged i j s over = record {
  parts = λ is_left l r.
      let p = s.parts is_left l r in
      let dx = drop i xs in
      let dy = drop j ys in
      let lx = all_drop (λ (z : NumberedLine). is_left z ≡ true) i xs l in
      let ry = all_drop (λ (z : NumberedLine). is_left z ≡ false) j ys r in
      let is_right : NumberedLine → Bool = λ z. not (is_left z) in
      let rx = weaker (λ (z : NumberedLine). is_left z ≡ true) (λ (z : NumberedLine). is_right z ≡ false) (λ z e. ap not e) dx lx in
      let rr = weaker (λ (z : NumberedLine). is_left z ≡ false) (λ (z : NumberedLine). is_right z ≡ true) (λ z e. ap not e) dy ry in (
        gathered is_left merged dx dy (take i xs) dx [] p.0 (filter_all is_left dx lx) (filter_none is_left dy ry) ∙ (append-nil (take i xs ++ dx) ∙ take-append-drop i xs),
        gathered is_right merged dx dy (take j ys) [] dy p.1 (filter_none is_right dx rx) (filter_all is_right dy rr) ∙ (ap (λ (t : List NumberedLine). t ++ dy) (append-nil (take j ys)) ∙ take-append-drop j ys),
      );
  ordered = ordered_ended xs ys merged i j s over;
}
