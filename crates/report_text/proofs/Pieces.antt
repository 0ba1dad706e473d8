-- Texts that are put one behind another.
use Rattle.std.proofs.Common.{◌≡◌, ◌∙◌, ℕ, List, [], ◌++◌, ap, append_assoc}
use Rattle.std.proofs.lemmas.List.{append-nil}

-- nothing stands behind
pub append_none : {X : Type 0} (xs : List X) → xs ++ [] ≡ xs
append_none xs = append-nil xs

pub two_pieces : (l0 l1 l2 a b : List ℕ) → l1 ≡ l0 ++ a → l2 ≡ l1 ++ b → l2 ≡ l0 ++ (a ++ b)
two_pieces l0 l1 l2 a b p1 p2 = p2 ∙ (ap (λ l. l ++ b) p1 ∙ append_assoc l0 a b)

pub five_pieces : (l0 l1 l2 l3 l4 l5 a b c d e : List ℕ) → l1 ≡ l0 ++ a → l2 ≡ l1 ++ b → l3 ≡ l2 ++ c → l4 ≡ l3 ++ d → l5 ≡ l4 ++ e → l5 ≡ l0 ++ (a ++ b ++ c ++ d ++ e)
five_pieces l0 l1 l2 l3 l4 l5 a b c d e p1 p2 p3 p4 p5 = rw (p5, p4, p3, p2, p1) (simp append_assoc)

-- a front, three words with a text each, and an end
pub three_counts : (l0 l1 l2 l3 l4 l5 a b c d e f g h : List ℕ) → l1 ≡ l0 ++ a → l2 ≡ l1 ++ (b ++ c) → l3 ≡ l2 ++ (d ++ e) → l4 ≡ l3 ++ (f ++ g) → l5 ≡ l4 ++ h
    → l5 ≡ l0 ++ (a ++ b ++ c ++ d ++ e ++ f ++ g ++ h)
three_counts l0 l1 l2 l3 l4 l5 a b c d e f g h p1 p2 p3 p4 p5 = rw (p5, p4, p3, p2, p1) (simp append_assoc)
