-- Printable bytes are a text.
use Rattle.std.proofs.Common.{◌≡◌, ℕ, ◌<◌, ◌≤◌, zero, suc, Bool, true, false, ◌&&◌, IsTrue, nat_le, List, [], ◌∷◌, arith, lit<}
use Rattle.std.proofs.lemmas.Bool.{leb-true, false≢true}
use Rattle.std.proofs.lemmas.Str.{IsUtf8-from_ascii}
use Rattle.std.specs.List.{AllByRecursion}
use Rattle.std.specs.Str.{IsAscii, IsUtf8}
use Rattle.trace_format.specs.Grammar.{is_printable}

-- a printable byte is ASCII
low : (c : ℕ) → IsTrue (is_printable c) → c < 128
low c h = go (nat_le 32 c) (nat_le c 126) (leb-true c 126) h
  where
    go : (a b : Bool) → (b ≡ true → c ≤ 126) → (a && b) ≡ true → c < 128
    go true true at_most e = let most : c ≤ 126 = at_most e in omega (arith, most)
    go true false at_most e = absurd (false≢true e)
    go false b at_most e = absurd (false≢true e)

ascii : (bs : List ℕ) → AllByRecursion (λ c. IsTrue (is_printable c)) bs → IsAscii bs
ascii [] h i = lit< tt
ascii (b ∷ bs) h zero = low b h.0
ascii (b ∷ bs) h (suc i) = ascii bs h.1 i

-- printable bytes are UTF-8
pub text_of_printable : (bs : List ℕ) → AllByRecursion (λ c. IsTrue (is_printable c)) bs → IsUtf8 bs
text_of_printable bs h = IsUtf8-from_ascii bs (ascii bs h)
