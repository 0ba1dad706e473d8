-- How the parts of a printed event make its spelling.
use Rattle.std.proofs.Common.{◌≡◌, ◌==◌, true, false, eqb-true, codes, ◌<◌, ◌≤◌, ◌+◌, ℕ, zero, suc, List, [], ◌∷◌, ◌++◌, length, map, take, get_or, refl, sym, ap, ◌∙◌, arith, append-nil, length-append, add-one}
use Rattle.std.proofs.lemmas.Grind.{flat_map-append}
use Rattle.std.specs.List.{flat_map, join_with_byte}
use Rattle.std.proofs.Math.Seq.{take-append_seam, take-length, take-suc}
use Rattle.trace_format.specs.declared.event.Name.{Name}
use Rattle.trace_format.specs.declared.event.TraceArg.{TraceArg}
use Rattle.trace_format.specs.Content.{arg_content}
use Rattle.trace_format.specs.Grammar.{arg_text, args_text, name_text, results_text}
use Rattle.trace_format.specs.Printing.{listed}

-- the front of a front
taken : {X : Type 0} (m n : ℕ) (xs : List X) → m ≤ n → take m (take n xs) ≡ take m xs
taken zero n xs le = refl
taken (suc m) zero xs le = absurd (omega arith)
taken (suc m) (suc n) [] le = refl
taken (suc m) (suc n) (x ∷ xs) le = ap (λ ys. x ∷ ys) (taken m n xs (omega arith))

-- what was there before a text that was there is there still
pub keeps_more : (old text new : List ℕ) → take (length (old ++ text)) new ≡ old ++ text → take (length old) new ≡ old
keeps_more old text new kept =
    let short : length old ≤ length (old ++ text) = omega (arith, length-append old text) in
    sym (taken (length old) (length (old ++ text)) new short) ∙ (ap (take (length old)) kept ∙ take-append_seam old text)

-- texts with commas between them
pub listed_joined : {X : Type 0} (text : X → List ℕ) (xs : List X) → listed text xs ≡ join_with_byte 44 (map text xs)
listed_joined text [] = refl
listed_joined text (x ∷ []) = append-nil (text x)
listed_joined text (x ∷ y ∷ xs) = ap (λ t. text x ++ (44 ∷ t)) (listed_joined text (y ∷ xs))

-- one more of the texts
pub flat_taken : {X : Type 0} (f : X → List ℕ) (xs : List X) (i : ℕ) (d : X) → i < length xs → flat_map f (take (i + 1) xs) ≡ flat_map f (take i xs) ++ f (get_or xs i d)
flat_taken f xs i d lt =
    let one : take (i + 1) xs ≡ take i xs ++ get_or xs i d ∷ [] = rw add-one (take-suc xs i d lt) in
    ap (flat_map f) one ∙ (flat_map-append f (take i xs) (get_or xs i d ∷ []) ∙ ap (λ t. flat_map f (take i xs) ++ t) (append-nil (f (get_or xs i d))))

-- all of what was there
pub whole : (old : List ℕ) → take (length old) old ≡ old
whole old = take-length old

-- no results
pub results_none : (ns : List Name) → (length ns == 0) ≡ true → results_text ns ≡ []
results_none [] e = refl
results_none (n ∷ ns) e = let none : length (n ∷ ns) ≡ 0 = eqb-true (length (n ∷ ns)) 0 e in absurd (omega arith)

-- some results
pub results_listed : (ns : List Name) → (length ns == 0) ≡ false → results_text ns ≡ codes " = " ++ listed name_text ns
results_listed [] e = cc
results_listed (n ∷ ns) e = ap (λ t. codes " = " ++ t) (sym (listed_joined name_text (n ∷ ns)))

-- the arguments, each after one space
pub args_listed : (args : List TraceArg) → flat_map (λ a. codes " " ++ arg_text (arg_content a)) args ≡ args_text (map arg_content args)
args_listed [] = refl
args_listed (a ∷ args) = ap (λ t. (codes " " ++ arg_text (arg_content a)) ++ t) (args_listed args)
