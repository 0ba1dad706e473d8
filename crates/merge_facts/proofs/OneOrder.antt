-- Entries in the order of their times are told by what each log has of them.
use Rattle.std.proofs.Common.{◌≡◌, ◌∙◌, ◌==◌, ◌<◌, ◌≤◌, ℕ, nat_lt, Bool, true, false, cond, ◌&&◌, ◌||◌, List, [], ◌∷◌, refl, sym, ap, subst, arith}
use Rattle.std.specs.Prelude.{⊤, filter, map}
use Rattle.std.specs.List.{AllByRecursion}
use Rattle.std.proofs.lemmas.Bool.{and_parts, eq-eqb, eqb-true, ltb-true}
use Rattle.stream_log.specs.declared.line.Line.{Line}
use Rattle.chain_model.proofs.Eventing.{all_filter}
use Rattle.stream_model.proofs.Comings.{differ_sym}
use Rattle.log_merge.specs.Halves.{in_log}
use Rattle.log_merge.specs.Merged.{AreOrdered, NumberedLine, lines_of_log}

-- ---- what a log has of entries

same_entry : (x y : NumberedLine) → x.log ≡ y.log → x.line ≡ y.line → x ≡ y
same_entry x y log line = λ i. record { log = log i; line = line i }

pub lines_more : (k : ℕ) (x : NumberedLine) (xs : List NumberedLine) → (x.log == k) ≡ true → lines_of_log k (x ∷ xs) ≡ x.line ∷ lines_of_log k xs
lines_more k x xs own = ap (λ u. map (λ (y : NumberedLine). y.line) (cond u (x ∷ filter (λ (y : NumberedLine). y.log == k) xs) (filter (λ (y : NumberedLine). y.log == k) xs))) own

lines_same : (k : ℕ) (x : NumberedLine) (xs : List NumberedLine) → (x.log == k) ≡ false → lines_of_log k (x ∷ xs) ≡ lines_of_log k xs
lines_same k x xs other = ap (λ u. map (λ (y : NumberedLine). y.line) (cond u (x ∷ filter (λ (y : NumberedLine). y.log == k) xs) (filter (λ (y : NumberedLine). y.log == k) xs))) other

-- what holds of each entry holds of the first that a log has
first_in : (P : NumberedLine → Type 0) (k : ℕ) (xs : List NumberedLine) (l : Line) (ls : List Line) → AllByRecursion P xs → lines_of_log k xs ≡ l ∷ ls → P (in_log k l)
first_in P k [] l ls all is = cc is
first_in P k (x ∷ xs) l ls all is = go (x.log == k) refl is (first_in P k xs l ls all.1)
  where
    go : (u : Bool) → (x.log == k) ≡ u → map (λ (y : NumberedLine). y.line) (cond u (x ∷ filter (λ (y : NumberedLine). y.log == k) xs) (filter (λ (y : NumberedLine). y.log == k) xs)) ≡ l ∷ ls
        → (lines_of_log k xs ≡ l ∷ ls → P (in_log k l)) → P (in_log k l)
    go true own h rest = let one : x.line ≡ l = cc in subst P (same_entry x (in_log k l) (eqb-true x.log k own) one) all.0
    go false other h rest = rest h

-- ---- their times

-- the times never fall
abbrev pub NeverFall : List NumberedLine → Type 0
NeverFall [] = ⊤
NeverFall (x ∷ xs) = AllByRecursion (λ (y : NumberedLine). x.line.time ≤ y.line.time) xs × NeverFall xs

-- they rise
abbrev pub AlwaysRise : List NumberedLine → Type 0
AlwaysRise [] = ⊤
AlwaysRise (x ∷ xs) = AllByRecursion (λ (y : NumberedLine). x.line.time < y.line.time) xs × AlwaysRise xs

no_later : (a b : ℕ) (u : Bool) → (nat_lt a b || (a == b && u)) ≡ true → a ≤ b
no_later a b u is = go (nat_lt a b) refl is
  where
    go : (v : Bool) → nat_lt a b ≡ v → (v || (a == b && u)) ≡ true → a ≤ b
    go true lt h = let less : a < b = ltb-true a b lt in omega (arith, less)
    go false ge h = let same : a ≡ b = eqb-true a b (and_parts (a == b) u h).0 in omega (arith, same)

all_no_earlier : (from : ℕ) (x : NumberedLine) (xs : List NumberedLine) → from ≤ x.line.time → AreOrdered (x ∷ xs) → AllByRecursion (λ (y : NumberedLine). from ≤ y.line.time) (x ∷ xs)
all_no_earlier from x [] le ordered = (le, tt)
all_no_earlier from x (y ∷ xs) le ordered =
    let more : x.line.time ≤ y.line.time = no_later x.line.time y.line.time _ ordered.0 in (le, all_no_earlier from y xs (omega (arith, le, more)) ordered.1)

pub never_fall : (xs : List NumberedLine) → AreOrdered xs → NeverFall xs
never_fall [] ordered = tt
never_fall (x ∷ xs) ordered = ((all_no_earlier x.line.time x xs (omega arith) ordered).1, never_fall xs ordered.1)

pub some_never_fall : (p : NumberedLine → Bool) (xs : List NumberedLine) → NeverFall xs → NeverFall (filter p xs)
some_never_fall p [] never = tt
some_never_fall p (x ∷ xs) never = go (p x) (some_never_fall p xs never.1)
  where
    go : (u : Bool) → NeverFall (filter p xs) → NeverFall (cond u (x ∷ filter p xs) (filter p xs))
    go true rest = (all_filter (λ (y : NumberedLine). x.line.time ≤ y.line.time) p xs never.0, rest)
    go false rest = rest

-- ---- one order

-- the first of both is the same: else each would stand behind the other
same_first : (x y : NumberedLine) (xs ys : List NumberedLine) → NeverFall (x ∷ xs) → AlwaysRise (y ∷ ys) → ((k : ℕ) → lines_of_log k (x ∷ xs) ≡ lines_of_log k (y ∷ ys)) → x ≡ y
same_first x y xs ys never rise each = go (x.log == y.log) refl
  where
    go : (u : Bool) → (x.log == y.log) ≡ u → x ≡ y
    go true same =
        let both : x.line ∷ lines_of_log y.log xs ≡ y.line ∷ lines_of_log y.log ys = sym (lines_more y.log x xs same) ∙ (each y.log ∙ lines_more y.log y ys (eq-eqb y.log y.log refl)) in
        let line : x.line ≡ y.line = cc in same_entry x y (eqb-true x.log y.log same) line
    go false other =
        let behind : lines_of_log y.log xs ≡ y.line ∷ lines_of_log y.log ys = sym (lines_same y.log x xs other) ∙ (each y.log ∙ lines_more y.log y ys (eq-eqb y.log y.log refl)) in
        let no_earlier : x.line.time ≤ y.line.time = first_in (λ (z : NumberedLine). x.line.time ≤ z.line.time) y.log xs y.line (lines_of_log y.log ys) never.0 behind in
        let before : lines_of_log x.log ys ≡ x.line ∷ lines_of_log x.log xs = sym (lines_same x.log y ys (differ_sym x.log y.log other)) ∙ (sym (each x.log) ∙ lines_more x.log x xs (eq-eqb x.log x.log refl)) in
        let later : y.line.time < x.line.time = first_in (λ (z : NumberedLine). y.line.time < z.line.time) x.log ys x.line (lines_of_log x.log xs) rise.0 before in
        absurd (omega (arith, no_earlier, later))

same_rest : (x y : NumberedLine) (xs ys : List NumberedLine) → x ≡ y → ((k : ℕ) → lines_of_log k (x ∷ xs) ≡ lines_of_log k (y ∷ ys)) → (k : ℕ) → lines_of_log k xs ≡ lines_of_log k ys
same_rest x y xs ys one each k = go (x.log == k) (each k ∙ ap (λ (z : NumberedLine). map (λ (e : NumberedLine). e.line) (cond (z.log == k) (y ∷ own ys) (own ys))) (sym one))
  where
    own : List NumberedLine → List NumberedLine
    own zs = filter (λ (z : NumberedLine). z.log == k) zs

    go : (u : Bool) → map (λ (e : NumberedLine). e.line) (cond u (x ∷ filter (λ (z : NumberedLine). z.log == k) xs) (filter (λ (z : NumberedLine). z.log == k) xs))
        ≡ map (λ (e : NumberedLine). e.line) (cond u (y ∷ filter (λ (z : NumberedLine). z.log == k) ys) (filter (λ (z : NumberedLine). z.log == k) ys)) → lines_of_log k xs ≡ lines_of_log k ys
    go true is = cc is
    go false is = is

pub one_order : (xs ys : List NumberedLine) → NeverFall xs → AlwaysRise ys → ((k : ℕ) → lines_of_log k xs ≡ lines_of_log k ys) → xs ≡ ys
one_order [] [] never rise each = refl
one_order (x ∷ xs) [] never rise each = let some : [] ≡ x.line ∷ lines_of_log x.log xs = sym (each x.log) ∙ lines_more x.log x xs (eq-eqb x.log x.log refl) in cc some
one_order [] (y ∷ ys) never rise each = let some : [] ≡ y.line ∷ lines_of_log y.log ys = each y.log ∙ lines_more y.log y ys (eq-eqb y.log y.log refl) in cc some
one_order (x ∷ xs) (y ∷ ys) never rise each =
    let one : x ≡ y = same_first x y xs ys never rise each in
    ap (λ z. z ∷ xs) one ∙ ap (λ zs. y ∷ zs) (one_order xs ys never.1 rise.1 (same_rest x y xs ys one each))
