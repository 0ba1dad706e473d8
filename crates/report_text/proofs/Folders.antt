-- The folder of a file in its path.
use Rattle.std.proofs.Common.{◌≡◌, ◌∙◌, ℕ, ◌+◌, ◌-◌, ◌<◌, ◌≤◌, Bool, true, false, not, eqb, List, None, if◌then◌else◌, length, get_or, drop, take, codes, refl, ap, sym, arith, lit<, length-drop}
use Rattle.std.specs.List.{suffix_len, before_last}
use Rattle.std.specs.Str.Pattern.{RFindsChar, SplitsAroundMatch}
use Rattle.std.proofs.lemmas.Bool.Decides.{Decides-eqb}
use Rattle.std.proofs.lemmas.List.{get_or-drop}
use Rattle.std.proofs.lemmas.List.Elements.{All-from_get_or}
use Rattle.std.proofs.lemmas.List.Folds.{list_any_at, list_any_none}
use Rattle.std.proofs.lemmas.List.Sums.{suffix_len_is}
use Rattle.std.proofs.lemmas.Str.Pattern.{NoCharPasses-char}
use Rattle.report_text.specs.Libraries.{is_slash, has_slash, folder_of}

-- a byte that isn't a slash
other_byte : (b : ℕ) → (b ≡ 47 → ⊥) → is_slash b ≡ false
other_byte b h = go (eqb b 47) (Decides-eqb b 47).0
  where
    go : (t : Bool) → (t ≡ true → b ≡ 47) → t ≡ false
    go true is = absurd (h (is refl))
    go false is = refl

-- without a slash
pub folder_none : (path : List ℕ) → RFindsChar 47 path None → codes "." ≡ folder_of path
folder_none path none =
    let no : has_slash path ≡ false = list_any_none is_slash path (All-from_get_or (λ b. is_slash b ≡ false) path 0 (λ k high. other_byte (get_or path k 0) (NoCharPasses-char 47 path k none (lit< tt) high))) in
    ap (λ b. if b then before_last is_slash path else codes ".") (sym no)

-- and else what stands before the last one
pub folder_before : (path front name : List ℕ) → SplitsAroundMatch (RFindsChar 47) path front name → front ≡ folder_of path
folder_before path front name (i, j, found, at, is, order, front_len, name_len) =
    at ∙ (ap (λ n. take n path) short ∙ ap (λ b. if b then before_last is_slash path else codes ".") (sym has))
  where
    one : j ≡ i + 1
    one = found.1.ends

    slash : get_or path i 0 ≡ 47
    slash = found.1.byte (lit< tt)

    has : has_slash path ≡ true
    has = list_any_at is_slash path i 0 (let e = one in let n = name_len in omega arith) (ap is_slash slash)

    behind : (k : ℕ) → j ≤ k → k < length path → not (is_slash (get_or path k 0)) ≡ true
    behind k low high =
        let inside : k - j < length (drop j path) = rw length-drop (omega arith) in
        let same : get_or (drop j path) (k - j) 0 ≡ get_or path k 0 = get_or-drop j path (k - j) 0 ∙ ap (λ n. get_or path n 0) (omega arith) in
        ap not (other_byte (get_or path k 0) (λ e. NoCharPasses-char 47 (drop j path) (k - j) found.0 (lit< tt) inside (same ∙ e)))

    stops : 0 < j → not (is_slash (get_or path (j - 1) 0)) ≡ false
    stops h = let e = one in ap (λ b. not (is_slash b)) (ap (λ n. get_or path n 0) (omega arith) ∙ slash)

    behind_all : suffix_len (λ b. not (is_slash b)) path ≡ length path - j
    behind_all = suffix_len_is (λ b. not (is_slash b)) path j 0 (let n = name_len in omega arith) behind stops

    short : i ≡ length path - suffix_len (λ b. not (is_slash b)) path - 1
    short = let e = one in let n = name_len in let all = behind_all in omega arith
