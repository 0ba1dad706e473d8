-- The name of a file in its path.
use Rattle.std.proofs.Common.{◌≡◌, ◌∙◌, ℕ, ◌+◌, ◌-◌, ◌<◌, ◌≤◌, Bool, true, false, not, eqb, List, None, length, get_or, drop, refl, ap, sym, arith, lit<, length-drop}
use Rattle.std.specs.List.{suffix_len}
use Rattle.std.specs.Str.Pattern.{RFindsChar, SplitsAroundMatch}
use Rattle.std.proofs.lemmas.Bool.Decides.{Decides-eqb}
use Rattle.std.proofs.lemmas.List.{get_or-drop}
use Rattle.std.proofs.lemmas.List.Sums.{suffix_len_is}
use Rattle.std.proofs.lemmas.Str.Pattern.{NoCharPasses-char}
use Rattle.layer_search.specs.Found.{file_name}

-- a byte that isn't a slash
other_byte : (b : ℕ) → (b ≡ 47 → ⊥) → not (eqb b 47) ≡ true
other_byte b h = go (eqb b 47) (Decides-eqb b 47).0
  where
    go : (t : Bool) → (t ≡ true → b ≡ 47) → not t ≡ true
    go true is = absurd (h (is refl))
    go false is = refl

-- what stands behind a place from which on there is no slash, and before which there is one or nothing
name_from : (path : List ℕ) (j : ℕ) → j ≤ length path → ((k : ℕ) → j ≤ k → k < length path → get_or path k 0 ≡ 47 → ⊥) → (0 < j → get_or path (j - 1) 0 ≡ 47) → file_name path ≡ drop j path
name_from path j within none last =
    let len : suffix_len (λ b. not (eqb b 47)) path ≡ length path - j = suffix_len_is (λ b. not (eqb b 47)) path j 0 within (λ k low high. other_byte (get_or path k 0) (none k low high)) (λ h. ap (λ b. not (eqb b 47)) (last h)) in
    rw len (ap (λ n. drop n path) (omega arith))

-- without a slash the path is the name
pub name_whole : (path : List ℕ) → RFindsChar 47 path None → path ≡ file_name path
name_whole path none = sym (name_from path 0 (omega arith) (λ k low high. NoCharPasses-char 47 path k none (lit< tt) high) (λ h. absurd (omega arith)))

-- and else what stands behind the last one
pub name_behind : (path front name : List ℕ) → SplitsAroundMatch (RFindsChar 47) path front name → name ≡ file_name path
name_behind path front name (i, j, found, at, is, order, front_len, name_len) =
    is ∙ sym (name_from path j (omega arith) behind last)
  where
    behind : (k : ℕ) → j ≤ k → k < length path → get_or path k 0 ≡ 47 → ⊥
    behind k low high e =
        let inside : k - j < length (drop j path) = rw length-drop (omega arith) in
        let same : get_or (drop j path) (k - j) 0 ≡ get_or path k 0 = get_or-drop j path (k - j) 0 ∙ ap (λ n. get_or path n 0) (omega arith) in
        NoCharPasses-char 47 (drop j path) (k - j) found.0 (lit< tt) inside (same ∙ e)

    last : 0 < j → get_or path (j - 1) 0 ≡ 47
    last h = let one : j ≡ i + 1 = found.1.ends in ap (λ n. get_or path n 0) (omega arith) ∙ found.1.byte (lit< tt)
