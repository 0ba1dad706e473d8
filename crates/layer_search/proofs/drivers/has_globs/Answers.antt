use Rattle.std.proofs.Common.{◌≡◌, ◌∙◌, ℕ, suc, arith, Bool, true, false, not, cond, eqb, List, [], ◌∷◌, filter, length, refl, ap, sym, lit<, rules, ◌||◌}
use borrow.Author.Tests.{tests}
use Rattle.std.specs.List.{list_any, slice_split}
use Rattle.std.proofs.lemmas.Bool.Decides.{Decides-eqb}
use Rattle.env_filters.specs.Entries.{entries_of}
use Rattle.env_filters.specs.Globs.{pattern_of}
use Rattle.std.proofs.lemmas.Iterator.Search.{any_from_yields_List}
use Rattle.std.proofs.lemmas.Iterator.Splits.{YieldsList-from_str_split}
use Rattle.std.proofs.lemmas.List.{length-map}
use Rattle.layer_search.proofs.drivers.has_globs.Goals as goal

-- one more than a number isn't 0
some : (n : ℕ) → not (eqb (suc n) 0) ≡ true
some n = go (eqb (suc n) 0) (Decides-eqb (suc n) 0).0
  where
    go : (t : Bool) → (t ≡ true → suc n ≡ 0) → not t ≡ true
    go true is = let h : suc n ≡ 0 = is refl in absurd (omega arith)
    go false is = refl

-- some element passes exactly where a filter leaves one
some_left : {X : Type 0} (p : X → Bool) (xs : List X) → list_any p xs ≡ not (eqb (length (filter p xs)) 0)
some_left p [] = refl
some_left p (x ∷ xs) = go (p x) (some_left p xs)
  where
    go : (t : Bool) → list_any p xs ≡ not (eqb (length (filter p xs)) 0) → (t || list_any p xs) ≡ not (eqb (length (cond t (x ∷ filter p xs) (filter p xs))) 0)
    go true ih = sym (some (length (filter p xs)))
    go false ih = ih

pub returns : goal.returns
returns c =
    any_from_yields_List (λ entry. not (eqb (length entry) 0)) _ _ _ c.any.ensures.ran (YieldsList-from_str_split 44 c.args.list.now (lit< tt) c.split.ensures.text c.split.ensures.has_more c.split.ensures.pattern) (λ x b q k. search (rules, tests))
    ∙ (some_left (λ entry. not (eqb (length entry) 0)) (slice_split (λ b. eqb b 44) c.args.list.now) ∙ ap (λ n. not (eqb n 0)) (sym (length-map (entries_of 44 c.args.list.now) pattern_of)))
