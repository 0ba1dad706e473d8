-- Replies that are written, and those that were given.
use Rattle.std.proofs.Common.{◌≡◌, ◌∙◌, ℕ, ◌+◌, ◌<◌, List, [], ◌∷◌, ◌++◌, length, map, take, drop, get_or, ap, sym}
use Rattle.std.proofs.lemmas.List.{at_drop_more, get_or-map, map_more}
use Rattle.model_driver.specs.declared.driver.DriverReply.{DriverReply}
use Rattle.model_driver.specs.Driver.{reply_shown}

-- the next reply and those behind it
pub next_left : (rs : List DriverReply) (i : ℕ) (r : DriverReply) → r ≡ get_or rs i r → i < length rs → map reply_shown (drop i rs) ≡ reply_shown r ∷ map reply_shown (drop (i + 1) rs)
next_left rs i r is less = at_drop_more (map reply_shown) rs i r less ∙ ap (λ x. reply_shown x ∷ map reply_shown (drop (i + 1) rs)) (sym is)

-- those before it and the next reply
pub next_given : (rs : List DriverReply) (i : ℕ) (r : DriverReply) → r ≡ get_or rs i r → i < length rs → map reply_shown (take (i + 1) rs) ≡ map reply_shown (take i rs) ++ reply_shown r ∷ []
next_given rs i r is less = map_more reply_shown rs i r less ∙ ap (λ x. map reply_shown (take i rs) ++ reply_shown x ∷ []) (sym is)

-- one more is the same
pub one_more_same : (xs ys : List DriverReply) (i : ℕ) (x y : DriverReply) → i < length xs → i < length ys → x ≡ get_or xs i x → y ≡ get_or ys i y
    → map reply_shown (take i xs) ≡ map reply_shown (take i ys) → reply_shown x ≡ reply_shown y → map reply_shown (take (i + 1) xs) ≡ map reply_shown (take (i + 1) ys)
one_more_same xs ys i x y in_xs in_ys at_x at_y so_far same =
    next_given xs i x at_x in_xs
    ∙ (ap (λ rs. rs ++ reply_shown x ∷ []) so_far
    ∙ (ap (λ r. map reply_shown (take i ys) ++ r ∷ []) same
    ∙ sym (next_given ys i y at_y in_ys)))

-- where one differs, the lists do
pub one_differs : (xs ys : List DriverReply) (i : ℕ) (x y : DriverReply) → i < length xs → i < length ys → x ≡ get_or xs i x → y ≡ get_or ys i y
    → map reply_shown xs ≡ map reply_shown ys → reply_shown x ≡ reply_shown y
one_differs xs ys i x y in_xs in_ys at_x at_y same =
    ap reply_shown at_x
    ∙ (sym (get_or-map reply_shown xs i x (reply_shown x) in_xs)
    ∙ (ap (λ rs. get_or rs i (reply_shown x)) same
    ∙ (get_or-map reply_shown ys i y (reply_shown x) in_ys
    ∙ ap reply_shown (sym at_y))))
