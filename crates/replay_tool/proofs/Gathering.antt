-- What is gathered and handed on piece by piece.
use Rattle.std.proofs.Common.{◌≡◌, ◌∙◌, ℕ, ◌+◌, ◌-◌, length, List, take, drop, Option, refl, ap, sym}
use Rattle.replay_base.specs.Bytes.{grown}
use Rattle.replay_base.proofs.Written.{given_front, grown_grown}

-- a slice from `from` on is read as `take (length xs - from) (drop from xs)`: so many of its bytes, and then the rest behind them
pub grown_rest : (o : Option (List ℕ)) (xs : List ℕ) (from n : ℕ) → grown (grown o (take n (take (length xs - from) (drop from xs)))) (drop (from + n) xs) ≡ grown o (drop from xs)
grown_rest o xs from n =
    grown_grown o (take n (take (length xs - from) (drop from xs))) (drop (from + n) xs)
    ∙ ap (grown o) (sym (given_front xs (take n (take (length xs - from) (drop from xs))) from n refl))
