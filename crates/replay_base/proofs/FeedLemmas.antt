-- Where the first line feed stands.
use Rattle.std.proofs.Common.{◌≡◌, ℕ, ◌+◌, ◌-◌, ◌<◌, ◌≤◌, min, List, length, get_or, take, drop, ap, arith, sym, ◌∙◌, ◌⊎◌, inl, inr}
use Rattle.std.proofs.lemmas.List.{take_rest, get_or-drop, get_or-take, length-take, length-drop}
use Rattle.std.proofs.lemmas.Bool.{cases_lt}
use Rattle.memchr.specs.Find.{NoneBefore, Nowhere, Passes, is_byte}
use Rattle.replay_base.specs.Lines.{HasNoFeed, IsFeed}

-- no byte below seen, and none behind it below n
no_feed_below : (kept : List ℕ) (seen n : ℕ) → HasNoFeed (take seen kept) → Nowhere (Passes (is_byte 10) (drop seen kept)) 0 n → (k : ℕ) → k < length kept → k < seen + n → get_or kept k 0 ≡ 10 → ⊥
no_feed_below kept seen n none nowhere k lt below is = go (cases_lt k seen)
  where
    go : (k < seen) ⊎ (seen ≤ k) → ⊥
    go (inl before) = none.none k (rw length-take (omega arith)) (get_or-take seen kept k 0 before ∙ is)
    go (inr behind) =
        let sum : seen + (k - seen) ≡ k = omega arith in
        let at : get_or (drop seen kept) (k - seen) 0 ≡ 10 = get_or-drop seen kept (k - seen) 0 ∙ (ap (λ j. get_or kept j 0) sum ∙ is) in
        nowhere (k - seen) (omega arith) (omega arith) (grind arith)

no_feed_all : (kept : List ℕ) (seen : ℕ) → HasNoFeed (take seen kept) → Nowhere (Passes (is_byte 10) (drop seen kept)) 0 (length (drop seen kept)) → HasNoFeed kept
no_feed_all kept seen none nowhere = record { none = λ k lt. no_feed_below kept seen (length kept - seen) none (rw length-drop at nowhere) k lt (omega arith) }

feed_behind : (kept : List ℕ) (seen n : ℕ) → HasNoFeed (take seen kept) → NoneBefore (Passes (is_byte 10) (drop seen kept)) 0 (length (drop seen kept)) n → Passes (is_byte 10) (drop seen kept) n → IsFeed kept (seen + n)
feed_behind kept seen n none found is =
    let above : n < length kept - seen = rw length-drop at found.high in
    record {
      within = omega arith;
      feed = sym (get_or-drop seen kept n 0) ∙ grind arith;
      none = record {
        none = λ k lt feed.
            let in_both : k < min (seen + n) (length kept) = rw length-take at lt in
            let below : k < seen + n = omega arith in
            no_feed_below kept seen n none found.before k (omega arith) below (sym (get_or-take (seen + n) kept k 0 below) ∙ feed);
      };
    }

-- what memchr finds behind the bytes that were seen, as a slice is read
pub feed_found : (kept : List ℕ) (seen n : ℕ) → seen ≤ length kept → HasNoFeed (take seen kept) → NoneBefore (Passes (is_byte 10) (take (length kept - seen) (drop seen kept))) 0 (length (take (length kept - seen) (drop seen kept))) n × Passes (is_byte 10) (take (length kept - seen) (drop seen kept)) n → IsFeed kept (seen + n)
feed_found kept seen n within none found =
    let here = rw (take_rest kept seen) at found in
    feed_behind kept seen n none here.0 here.1

pub feed_missing : (kept : List ℕ) (seen : ℕ) → seen ≤ length kept → HasNoFeed (take seen kept) → Nowhere (Passes (is_byte 10) (take (length kept - seen) (drop seen kept))) 0 (length (take (length kept - seen) (drop seen kept))) → HasNoFeed kept
feed_missing kept seen within none nowhere = no_feed_all kept seen none (rw (take_rest kept seen) at nowhere)
