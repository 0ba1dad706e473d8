-- The bytes that a reader of lines keeps.
use Rattle.std.proofs.Common.{◌≡◌, ℕ, ◌+◌, ◌-◌, ◌≤◌, Bool, true, false, not, List, [], ◌∷◌, ◌++◌, length, take, drop, Option, arith, append_assoc, refl, ap, sym, ◌∙◌}
use Rattle.std.specs.Prelude.{Some, None}
use Rattle.std.specs.Int.{from_bool}
use Rattle.std.proofs.Math.Seq.{take-add}
use Rattle.std.proofs.lemmas.List.{append-nil, drop-drop, drop-take, drop_all, drop_more, length-append, length-drop, length-take, length-take-le, take-append-drop, take-take, take_all}
use Rattle.replay_base.specs.Bytes.{before, IsSpent}
use Rattle.replay_base.specs.Lines.{IsFeed, line_text}
use Rattle.replay_base.specs.Reader.{EndsLine, ReaderState, TakesLine, part, place_behind, rest}

pub before_before : (o : Option (List ℕ)) (xs ys : List ℕ) → before xs (before ys o) ≡ before (xs ++ ys) o
before_before None xs ys = refl
before_before (Some zs) xs ys = ap (λ bs. Some bs) (sym (append_assoc xs ys zs))

pub before_nil : (o : Option (List ℕ)) → before [] o ≡ o
before_nil None = refl
before_nil (Some zs) = refl

-- what was read behind the kept bytes stands before what the source has left
pub rest_behind : (kept xs ys : List ℕ) (old new : Option (List ℕ)) (from to n : ℕ) → from ≡ 0 → part xs from to ≡ kept → take to ys ≡ take to xs → old ≡ before (take n (drop to ys)) new → before (part ys from (to + n)) new ≡ before kept old
rest_behind kept xs ys old new from to n start was same read =
    let whole : to + n - 0 ≡ to + n = omega arith in
    let front : to - 0 ≡ to = omega arith in
    rw (read, ← was, start, whole, front, ← same, before_before new (take to ys) (take n (drop to ys)), ← take-add to n ys) refl

-- a part without its first bytes is a shorter part
part_behind : (xs : List ℕ) (n from to : ℕ) → n ≤ to - from → drop n (part xs from to) ≡ part xs (from + n) to
part_behind xs n from to within =
    let split : to - from ≡ n + (to - (from + n)) = omega arith in
    rw (split, drop-take n (to - (from + n)) (drop from xs), drop-drop n from xs) refl

-- the first bytes of a part are a shorter part
part_front : (xs : List ℕ) (n from to : ℕ) → n ≤ to - from → part xs from (from + n) ≡ take n (part xs from to)
part_front xs n from to within =
    let whole : from + n - from ≡ n = omega arith in
    rw (whole, take-take n (to - from) (drop from xs) within) refl

length_part : (xs : List ℕ) (from to : ℕ) → to ≤ length xs → length (part xs from to) ≡ to - from
length_part xs from to within = rw (length-take (to - from) (drop from xs), length-drop from xs) (omega arith)

-- kept bytes are the text of their first line, and then the rest
text_and_rest : (kept : List ℕ) (size : ℕ) (ended : Bool) → size ≤ length kept → (ended ≡ true → IsFeed kept size) → (ended ≡ false → size ≡ length kept) → kept ≡ line_text (take size kept) ended ++ drop (size + from_bool ended) kept
text_and_rest kept size true within feed last =
    let here : IsFeed kept size = feed refl in
    let behind : drop size kept ≡ 10 ∷ drop (size + 1) kept = drop_more kept size 0 here.within ∙ ap (λ b. b ∷ drop (size + 1) kept) here.feed in
    sym (take-append-drop size kept) ∙ (ap (λ ys. take size kept ++ ys) behind ∙ sym (append_assoc (take size kept) (10 ∷ []) (drop (size + 1) kept)))
text_and_rest kept size false within feed last =
    let all : size ≡ length kept = last refl in
    rw (take_all size kept (omega arith), drop_all (size + 0) kept (omega arith)) (sym (append-nil kept))

length_text : (line : List ℕ) (ended : Bool) → length (line_text line ended) ≡ length line + from_bool ended
length_text line true = length-append line (10 ∷ [])
length_text line false = omega arith

-- the kept bytes hold the line and what ends it
ends_within : (r : ReaderState) (size : ℕ) (ended : Bool) → EndsLine r size ended → size + from_bool ended ≤ length r.kept
ends_within r size true found = let here : IsFeed r.kept size = found.feed refl in omega arith
ends_within r size false found = omega (arith, found.within)

-- nothing is left behind a last line
spent_behind : (r new : ReaderState) (size : ℕ) (ended : Bool) → EndsLine r size ended → ended ≡ false → new.kept ≡ drop (size + from_bool ended) r.kept → new.left ≡ r.left → IsSpent (rest new)
spent_behind r new size ended found none behind left =
    let end = found.last none in
    let empty : new.kept ≡ [] = behind ∙ drop_all (size + from_bool ended) r.kept (omega (arith, end.0)) in
    rw (empty, before_nil new.left, left) end.1

-- a line is taken from what is kept
pub takes_line : (r new : ReaderState) (xs line : List ℕ) (from to size count : ℕ) (ended : Bool) → EndsLine r size ended → to ≤ length xs → r.kept ≡ part xs from to → new.kept ≡ part xs (from + count) to → line ≡ part xs from (from + size) → count ≡ size + from_bool ended → (count ≡ 0 → ⊥) → new.left ≡ r.left → new.place ≡ place_behind r.place count → r.finished ≡ false → new.finished ≡ not ended → new.faults ≡ r.faults → TakesLine r new line
takes_line r new xs line from to size count ended found within kept now is sum some left place unfinished finished stood =
    let long : length r.kept ≡ to - from = ap length kept ∙ length_part xs from to within in
    let fits : size ≤ to - from = rw (← long) found.within in
    let are : line ≡ take size r.kept = is ∙ (part_front xs size from to fits ∙ ap (take size) (sym kept)) in
    let exact : length line ≡ size = ap length are ∙ length-take-le size r.kept found.within in
    let room : count ≤ to - from = rw (sum, ← long) (ends_within r size ended found) in
    let behind : new.kept ≡ drop (size + from_bool ended) r.kept = now ∙ (sym (part_behind xs count from to room) ∙ (ap (drop count) (sym kept) ∙ ap (λ n. drop n r.kept) sum)) in
    let whole : r.kept ≡ line_text line ended ++ new.kept = text_and_rest r.kept size ended found.within found.feed (λ none. (found.last none).0) ∙ (ap (λ ys. line_text ys ended ++ drop (size + from_bool ended) r.kept) (sym are) ∙ ap (λ ys. line_text line ended ++ ys) (sym behind)) in
    record {
      ended = ended;
      no_feed = rw are found.no_feed;
      short = rw exact found.short;
      taken = rw (before_before new.left (line_text line ended) new.kept, ← whole, left) refl;
      last = λ none. (spent_behind r new size ended found none behind left, omega (arith, ap from_bool none));
      place = place ∙ ap (place_behind r.place) (sum ∙ (ap (λ n. n + from_bool ended) (sym exact) ∙ sym (length_text line ended)));
      unfinished = unfinished;
      finished = finished;
      stood = stood;
    }

-- where bytes and what is behind them are spent, what is behind them is
pub rest_spent : (xs : List ℕ) (o : Option (List ℕ)) → IsSpent (before xs o) → IsSpent o
rest_spent xs None spent = tt
rest_spent [] (Some ys) spent = spent
rest_spent (x ∷ xs) (Some ys) spent = cc
