-- Lists of events, of which some were replayed.
use Rattle.std.proofs.Common.{◌≡◌, ◌∙◌, ℕ, ◌+◌, ◌<◌, ◌||◌, Bool, true, false, List, [], ◌∷◌, ◌++◌, length, map, take, drop, reverse, get_or, refl, ap, sym, subst, append_assoc}
use Rattle.std.proofs.lemmas.List.{map-append, reverse-append, take-append-drop, take_more}
use Rattle.std.specs.List.{list_any}
use Rattle.trace_format.specs.Content.{TraceEvent}
use Rattle.replay_model.specs.Setup.{Setup}
use Rattle.replay_model.specs.Judged.{judged}
use Rattle.replay_model.specs.Text.{lines_at}
use Rattle.layer_model.proofs.Same.{and_true}
use Rattle.chain_model.specs.Gaps.{IsGapped, may_all_come, may_come}
use Rattle.event_replay.specs.Through.{lines_through}

-- ---- oldest first onto newest first

pub turned : {X : Type 0} (es more before : List X) → reverse (es ++ more) ++ before ≡ reverse more ++ (reverse es ++ before)
turned es more before = ap (λ xs. xs ++ before) (reverse-append es more) ∙ append_assoc (reverse more) (reverse es) before

-- without the last event
pub shorter : (e : TraceEvent) (before : List TraceEvent) → IsGapped (e ∷ before) → IsGapped before
shorter e before trace = record { grammar = trace.grammar.1; each = (and_true (may_all_come before) (may_come before e) trace.each).0 }

-- without the last events
pub earlier : (last before : List TraceEvent) → IsGapped (last ++ before) → IsGapped before
earlier [] before trace = trace
earlier (e ∷ last) before trace = earlier last before (shorter e (last ++ before) trace)

-- events and more behind others, without more
pub front_gapped : (es more before : List TraceEvent) → IsGapped (reverse (es ++ more) ++ before) → IsGapped (reverse es ++ before)
front_gapped es more before trace = earlier (reverse more) (reverse es ++ before) (subst IsGapped (turned es more before) trace)

-- ---- their lines

pub lines_append : (s : Setup) (before es more : List TraceEvent) → lines_through s before (es ++ more) ≡ lines_through s before es ++ lines_through s (reverse es ++ before) more
lines_append s before [] more = refl
lines_append s before (e ∷ es) more =
    ap (λ ls. lines_at s (judged s before) e ++ ls) (lines_append s (e ∷ before) es more)
    ∙ (sym (append_assoc (lines_at s (judged s before) e) (lines_through s (e ∷ before) es) (lines_through s (reverse es ++ (e ∷ before)) more))
    ∙ ap (λ past. (lines_at s (judged s before) e ++ lines_through s (e ∷ before) es) ++ lines_through s past more) (sym (turned (e ∷ []) es before)))

-- ---- one of them

or_true : (u v : Bool) → v ≡ true → (u || v) ≡ true
or_true true v is = refl
or_true false v is = is

pub any_behind : {X : Type 0} (f : X → Bool) (xs ys : List X) → list_any f ys ≡ true → list_any f (xs ++ ys) ≡ true
any_behind f [] ys is = is
any_behind f (x ∷ xs) ys is = or_true (f x) (list_any f (xs ++ ys)) (any_behind f xs ys is)

pub any_before : {X : Type 0} (f : X → Bool) (xs ys : List X) → list_any f xs ≡ true → list_any f (xs ++ ys) ≡ true
any_before f [] ys is = cc is
any_before f (x ∷ xs) ys is = go (f x) is (any_before f xs ys)
  where
    go : (u : Bool) → (u || list_any f xs) ≡ true → (list_any f xs ≡ true → list_any f (xs ++ ys) ≡ true) → (u || list_any f (xs ++ ys)) ≡ true
    go true one more = refl
    go false one more = more one

-- ---- as far as a loop has come

-- so many of them, and one more
pub one_more : {X Y : Type 0} (f : X → Y) (xs : List X) (i : ℕ) (x : X) → i < length xs → x ≡ get_or xs i x → map f (take (i + 1) xs) ≡ map f (take i xs) ++ f x ∷ []
one_more f xs i x less at = ap (map f) (take_more xs i x less ∙ ap (λ y. take i xs ++ y ∷ []) (sym at)) ∙ map-append f (take i xs) (x ∷ [])

-- so many, one more, and the rest
pub parted : {X Y : Type 0} (f : X → Y) (xs : List X) (i : ℕ) (x : X) → i < length xs → x ≡ get_or xs i x → map f xs ≡ map f (take i xs) ++ f x ∷ map f (drop (i + 1) xs)
parted f xs i x less at =
    ap (map f) (sym (take-append-drop (i + 1) xs))
    ∙ (map-append f (take (i + 1) xs) (drop (i + 1) xs)
    ∙ (ap (λ ys. ys ++ map f (drop (i + 1) xs)) (one_more f xs i x less at) ∙ append_assoc (map f (take i xs)) (f x ∷ []) (map f (drop (i + 1) xs))))

-- ---- none of them

none_both : (u v : Bool) → u ≡ false → v ≡ false → (u || v) ≡ false
none_both true v one other = one
none_both false v one other = other

none_either : (u v : Bool) → (u || v) ≡ false → (u ≡ false) × (v ≡ false)
none_either true v none = cc none
none_either false v none = (refl, none)

pub any_of_none : {X : Type 0} (f : X → Bool) (xs ys : List X) → list_any f xs ≡ false → list_any f ys ≡ false → list_any f (xs ++ ys) ≡ false
any_of_none f [] ys none other = other
any_of_none f (x ∷ xs) ys none other =
    let each = none_either (f x) (list_any f xs) none in
    none_both (f x) (list_any f (xs ++ ys)) each.0 (any_of_none f xs ys each.1 other)

-- of one more
pub none_more : {X : Type 0} (f : X → Bool) (xs : List X) (x : X) → list_any f xs ≡ false → f x ≡ false → list_any f (xs ++ x ∷ []) ≡ false
none_more f xs x none here = any_of_none f xs (x ∷ []) none (none_both (f x) false here refl)
