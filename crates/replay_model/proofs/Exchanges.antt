-- Driver calls with their replies: what one event adds, and that they are the calls beside the replies.
use Rattle.std.proofs.Common.{◌≡◌, ℕ, ◌+◌, Option, Some, None, List, [], ◌∷◌, ◌++◌, length, reverse, take, drop, refl, sym, ◌∙◌, ap, arith}
use Rattle.std.specs.Prelude.{find}
use Rattle.std.specs.List.{zip}
use Rattle.std.proofs.lemmas.List.{length-map, length-drop, length-append, length-reverse, reverse-append, take-append-drop, drop_at, append-nil}
use Rattle.command_tables.specs.Calls.{ReplyContent}
use Rattle.trace_format.specs.Content.{TraceEvent, Begin, Return}
use Rattle.replay_model.specs.Setup.{Setup}
use Rattle.replay_model.specs.Past.{Opened, Began, Returned, Past, is_of, open_calls}
use Rattle.replay_model.specs.Judged.{begun_of, returned_by, judge}
use Rattle.replay_model.specs.Direct.{before_call, own_replies, valued, driver_call, driver_calls, begin_exchanges, direct, exchanges, exchanges_at, sends_at, sends_in}
use Rattle.replay_model.specs.Text.{lines, lines_at}

-- one event more adds its lines
pub lines-judge : (s : Setup) (past : Past) (e : TraceEvent) → lines s (judge s past e) ≡ lines s past ++ lines_at s past e
lines-judge s past (Begin e) = refl
lines-judge s past (Return t) = go (find (is_of t) (open_calls past)) refl
  where
    go : (c : Option Opened) → find (is_of t) (open_calls past) ≡ c → lines s (returned_by s past (find (is_of t) (open_calls past))) ≡ lines s past ++ lines_at s past (Return t)
    go None f = rw f (sym (append-nil (lines s past)))
    go (Some o) f = rw f refl

-- no replies
none : {X : Type 0} (xs : List X) → length xs ≡ 0 → xs ≡ []
none [] e = refl
none (x ∷ xs) e = absurd (omega (arith, e))

-- a return tells nothing
exchanges-returned : (s : Setup) (past : Past) (replies : List ReplyContent) (c : Option Opened) → exchanges (returned_by s past c) replies ≡ exchanges past replies
exchanges-returned s past replies None = refl
exchanges-returned s past replies (Some o) = refl

-- one event more adds its driver calls with their replies
pub exchanges-judge : (s : Setup) (past : Past) (e : TraceEvent) (more before : List ReplyContent) → length more ≡ sends_at s past e
    → exchanges (judge s past e) (more ++ before) ≡ exchanges past before ++ exchanges_at s past e (more ++ before)
exchanges-judge s past (Begin e) more before n = ap (λ rs. exchanges past rs ++ exchanges_at s past (Begin e) (more ++ before)) (drop_at more before (length (begun_of s past e).opened.drivers) n)
exchanges-judge s past (Return t) more before n =
    let k : more ≡ [] = none more n in
    ap (λ m. exchanges (returned_by s past (find (is_of t) (open_calls past))) (m ++ before)) k ∙ (exchanges-returned s past before (find (is_of t) (open_calls past)) ∙ sym (append-nil (exchanges past before)))

-- two pairs of lists of one length each
zip-append : {X Y : Type 0} (xs : List X) (ys : List Y) (xs' : List X) (ys' : List Y) → length xs ≡ length ys → zip (xs ++ xs') (ys ++ ys') ≡ zip xs ys ++ zip xs' ys'
zip-append [] [] xs' ys' e = refl
zip-append [] (y ∷ ys) xs' ys' e = absurd (omega (arith, e))
zip-append (x ∷ xs) [] xs' ys' e = absurd (omega (arith, e))
zip-append (x ∷ xs) (y ∷ ys) xs' ys' e = ap (λ ps. (x, y) ∷ ps) (zip-append xs ys xs' ys' (omega (arith, e)))

-- how many driver calls there are
length-direct : (past : Past) (replies : List ReplyContent) → length (direct past replies) ≡ sends_in past
length-direct [] replies = refl
length-direct (Began e o reports ∷ past) replies =
    length-append (direct past (before_call o replies)) (driver_calls (valued past (before_call o replies)) o)
    ∙ (ap (λ n. n + length (driver_calls (valued past (before_call o replies)) o)) (length-direct past (before_call o replies)) ∙ ap (λ n. sends_in past + n) (length-map o.drivers (driver_call (valued past (before_call o replies)) o)))
length-direct (Returned o made ∷ past) replies = length-direct past replies

-- replies in order: those before a call, and its own
in_order : (n : ℕ) (replies : List ReplyContent) → reverse (drop n replies) ++ reverse (take n replies) ≡ reverse replies
in_order n replies = sym (reverse-append (take n replies) (drop n replies)) ∙ ap reverse (take-append-drop n replies)

-- the driver calls with their replies are the calls beside the replies
pub exchanges-paired : (past : Past) (replies : List ReplyContent) → length replies ≡ sends_in past → exchanges past replies ≡ zip (direct past replies) (reverse replies)
exchanges-paired [] replies n = refl
exchanges-paired (Returned o made ∷ past) replies n = exchanges-paired past replies n
exchanges-paired (Began e o reports ∷ past) replies n =
    let b = before_call o replies in
    let count : length b ≡ sends_in past = length-drop (length o.drivers) replies ∙ omega (arith, n) in
    let even : length (direct past b) ≡ length (reverse b) = length-direct past b ∙ (sym count ∙ sym (length-reverse b)) in
    ap (λ ps. ps ++ begin_exchanges (valued past b) o (own_replies o replies)) (exchanges-paired past b count)
    ∙ (sym (zip-append (direct past b) (reverse b) (driver_calls (valued past b) o) (own_replies o replies) even)
    ∙ ap (zip (direct past b ++ driver_calls (valued past b) o)) (in_order (length o.drivers) replies))
