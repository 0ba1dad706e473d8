-- What was replied to the last call of a thread.
use Rattle.std.proofs.Common.{◌≡◌, ℕ, zero, suc, true, false, Option, Some, None, List, [], ◌∷◌, ◌++◌, length, reverse, drop, take, refl, sym, ◌∙◌, ap}
use Rattle.std.proofs.lemmas.List.{drop_at, length-map, length-reverse, reverse-reverse, take_at}
use Rattle.command_tables.specs.Calls.{DriverCallContent, ReplyContent}
use Rattle.command_tables.specs.declared.types.Code.{Code}
use Rattle.model_driver.specs.Driver.{are_handles, handles_due}
use Rattle.object_model.specs.Findings.{Report}
use Rattle.trace_format.specs.Content.{BeginEvent}
use Rattle.replay_model.specs.Direct.{Valued, driver_call, driver_calls}
use Rattle.replay_model.specs.Judged.{returned_by}
use Rattle.replay_model.specs.Past.{Began, Opened, Past, is_of}
use Rattle.replay_model.specs.Setup.{Setup}
use Rattle.session_model.specs.Stands.{AreRepliesTo}
use Rattle.shard_model.specs.Replies.{handles_of, last_replies}

-- as many replies as calls
replies_long : (calls : List DriverCallContent) (own : List ReplyContent) → AreRepliesTo calls own → length own ≡ length calls
replies_long [] [] may = refl
replies_long [] (r ∷ own) may = absurd may
replies_long (c ∷ calls) [] may = absurd may
replies_long (c ∷ calls) (r ∷ own) may = ap suc (replies_long calls own may.1)

pub drivers_long : (values : List Valued) (o : Opened) (own : List ReplyContent) → AreRepliesTo (driver_calls values o) own → length own ≡ length o.drivers
drivers_long values o own may = replies_long (driver_calls values o) own may ∙ length-map o.drivers (driver_call values o)

-- behind a begin and the replies of its drivers
pub last_own : (e : BeginEvent) (o : Opened) (reports : List Report) (past : Past) (own before : List ReplyContent) (thread : ℕ) → is_of thread o ≡ true → length own ≡ length o.drivers
    → last_replies (Began e o reports ∷ past) (reverse own ++ before) thread ≡ own
last_own e o reports past own before thread is long =
    rw is (ap reverse (take_at (reverse own) before (length o.drivers) (length-reverse own ∙ long)) ∙ reverse-reverse own)

pub last_other : (e : BeginEvent) (o : Opened) (reports : List Report) (past : Past) (own before : List ReplyContent) (thread : ℕ) → is_of thread o ≡ false → length own ≡ length o.drivers
    → last_replies (Began e o reports ∷ past) (reverse own ++ before) thread ≡ last_replies past before thread
last_other e o reports past own before thread is long =
    rw is (ap (λ rs. last_replies past rs thread) (drop_at (reverse own) before (length o.drivers) (length-reverse own ∙ long)))

-- behind a return
pub last_returned : (s : Setup) (past : Past) (f : Option Opened) (replies : List ReplyContent) (thread : ℕ) → last_replies (returned_by s past f) replies thread ≡ last_replies past replies thread
last_returned s past None replies thread = refl
last_returned s past (Some o) replies thread = refl

-- ---- replies to the same calls with the same handles

reply_is : (r q : ReplyContent) → r.code ≡ q.code → r.handles ≡ q.handles → r ≡ q
reply_is r q c h = ap (λ (x : Option Code). record { code = x; handles = r.handles }) c ∙ ap (λ (hs : List ℕ). record { code = q.code; handles = hs }) h

pub same_replies : (calls : List DriverCallContent) (rs qs : List ReplyContent) → AreRepliesTo calls rs → AreRepliesTo calls qs → handles_of rs ≡ handles_of qs → rs ≡ qs
same_replies [] [] [] a b e = refl
same_replies [] [] (q ∷ qs) a b e = absurd b
same_replies [] (r ∷ rs) qs a b e = absurd a
same_replies (c ∷ calls) [] qs a b e = absurd a
same_replies (c ∷ calls) (r ∷ rs) [] a b e = absurd b
same_replies (c ∷ calls) (r ∷ rs) (q ∷ qs) a b e =
    let n : ℕ = handles_due c in
    let first : r.handles ≡ q.handles =
    sym (take_at r.handles (handles_of rs) n a.0.count) ∙ (ap (take n) e ∙ take_at q.handles (handles_of qs) n b.0.count) in
    let rest : handles_of rs ≡ handles_of qs =
    sym (drop_at r.handles (handles_of rs) n a.0.count) ∙ (ap (drop n) e ∙ drop_at q.handles (handles_of qs) n b.0.count) in
    ap (λ (x : ReplyContent). x ∷ rs) (reply_is r q (a.0.code ∙ sym b.0.code) first) ∙ ap (λ (xs : List ReplyContent). q ∷ xs) (same_replies calls rs qs a.1 b.1 rest)

-- ---- some replies

abbrev ones : ℕ → List ℕ
ones zero = []
ones (suc n) = 1 ∷ ones n

ones_long : (n : ℕ) → length (ones n) ≡ n
ones_long zero = refl
ones_long (suc n) = ap suc (ones_long n)

ones_well : (n : ℕ) → are_handles (ones n) ≡ true
ones_well zero = refl
ones_well (suc n) = ones_well n

-- a reply to each of these calls
pub some_replies : (calls : List DriverCallContent) → (own : List ReplyContent) × AreRepliesTo calls own
some_replies [] = ([], tt)
some_replies (c ∷ calls) =
    let rest = some_replies calls in
    (record { code = c.code; handles = ones (handles_due c) } ∷ rest.0, (record { code = refl; count = ones_long (handles_due c); handles = ones_well (handles_due c) }, rest.1))
