-- Which replies were given to driver calls.
use Rattle.std.proofs.Common.{◌≡◌, ◌∙◌, ℕ, ◌≤◌, Option, Some, List, [], ◌∷◌, ◌++◌, length, map, reverse, take, drop, refl, ap, sym, subst, arith}
use Rattle.std.proofs.lemmas.List.{append_cancel_left, length-drop, length-map, length-reverse, length-take-le, map-append, reverse-append, reverse-reverse, take-append-drop}
use Rattle.std.specs.Prelude.{unwrap_or}
use Rattle.std.specs.List.{zip}
use Rattle.command_tables.specs.Calls.{DriverCallContent, ReplyContent}
use Rattle.trace_format.specs.Content.{TraceEvent}
use Rattle.model_driver.specs.Logs.{Log, Untold, Replies, Calls, replies_in}
use Rattle.replay_model.specs.Setup.{Setup}
use Rattle.replay_model.specs.Past.{Began, Past, Returned}
use Rattle.replay_model.specs.Judged.{judged}
use Rattle.replay_model.specs.Direct.{before_call, driver_call, driver_calls, exchanges, own_replies, sends_in, valued}
use Rattle.chain_session.specs.declared.kept.Kept.{Kept}
use Rattle.chain_session.specs.Standing.{StandsFor}
use Rattle.event_replay.specs.Through.{GoesThrough}
use Rattle.stream_replay.specs.Playing.{Follows}

-- calls beside as many replies
beside : (calls : List DriverCallContent) (replies : List ReplyContent) → length calls ≡ length replies → replies_in (zip calls replies) ≡ replies
beside [] [] e = refl
beside [] (r ∷ replies) e = absurd (omega (arith, e))
beside (c ∷ calls) [] e = absurd (omega (arith, e))
beside (c ∷ calls) (r ∷ replies) e = ap (λ rs. r ∷ rs) (beside calls replies (omega (arith, e)))

-- replies in order: those before a call, and its own
in_order : (n : ℕ) (replies : List ReplyContent) → reverse (drop n replies) ++ reverse (take n replies) ≡ reverse replies
in_order n replies = sym (reverse-append (take n replies) (drop n replies)) ∙ ap reverse (take-append-drop n replies)

no_replies : (replies : List ReplyContent) → length replies ≡ 0 → [] ≡ reverse replies
no_replies [] n = refl
no_replies (r ∷ replies) n = absurd (omega (arith, n))

-- the driver calls of the past have just its replies
pub replies_due : (past : Past) (replies : List ReplyContent) → length replies ≡ sends_in past → replies_in (exchanges past replies) ≡ reverse replies
replies_due [] replies n = no_replies replies n
replies_due (Returned o made ∷ past) replies n = replies_due past replies n
replies_due (Began e o reports ∷ past) replies n =
    let b : List ReplyContent = before_call o replies in
    let own : List ReplyContent = own_replies o replies in
    let calls : List DriverCallContent = driver_calls (valued past b) o in
    let count : length b ≡ sends_in past = length-drop (length o.drivers) replies ∙ omega (arith, n) in
    let fit : length o.drivers ≤ length replies = omega (arith, n) in
    let even : length calls ≡ length own = length-map o.drivers (driver_call (valued past b) o) ∙ sym (length-reverse (take (length o.drivers) replies) ∙ length-take-le (length o.drivers) replies fit) in
    map-append (λ (x : DriverCallContent × ReplyContent). x.1) (exchanges past b) (zip calls own)
    ∙ (ap (λ rs. rs ++ replies_in (zip calls own)) (replies_due past b count)
    ∙ (ap (λ rs. reverse b ++ rs) (beside calls own even)
    ∙ in_order (length o.drivers) replies))

-- calls that come to others have the replies that come to the others'
pub replies_gained : (old new : Past) (first replies : List ReplyContent) (gained : List (DriverCallContent × ReplyContent)) → length first ≡ sends_in old → length (replies ++ first) ≡ sends_in new
    → exchanges new (replies ++ first) ≡ exchanges old first ++ gained → reverse replies ≡ replies_in gained
replies_gained old new first replies gained before behind told =
    append_cancel_left (reverse first) (reverse replies) (replies_in gained)
    (sym (reverse-append replies first)
    ∙ (sym (replies_due new (replies ++ first) behind)
    ∙ (ap replies_in told
    ∙ (map-append (λ (x : DriverCallContent × ReplyContent). x.1) (exchanges old first) gained
    ∙ ap (λ rs. rs ++ replies_in gained) (replies_due old first before)))))

-- the replies alone
abbrev replies_told : Log → List ReplyContent
replies_told Untold = []
replies_told (Replies replies) = replies
replies_told (Calls calls) = replies_in calls

-- what a log of replies gained that began with none
all_gained : (begun given gained : List ReplyContent) → begun ≡ [] → Replies given ≡ Replies (begun ++ gained) → given ≡ gained
all_gained begun given gained none is = ap replies_told is ∙ ap (λ rs. rs ++ gained) none

-- a session that went on with a driver that answered just these replies
pub follows : (s : Setup) (x y : Option Kept) (es : List TraceEvent) (written begun given : List ReplyContent) (old_lines lines : List ℕ) → begun ≡ [] → given ≡ written
    → GoesThrough s x y es (record { old_log = Replies begun; log = Replies given; old_lines = old_lines; lines = lines }) → Follows s x y es written old_lines lines
follows s x y es written begun given old_lines lines none are goes =
    record {
      stands = λ before first st trace.
          let to = goes.stands before first st trace in
          let same : reverse goes.replies ≡ written =
          replies_gained (judged s before) (judged s (reverse es ++ before)) first goes.replies goes.gained st.stands.each to.stands.each (goes.told before first st trace)
          ∙ (sym (all_gained begun given (replies_in goes.gained) none goes.log) ∙ are) in
          subst (λ rs. StandsFor s y (reverse es ++ before) (rs ++ first)) (sym (reverse-reverse goes.replies) ∙ ap reverse same) to;
      wrote = goes.wrote;
    }
