-- A thread's entries in one order are those of its calls.
use Rattle.std.proofs.Common.{◌≡◌, ◌∙◌, ◌==◌, ◌<◌, ℕ, Bool, true, false, cond, List, [], ◌∷◌, refl, sym, ap, arith}
use Rattle.std.specs.Prelude.{filter, map}
use Rattle.std.specs.List.{AllByRecursion}
use Rattle.stream_log.specs.declared.line.Line.{Line}
use Rattle.chain_model.proofs.Eventing.{all_map}
use Rattle.log_merge.specs.Halves.{in_log}
use Rattle.log_merge.specs.Merged.{IsLogMerge, NumberedLine, lines_of_log}
use Rattle.merge_facts.specs.Logged.{AreLoggedBy, LoggedCall, Rise, entries_in, entries_of, lines_between, lines_of_thread, numbered_entries}
use Rattle.merge_facts.proofs.OneOrder.{AlwaysRise, never_fall, one_order, some_never_fall}

-- the entries of a log among a thread's are the thread's among the log's
log_of_thread : (t k : ℕ) (xs : List NumberedLine) → lines_of_log k (lines_between t xs) ≡ lines_of_thread t (lines_of_log k xs)
log_of_thread t k [] = refl
log_of_thread t k (x ∷ xs) = go (x.line.thread == t) (x.log == k) refl refl (log_of_thread t k xs)
  where
    go : (u v : Bool) → (x.line.thread == t) ≡ u → (x.log == k) ≡ v → lines_of_log k (lines_between t xs) ≡ lines_of_thread t (lines_of_log k xs)
        → lines_of_log k (cond u (x ∷ lines_between t xs) (lines_between t xs)) ≡ lines_of_thread t (map (λ (y : NumberedLine). y.line) (cond v (x ∷ filter (λ (y : NumberedLine). y.log == k) xs) (filter (λ (y : NumberedLine). y.log == k) xs)))
    go true true own at rest = rw (own, at) (ap (λ ls. x.line ∷ ls) rest)
    go true false own other rest = rw other rest
    go false true other at rest = rw other rest
    go false false own at rest = rest

-- the entries of calls in a log are those of the calls there
log_of_calls : (k : ℕ) (calls : List LoggedCall) → lines_of_log k (numbered_entries calls) ≡ entries_in k calls
log_of_calls k [] = refl
log_of_calls k (c ∷ calls) = go (c.planned.place == k) (log_of_calls k calls)
  where
    own : List NumberedLine
    own = filter (λ (y : NumberedLine). y.log == k) (numbered_entries calls)

    go : (u : Bool) → lines_of_log k (numbered_entries calls) ≡ entries_in k calls
        → map (λ (y : NumberedLine). y.line) (cond u (in_log c.planned.place c.first ∷ cond u (in_log c.planned.place c.last ∷ own) own) (cond u (in_log c.planned.place c.last ∷ own) own))
        ≡ entries_of (cond u (c ∷ filter (λ (d : LoggedCall). d.planned.place == k) calls) (filter (λ (d : LoggedCall). d.planned.place == k) calls))
    go true rest = ap (λ ls. c.first ∷ c.last ∷ ls) rest
    go false rest = rest

-- ---- their times

all_later : (from : ℕ) (calls : List LoggedCall) → Rise from calls → AllByRecursion (λ (y : NumberedLine). from < y.line.time) (numbered_entries calls)
all_later from [] rise = tt
all_later from (c ∷ calls) rise =
    let first : from < c.first.time = rise.0 in
    let last : c.first.time < c.last.time = rise.1 in
    let rest = all_later c.last.time calls rise.2 in (
      first,
      (omega (arith, first, last), all_map (λ (y : NumberedLine). c.last.time < y.line.time) (λ (y : NumberedLine). from < y.line.time) (λ y lt. omega (arith, first, last, lt)) (numbered_entries calls) rest),
    )

entries_rise : (from : ℕ) (calls : List LoggedCall) → Rise from calls → AlwaysRise (numbered_entries calls)
entries_rise from [] rise = tt
entries_rise from (c ∷ calls) rise =
    let last : c.first.time < c.last.time = rise.1 in
    let rest = all_later c.last.time calls rise.2 in (
      (last, all_map (λ (y : NumberedLine). c.last.time < y.line.time) (λ (y : NumberedLine). c.first.time < y.line.time) (λ y lt. omega (arith, last, lt)) (numbered_entries calls) rest),
      (rest, entries_rise c.last.time calls rise.2),
    )

pub thread_stands : (logs : List (List Line)) (merged : List NumberedLine) (thread : ℕ) (calls : List LoggedCall) → IsLogMerge logs merged → AreLoggedBy logs thread calls → lines_between thread merged ≡ numbered_entries calls
thread_stands logs merged t calls m by =
    one_order (lines_between t merged) (numbered_entries calls) (some_never_fall (λ (x : NumberedLine). x.line.thread == t) merged (never_fall merged m.ordered)) (entries_rise 0 calls by.rise)
    (λ k. log_of_thread t k merged ∙ (ap (lines_of_thread t) (m.each k) ∙ (by.each k ∙ sym (log_of_calls k calls))))
