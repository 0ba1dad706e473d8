-- The turns that all entries are make a merge of the streams.
use Rattle.std.proofs.Common.{◌≡◌, ◌∙◌, ◌==◌, ◌+◌, ◌<◌, ℕ, suc, cond, Some, List, [], ◌∷◌, ◌++◌, length, refl, sym, ap, subst, arith, append-nil, zero}
use Rattle.std.specs.Prelude.{is_some, map, reverse, slice_get}
use Rattle.std.specs.List.{AllByRecursion}
use Rattle.std.proofs.lemmas.Bool.{eq-eqb}
use Rattle.std.proofs.lemmas.List.{length-append, reverse-reverse}
use Rattle.std.proofs.lemmas.List.Elements.{filter-append, recursion_from_All}
use Rattle.stream_log.specs.declared.line.Line.{Line}
use Rattle.trace_format.specs.declared.event.Name.{Name}
use Rattle.trace_format.specs.Content.{TraceEvent}
use Rattle.stream_model.specs.FileLines.{FileLine}
use Rattle.stream_model.specs.FileParts.{IsOfOneThread, StreamPart, parts}
use Rattle.stream_model.specs.Plans.{Along, events_along, events_planned, next_turn, turns_of}
use Rattle.stream_model.proofs.Comings.{ends_all}
use Rattle.stream_model.proofs.Within.{of_one_thread}
use Rattle.merge_model.specs.Merges.{AreAllTaken, IsMerge}
use Rattle.merge_model.specs.Planned.{events_of_calls}
use Rattle.merge_model.proofs.InTurn.{reverse_onto}
use Rattle.merge_model.proofs.Numbered.{calls_have_plans}
use Rattle.merge_model.proofs.Taken.{turns_merge}
use Rattle.log_merge.specs.Merged.{IsLogMerge, NumberedLine}
use Rattle.merge_facts.specs.Logged.{AllLogged, AreLogsOf, IsOfStream, LoggedCall, lines_between, numbered_entries, turns_behind}
use Rattle.merge_facts.proofs.Apart.{streams_apart}
use Rattle.merge_facts.proofs.AsMade.{thread_stands}
use Rattle.merge_facts.proofs.Behind.{threads_in, turns_counted, turns_turned}
use Rattle.merge_facts.proofs.Owners.{ArePlanned, Calls, all_of_streams, thread_calls}

-- a call has as many entries as events
as_many : (t : ℕ) (calls : List LoggedCall) → length (numbered_entries calls) ≡ length (events_of_calls t (map (λ (c : LoggedCall). c.planned) calls))
as_many t [] = refl
as_many t (c ∷ calls) = ap (λ n. suc (suc n)) (as_many t calls)

some_at : {X : Type 0} (xs : List X) (k : ℕ) → k < length xs → (x : X) × (slice_get xs k ≡ Some x)
some_at [] k lt = absurd (omega (arith, lt))
some_at (x ∷ xs) zero lt = (x, refl)
some_at (x ∷ xs) (suc k) lt = some_at xs k (omega (arith, lt))

module _ (lines : List FileLine) (devices : List Name) (logs : List (List Line)) (calls : List (List LoggedCall)) (merged : List NumberedLine) (of : AreLogsOf lines devices logs calls) (m : IsLogMerge logs merged) where
  plans : ArePlanned (parts lines) devices (parts lines).streams
  plans = calls_have_plans lines devices of.order of.whole of.distinct of.on

  -- ---- an entry behind others

  pub calls_of : (back rest : List NumberedLine) (x : NumberedLine) → merged ≡ reverse back ++ x ∷ rest → Calls (parts lines) devices merged (parts lines).streams x.line.thread
  calls_of back rest x is =
      let all = subst (AllByRecursion (λ (y : NumberedLine). IsOfStream (parts lines).streams y.line)) is (all_of_streams logs merged (parts lines).streams m of.owned) in
      thread_calls (parts lines) devices logs merged m (parts lines).streams calls x.line.thread of.streams plans (ends_all (λ (y : NumberedLine). IsOfStream (parts lines).streams y.line) (reverse back) (x ∷ rest) all).0

  -- the entries of its thread's calls, parted at it
  pub calls_parted : (back rest : List NumberedLine) (x : NumberedLine) → merged ≡ reverse back ++ x ∷ rest → (c : Calls (parts lines) devices merged (parts lines).streams x.line.thread)
      → numbered_entries c.calls ≡ lines_between x.line.thread (reverse back) ++ x ∷ lines_between x.line.thread rest
  calls_parted back rest x is c =
      sym c.stands
      ∙ (ap (lines_between x.line.thread) is
      ∙ (filter-append (λ (y : NumberedLine). y.line.thread == x.line.thread) (reverse back) (x ∷ rest)
      ∙ ap (λ u. lines_between x.line.thread (reverse back) ++ cond u (x ∷ lines_between x.line.thread rest) (lines_between x.line.thread rest)) (eq-eqb x.line.thread x.line.thread refl)))

  pub next_there : (back rest : List NumberedLine) (x : NumberedLine) → merged ≡ reverse back ++ x ∷ rest → (e : TraceEvent) × (next_turn (parts lines).streams x.line.thread (threads_in back) ≡ Some e)
  next_there back rest x is =
      let t : ℕ = x.line.thread in
      let c = calls_of back rest x is in
      let count : turns_of t (threads_in back) ≡ length (lines_between t (reverse back)) = turns_counted t back in
      let whole : length (events_planned (parts lines).streams t) ≡ length (lines_between t (reverse back) ++ x ∷ lines_between t rest) =
      sym (ap length c.events) ∙ (sym (as_many t c.calls) ∙ ap length (calls_parted back rest x is c)) in
      let both : length (lines_between t (reverse back) ++ x ∷ lines_between t rest) ≡ length (lines_between t (reverse back)) + suc (length (lines_between t rest)) =
      length-append (lines_between t (reverse back)) (x ∷ lines_between t rest) in
      some_at (events_planned (parts lines).streams t) (turns_of t (threads_in back)) (omega (arith, count, whole, both))

  -- ---- all entries

  pub along_back : (back rest : List NumberedLine) → merged ≡ reverse back ++ rest → Along (parts lines).streams (threads_in back)
  along_back [] rest is = tt
  along_back (x ∷ back) rest is = let at = is ∙ reverse_onto x back rest in (ap is_some (next_there back rest x at).1, along_back back (x ∷ rest) at)

  along_front : (front rest : List NumberedLine) → merged ≡ front ++ rest → Along (parts lines).streams (turns_behind front)
  along_front front rest is =
      subst (Along (parts lines).streams) (sym (turns_turned front)) (along_back (reverse front) rest (is ∙ ap (λ xs. xs ++ rest) (sym (reverse-reverse front))))

  pub all_along : Along (parts lines).streams (turns_behind merged)
  all_along = along_front merged [] (sym (append-nil merged))

  each_taken : (streams : List StreamPart) (own : List (List LoggedCall)) → AllLogged (parts lines) devices logs streams own → ArePlanned (parts lines) devices streams → AreAllTaken streams (turns_behind merged)
  each_taken [] own logged planned = tt
  each_taken (s ∷ streams) [] logged planned = absurd logged
  each_taken (s ∷ streams) (cs ∷ own) logged planned = (count, each_taken streams own logged.1 planned.1)
    where
      count : turns_of s.thread (turns_behind merged) ≡ length s.events
      count =
          ap (turns_of s.thread) (turns_turned merged)
          ∙ (turns_counted s.thread (reverse merged)
          ∙ (ap (λ xs. length (lines_between s.thread xs)) (reverse-reverse merged)
          ∙ (ap length (thread_stands logs merged s.thread cs m logged.0.0) ∙ (as_many s.thread cs ∙ ap length (ap (events_of_calls s.thread) logged.0.1 ∙ planned.0.events)))))

  pub all_taken : AreAllTaken (parts lines).streams (turns_behind merged)
  all_taken = each_taken (parts lines).streams calls of.streams plans

  pub whole_merge : IsMerge (parts lines).streams (reverse (events_along (parts lines).streams (turns_behind merged)))
  whole_merge =
      turns_merge (parts lines).streams (turns_behind merged) (streams_apart lines of.order) (recursion_from_All IsOfOneThread (parts lines).streams (of_one_thread lines of.order)) all_along all_taken
