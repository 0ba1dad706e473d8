use Rattle.std.proofs.Common.{arith, ◌≡◌, ◌-◌, ◌/◌, ◌%◌, nat_eq, ℕ, List, [], ◌∷◌, ◌++◌, length, subst, sym, ◌∙◌, ap}
use Rattle.std.specs.Prelude.{map, reverse}
use Rattle.std.proofs.lemmas.List.{map-append, reverse-append, append_assoc, append-nil}
use Rattle.std.specs.Mem.Slots.{slots_items, slots_counts}
use Rattle.stream_log.specs.Log.{line_of, line}
use Rattle.stream_log.specs.LogRule.{Line, codes, IsCoded}
use Rattle.stream_log.proofs.Reading.{last_of, decoded, entry_is, none_left}
use Rattle.stream_log.proofs.device_log.read_back.Goals as goal

pub word-word-requires : goal.word-word-requires
word-word-requires c =
    let f = c.loop-end.invariant c.requires.coded.0 c.requires.coded.1 in
    let l = last_of f.0 c.loop-end.end _ c.loop-end-test.true f.1 in
    let n = (slots_counts c.args.closed.now.words).0 in
    let inside = l.inside in
    let some_left = c.loop-end-test.true in
    (omega arith, c.requires.full)

pub overflow_sub-start : goal.overflow_sub-start
overflow_sub-start c =
    let f = c.loop-end.invariant c.requires.coded.0 c.requires.coded.1 in
    let l = last_of f.0 c.loop-end.end _ c.loop-end-test.true f.1 in
    let e = l.end_is in
    omega arith

pub overflow_sub-start-in-loop-end : goal.overflow_sub-start-in-loop-end
overflow_sub-start-in-loop-end c =
    let f = c.loop-end.invariant c.requires.coded.0 c.requires.coded.1 in
    let l = last_of f.0 c.loop-end.end _ c.loop-end-test.true f.1 in
    let e = l.end_is in
    let d = (decoded f.0 c.loop-end.end c.word-word.result _ l c.word-word.ensures).0 in
    omega arith

pub word-time-requires : goal.word-time-requires
word-time-requires c =
    let f = c.loop-end.invariant c.requires.coded.0 c.requires.coded.1 in
    let l = last_of f.0 c.loop-end.end _ c.loop-end-test.true f.1 in
    let n = (slots_counts c.args.closed.now.words).0 in
    let inside = l.inside in
    let e = l.end_is in
    (omega arith, c.requires.full)

pub read_words-requires : goal.read_words-requires
read_words-requires c =
    let f = c.loop-end.invariant c.requires.coded.0 c.requires.coded.1 in
    let l = last_of f.0 c.loop-end.end _ c.loop-end-test.true f.1 in
    let n = (slots_counts c.args.closed.now.words).0 in
    let inside = l.inside in
    let e = l.end_is in
    let d = (decoded f.0 c.loop-end.end c.word-word.result _ l c.word-word.ensures).0 in
    (c.requires.full, omega arith)

pub loop-end-preserved : goal.loop-end-preserved
loop-end-preserved c list coded =
    let f = c.loop-end.invariant list coded in
    let l = last_of f.0 c.loop-end.end _ c.loop-end-test.true f.1 in
    let e = l.end_is in
    let d = (decoded f.0 c.loop-end.end c.word-word.result _ l c.word-word.ensures).0 in
    let at : length (codes l.before) ≡ c.loop-end.end - 2 - c.word-word.result / 8589934592 = omega arith in
    let is = entry_is f.0 c.loop-end.end c.word-word.result c.word-time.result _ c.in_ok-results.results.items l c.word-word.ensures c.word-time.ensures c.in_ok-results.ensures in
    let items = c.loop-end.entries.items in (
      l.before,
      subst (λ (k : ℕ). IsCoded l.before k (slots_items c.args.closed.now.words)) at l.coded,
      f.2 ∙ ap (λ (xs : List Line). map line_of items ++ xs) (ap reverse l.front_is ∙ reverse-append l.before (l.entry ∷ []))
          ∙ ap (λ (x : Line). map line_of items ++ x ∷ reverse l.before) (sym is)
          ∙ sym
          (ap (λ xs. map line_of xs ++ reverse l.before) c.in_ok-push.ensures.items
          ∙ (ap (λ (xs : List Line). xs ++ reverse l.before) (map-append line_of items _) ∙ append_assoc (map line_of items) (line (c.word-word.result % 4294967296) c.word-time.result (nat_eq ((c.word-word.result / 4294967296) % 2) 1) c.in_ok-results.results.items ∷ []) (reverse l.before))),
    )

pub returns : goal.returns
returns c list coded =
    let f = c.loop-end.invariant list coded in
    let z : c.loop-end.end ≡ 0 = let t = c.loop-end-test.false in omega arith in
    let none = none_left f.0 _ (subst (λ (k : ℕ). IsCoded f.0 k (slots_items c.args.closed.now.words)) z f.1) in
    sym (f.2 ∙ ap (λ (xs : List Line). map line_of c.loop-end.entries.items ++ reverse xs) none ∙ append-nil (map line_of c.loop-end.entries.items))
