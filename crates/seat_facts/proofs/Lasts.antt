-- What a log has before one of its entries, which it has once.
use Rattle.std.proofs.Common.{◌≡◌, ◌∙◌, ◌==◌, ◌<◌, ℕ, Bool, true, false, cond, Option, Some, None, List, [], ◌∷◌, ◌++◌, map, refl, sym, ap, subst, arith}
use Rattle.std.specs.Prelude.{filter, is_some, reverse}
use Rattle.std.specs.List.{AllByRecursion}
use Rattle.chain_model.proofs.Eventing.{all_map}
use Rattle.stream_log.specs.declared.line.Line.{Line}
use Rattle.stream_log.specs.Log.{RisesFrom}
use Rattle.trace_format.specs.Content.{TraceEvent}
use Rattle.stream_model.specs.FileParts.{StreamPart}
use Rattle.stream_model.specs.Plans.{Along}
use Rattle.stream_model.proofs.Comings.{ends_all}
use Rattle.merge_model.proofs.Parting.{filter_reverse}
use Rattle.log_merge.specs.Merged.{NumberedLine, lines_of_log}
use Rattle.merge_facts.proofs.OneOrder.{lines_more}
use Rattle.shard_model.specs.Followed.{Follows, IsNextStep, next_event, turns_in}
use Rattle.seat_facts.proofs.Spots.{map_turned}

-- ---- times

all_above : (n : ℕ) (es : List Line) → RisesFrom n es → AllByRecursion (λ (e : Line). n < e.time) es
all_above n [] rises = tt
all_above n (e ∷ es) rises =
    let first : n < e.time = rises.0 in
    (first, all_map (λ (y : Line). e.time < y.time) (λ (y : Line). n < y.time) (λ y lt. omega (arith, first, lt)) es (all_above e.time es rises.1))

pub same_front : (n : ℕ) (ps qs bs ds : List Line) (e : Line) → RisesFrom n (ps ++ e ∷ bs) → ps ++ e ∷ bs ≡ qs ++ e ∷ ds → ps ≡ qs
same_front n [] [] bs ds e rises is = refl
same_front n [] (c ∷ qs) bs ds e rises is =
    let rest : bs ≡ qs ++ e ∷ ds = cc in
    let above = ends_all (λ (y : Line). e.time < y.time) qs (e ∷ ds) (subst (AllByRecursion (λ (y : Line). e.time < y.time)) rest (all_above e.time bs rises.1)) in
    let bad : e.time < e.time = above.0 in
    absurd (omega (arith, bad))
same_front n (a ∷ ps) [] bs ds e rises is =
    let one : a ≡ e = cc in
    let above = ends_all (λ (y : Line). a.time < y.time) ps (e ∷ bs) (all_above a.time (ps ++ e ∷ bs) rises.1) in
    let bad : a.time < e.time = above.0 in
    let same : a.time ≡ e.time = ap (λ (y : Line). y.time) one in
    absurd (omega (arith, bad, same))
same_front n (a ∷ ps) (c ∷ qs) bs ds e rises is =
    let one : a ≡ c = cc in
    let rest : ps ++ e ∷ bs ≡ qs ++ e ∷ ds = cc in
    ap (λ (y : Line). y ∷ ps) one ∙ ap (λ (ys : List Line). c ∷ ys) (same_front a.time ps qs bs ds e rises.1 rest)

-- ---- a log's entries among all

pub lines_parted : (k : ℕ) (front rest : List NumberedLine) (x : NumberedLine) → (x.log == k) ≡ true → lines_of_log k (front ++ x ∷ rest) ≡ lines_of_log k front ++ x.line ∷ lines_of_log k rest
lines_parted k [] rest x own = lines_more k x rest own
lines_parted k (y ∷ front) rest x own = go (y.log == k) (lines_parted k front rest x own)
  where
    go : (u : Bool) → lines_of_log k (front ++ x ∷ rest) ≡ lines_of_log k front ++ x.line ∷ lines_of_log k rest
        → map (λ (z : NumberedLine). z.line) (cond u (y ∷ filter (λ (z : NumberedLine). z.log == k) (front ++ x ∷ rest)) (filter (λ (z : NumberedLine). z.log == k) (front ++ x ∷ rest)))
        ≡ map (λ (z : NumberedLine). z.line) (cond u (y ∷ filter (λ (z : NumberedLine). z.log == k) front) (filter (λ (z : NumberedLine). z.log == k) front)) ++ x.line ∷ lines_of_log k rest
    go true same = ap (λ (es : List Line). y.line ∷ es) same
    go false same = same

pub lines_turned : (k : ℕ) (back : List NumberedLine) → lines_of_log k (reverse back) ≡ reverse (lines_of_log k back)
lines_turned k back =
    ap (map (λ (x : NumberedLine). x.line)) (filter_reverse (λ (x : NumberedLine). x.log == k) back) ∙ sym (map_turned (λ (x : NumberedLine). x.line) (filter (λ (x : NumberedLine). x.log == k) back))

-- ---- entries that follow a plan

pub follows_last : (streams : List StreamPart) (later entries : List Line) → Follows streams (later ++ entries) → Follows streams entries
follows_last streams [] entries follows = follows
follows_last streams (e ∷ later) entries follows = follows_last streams later entries follows.1

pub turns_along : (streams : List StreamPart) (entries : List Line) → Follows streams entries → Along streams (turns_in entries)
turns_along streams [] follows = tt
turns_along streams (e ∷ before) follows = (there (next_event streams e.thread before) follows.0, turns_along streams before follows.1)
  where
    there : (o : Option TraceEvent) → IsNextStep e o → is_some o ≡ true
    there None next = absurd next
    there (Some event) next = refl

pub along_last : (streams : List StreamPart) (later turns : List ℕ) → Along streams (later ++ turns) → Along streams turns
along_last streams [] turns along = along
along_last streams (t ∷ later) turns along = along_last streams later turns along.1
