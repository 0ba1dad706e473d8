-- The place that stops a call has the last report.
use Rattle.std.proofs.Common.{◌≡◌, ◌∙◌, ℕ, ◌+◌, Bool, true, false, Option, Some, None, List, [], ◌∷◌, ◌++◌, if◌then◌else◌, refl, ap, sym, length, slice_get, ◌-◌, arith}
use Rattle.std.specs.Prelude.{is_some}
use Rattle.command_tables.specs.Calls.{CallContent}
use Rattle.object_model.specs.Findings.{Findings, Report, above, at_place, is_failing}
use Rattle.object_model.specs.Rules.{Failure}
use Rattle.layer_model.specs.Parts.{life_failures, life_passed, unique_enter, use_failures}
use Rattle.layer_model.specs.Reading.{read_call}
use Rattle.layer_model.specs.Walks.{PartState, Threads, Lifetimes, Unique, enter_parts, passed, stopped}
use Rattle.std.specs.Option.{option_map}
use Rattle.lifetime_layer.specs.declared.finding.Finding.{Finding}
use Rattle.lifetime_layer.specs.Reports.{reports_of}
use Rattle.session_parts.specs.Judging.{last_place, stopped_by}

last_at : (f : Finding) (xs : List Finding) → option_map (λ (x : Finding). x.place) (slice_get (f ∷ xs) (length xs)) ≡ last_place (reports_of (f ∷ xs))
last_at f [] = refl
last_at f (g ∷ xs) = last_at g xs

-- the last finding is the last report
pub last_shown : (xs : List Finding) (r : Option Finding) → r ≡ slice_get xs (length xs - 1) → option_map (λ (x : Finding). x.place) r ≡ last_place (reports_of xs)
last_shown [] r is = ap (option_map (λ (x : Finding). x.place)) is
last_shown (f ∷ xs) r is =
    let e : length (f ∷ xs) - 1 ≡ length xs = omega arith in
    ap (option_map (λ (x : Finding). x.place)) (is ∙ ap (slice_get (f ∷ xs)) e) ∙ last_at f xs

last_behind : (front rs : List Report) (p : ℕ) → last_place rs ≡ Some p → last_place (front ++ rs) ≡ Some p
last_behind [] rs p is = is
last_behind (r ∷ []) [] p is = cc
last_behind (r ∷ []) (q ∷ rs) p is = is
last_behind (r ∷ f ∷ front) rs p is = last_behind (f ∷ front) rs p is

at_last : (k : ℕ) (fs : List Failure) → is_failing fs ≡ true → last_place (at_place k fs) ≡ Some k
at_last k [] h = cc
at_last k (f ∷ []) h = refl
at_last k (f ∷ g ∷ fs) h = at_last k (g ∷ fs) refl

-- the place that stops has the last report
abbrev IsLast : Findings → Type 0
IsLast f = f.stop ≡ stopped_by (is_some f.stop) f.reports

last_above : (front : List Report) (f : Findings) → IsLast f → IsLast (above front f)
last_above front f h = go f.stop f.reports h
  where
    go : (stop : Option ℕ) (rs : List Report) → stop ≡ stopped_by (is_some stop) rs → stop ≡ stopped_by (is_some stop) (front ++ rs)
    go None rs h = refl
    go (Some p) rs h = sym (last_behind front rs p (sym h))

-- so it is on the walk down
pub stop_last : (thread number k : ℕ) (states : List PartState) (c : CallContent) → IsLast (enter_parts thread number k states c).found
stop_last thread number k [] c = refl
stop_last thread number k (Threads m ∷ states) c =
    last_above (at_place k (use_failures m thread c.cmd (read_call c))) (enter_parts thread number (k + 1) states c).found (stop_last thread number (k + 1) states c)
stop_last thread number k (Lifetimes m ∷ states) c = go (is_failing (life_failures m c.cmd (read_call c))) refl (stop_last thread number (k + 1) states c)
  where
    go : (t : Bool) → is_failing (life_failures m c.cmd (read_call c)) ≡ t → IsLast (enter_parts thread number (k + 1) states c).found
        → IsLast (if t then stopped (Lifetimes m ∷ states) c k (life_failures m c.cmd (read_call c))
        else passed (Lifetimes (life_passed m c.cmd (read_call c))) c k [] (enter_parts thread number (k + 1) states c)).found
    go true e below = sym (at_last k (life_failures m c.cmd (read_call c)) e)
    go false e below = last_above [] (enter_parts thread number (k + 1) states c).found below
stop_last thread number k (Unique m ∷ states) c =
    last_above [] (enter_parts thread number (k + 1) states (unique_enter m c)).found (stop_last thread number (k + 1) states (unique_enter m c))
