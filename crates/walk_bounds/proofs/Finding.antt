-- How much is found on a walk.
use Rattle.std.proofs.Common.{◌≡◌, ◌≤◌, ◌+◌, ◌*◌, ℕ, Bool, true, false, not, ◌&&◌, ◌||◌, ◌==◌, Option, Some, None, List, [], ◌∷◌, ◌++◌, length, refl, ap, ◌∙◌, subst, arith}
use Rattle.std.proofs.lemmas.List.{length-append, length-map}
use Rattle.std.specs.List.{flat_map}
use Rattle.command_tables.specs.Calls.{CallContent}
use Rattle.command_tables.specs.declared.types.CommandId.{CommandId}
use Rattle.command_tables.specs.declared.types.Rule.TheVariants as rule
use Rattle.command_tables.specs.Table.{ParamSpec, row_of}
use Rattle.object_model.specs.declared.Argument.{Argument}
use Rattle.object_model.specs.declared.Object.{Object}
use Rattle.object_model.specs.Findings.{Report, at_place, is_failing}
use Rattle.object_model.specs.History.{Birth}
use Rattle.object_model.specs.Objects.{is_in, object_of}
use Rattle.object_model.specs.Rules.{Failure, children_at, ends_parent, failure, failures_at, failures_in, parameter_holds, parent_holds, unless}
use Rattle.object_model.specs.Uses.{InUse, conflicts_in, least, overlap_at, overlaps_in, uses_at}
use Rattle.layer_model.specs.Parts.{life_failures, use_failures, unique_enter}
use Rattle.layer_model.specs.Reading.{read_call}
use Rattle.layer_model.specs.Walks.{PartState, Threads, Lifetimes, Unique, enter_parts}
use Rattle.walk_bounds.specs.Bounds.{failures_most}
use Rattle.walk_bounds.proofs.Weighing.{below_weighs, params_few, read_weighs}

unless_one : {X : Type 0} (b : Bool) (x : X) → length (unless b x) ≤ 1
unless_one true x = omega arith
unless_one false x = omega arith

-- a part's rules fail at most three times at an argument
at_argument : (births : List Birth) (living : Object → Bool) (c : CommandId) (args : List (List Argument)) (i : ℕ) (p : ParamSpec) (k : ℕ) (a : Argument)
    → length (failures_at births living c args i p k a) ≤ 3
at_argument births living c args i p k a =
    let one : List Failure = unless (parameter_holds living p a) (failure i k rule.Parameter 0) in
    let two : List Failure = unless (parent_holds births living args p a) (failure i k rule.Parent 0) in
    let three : List Failure = unless (not (ends_parent c && i == 0) || children_at births living a == 0) (failure i k rule.Children (children_at births living a)) in
    let first = unless_one (parameter_holds living p a) (failure i k rule.Parameter 0) in
    let second = unless_one (parent_holds births living args p a) (failure i k rule.Parent 0) in
    let third = unless_one (not (ends_parent c && i == 0) || children_at births living a == 0) (failure i k rule.Children (children_at births living a)) in
    let all : length (failures_at births living c args i p k a) ≡ length one + length two + length three = length-append (one ++ two) three ∙ ap (λ n. n + length three) (length-append one two) in
    omega (arith, first, second, third, all)

overlap_one : (i k : ℕ) (n : Option ℕ) → length (overlap_at i k n) ≤ 3
overlap_one i k None = omega arith
overlap_one i k (Some j) = omega arith

-- what a part finds at a call
life_few : (births : List Birth) (living : Object → Bool) (c : CallContent) → length (failures_in births living c.cmd (read_call c)) ≤ failures_most c
life_few births living c =
    let found = params_few (failures_at births living c.cmd (read_call c)) (λ (p : ParamSpec). 3) (at_argument births living c.cmd (read_call c)) 0 (row_of c.cmd).params (read_call c) in
    let read = read_weighs (λ (p : ParamSpec). 3) (row_of c.cmd).params c.args c.unborn in
    omega (arith, found, read)

use_few : (opens : List InUse) (births : List Birth) (living : Object → Bool) (thread : ℕ) (c : CallContent) → length (overlaps_in opens births living thread c.cmd (read_call c)) ≤ failures_most c
use_few opens births living thread c =
    let found = params_few (λ i p k a. overlap_at i k (least (flat_map (conflicts_in opens thread) (uses_at births living i p k (object_of a))))) (λ (p : ParamSpec). 3)
    (λ i p k a. overlap_one i k (least (flat_map (conflicts_in opens thread) (uses_at births living i p k (object_of a))))) 0 (row_of c.cmd).params (read_call c) in
    let read = read_weighs (λ (p : ParamSpec). 3) (row_of c.cmd).params c.args c.unborn in
    omega (arith, found, read)

placed_long : (k : ℕ) (fs : List Failure) → length (at_place k fs) ≡ length fs
placed_long k fs = length-map {B = Report} fs (λ f. record { place = k; failure = f })

pub finds_few : (thread number k : ℕ) (states : List PartState) (c : CallContent) → length (enter_parts thread number k states c).found.reports ≤ length states * failures_most c
finds_few thread number k [] c = omega arith
finds_few thread number k (Threads m ∷ states) c =
    let here = use_few m.opens m.births (is_in m.living) thread c in
    let rest = finds_few thread number (k + 1) states c in
    let placed : length (at_place k (use_failures m thread c.cmd (read_call c))) ≡ length (use_failures m thread c.cmd (read_call c)) = placed_long k (use_failures m thread c.cmd (read_call c)) in
    let all = length-append (at_place k (use_failures m thread c.cmd (read_call c))) (enter_parts thread number (k + 1) states c).found.reports in
    omega (arith, here, rest, placed, all)
finds_few thread number k (Lifetimes m ∷ states) c = go (finds_few thread number (k + 1) states c) (is_failing (life_failures m c.cmd (read_call c))) refl
  where
    go : length (enter_parts thread number (k + 1) states c).found.reports ≤ length states * failures_most c → (b : Bool) → is_failing (life_failures m c.cmd (read_call c)) ≡ b → length (enter_parts thread number k (Lifetimes m ∷ states) c).found.reports ≤ length {A = PartState} (Lifetimes m ∷ states) * failures_most c
    go rest true fails =
        let here = life_few m.births (is_in m.living) c in
        let placed = placed_long k (life_failures m c.cmd (read_call c)) in
        rw fails (omega (arith, here, placed))
    go rest false fails = rw fails (omega (arith, rest))
finds_few thread number k (Unique m ∷ states) c =
    let rest = finds_few thread number (k + 1) states (unique_enter m c) in
    let same = below_weighs (λ (p : ParamSpec). 3) m (row_of c.cmd).params c.args in
    let most : failures_most (unique_enter m c) ≡ failures_most c = same in
    let fewer = subst (λ n. length (enter_parts thread number (k + 1) states (unique_enter m c)).found.reports ≤ length states * n) most rest in
    omega (arith, fewer)
