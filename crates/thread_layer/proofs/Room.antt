-- Where there is room for all that a call uses and all that is found at it, there is for what is left.
use Rattle.std.proofs.Common.{◌≡◌, ◌<◌, ◌≤◌, ℕ, suc, ◌+◌, Bool, true, cond, Some, List, [], ◌∷◌, ◌++◌, map, length, drop, get_or, sym, ap, ◌∙◌, arith, length-append}
use Rattle.std.specs.Prelude.{vec_capacity}
use Rattle.std.proofs.lemmas.List.{length-map}
use Rattle.command_tables.specs.Handles.{list_at}
use Rattle.command_tables.specs.Table.{ParamSpec, seen_param}
use Rattle.command_tables.specs.declared.types.Param.{Param}
use Rattle.object_model.specs.declared.Argument.{Argument}
use Rattle.object_model.specs.declared.Argument.TheVariants.{Null}
use Rattle.object_model.specs.Findings.{Report}
use Rattle.object_model.specs.Rules.{params_from, places_from}
use Rattle.object_model.specs.declared.Object.{Object}
use Rattle.object_model.specs.History.{Birth, born_in}
use Rattle.object_model.specs.Uses.{InUse, Use, implied_objects, use_of, uses_at}
use Rattle.object_records.proofs.Loops.{place_cut}
use Rattle.lifetime_layer.specs.declared.verdict.Verdict.{Verdict}
use Rattle.lifetime_layer.specs.Reports.{report_of, reports_of}
use Rattle.lifetime_layer.proofs.Quiet.{cut}
use Rattle.thread_layer.specs.declared.gathering.Gathered.{Gathered}
use Rattle.thread_layer.specs.Kept.{use_seen}
use Rattle.thread_layer.specs.Room.{HasRoomFor, gathered_room, uses_held}

-- room for what is left is room for the front of it
left_fits : {X Y : Type 0} (seen : Y → X) (before now : List Y) (all left front behind : List X) (room room2 : ℕ) → map seen now ++ left ≡ map seen before ++ all → left ≡ front ++ behind → room ≤ room2 → length before + length all ≤ room → length now + length front ≤ room2
left_fits {X} {Y} seen before now all left front behind room room2 is parts more low =
    let whole = ap (λ (xs : List X). length xs) is in
    let one = length-append (map seen now) left in
    let two = length-append (map seen before) all in
    let three = ap (λ (xs : List X). length xs) parts ∙ length-append front behind in
    let was = length-map before seen in
    let are = length-map now seen in
    omega (arith, whole, one, two, three, was, are, more, low)

both_fit : (before now : Gathered) (was is : Verdict) (uses us behind : List Use) (reports rs after : List Report) (front : List Use) (found : List Report) → map use_seen now.uses.items ++ us ≡ map use_seen before.uses.items ++ uses → us ≡ front ++ behind
    → reports_of is.findings.items ++ rs ≡ reports_of was.findings.items ++ reports → rs ≡ found ++ after → gathered_room before ≤ gathered_room now → vec_capacity was.findings ≤ vec_capacity is.findings → HasRoomFor before was uses reports → HasRoomFor now is front found
both_fit before now was is uses us behind reports rs after front found gathered parts so_far pieces more longer fits = record {
  uses = left_fits use_seen before.uses.items now.uses.items uses us front behind (gathered_room before) (gathered_room now) gathered parts more fits.uses;
  reports = left_fits report_of was.findings.items is.findings.items reports rs found after (vec_capacity was.findings) (vec_capacity is.findings) so_far pieces longer fits.reports;
}

-- for the argument at a place
pub place_fits : (f : ℕ → Argument → List Use) (g : ℕ → Argument → List Report) (places : List Argument) (k : ℕ) (before now : Gathered) (was is : Verdict) (uses : List Use) (reports : List Report) (a : Argument) → k < length places → a ≡ get_or places k Null
    → map use_seen now.uses.items ++ places_from f k (drop k places) ≡ map use_seen before.uses.items ++ uses → reports_of is.findings.items ++ places_from g k (drop k places) ≡ reports_of was.findings.items ++ reports
    → gathered_room before ≤ gathered_room now → vec_capacity was.findings ≤ vec_capacity is.findings → HasRoomFor before was uses reports → HasRoomFor now is (f k a) (g k a)
place_fits f g places k before now was is uses reports a less here gathered found more longer fits =
    both_fit before now was is uses (places_from f k (drop k places)) (places_from f (k + 1) (drop (k + 1) places)) reports (places_from g k (drop k places)) (places_from g (k + 1) (drop (k + 1) places)) (f k a) (g k a)
    gathered (ap (λ ps. places_from f k ps) (place_cut places k less) ∙ ap (λ b. f k b ++ places_from f (k + 1) (drop (k + 1) places)) (sym here))
    found (ap (λ ps. places_from g k ps) (place_cut places k less) ∙ ap (λ b. g k b ++ places_from g (k + 1) (drop (k + 1) places)) (sym here))
    more longer fits

-- for the arguments of a parameter
pub parameter_fits : (f : ℕ → ParamSpec → ℕ → Argument → List Use) (g : ℕ → ParamSpec → ℕ → Argument → List Report) (ps : List Param) (parts : List (List Argument)) (i : ℕ) (d : Param) (before now : Gathered) (was is : Verdict) (uses : List Use) (reports : List Report)
    → i < length ps → length parts ≡ length ps → map use_seen now.uses.items ++ params_from f i (map seen_param (drop i ps)) (drop i parts) ≡ map use_seen before.uses.items ++ uses
    → reports_of is.findings.items ++ params_from g i (map seen_param (drop i ps)) (drop i parts) ≡ reports_of was.findings.items ++ reports → gathered_room before ≤ gathered_room now → vec_capacity was.findings ≤ vec_capacity is.findings → HasRoomFor before was uses reports
    → HasRoomFor now is (places_from (f i (seen_param (get_or ps i d))) 0 (list_at parts i)) (places_from (g i (seen_param (get_or ps i d))) 0 (list_at parts i))
parameter_fits f g ps parts i d before now was is uses reports less same gathered found more longer fits =
    both_fit before now was is uses (params_from f i (map seen_param (drop i ps)) (drop i parts)) (params_from f (i + 1) (map seen_param (drop (i + 1) ps)) (drop (i + 1) parts))
    reports (params_from g i (map seen_param (drop i ps)) (drop i parts)) (params_from g (i + 1) (map seen_param (drop (i + 1) ps)) (drop (i + 1) parts))
    (places_from (f i (seen_param (get_or ps i d))) 0 (list_at parts i)) (places_from (g i (seen_param (get_or ps i d))) 0 (list_at parts i))
    gathered (cut f ps parts i d less same) found (cut g ps parts i d less same) more longer fits

-- ---- open calls

-- the uses held with one call more
pub held_more : (opens : List InUse) (c : InUse) → uses_held (opens ++ c ∷ []) ≡ uses_held opens + length c.uses
held_more [] c = omega arith
held_more (o ∷ opens) c = let rest = held_more opens c in omega (arith, rest)

-- ---- one argument

-- the uses of an object that was born are its own and those of what is implied
pub uses_long : (births : List Birth) (living : Object → Bool) (i : ℕ) (p : ParamSpec) (k : ℕ) (o : Object) → born_in births o ≡ true → length (uses_at births living i p k (Some o)) ≡ suc (length (implied_objects births living p.implied o))
uses_long births living i p k o born =
    let implied : List Object = implied_objects births living p.implied o in
    ap (λ t. length (cond t (use_of i k p.sync o ∷ map (use_of i k true) implied) [])) born ∙ ap suc (length-map implied (use_of i k true))
