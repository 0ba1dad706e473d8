-- Where there is room for all that is found at a call, there is at each of its arguments.
use Rattle.std.proofs.Common.{◌≡◌, ◌<◌, ◌≤◌, ℕ, ◌+◌, Bool, true, false, List, [], ◌∷◌, ◌++◌, map, length, drop, get_or, refl, sym, ap, ◌∙◌, arith, length-append}
use Rattle.command_tables.specs.Handles.{list_at}
use Rattle.command_tables.specs.Table.{ParamSpec, row_of, seen_param}
use Rattle.command_tables.specs.declared.types.CommandId.{CommandId}
use Rattle.command_tables.specs.declared.types.Param.{Param}
use Rattle.object_model.specs.declared.Argument.{Argument}
use Rattle.object_model.specs.declared.Argument.TheVariants.{Null}
use Rattle.object_model.specs.Findings.{Report, at_place}
use Rattle.object_model.specs.Objects.{is_in}
use Rattle.object_model.specs.Rules.{Failure, failures_at, params_from, places_from, unless}
use Rattle.layer_model.specs.Parts.{LifeModel, life_failures}
use Rattle.object_records.proofs.Loops.{place_cut}
use Rattle.lifetime_layer.specs.declared.finding.Finding.{Finding}
use Rattle.lifetime_layer.specs.Reports.{reports_at, reports_of}
use Rattle.lifetime_layer.proofs.Quiet.{cut}
use Rattle.lifetime_layer.proofs.Reports.{all_at, counted}

-- how many of three rules fail
three_long : (place : ℕ) (a b c : Bool) (f g h : Failure) (r s t : Report) → length (at_place place (unless a f ++ unless b g ++ unless c h)) ≡ length (unless a r) + (length (unless b s) + length (unless c t))
three_long place true true true f g h r s t = refl
three_long place true true false f g h r s t = refl
three_long place true false true f g h r s t = refl
three_long place true false false f g h r s t = refl
three_long place false true true f g h r s t = refl
three_long place false true false f g h r s t = refl
three_long place false false true f g h r s t = refl
three_long place false false false f g h r s t = refl

-- room for three rules is room for the first
pub first_fits : (place : ℕ) (a b c : Bool) (f g h : Failure) (r : Report) (count room : ℕ) → count + length (at_place place (unless a f ++ unless b g ++ unless c h)) ≤ room → count + length (unless a r) ≤ room
first_fits place a b c f g h r count room low = let all = three_long place a b c f g h r r r in omega (arith, all, low)

-- for the second, behind the first
pub second_fits : (place : ℕ) (a b c : Bool) (f g h : Failure) (r s : Report) (before after : List Finding) (room room2 : ℕ) → reports_of after ≡ reports_of before ++ unless a r → room ≤ room2
    → length before + length (at_place place (unless a f ++ unless b g ++ unless c h)) ≤ room → length after + length (unless b s) ≤ room2
second_fits place a b c f g h r s before after room room2 is more low =
    let all = three_long place a b c f g h r s s in let grown = counted before after (unless a r) is in omega (arith, all, grown, more, low)

-- for the third, behind both
pub third_fits : (place : ℕ) (a b c : Bool) (f g h : Failure) (r s t : Report) (before between after : List Finding) (room room2 room3 : ℕ) → reports_of between ≡ reports_of before ++ unless a r → reports_of after ≡ reports_of between ++ unless b s
    → room ≤ room2 → room2 ≤ room3 → length before + length (at_place place (unless a f ++ unless b g ++ unless c h)) ≤ room → length after + length (unless c t) ≤ room3
third_fits place a b c f g h r s t before between after room room2 room3 is is2 more more2 low =
    let all = three_long place a b c f g h r s t in let grown = counted before between (unless a r) is in let grown2 = counted between after (unless b s) is2 in omega (arith, all, grown, grown2, more, more2, low)

-- room for what is left is room for the front of it
left_fits : (before now : List Finding) (all left front behind : List Report) (room room2 : ℕ) → reports_of now ++ left ≡ reports_of before ++ all → left ≡ front ++ behind → room ≤ room2 → length before + length all ≤ room → length now + length front ≤ room2
left_fits before now all left front behind room room2 is parts more low =
    let whole = ap (λ (rs : List Report). length rs) is in
    let one = length-append (reports_of now) left in
    let two = length-append (reports_of before) all in
    let three = ap (λ (rs : List Report). length rs) parts ∙ length-append front behind in
    let was = counted [] before (reports_of before) refl in
    let are = counted [] now (reports_of now) refl in
    omega (arith, whole, one, two, three, was, are, more, low)

-- for the argument at a place
pub place_fits : (f : ℕ → Argument → List Report) (places : List Argument) (k : ℕ) (before now : List Finding) (all : List Report) (room room2 : ℕ) → k < length places → reports_of now ++ places_from f k (drop k places) ≡ reports_of before ++ all
    → room ≤ room2 → length before + length all ≤ room → length now + length (f k (get_or places k Null)) ≤ room2
place_fits f places k before now all room room2 less is more low =
    left_fits before now all (places_from f k (drop k places)) (f k (get_or places k Null)) (places_from f (k + 1) (drop (k + 1) places)) room room2 is (ap (λ ps. places_from f k ps) (place_cut places k less)) more low

-- for the arguments of a parameter
pub parameter_fits : (f : ℕ → ParamSpec → ℕ → Argument → List Report) (ps : List Param) (parts : List (List Argument)) (i : ℕ) (d : Param) (before now : List Finding) (all : List Report) (room room2 : ℕ) → i < length ps → length parts ≡ length ps
    → reports_of now ++ params_from f i (map seen_param (drop i ps)) (drop i parts) ≡ reports_of before ++ all → room ≤ room2 → length before + length all ≤ room → length now + length (places_from (f i (seen_param (get_or ps i d))) 0 (list_at parts i)) ≤ room2
parameter_fits f ps parts i d before now all room room2 less same is more low =
    left_fits before now all (params_from f i (map seen_param (drop i ps)) (drop i parts)) (places_from (f i (seen_param (get_or ps i d))) 0 (list_at parts i)) (params_from f (i + 1) (map seen_param (drop (i + 1) ps)) (drop (i + 1) parts)) room room2 is (cut f ps parts i d less same) more low

-- for the reports of a call as for its failures
pub all_fit : (place : ℕ) (m : LifeModel) (c : CommandId) (args : List (List Argument)) (count room : ℕ) → count + length (at_place place (life_failures m c args)) ≤ room → count + length (params_from (reports_at place m c args) 0 (row_of c).params args) ≤ room
all_fit place m c args count room low = let same = ap (λ (rs : List Report). length rs) (all_at place (failures_at m.births (is_in m.living) c args) 0 (row_of c).params args) in omega (arith, same, low)

-- as many reports as failures
pub long_at : (place : ℕ) (fs : List Failure) → length (at_place place fs) ≡ length fs
long_at place [] = refl
long_at place (f ∷ fs) = let ih = long_at place fs in omega (arith, ih)
