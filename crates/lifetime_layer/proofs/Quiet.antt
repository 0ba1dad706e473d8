-- Where nothing is reported of a call, nothing is reported at any of its arguments.
use Rattle.std.proofs.Common.{◌≡◌, ◌<◌, ℕ, ◌+◌, Bool, true, false, List, [], ◌∷◌, ◌++◌, map, length, drop, get_or, refl, sym, ap, ◌∙◌, arith, add-one}
use Rattle.std.proofs.Math.Seq.{drop-cons}
use Rattle.command_tables.specs.Handles.{list_at}
use Rattle.command_tables.specs.Table.{ParamSpec, seen_param}
use Rattle.command_tables.specs.declared.types.Param.{Param}
use Rattle.object_model.specs.declared.Argument.{Argument}
use Rattle.object_model.specs.declared.Argument.TheVariants.{Null}
use Rattle.object_model.specs.Findings.{at_place}
use Rattle.object_model.specs.Rules.{Failure, params_from, places_from, unless}
use Rattle.object_records.proofs.Loops.{parameter_cut, place_cut}

-- what is empty has no front and no rest
front : {X : Type 0} (xs ys : List X) → xs ++ ys ≡ [] → xs ≡ []
front [] ys is = refl
front (x ∷ xs) ys is = cc is

rest : {X : Type 0} (xs ys : List X) → xs ++ ys ≡ [] → ys ≡ []
rest [] ys is = is
rest (x ∷ xs) ys is = cc is

-- where three rules report nothing, each of them holds
pub first_holds : (place : ℕ) (a b c : Bool) (f g h : Failure) → at_place place (unless a f ++ unless b g ++ unless c h) ≡ [] → a ≡ true
first_holds place true b c f g h is = refl
first_holds place false true true f g h is = cc is
first_holds place false true false f g h is = cc is
first_holds place false false true f g h is = cc is
first_holds place false false false f g h is = cc is

pub second_holds : (place : ℕ) (a b c : Bool) (f g h : Failure) → at_place place (unless a f ++ unless b g ++ unless c h) ≡ [] → b ≡ true
second_holds place a true c f g h is = refl
second_holds place true false true f g h is = cc is
second_holds place true false false f g h is = cc is
second_holds place false false true f g h is = cc is
second_holds place false false false f g h is = cc is

pub third_holds : (place : ℕ) (a b c : Bool) (f g h : Failure) → at_place place (unless a f ++ unless b g ++ unless c h) ≡ [] → c ≡ true
third_holds place a b true f g h is = refl
third_holds place true true false f g h is = cc is
third_holds place true false false f g h is = cc is
third_holds place false true false f g h is = cc is
third_holds place false false false f g h is = cc is

-- nothing at the places from one on: nothing at it, and nothing behind it
pub place_quiet : {X : Type 0} (f : ℕ → Argument → List X) (places : List Argument) (k : ℕ) → k < length places → places_from f k (drop k places) ≡ [] → f k (get_or places k Null) ≡ []
place_quiet f places k less is = front (f k (get_or places k Null)) (places_from f (k + 1) (drop (k + 1) places)) (ap (λ ps. places_from f k ps) (sym (place_cut places k less)) ∙ is)

pub places_quiet : {X : Type 0} (f : ℕ → Argument → List X) (places : List Argument) (k : ℕ) → k < length places → places_from f k (drop k places) ≡ [] → places_from f (k + 1) (drop (k + 1) places) ≡ []
places_quiet f places k less is = rest (f k (get_or places k Null)) (places_from f (k + 1) (drop (k + 1) places)) (ap (λ ps. places_from f k ps) (sym (place_cut places k less)) ∙ is)

-- the same of the parameters
pub cut : {X : Type 0} (f : ℕ → ParamSpec → ℕ → Argument → List X) (ps : List Param) (parts : List (List Argument)) (i : ℕ) (d : Param) → i < length ps → length parts ≡ length ps
    → params_from f i (map seen_param (drop i ps)) (drop i parts) ≡ places_from (f i (seen_param (get_or ps i d))) 0 (list_at parts i) ++ params_from f (i + 1) (map seen_param (drop (i + 1) ps)) (drop (i + 1) parts)
cut f ps parts i d less same =
    let low : i < length parts = omega (arith, less, same) in
    ap (λ (bs : List (List Argument)). params_from f i (map seen_param (drop i ps)) bs) (parameter_cut parts i low)
    ∙ (ap (λ (qs : List Param). params_from f i (map seen_param qs) (list_at parts i ∷ drop (i + 1) parts)) (drop-cons ps i d less)
    ∙ ap (λ n. params_from f i (map seen_param (get_or ps i d ∷ drop n ps)) (list_at parts i ∷ drop (i + 1) parts)) (sym (add-one i)))

pub parameter_quiet : {X : Type 0} (f : ℕ → ParamSpec → ℕ → Argument → List X) (ps : List Param) (parts : List (List Argument)) (i : ℕ) (d : Param) → i < length ps → length parts ≡ length ps
    → params_from f i (map seen_param (drop i ps)) (drop i parts) ≡ [] → places_from (f i (seen_param (get_or ps i d))) 0 (list_at parts i) ≡ []
parameter_quiet f ps parts i d less same is = front _ _ (sym (cut f ps parts i d less same) ∙ is)

pub parameters_quiet : {X : Type 0} (f : ℕ → ParamSpec → ℕ → Argument → List X) (ps : List Param) (parts : List (List Argument)) (i : ℕ) → i < length ps → length parts ≡ length ps
    → params_from f i (map seen_param (drop i ps)) (drop i parts) ≡ [] → params_from f (i + 1) (map seen_param (drop (i + 1) ps)) (drop (i + 1) parts) ≡ []
parameters_quiet f [] parts i less same is = absurd (omega (arith, less))
parameters_quiet f (p ∷ ps) parts i less same is = rest (places_from (f i (seen_param (get_or (p ∷ ps) i p))) 0 (list_at parts i)) _ (sym (cut f (p ∷ ps) parts i p less same) ∙ is)
