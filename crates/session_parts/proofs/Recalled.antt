-- The arguments of a call that is open again.
use Rattle.std.proofs.Common.{◌≡◌, ◌∙◌, ◌≤◌, ◌<◌, ◌+◌, ℕ, zero, suc, Bool, true, false, cond, Option, Some, None, List, [], ◌∷◌, length, map, take, get_or, set, refl, ap, sym, arith, add-one}
use Rattle.std.proofs.lemmas.List.{get_or_past, length-map}
use Rattle.std.specs.Option.{option_map_or}
use Rattle.command_tables.specs.Handles.{list_at}
use Rattle.trace_format.specs.Content.{Arg}
use Rattle.trace_format.specs.declared.event.Name.{Name}
use Rattle.object_model.specs.declared.Argument.{Argument}
use Rattle.object_model.specs.declared.Argument.TheVariants.{Null, Unborn, The}
use Rattle.replay_model.specs.declared.Named.{Named}
use Rattle.replay_model.specs.Past.{argument_in, arguments_in}
use Rattle.chain_model.specs.Chained.{is_unborn}
use Rattle.session_parts.specs.Entering.{AllRecalled, AreRecalled, IsRecalled}
use Rattle.session_parts.specs.Leaving.{recalled, recalled_places}

-- ---- marks

-- a place beyond the handles of a parameter has no mark
pub beyond_place : (marks : List (List Bool)) (lists : List (List ℕ)) (p k : ℕ) → map (λ (ms : List Bool). length ms) marks ≡ map (λ (xs : List ℕ). length xs) lists → length (list_at lists p) ≤ k → false ≡ get_or (list_at marks p) k false
beyond_place [] lists p k same beyond = refl
beyond_place (ms ∷ marks) [] p k same beyond = cc same
beyond_place (ms ∷ marks) (xs ∷ lists) zero k same beyond =
    let n : length ms ≡ length xs = cc same in
    sym (get_or_past ms k false (omega (arith, n, beyond)))
beyond_place (ms ∷ marks) (xs ∷ lists) (suc p) k same beyond = beyond_place marks lists p k (cc same) beyond

-- nor has one of a parameter that isn't there
pub beyond_param : (marks : List (List Bool)) (lists : List (List ℕ)) (p k : ℕ) → map (λ (ms : List Bool). length ms) marks ≡ map (λ (xs : List ℕ). length xs) lists → length lists ≤ p → false ≡ get_or (list_at marks p) k false
beyond_param [] lists p k same beyond = refl
beyond_param (ms ∷ marks) [] p k same beyond = cc same
beyond_param (ms ∷ marks) (xs ∷ lists) zero k same beyond = absurd (omega (arith, beyond))
beyond_param (ms ∷ marks) (xs ∷ lists) (suc p) k same beyond = beyond_param marks lists p k (cc same) (omega (arith, beyond))

-- ---- places, one by one

pub places_long : (ms : List Bool) (at : List Argument) → length (recalled_places ms at) ≡ length at
places_long [] at = refl
places_long (m ∷ ms) [] = refl
places_long (m ∷ ms) (a ∷ at) = ap suc (places_long ms at)

place_marked : (ms : List Bool) (at : List Argument) (k : ℕ) → k < length at → get_or ms k false ≡ true → set (recalled_places (take k ms) at) k Unborn ≡ recalled_places (take (suc k) ms) at
place_marked [] at k within is = cc is
place_marked (m ∷ ms) [] k within is = absurd (omega (arith, within))
place_marked (m ∷ ms) (a ∷ at) zero within is = ap (λ (b : Bool). cond b Unborn a ∷ at) (sym is)
place_marked (m ∷ ms) (a ∷ at) (suc k) within is = ap (λ (xs : List Argument). cond m Unborn a ∷ xs) (place_marked ms at k (omega (arith, within)) is)

place_bare : (ms : List Bool) (at : List Argument) (k : ℕ) → get_or ms k false ≡ false → recalled_places (take k ms) at ≡ recalled_places (take (suc k) ms) at
place_bare [] at zero is = refl
place_bare [] at (suc k) is = refl
place_bare (m ∷ ms) [] zero is = refl
place_bare (m ∷ ms) [] (suc k) is = refl
place_bare (m ∷ ms) (a ∷ at) zero is = ap (λ (b : Bool). cond b Unborn a ∷ at) (sym is)
place_bare (m ∷ ms) (a ∷ at) (suc k) is = ap (λ (xs : List Argument). cond m Unborn a ∷ xs) (place_bare ms at k is)

-- a marked place more
pub marked_more : (ms : List Bool) (at now : List Argument) (k : ℕ) → k < length at → get_or ms k false ≡ true → now ≡ recalled_places (take k ms) at → set now k Unborn ≡ recalled_places (take (k + 1) ms) at
marked_more ms at now k within is so_far = ap (λ (xs : List Argument). set xs k Unborn) so_far ∙ (place_marked ms at k within is ∙ ap (λ n. recalled_places (take n ms) at) (sym (add-one k)))

-- one without a mark
pub bare_more : (ms : List Bool) (at now : List Argument) (k : ℕ) → get_or ms k false ≡ false → now ≡ recalled_places (take k ms) at → now ≡ recalled_places (take (k + 1) ms) at
bare_more ms at now k is so_far = so_far ∙ (place_bare ms at k is ∙ ap (λ n. recalled_places (take n ms) at) (sym (add-one k)))

-- no marks stand behind the last place
pub places_all : (ms : List Bool) (at : List Argument) (k : ℕ) → length at ≤ k → recalled_places (take k ms) at ≡ recalled_places ms at
places_all [] at zero beyond = refl
places_all [] at (suc k) beyond = refl
places_all (m ∷ ms) [] zero beyond = refl
places_all (m ∷ ms) [] (suc k) beyond = refl
places_all (m ∷ ms) (a ∷ at) zero beyond = absurd (omega (arith, beyond))
places_all (m ∷ ms) (a ∷ at) (suc k) beyond = ap (λ (xs : List Argument). cond m Unborn a ∷ xs) (places_all ms at k (omega (arith, beyond)))

-- ---- parameters, one by one

param_more : (marks : List (List Bool)) (args : List (List Argument)) (p : ℕ) → p < length args
    → set (recalled (take p marks) args) p (recalled_places (list_at marks p) (get_or (recalled (take p marks) args) p [])) ≡ recalled (take (suc p) marks) args
param_more [] [] p within = absurd (omega (arith, within))
param_more [] (at ∷ args) zero within = refl
param_more [] (at ∷ args) (suc p) within = ap (λ (xs : List (List Argument)). at ∷ xs) (stays args p)
  where
    stays : (args : List (List Argument)) (p : ℕ) → set args p (get_or args p []) ≡ args
    stays [] p = refl
    stays (at ∷ args) zero = refl
    stays (at ∷ args) (suc p) = ap (λ (xs : List (List Argument)). at ∷ xs) (stays args p)
param_more (ms ∷ marks) [] p within = absurd (omega (arith, within))
param_more (ms ∷ marks) (at ∷ args) zero within = refl
param_more (ms ∷ marks) (at ∷ args) (suc p) within = ap (λ (xs : List (List Argument)). recalled_places ms at ∷ xs) (param_more marks args p (omega (arith, within)))

-- a parameter more
pub params_more : (marks : List (List Bool)) (args now : List (List Argument)) (p : ℕ) → p < length args → now ≡ recalled (take p marks) args
    → set now p (recalled_places (list_at marks p) (get_or now p [])) ≡ recalled (take (p + 1) marks) args
params_more marks args now p within so_far =
    ap (λ (xs : List (List Argument)). set xs p (recalled_places (list_at marks p) (get_or xs p []))) so_far ∙ (param_more marks args p within ∙ ap (λ n. recalled (take n marks) args) (sym (add-one p)))

pub params_all : (marks : List (List Bool)) (args : List (List Argument)) (p : ℕ) → length args ≤ p → recalled (take p marks) args ≡ recalled marks args
params_all [] args zero beyond = refl
params_all [] args (suc p) beyond = refl
params_all (ms ∷ marks) [] zero beyond = refl
params_all (ms ∷ marks) [] (suc p) beyond = refl
params_all (ms ∷ marks) (at ∷ args) zero beyond = absurd (omega (arith, beyond))
params_all (ms ∷ marks) (at ∷ args) (suc p) beyond = ap (λ (xs : List (List Argument)). recalled_places ms at ∷ xs) (params_all marks args p (omega (arith, beyond)))

-- so many parameters, by the marks of as many
pub params_cut : (marks : List (List Bool)) (args : List (List Argument)) (n : ℕ) → take n (recalled (take n marks) args) ≡ recalled marks (take n args)
params_cut [] args zero = refl
params_cut [] args (suc n) = refl
params_cut (ms ∷ marks) args zero = refl
params_cut (ms ∷ marks) [] (suc n) = refl
params_cut (ms ∷ marks) (at ∷ args) (suc n) = ap (λ (xs : List (List Argument)). recalled_places ms at ∷ xs) (params_cut marks args n)

pub params_long : (marks : List (List Bool)) (args : List (List Argument)) → length (recalled marks args) ≡ length args
params_long [] args = refl
params_long (ms ∷ marks) [] = refl
params_long (ms ∷ marks) (at ∷ args) = ap suc (params_long marks args)

set_long : {X : Type 0} (xs : List X) (p : ℕ) (x : X) → length (set xs p x) ≡ length xs
set_long [] p x = refl
set_long (y ∷ xs) zero x = refl
set_long (y ∷ xs) (suc p) x = ap suc (set_long xs p x)

map_set : {X Y : Type 0} (f : X → Y) (xs : List X) (p : ℕ) (x : X) → map f (set xs p x) ≡ set (map f xs) p (f x)
map_set f [] p x = refl
map_set f (y ∷ xs) zero x = refl
map_set f (y ∷ xs) (suc p) x = ap (λ ys. f y ∷ ys) (map_set f xs p x)

map_at : {X : Type 0} (f : X → List Argument) (xs : List X) (p : ℕ) (x : X) → p < length xs → x ≡ get_or xs p x → f x ≡ get_or (map f xs) p []
map_at f [] p x within is = absurd (omega (arith, within))
map_at f (y ∷ xs) zero x within is = ap f is
map_at f (y ∷ xs) (suc p) x within is = map_at f xs p x (omega (arith, within)) is

-- the same of what holds the arguments of a parameter: how many there are, and what they are
pub recalled_more : {X : Type 0} (f : X → List Argument) (marks : List (List Bool)) (first now : List X) (p : ℕ) (old new : X) → p < length first → length now ≡ length first → map f now ≡ recalled (take p marks) (map f first) → old ≡ get_or now p old
    → f new ≡ recalled_places (list_at marks p) (f old) → (length (set now p new) ≡ length first) × (map f (set now p new) ≡ recalled (take (p + 1) marks) (map f first))
recalled_more f marks first now p old new within long so_far at is = (
  set_long now p new ∙ long,
  map_set f now p new
      ∙ (ap (set (map f now) p) (is ∙ ap (recalled_places (list_at marks p)) (map_at f now p old (omega (arith, within, long)) at))
      ∙ params_more marks (map f first) (map f now) p (omega (arith, within, length-map first f)) so_far),
)

-- ---- recalled by their marks

one_marked : (names : List Named) (n : Option Name) (a : Argument) → IsRecalled names n a → cond (is_unborn a) Unborn (argument_in names n) ≡ a
one_marked names n Null is = ap (argument_in names) is
one_marked names n Unborn is = refl
one_marked names None (The o) is = absurd is
one_marked names (Some n) (The o) is = ap (λ found. option_map_or The found Unborn) is

places_marked : (names : List Named) (written : List (Option Name)) (at : List Argument) → AreRecalled names written at → recalled_places (map is_unborn at) (map (argument_in names) written) ≡ at
places_marked names [] [] is = refl
places_marked names [] (a ∷ at) is = absurd is
places_marked names (n ∷ written) [] is = absurd is
places_marked names (n ∷ written) (a ∷ at) is = λ i. one_marked names n a is.0 i ∷ places_marked names written at is.1 i

-- the arguments of an open call are what their names stand for, but for those that its marks say weren't born
pub marked_all : (names : List Named) (written : List Arg) (args : List (List Argument)) → AllRecalled names written args → recalled (map (map is_unborn) args) (arguments_in names written) ≡ args
marked_all names [] [] is = refl
marked_all names [] (at ∷ args) is = absurd is
marked_all names (w ∷ written) [] is = absurd is
marked_all names (w ∷ written) (at ∷ args) is = λ i. places_marked names w.names at is.0 i ∷ marked_all names written args is.1 i
