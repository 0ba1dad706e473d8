-- Reports of all arguments, and whether there are any.
use Rattle.std.proofs.Common.{◌≡◌, ◌<◌, ◌≤◌, ℕ, ◌+◌, Bool, true, false, List, [], ◌∷◌, ◌++◌, length, refl, sym, ap, ◌∙◌, arith, append_assoc, length-append}
use Rattle.command_tables.specs.declared.types.CommandId.{CommandId}
use Rattle.command_tables.specs.Table.{ParamSpec, row_of}
use Rattle.object_model.specs.declared.Argument.{Argument}
use Rattle.object_model.specs.Findings.{Report, at_place, is_failing}
use Rattle.object_model.specs.Objects.{is_in}
use Rattle.object_model.specs.Rules.{Failure, failures_at, places_from, params_from, unless}
use Rattle.layer_model.specs.Parts.{LifeModel, life_failures}
use Rattle.lifetime_layer.specs.declared.finding.Finding.{Finding}
use Rattle.lifetime_layer.specs.Reports.{reports_at, reports_of}

-- three rules, one after the other
pub three_more : (place : ℕ) (a b c : Bool) (f g h : Failure) (zero_of one_of two_of three_of : List Report)
    → one_of ≡ zero_of ++ unless a (record { place = place; failure = f }) → two_of ≡ one_of ++ unless b (record { place = place; failure = g })
    → three_of ≡ two_of ++ unless c (record { place = place; failure = h }) → three_of ≡ zero_of ++ at_place place (unless a f ++ unless b g ++ unless c h)
three_more place a b c f g h zero_of one_of two_of three_of e1 e2 e3 =
    e3 ∙ (ap (λ xs. xs ++ unless c (record { place = place; failure = h })) (e2 ∙ ap (λ xs. xs ++ unless b (record { place = place; failure = g })) e1)
    ∙ (ap (λ xs. xs ++ unless c (record { place = place; failure = h })) (append_assoc zero_of (unless a (record { place = place; failure = f })) (unless b (record { place = place; failure = g })))
    ∙ (append_assoc zero_of (unless a (record { place = place; failure = f }) ++ unless b (record { place = place; failure = g })) (unless c (record { place = place; failure = h }))
    ∙ ap (λ xs. zero_of ++ xs) (shown a b c))))
  where
    shown : (u v w : Bool) → unless u (record { place = place; failure = f }) ++ unless v (record { place = place; failure = g }) ++ unless w (record { place = place; failure = h }) ≡ at_place place (unless u f ++ unless v g ++ unless w h)
    shown true true true = refl
    shown true true false = refl
    shown true false true = refl
    shown true false false = refl
    shown false true true = refl
    shown false true false = refl
    shown false false true = refl
    shown false false false = refl

-- the reports of two lists of failures
at_both : (place : ℕ) (fs gs : List Failure) → at_place place fs ++ at_place place gs ≡ at_place place (fs ++ gs)
at_both place [] gs = refl
at_both place (f ∷ fs) gs = ap (λ rs. record { place = place; failure = f } ∷ rs) (at_both place fs gs)

-- the reports of the places of a parameter
places_at : (place : ℕ) (f : ℕ → Argument → List Failure) (k : ℕ) (args : List Argument) → places_from (λ n a. at_place place (f n a)) k args ≡ at_place place (places_from f k args)
places_at place f k [] = refl
places_at place f k (a ∷ args) = ap (λ rs. at_place place (f k a) ++ rs) (places_at place f (k + 1) args) ∙ at_both place (f k a) (places_from f (k + 1) args)

-- the reports of all parameters
pub all_at : (place : ℕ) (f : ℕ → ParamSpec → ℕ → Argument → List Failure) (i : ℕ) (ps : List ParamSpec) (parts : List (List Argument))
    → params_from (λ j p k a. at_place place (f j p k a)) i ps parts ≡ at_place place (params_from f i ps parts)
all_at place f i [] parts = refl
all_at place f i (p ∷ ps) [] = refl
all_at place f i (p ∷ ps) (args ∷ parts) =
    ap (λ rs. places_from (λ k a. at_place place (f i p k a)) 0 args ++ rs) (all_at place f (i + 1) ps parts)
    ∙ (ap (λ rs. rs ++ at_place place (params_from f (i + 1) ps parts)) (places_at place (f i p) 0 args) ∙ at_both place (places_from (f i p) 0 args) (params_from f (i + 1) ps parts))

-- as many reports as findings
count_reports : (fs : List Finding) → length (reports_of fs) ≡ length fs
count_reports [] = refl
count_reports (f ∷ fs) = let ih = count_reports fs in omega (arith, ih)

-- as many findings more as reports
pub counted : (before after : List Finding) (rs : List Report) → reports_of after ≡ reports_of before ++ rs → length after ≡ length before + length rs
counted before after rs is = sym (count_reports after) ∙ (ap (λ (xs : List Report). length xs) is ∙ (length-append (reports_of before) rs ∙ ap (λ n. n + length rs) (count_reports before)))

-- as many reports more as failures
grown : (place : ℕ) (before after : List Finding) (fs : List Failure) → reports_of after ≡ reports_of before ++ at_place place fs → length after ≡ length before + length (at_place place fs)
grown place before after fs is = sym (count_reports after) ∙ (ap (λ (rs : List Report). length rs) is ∙ (length-append (reports_of before) (at_place place fs) ∙ ap (λ n. n + length (at_place place fs)) (count_reports before)))

-- with more findings than before, something fails
pub is_more : (place : ℕ) (before after : List Finding) (fs : List Failure) → reports_of after ≡ reports_of before ++ at_place place fs → length before < length after → is_failing fs ≡ true
is_more place before after [] is less = let g = grown place before after [] is in absurd (omega (arith, g, less))
is_more place before after (f ∷ fs) is less = refl

-- with no more than before, nothing does
pub is_none : (place : ℕ) (before after : List Finding) (fs : List Failure) → reports_of after ≡ reports_of before ++ at_place place fs → length after ≤ length before → is_failing fs ≡ false
is_none place before after [] is low = refl
is_none place before after (f ∷ fs) is low = let g = grown place before after (f ∷ fs) is in absurd (omega (arith, g, low))

-- the reports of a call
pub found_all : (place : ℕ) (m : LifeModel) (c : CommandId) (args : List (List Argument)) (before after : List Report)
    → after ≡ before ++ params_from (reports_at place m c args) 0 (row_of c).params args → after ≡ before ++ at_place place (life_failures m c args)
found_all place m c args before after is = is ∙ ap (λ rs. before ++ rs) (all_at place (failures_at m.births (is_in m.living) c args) 0 (row_of c).params args)

-- where nothing is reported of a call, nothing is reported at its parameters
pub quiet_all : (place : ℕ) (m : LifeModel) (c : CommandId) (args : List (List Argument)) → at_place place (life_failures m c args) ≡ [] → params_from (reports_at place m c args) 0 (row_of c).params args ≡ []
quiet_all place m c args is = all_at place (failures_at m.births (is_in m.living) c args) 0 (row_of c).params args ∙ is

-- where nothing fails, nothing is reported
pub quiet_where : (place : ℕ) (fs : List Failure) → is_failing fs ≡ false → at_place place fs ≡ []
quiet_where place [] is = refl
quiet_where place (f ∷ fs) is = cc is
