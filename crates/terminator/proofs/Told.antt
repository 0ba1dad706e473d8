-- Calls that are told one by one.
use Rattle.std.proofs.Common.{◌≡◌, ◌<◌, ◌≤◌, ℕ, ◌+◌, List, [], ◌∷◌, ◌++◌, map, length, take, set, get_or, ap, sym, ◌∙◌, arith, add-one}
use Rattle.std.proofs.Math.Seq.{take-suc-set}
use Rattle.std.proofs.lemmas.List.{map-append, take_all, take_more}
use Rattle.std.specs.Prelude.{slice_get, unwrap_or}
use Rattle.command_tables.specs.Calls.{CallContent, DriverCallContent}
use Rattle.layer_model.specs.Ids.{IdMap}
use Rattle.layer_model.specs.Terminator.{told_call}
use Rattle.model_driver.specs.declared.driver.DriverCall.{DriverCall}
use Rattle.model_driver.specs.Driver.{call_shown}
use Rattle.object_model.specs.Values.{Value}

-- the call of one driver
pub told_one : (m : IdMap (List Value)) (c : CallContent) (ds named : List ℕ) (driver : ℕ) (told : DriverCallContent) → length ds ≡ 1 → named ≡ ds → driver ≡ unwrap_or (slice_get named 0) 0 → told ≡ told_call m c driver → map (told_call m c) ds ≡ told ∷ []
told_one m c [] named driver told one same first is = absurd (omega (arith, one))
told_one m c (d ∷ []) named driver told one same first is = ap (λ n. told_call m c n ∷ []) (sym (first ∙ ap (λ ns. unwrap_or (slice_get ns 0) 0) same)) ∙ ap (λ x. x ∷ []) (sym is)
told_one m c (d ∷ e ∷ ds) named driver told one same first is = absurd (omega (arith, one))

-- one call more
pub told_more : (m : IdMap (List Value)) (c : CallContent) (ds : List ℕ) (out : List DriverCall) (k : ℕ) (told : DriverCall) → k < length out → length out ≡ length ds → map call_shown (take k out) ≡ map (told_call m c) (take k ds) → call_shown told ≡ told_call m c (get_or ds k 0)
    → map call_shown (take (k + 1) (set out k told)) ≡ map (told_call m c) (take (k + 1) ds)
told_more m c ds out k told less same so_far is =
    ap (λ (n : ℕ). map call_shown (take n (set out k told))) (add-one k)
    ∙ (ap (map call_shown) (take-suc-set out k told less)
    ∙ (map-append call_shown (take k out) (told ∷ [])
    ∙ (ap (λ (xs : List DriverCallContent). xs ++ call_shown told ∷ []) so_far
    ∙ (ap (λ (x : DriverCallContent). map (told_call m c) (take k ds) ++ x ∷ []) is
    ∙ (sym (map-append (told_call m c) (take k ds) (get_or ds k 0 ∷ [])) ∙ ap (map (told_call m c)) (sym (take_more ds k 0 (omega (arith, less, same)))))))))

-- all of them
pub told_all : (m : IdMap (List Value)) (c : CallContent) (ds : List ℕ) (out : List DriverCall) (k : ℕ) → length out ≤ k → length out ≡ length ds → map call_shown (take k out) ≡ map (told_call m c) (take k ds) → map call_shown out ≡ map (told_call m c) ds
told_all m c ds out k low same is = ap (map call_shown) (sym (take_all k out low)) ∙ (is ∙ ap (map (told_call m c)) (take_all k ds (omega (arith, low, same))))
