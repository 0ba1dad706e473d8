-- A part's call and its results, as steps of the history for which it stands.
use Rattle.std.proofs.Common.{◌≡◌, ℕ, Bool, true, false, List, ◌∷◌, ◌++◌, sym, ap, ◌∙◌, subst}
use Rattle.std.specs.Prelude.{if◌then◌else◌}
use Rattle.object_model.specs.declared.Object.{Object}
use Rattle.object_model.specs.Findings.{Report, at_place}
use Rattle.object_model.specs.History.{Begins, Call, History, Returns}
use Rattle.object_model.specs.Rules.{failures}
use Rattle.layer_model.specs.Histories.{LifeMirrors}
use Rattle.layer_model.specs.Parts.{LifeModel, life_failures, life_leave, life_passed}
use Rattle.layer_model.proofs.Steps.{life_enters, life_finds, life_leaves, life_skips}

-- what is found is what fails after the history
pub finds_too : (h : History) (m : LifeModel) (c : Call) (place : ℕ) (before after : List Report) → LifeMirrors h m → after ≡ before ++ at_place place (life_failures m c.cmd c.args) → after ≡ before ++ at_place place (failures h c)
finds_too h m c place before after s is = is ∙ ap (λ fs. before ++ at_place place fs) (life_finds h m c s)

-- a call that goes down or is skipped
pub enters_too : (h : History) (m after : LifeModel) (c : Call) (skip : Bool) → LifeMirrors h m → after ≡ (if skip then m else life_passed m c.cmd c.args) → LifeMirrors (Begins c skip ∷ h) after
enters_too h m after c true s is = subst (LifeMirrors (Begins c true ∷ h)) (sym is) (life_skips h m c s)
enters_too h m after c false s is = subst (LifeMirrors (Begins c false ∷ h)) (sym is) (life_enters h m c s)

-- results
pub leaves_too : (h : History) (m kept after : LifeModel) (c : Call) (made : List Object) → LifeMirrors h m → m ≡ kept → after ≡ life_leave kept c.cmd c.args made → LifeMirrors (Returns c made ∷ h) after
leaves_too h m kept after c made s same is = subst (LifeMirrors (Returns c made ∷ h)) (ap (λ k. life_leave k c.cmd c.args made) same ∙ sym is) (life_leaves h m c made s)
