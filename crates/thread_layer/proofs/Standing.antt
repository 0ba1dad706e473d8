-- A threads part stands for its history.
use Rattle.std.proofs.Common.{◌≡◌, ℕ, false, List, ◌∷◌, ◌++◌, sym, ap, ◌∙◌, subst}
use Rattle.command_tables.specs.declared.call.LayerCall.{LayerCall}
use Rattle.object_model.specs.declared.Object.{Object}
use Rattle.object_model.specs.Findings.{Report, at_place}
use Rattle.object_model.specs.History.{Begins, Returns, History}
use Rattle.object_model.specs.Uses.{overlaps}
use Rattle.layer_model.specs.Histories.{UseMirrors}
use Rattle.layer_model.specs.Parts.{UseModel, use_enter, use_failures, use_leave}
use Rattle.layer_model.proofs.Steps.{use_enters, use_finds, use_leaves}
use Rattle.object_records.specs.Shape.{arguments_of}
use Rattle.lifetime_layer.specs.Shape.{call_read}

-- what it finds is what the history says
pub found : (place thread number : ℕ) (c : LayerCall) (m : UseModel) (before reports : List Report) → reports ≡ before ++ at_place place (use_failures m thread c.cmd (arguments_of c))
    → (h : History) → UseMirrors h m → reports ≡ before ++ at_place place (overlaps h (call_read number thread c))
found place thread number c m before reports e h s = e ∙ ap (λ fs. before ++ at_place place fs) (use_finds h m (call_read number thread c) s)

-- it stands for the history with a call
pub entered : (thread number : ℕ) (c : LayerCall) (m n : UseModel) → n ≡ use_enter m thread number c.cmd (arguments_of c) → (h : History) → UseMirrors h m → UseMirrors (Begins (call_read number thread c) false ∷ h) n
entered thread number c m n e h s = subst (UseMirrors (Begins (call_read number thread c) false ∷ h)) (sym e) (use_enters h m (call_read number thread c) s)

-- and with results
pub left : (thread : ℕ) (c : LayerCall) (made : List Object) (m n : UseModel) → n ≡ use_leave m thread c.cmd (arguments_of c) made → (h : History) (number : ℕ) → UseMirrors h m → UseMirrors (Returns (call_read number thread c) made ∷ h) n
left thread c made m n e h number s = subst (UseMirrors (Returns (call_read number thread c) made ∷ h)) (sym e) (use_leaves h m (call_read number thread c) made s)
