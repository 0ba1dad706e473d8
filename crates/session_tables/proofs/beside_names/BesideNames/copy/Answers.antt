use Rattle.std.proofs.Common.{◌≡◌, ◌∙◌, List, ap, sym}
use Rattle.std.specs.Map.{lookup}
use Rattle.std.proofs.lemmas.Map.Entries.{entries_from_clone}
use Rattle.std.specs.Prelude.{is_some}
use Rattle.object_model.specs.declared.Object.{Object}
use Rattle.trace_format.specs.declared.event.Name.{Name}
use Rattle.trace_format.specs.Accepting.{same_name}
use Rattle.session_tables.specs.Named.{BesideState, beside_named, is_name_listed}
use Rattle.session_tables.proofs.beside_names.BesideNames.copy.Goals as goal

pub invariant_of-result : goal.invariant_of-result
invariant_of-result c = λ q some.
    let entries_are : c.in_ok-clone.field-0.entries ≡ c.self.inside.objects.entries = entries_from_clone _ _ (λ x y same. same) (λ v w same. same) _ _ c.in_ok-clone.ensures.cases in
    ap (λ (names : List Name). is_name_listed names q) (c.in_ok-from_slice.ensures.items ∙ c.deref.ensures.value) ∙ c.self.invariant q (sym (ap (λ (es : List (Name × Object)). is_some (lookup (same_name q) es)) entries_are) ∙ some)

pub returns : goal.returns
returns c =
    let entries_are : c.in_ok-clone.field-0.entries ≡ c.self.inside.objects.entries = entries_from_clone _ _ (λ x y same. same) (λ v w same. same) _ _ c.in_ok-clone.ensures.cases in
    (λ i. beside_named (λ (q : Name). lookup (same_name q) (entries_are i)) ((c.in_ok-from_slice.ensures.items ∙ c.deref.ensures.value) i)) ∙ ap (λ (s : BesideState). s.named) c.self.view_is
