use Rattle.std.proofs.Common.{◌∙◌, List, ap, sym}
use Rattle.std.specs.Prelude.{is_some}
use Rattle.trace_format.specs.declared.event.Name.{Name}
use Rattle.session_tables.specs.Named.{BesideState, beside_named, is_name_listed}
use Rattle.session_tables.proofs.beside_names.BesideNames.reserve.Goals as goal

pub invariant_of-self-2 : goal.invariant_of-self-2
invariant_of-self-2 c = λ q some.
    ap (λ (names : List Name). is_name_listed names q) c.in_ok-reserve.ensures.items ∙ c.self.invariant q (sym (ap is_some (c.in_ok-reserve-2.ensures.entries.2 q)) ∙ some)

pub returns-clause-named : goal.returns-clause-named
returns-clause-named c =
    (λ i. beside_named (λ (q : Name). c.in_ok-reserve-2.ensures.entries.2 q i) (c.in_ok-reserve.ensures.items i)) ∙ ap (λ (s : BesideState). s.named) c.self.view_is
