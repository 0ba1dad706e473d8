use Rattle.std.proofs.Common.{◌∙◌, ap, sym, [], ◌∷◌}
use Rattle.trace_format.specs.declared.fault.TraceFault.TheVariants as fault
use Rattle.trace_format.specs.Accepting.{first_fault}
use Rattle.trace_format.proofs.StateLemmas.{end_fault}
use Rattle.trace_format.proofs.state.TraceState.finish.Goals as goal

pub returns-then-has_open : goal.returns-then-has_open
returns-then-has_open c = λ before stands.
    end_fault c.args.self.now before stands ∙ ap (λ x. first_fault ((x, fault.OpenAtEnd) ∷ [])) (sym c.has_open.ensures ∙ c.if-has_open.true)

pub returns-else-has_open : goal.returns-else-has_open
returns-else-has_open c = λ before stands.
    end_fault c.args.self.now before stands ∙ ap (λ x. first_fault ((x, fault.OpenAtEnd) ∷ [])) (sym c.has_open.ensures ∙ c.if-has_open.false)
