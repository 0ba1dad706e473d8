use Rattle.std.proofs.Common.{◌∙◌, ◌-◌, sym, arith}
use Rattle.command_tables.specs.Tests.{same_type}
use Rattle.unique_layer.proofs.Numbering.{numbered_got, numbered_none, numbered_other}
use Rattle.unique_layer.proofs.issued_values.IssuedValues.get.Goals as goal
use Rattle.unique_layer.proofs.issued_values.IssuedValues.get.Goals.{then-id-eq0-via-then-id-eq0, then-id-eq0-via-else-id-eq0+then-id-count}

pub returns-then-id-eq0 : goal.returns-then-id-eq0
returns-then-id-eq0 c =
    rw (← c.self.view_is)
    (numbered_none c.self.inside.types.items c.self.inside.values.items c.args.ty c.args.id (λ h. elim c.then-id-eq0.branch [
      | then-id-eq0-via-then-id-eq0 w ↦ omega (arith, h.0, w.if-id-eq0.true)
      | then-id-eq0-via-else-id-eq0+then-id-count w ↦ omega (arith, h.1, w.if-id-count.true, c.len-count.ensures, c.self.inside.types.ok.0, c.self.invariant)
    ]))

pub returns-then-eq : goal.returns-then-eq
unfolding same_type
returns-then-eq c =
    rw (← c.self.view_is)
    (numbered_got c.self.inside.types.items c.self.inside.values.items c.args.ty c.index.result.now c.args.id _ c.index-then-eq.result.now c.self.invariant (omega arith) (omega (arith, c.len-count.ensures, c.self.inside.types.ok.0)) c.index.ensures (sym c.eq.ensures ∙ c.if-eq.true) c.index-then-eq.ensures)

pub returns-else-eq : goal.returns-else-eq
unfolding same_type
returns-else-eq c =
    rw (← c.self.view_is)
    (numbered_other c.self.inside.types.items c.self.inside.values.items c.args.ty c.index.result.now c.args.id (c.args.id - 1) c.self.invariant (omega arith) (omega (arith, c.len-count.ensures, c.self.inside.types.ok.0)) c.index.ensures (sym c.eq.ensures ∙ c.if-eq.false))
