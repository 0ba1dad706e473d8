use Rattle.std.proofs.Common.{◌≡◌, ◌∙◌, ◌++◌, ◌∷◌, ◌+◌, [], List, ℕ, length, ap, arith}
use Rattle.command_tables.specs.declared.types.ObjectType.{ObjectType}
use Rattle.unique_layer.specs.Values.{numbered_from}
use Rattle.unique_layer.proofs.Numbering.{greatest_numbered, numbered_more}
use Rattle.unique_layer.proofs.issued_values.IssuedValues.push.Goals as goal

pub returns-clause-id : goal.returns-clause-id
returns-clause-id c =
    let more = rw c.unwrap-2.ensures at c.push-2.ensures.len in
    rw (← c.in_ok-reserve.ensures.entries, ← c.self.view_is)
    (omega (arith, c.len.ensures, more, c.self.inside.values.ok.0, greatest_numbered c.self.inside.types.items c.self.inside.values.items c.self.invariant))

pub returns-clause-ok : goal.returns-clause-ok
returns-clause-ok c =
    let types_are = rw c.unwrap.ensures at c.push.ensures.items in
    let values_are = rw c.unwrap-2.ensures at c.push-2.ensures.items in
    let more = rw c.unwrap-2.ensures at c.push-2.ensures.len in
    let id_is : c.len.result ≡ 1 + length c.self.inside.values.items = omega (arith, c.len.ensures, more, c.self.inside.values.ok.0) in
    rw (← c.in_ok-reserve.ensures.entries, ← c.self.view_is)
    (ap (λ (ts : List ObjectType). numbered_from 1 ts c.push-2.new.self.items) types_are
    ∙ (ap (λ (vs : List ℕ). numbered_from 1 (c.self.inside.types.items ++ c.args.ty ∷ []) vs) values_are
    ∙ numbered_more 1 c.len.result c.self.inside.types.items c.self.inside.values.items c.args.ty c.args.value c.self.invariant id_is))
