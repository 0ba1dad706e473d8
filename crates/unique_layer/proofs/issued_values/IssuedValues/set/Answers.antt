use Rattle.std.proofs.Common.{◌≡◌, true, sym, subst, arith}
use Rattle.handle_map.specs.Pairs.{has_pair}
use Rattle.unique_layer.specs.Values.{ValueState}
use Rattle.unique_layer.proofs.Numbering.{numbered_set, numbered_within}
use Rattle.unique_layer.proofs.issued_values.IssuedValues.set.Goals as goal

pub overflow_sub-id : goal.overflow_sub-id
overflow_sub-id c =
    let there = subst (λ (m : ValueState). has_pair m.entries c.args.ty c.args.id ≡ true) (sym c.self.view_is) c.requires in
    (numbered_within 1 c.self.inside.types.items c.self.inside.values.items c.args.ty c.args.id there).0

pub index_mut-requires : goal.index_mut-requires
index_mut-requires c =
    let there = subst (λ (m : ValueState). has_pair m.entries c.args.ty c.args.id ≡ true) (sym c.self.view_is) c.requires in
    let within = numbered_within 1 c.self.inside.types.items c.self.inside.values.items c.args.ty c.args.id there in
    omega (arith, within.0, within.1, c.self.inside.values.ok.0)

pub returns-clause-entries : goal.returns-clause-entries
returns-clause-entries c =
    let there = subst (λ (m : ValueState). has_pair m.entries c.args.ty c.args.id ≡ true) (sym c.self.view_is) c.requires in
    let within = numbered_within 1 c.self.inside.types.items c.self.inside.values.items c.args.ty c.args.id there in
    rw (← c.self.view_is) (numbered_set c.self.inside.types.items c.self.inside.values.items c.args.ty c.args.id _ c.args.value there (omega (arith, within.0)))
