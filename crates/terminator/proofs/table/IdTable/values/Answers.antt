use Rattle.std.proofs.Common.{Option, List, [], map, take, drop, ap, sym, ◌∙◌, unwrap_or}
use Rattle.object_model.specs.Values.{Value}
use Rattle.terminator.specs.declared.entry.IdEntry.{IdEntry}
use Rattle.terminator.specs.declared.value.DriverValue.{DriverValue}
use Rattle.terminator.specs.Table.{ids_from, value_of, values_at}
use Rattle.terminator.proofs.Placed.{values_none, values_there}
use Rattle.terminator.proofs.table.IdTable.values.Goals as goal

pub returns-in-None : goal.returns-in-None
returns-in-None c =
    rw (← c.self.view_is)
    (sym (ap (λ (o : Option (List Value)). unwrap_or o []) (values_none (ids_from 1 c.self.inside.values.items c.self.inside.entries.items) c.args.ty c.args.id ((rw c.deref.ensures.value at c.in-None.ensures.none) c.self.inside.values.items))))

pub returns-in-Some : goal.returns-in-Some
returns-in-Some c =
    let e : IdEntry = c.index-entry.result.now in
    rw (← c.self.view_is)
    (ap (map value_of) (c.span.ensures ∙ (ap (λ (flat : List DriverValue). take e.len (drop e.start flat)) c.deref-in-Some.ensures.value ∙ ap (λ (x : IdEntry). values_at c.self.inside.values.items x) c.index-entry.ensures))
    ∙ sym (ap (λ (o : Option (List Value)). unwrap_or o []) (values_there c.self.inside.entries.items c.self.inside.values.items c.args.ty c.args.id c.in-Some.place e (rw c.deref.ensures.value at c.in-Some.ensures.some))))
