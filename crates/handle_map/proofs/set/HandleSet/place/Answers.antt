use Rattle.std.proofs.Common.{◌∙◌, sym, arith}
use Rattle.std.proofs.lemmas.List.{length-map}
use Rattle.std.proofs.lemmas.Option.{IfSome_then}
use Rattle.handle_map.specs.declared.entry.Entry.{Entry}
use Rattle.handle_map.specs.Chains.{pair_of, pairs_of}
use Rattle.handle_map.proofs.Adding.{placed}
use Rattle.handle_map.proofs.Bounding.{none_is_beyond}
use Rattle.handle_map.proofs.PairLists.{place_none}
use Rattle.handle_map.proofs.set.HandleSet.place.Goals as goal

pub returns-clause-place : goal.returns-clause-place
returns-clause-place g c =
    let d : Entry = record { id = 0; next = 0; ty = c.args.ty } in
    rw (← c.self.view_is)
    (placed c.self.inside.entries.items c.args.ty c.args.id d c.place_of.result c.self.invariant.0.distinct (rw c.deref.ensures.value at c.place_of.ensures.found) (rw c.deref.ensures.value at c.place_of.ensures.none))

pub returns-then-is_beyond-clause-place : goal.returns-then-is_beyond-clause-place
returns-then-is_beyond-clause-place g c =
    rw (← c.self.view_is)
    (sym (place_none 0 (pairs_of c.self.inside.entries.items) c.args.ty c.args.id
    (none_is_beyond c.self.inside.entries.items c.self.inside.bounds c.args.ty c.args.id c.self.invariant.0.most c.self.invariant.1 (sym c.is_beyond.ensures ∙ c.if-is_beyond.true))))

pub returns-clause-within : goal.returns-clause-within
returns-clause-within g c = rw (← c.self.view_is) (IfSome_then c.place_of.result (rw c.deref.ensures.value at c.place_of.ensures.found) (λ place at. omega (arith, at.within, length-map c.self.inside.entries.items pair_of)))
