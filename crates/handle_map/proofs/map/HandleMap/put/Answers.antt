use Rattle.std.proofs.Common.{◌<◌, ◌++◌, length, ap, sym, subst, arith, ◌∙◌}
use Rattle.handle_map.specs.declared.span.Span.{Span}
use Rattle.handle_map.specs.Pairs.{MapState}
use Rattle.std.proofs.Math.ListN.{set}
use Rattle.handle_map.specs.Spans.{IsSpread, IsWithin, entries_of}
use Rattle.handle_map.proofs.Flat.{length-written}
use Rattle.handle_map.proofs.Spreading.{end_entries, end_spread, room_entries, room_spread, shown_length}
use Rattle.handle_map.proofs.map.HandleMap.put.Goals as goal

pub index-span-requires : goal.index-span-requires
index-span-requires g c = omega (arith, subst (λ (m : MapState). c.args.place < length m.entries) (sym c.self.view_is) c.requires, shown_length c.self.inside.values.items c.self.inside.set.pairs c.self.inside.spans.items c.self.invariant.all, c.self.invariant.all)

pub index_mut-requires : goal.index_mut-requires
index_mut-requires g c = omega (arith, subst (λ (m : MapState). c.args.place < length m.entries) (sym c.self.view_is) c.requires, shown_length c.self.inside.values.items c.self.inside.set.pairs c.self.inside.spans.items c.self.invariant.all, c.self.invariant.all)

pub index_mut-requires-2 : goal.index_mut-requires-2
index_mut-requires-2 g c = omega (arith, subst (λ (m : MapState). c.args.place < length m.entries) (sym c.self.view_is) c.requires, shown_length c.self.inside.values.items c.self.inside.set.pairs c.self.inside.spans.items c.self.invariant.all, c.self.invariant.all)

pub write-requires : goal.write-requires
write-requires g c =
    let within : c.args.place < length c.self.inside.spans.items = omega (arith, subst (λ (m : MapState). c.args.place < length m.entries) (sym c.self.view_is) c.requires, shown_length c.self.inside.values.items c.self.inside.set.pairs c.self.inside.spans.items c.self.invariant.all, c.self.invariant.all) in
    let w = subst (λ (s : Span). IsWithin c.self.inside.values.items s) (sym c.index-span.ensures) (c.self.invariant.within c.args.place c.index-span.result.now within) in
    omega (arith, w.inside, c.if-values-span.true)

pub invariant_of-self : goal.invariant_of-self
invariant_of-self g c =
    let within : c.args.place < length c.self.inside.spans.items = omega (arith, subst (λ (m : MapState). c.args.place < length m.entries) (sym c.self.view_is) c.requires, shown_length c.self.inside.values.items c.self.inside.set.pairs c.self.inside.spans.items c.self.invariant.all, c.self.invariant.all) in
    subst (λ (s : Span). IsSpread (length c.self.inside.set.pairs) (set c.self.inside.spans.items c.args.place s) c.write.new.flat.items) (sym c.with_len.ensures)
    (room_spread (length c.self.inside.set.pairs) c.self.inside.spans.items c.self.inside.values.items c.write.new.flat.items c.args.place c.index-span.result.now c.args.values.now c.self.invariant within c.index-span.ensures c.if-values-span.true c.write.ensures.items)

pub returns-then-values-span-clause-ok : goal.returns-then-values-span-clause-ok
returns-then-values-span-clause-ok g c =
    let within : c.args.place < length c.self.inside.spans.items = omega (arith, subst (λ (m : MapState). c.args.place < length m.entries) (sym c.self.view_is) c.requires, shown_length c.self.inside.values.items c.self.inside.set.pairs c.self.inside.spans.items c.self.invariant.all, c.self.invariant.all) in
    rw (← c.self.view_is)
    (ap (λ (s : Span). entries_of c.write.new.flat.items c.self.inside.set.pairs (set c.self.inside.spans.items c.args.place s)) c.with_len.ensures
    ∙ room_entries c.self.inside.set.pairs c.self.inside.spans.items c.self.inside.values.items c.write.new.flat.items c.args.place c.index-span.result.now c.args.values.now c.self.invariant within c.index-span.ensures c.if-values-span.true c.write.ensures.items)

pub returns-then-values-span-clause-room : goal.returns-then-values-span-clause-room
returns-then-values-span-clause-room g c =
    rw (← c.self.view_is) (omega (arith, c.write.ensures.capacity, ap length c.write.ensures.items, length-written c.self.inside.values.items c.index-span.result.now.start c.args.values.now))

pub invariant_of-self-2 : goal.invariant_of-self-2
invariant_of-self-2 g c =
    let within : c.args.place < length c.self.inside.spans.items = omega (arith, subst (λ (m : MapState). c.args.place < length m.entries) (sym c.self.view_is) c.requires, shown_length c.self.inside.values.items c.self.inside.set.pairs c.self.inside.spans.items c.self.invariant.all, c.self.invariant.all) in
    let s : Span = c.span_of.result in
    end_spread (length c.self.inside.set.pairs) c.self.inside.spans.items c.self.inside.values.items c.extend_from_slice.new.self.items c.args.place s c.args.values.now c.self.invariant within (omega (arith, c.self.invariant.short, c.in_ok-make_room.ensures.ok)) (ap (λ (u : Span). u.start) c.span_of.ensures ∙ omega (arith, c.len-start.ensures, ap length c.in_ok-make_room.ensures.items)) (ap (λ (u : Span). u.len) c.span_of.ensures) (ap (λ (u : Span). u.room) c.span_of.ensures)
    ((rw c.unwrap.ensures at c.extend_from_slice.ensures.items) ∙ ap (λ xs. xs ++ c.args.values.now) c.in_ok-make_room.ensures.items)

pub returns-clause-ok : goal.returns-clause-ok
returns-clause-ok g c =
    let within : c.args.place < length c.self.inside.spans.items = omega (arith, subst (λ (m : MapState). c.args.place < length m.entries) (sym c.self.view_is) c.requires, shown_length c.self.inside.values.items c.self.inside.set.pairs c.self.inside.spans.items c.self.invariant.all, c.self.invariant.all) in
    let s : Span = c.span_of.result in
    rw (← c.self.view_is)
    (end_entries c.self.inside.set.pairs c.self.inside.spans.items c.self.inside.values.items c.extend_from_slice.new.self.items c.args.place s c.args.values.now c.self.invariant within (omega (arith, c.self.invariant.short, c.in_ok-make_room.ensures.ok)) (ap (λ (u : Span). u.start) c.span_of.ensures ∙ omega (arith, c.len-start.ensures, ap length c.in_ok-make_room.ensures.items)) (ap (λ (u : Span). u.len) c.span_of.ensures) (ap (λ (u : Span). u.room) c.span_of.ensures)
    ((rw c.unwrap.ensures at c.extend_from_slice.ensures.items) ∙ ap (λ xs. xs ++ c.args.values.now) c.in_ok-make_room.ensures.items))
