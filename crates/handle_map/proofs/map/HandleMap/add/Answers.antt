use Rattle.std.proofs.Common.{◌≡◌, ◌++◌, [], ◌∷◌, false, length, ap, sym, subst, arith, ◌∙◌}
use Rattle.handle_map.specs.declared.span.Span.{Span}
use Rattle.handle_map.specs.Pairs.{MapState, has_pair, pair}
use Rattle.handle_map.proofs.Spreading.{Appends, more_entries, more_spread, shown_pair}
use Rattle.handle_map.proofs.map.HandleMap.add.Goals as goal

pub add-requires : goal.add-requires
add-requires g c = (
  omega arith,
  sym (shown_pair c.self.inside.values.items c.self.inside.set.pairs c.self.inside.spans.items c.args.ty c.args.id c.self.invariant.all)
      ∙ subst (λ (m : MapState). has_pair m.entries c.args.ty c.args.id ≡ false) (sym c.self.view_is) c.requires,
)

pub span_of-span-requires-clause-start : goal.span_of-span-requires-clause-start
span_of-span-requires-clause-start g c = omega (arith, c.len.ensures, ap length c.in_ok-make_room.ensures.items, c.self.invariant.short)

pub invariant_of-self-2 : goal.invariant_of-self-2
invariant_of-self-2 g c =
    let s : Span = c.span_of-span.result in
    let is : Appends c.self.inside.set.pairs c.add.new.self.pairs c.self.inside.spans.items c.push.new.self.items c.self.inside.values.items c.extend_from_slice.new.self.items c.args.values.now (pair c.args.ty c.args.id) s
    = record {
      pairs_are = c.in_ok-add.ensures.ok;
      spans_are = (rw c.unwrap-2.ensures at c.push.ensures.items) ∙ ap (λ xs. xs ++ s ∷ []) c.in_ok-reserve.ensures.items;
      values_are = (rw c.unwrap.ensures at c.extend_from_slice.ensures.items) ∙ ap (λ xs. xs ++ c.args.values.now) c.in_ok-make_room.ensures.items;
      short = omega (arith, c.self.invariant.short, c.in_ok-make_room.ensures.ok);
      start = ap (λ (u : Span). u.start) c.span_of-span.ensures ∙ omega (arith, c.len.ensures, ap length c.in_ok-make_room.ensures.items);
      len = ap (λ (u : Span). u.len) c.span_of-span.ensures;
      room = ap (λ (u : Span). u.room) c.span_of-span.ensures;
    } in
    more_spread c.self.inside.set.pairs c.add.new.self.pairs c.self.inside.spans.items c.push.new.self.items c.self.inside.values.items c.extend_from_slice.new.self.items c.args.values.now (pair c.args.ty c.args.id) s c.self.invariant is

pub returns-clause-ok : goal.returns-clause-ok
returns-clause-ok g c =
    let s : Span = c.span_of-span.result in
    let is : Appends c.self.inside.set.pairs c.add.new.self.pairs c.self.inside.spans.items c.push.new.self.items c.self.inside.values.items c.extend_from_slice.new.self.items c.args.values.now (pair c.args.ty c.args.id) s
    = record {
      pairs_are = c.in_ok-add.ensures.ok;
      spans_are = (rw c.unwrap-2.ensures at c.push.ensures.items) ∙ ap (λ xs. xs ++ s ∷ []) c.in_ok-reserve.ensures.items;
      values_are = (rw c.unwrap.ensures at c.extend_from_slice.ensures.items) ∙ ap (λ xs. xs ++ c.args.values.now) c.in_ok-make_room.ensures.items;
      short = omega (arith, c.self.invariant.short, c.in_ok-make_room.ensures.ok);
      start = ap (λ (u : Span). u.start) c.span_of-span.ensures ∙ omega (arith, c.len.ensures, ap length c.in_ok-make_room.ensures.items);
      len = ap (λ (u : Span). u.len) c.span_of-span.ensures;
      room = ap (λ (u : Span). u.room) c.span_of-span.ensures;
    } in
    rw (← c.self.view_is) (more_entries c.self.inside.set.pairs c.add.new.self.pairs c.self.inside.spans.items c.push.new.self.items c.self.inside.values.items c.extend_from_slice.new.self.items c.args.values.now (pair c.args.ty c.args.id) s c.self.invariant is)
