use Rattle.std.proofs.Common.{◌<◌, ◌+◌, ◌∙◌, ap, sym, subst, arith}
use Rattle.handle_map.specs.Pairs.{MapState, greatest_id}
use Rattle.handle_map.proofs.Spreading.{shown_greatest}
use Rattle.handle_map.proofs.map.HandleMap.next_id.Goals as goal

pub next_id-requires : goal.next_id-requires
next_id-requires g c = (
  omega arith,
  subst (λ n. n < 4611686018427387904) (shown_greatest c.self.inside.values.items c.self.inside.set.pairs c.self.inside.spans.items c.self.invariant.all) (subst (λ (m : MapState). greatest_id m.entries < 4611686018427387904) (sym c.self.view_is) c.requires),
)

pub returns : goal.returns
returns g c = rw (← c.self.view_is) (c.next_id.ensures ∙ ap (λ n. n + 1) (sym (shown_greatest c.self.inside.values.items c.self.inside.set.pairs c.self.inside.spans.items c.self.invariant.all)))
