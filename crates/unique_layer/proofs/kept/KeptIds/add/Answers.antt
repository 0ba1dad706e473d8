use Rattle.std.proofs.Common.{◌≡◌, ◌+◌, ◌++◌, ◌∷◌, [], List, length, ap, subst, sym, ◌∙◌, arith}
use Rattle.unique_layer.specs.Chains.{AreChained}
use Rattle.unique_layer.specs.declared.entry.KeptEntry.{KeptEntry}
use Rattle.unique_layer.proofs.Chains.{added}
use Rattle.unique_layer.proofs.kept.KeptIds.add.Goals as goal

pub invariant_of-self-2 : goal.invariant_of-self-2
invariant_of-self-2 c =
    let e : KeptEntry = record { key = c.args.key; id = c.args.id; next = c.in_ok-next.next } in
    let entries_are : c.push.new.self.items ≡ c.self.inside.entries.items ++ e ∷ [] = (rw c.unwrap.ensures at c.push.ensures.items) ∙ ap (λ xs. xs ++ e ∷ []) c.in_ok-reserve.ensures.items in
    let count : c.len.result + 1 ≡ length c.self.inside.entries.items + 1 = omega (arith, c.len.ensures, ap (λ (xs : List KeptEntry). length xs) c.in_ok-reserve.ensures.items) in
    subst (λ (xs : List KeptEntry). AreChained xs c.put_link.new.latest.entries) (sym entries_are) (added c.self.inside.entries.items c.self.inside.latest.entries c.put_link.new.latest.entries e _ c.self.invariant c.in_ok-next.ensures.before count c.in_ok-next.ensures.ok)
