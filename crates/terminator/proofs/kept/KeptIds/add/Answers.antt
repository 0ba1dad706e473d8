use Rattle.std.proofs.Common.{◌≡◌, ◌+◌, ◌++◌, ◌∷◌, [], List, length, ap, refl, subst, sym, ◌∙◌, arith}
use Rattle.terminator.specs.Chains.{AreChained}
use Rattle.terminator.specs.declared.entry.KeptEntry.{KeptEntry}
use Rattle.terminator.proofs.Chains.{added, kept_as}
use Rattle.terminator.proofs.kept.KeptIds.add.Goals as goal

pub invariant_of-self-2 : goal.invariant_of-self-2
invariant_of-self-2 c =
    let e : KeptEntry = record { owner = c.args.key.owner; ty = c.args.key.ty; place = c.args.key.place; start = c.len-2.result; len = length c.args.key.payload.now; id = c.args.id; next = c.in_ok-next.next } in
    let entries_are : c.push.new.self.items ≡ c.self.inside.entries.items ++ e ∷ [] = (rw c.unwrap-2.ensures at c.push.ensures.items) ∙ ap (λ xs. xs ++ e ∷ []) c.in_ok-reserve.ensures.items in
    let bytes_are : c.extend_from_slice.new.self.items ≡ c.self.inside.bytes.items ++ c.args.key.payload.now = (rw c.unwrap.ensures at c.extend_from_slice.ensures.items) ∙ ap (λ xs. xs ++ c.args.key.payload.now) c.in_ok-reserve-2.ensures.items in
    let count : c.len.result + 1 ≡ length c.self.inside.entries.items + 1 = omega (arith, c.len.ensures, ap (λ (xs : List KeptEntry). length xs) c.in_ok-reserve.ensures.items) in
    subst (λ (xs : List KeptEntry). AreChained xs c.extend_from_slice.new.self.items c.put_link.new.latest.entries) (sym entries_are)
    (subst (λ bs. AreChained (c.self.inside.entries.items ++ e ∷ []) bs c.put_link.new.latest.entries) (sym bytes_are)
    (added c.self.inside.entries.items c.self.inside.bytes.items c.args.key.payload.now c.self.inside.latest.entries c.put_link.new.latest.entries e _ c.self.invariant c.in_ok-next.ensures.before count c.in_ok-next.ensures.ok (omega (arith, c.len-2.ensures, ap length c.in_ok-reserve-2.ensures.items)) refl))

pub returns-clause-ok : goal.returns-clause-ok
returns-clause-ok c =
    let e : KeptEntry = record { owner = c.args.key.owner; ty = c.args.key.ty; place = c.args.key.place; start = c.len-2.result; len = length c.args.key.payload.now; id = c.args.id; next = c.in_ok-next.next } in
    let entries_are : c.push.new.self.items ≡ c.self.inside.entries.items ++ e ∷ [] = (rw c.unwrap-2.ensures at c.push.ensures.items) ∙ ap (λ xs. xs ++ e ∷ []) c.in_ok-reserve.ensures.items in
    let bytes_are : c.extend_from_slice.new.self.items ≡ c.self.inside.bytes.items ++ c.args.key.payload.now = (rw c.unwrap.ensures at c.extend_from_slice.ensures.items) ∙ ap (λ xs. xs ++ c.args.key.payload.now) c.in_ok-reserve-2.ensures.items in
    rw (← c.self.view_is) (kept_as c.self.inside.entries.items c.push.new.self.items c.self.inside.bytes.items c.extend_from_slice.new.self.items e c.args.key c.args.id c.self.invariant.payloads refl refl refl (omega (arith, c.len-2.ensures, ap length c.in_ok-reserve-2.ensures.items)) refl refl entries_are bytes_are)
