use Rattle.std.proofs.Common.{◌≡◌, ◌+◌, ◌++◌, ◌∷◌, [], List, length, ap, refl, subst, sym, ◌∙◌, arith}
use Rattle.session_tables.specs.Retrieved.{AreChained}
use Rattle.session_tables.specs.declared.retrieved_table.RetrievedEntry.{RetrievedEntry}
use Rattle.session_tables.proofs.RetrievedLemmas.{added, kept_as}
use Rattle.session_tables.proofs.retrieved_table.RetrievedTable.push.Goals as goal

pub invariant_of-self-2 : goal.invariant_of-self-2
invariant_of-self-2 c =
    let e : RetrievedEntry = record { owner = c.args.owner; place = c.args.place; start = c.len-2.result; len = length c.args.payload.now; object = c.args.object; before = c.in_ok-before.before } in
    let entries_are : c.push.new.self.items ≡ c.self.inside.entries.items ++ e ∷ [] = (rw c.unwrap-2.ensures at c.push.ensures.items) ∙ ap (λ xs. xs ++ e ∷ []) c.in_ok-reserve.ensures.items in
    let bytes_are : c.extend_from_slice.new.self.items ≡ c.self.inside.bytes.items ++ c.args.payload.now = (rw c.unwrap.ensures at c.extend_from_slice.ensures.items) ∙ ap (λ xs. xs ++ c.args.payload.now) c.in_ok-reserve-2.ensures.items in
    let count : c.len.result + 1 ≡ length c.self.inside.entries.items + 1 = omega (arith, c.len.ensures, ap (λ (xs : List RetrievedEntry). length xs) c.in_ok-reserve.ensures.items) in
    subst (λ (xs : List RetrievedEntry). AreChained xs c.extend_from_slice.new.self.items c.put_link.new.latest.entries) (sym entries_are)
    (subst (λ bs. AreChained (c.self.inside.entries.items ++ e ∷ []) bs c.put_link.new.latest.entries) (sym bytes_are)
    (added c.self.inside.entries.items c.self.inside.bytes.items c.args.payload.now c.self.inside.latest.entries c.put_link.new.latest.entries e _ c.self.invariant c.in_ok-before.ensures.before count c.in_ok-before.ensures.ok (omega (arith, c.len-2.ensures, ap length c.in_ok-reserve-2.ensures.items)) refl))

pub returns-clause-ok : goal.returns-clause-ok
returns-clause-ok c =
    let e : RetrievedEntry = record { owner = c.args.owner; place = c.args.place; start = c.len-2.result; len = length c.args.payload.now; object = c.args.object; before = c.in_ok-before.before } in
    let entries_are : c.push.new.self.items ≡ c.self.inside.entries.items ++ e ∷ [] = (rw c.unwrap-2.ensures at c.push.ensures.items) ∙ ap (λ xs. xs ++ e ∷ []) c.in_ok-reserve.ensures.items in
    let bytes_are : c.extend_from_slice.new.self.items ≡ c.self.inside.bytes.items ++ c.args.payload.now = (rw c.unwrap.ensures at c.extend_from_slice.ensures.items) ∙ ap (λ xs. xs ++ c.args.payload.now) c.in_ok-reserve-2.ensures.items in
    rw (← c.self.view_is) (kept_as c.self.inside.entries.items c.push.new.self.items c.self.inside.bytes.items c.extend_from_slice.new.self.items c.args.payload.now e c.self.invariant.payloads (omega (arith, c.len-2.ensures, ap length c.in_ok-reserve-2.ensures.items)) refl entries_are bytes_are)
