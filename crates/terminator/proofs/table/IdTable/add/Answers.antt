use Rattle.std.proofs.Common.{◌≡◌, ◌+◌, ◌++◌, [], ◌∷◌, length, ap, refl, arith, ◌∙◌, length-append}
use Rattle.terminator.specs.declared.entry.IdEntry.{IdEntry}
use Rattle.terminator.proofs.Placed.{added_as, next_is}
use Rattle.terminator.proofs.table.IdTable.add.Goals as goal

pub entry_at-entry-requires-clause-start : goal.entry_at-entry-requires-clause-start
entry_at-entry-requires-clause-start c = omega (arith, c.len.ensures, ap length c.in_ok-make_room.ensures.items, c.self.invariant.short)

pub returns-clause-id : goal.returns-clause-id
returns-clause-id c =
    let entries_are : c.push.new.self.items ≡ c.self.inside.entries.items ++ c.entry_at-entry.result ∷ [] = (rw c.unwrap-2.ensures at c.push.ensures.items) ∙ ap (λ xs. xs ++ c.entry_at-entry.result ∷ []) c.in_ok-reserve.ensures.items in
    let count : c.len-2.result ≡ length c.self.inside.entries.items + 1 = omega (arith, c.len-2.ensures, ap length entries_are, length-append c.self.inside.entries.items (c.entry_at-entry.result ∷ [])) in
    rw (← c.self.view_is) (omega (arith, count, next_is c.self.inside.entries.items c.self.inside.values.items))

pub returns-clause-entries : goal.returns-clause-entries
returns-clause-entries c =
    let e : IdEntry = record { ty = c.args.ty; driver = c.args.driver; start = c.len.result; len = length c.args.values.now } in
    let entries_are : c.push.new.self.items ≡ c.self.inside.entries.items ++ e ∷ [] = (rw c.unwrap-2.ensures at c.push.ensures.items) ∙ (ap (λ xs. xs ++ c.entry_at-entry.result ∷ []) c.in_ok-reserve.ensures.items ∙ ap (λ (x : IdEntry). c.self.inside.entries.items ++ x ∷ []) c.entry_at-entry.ensures) in
    let flat_are : c.extend_from_slice.new.self.items ≡ c.self.inside.values.items ++ c.args.values.now = (rw c.unwrap.ensures at c.extend_from_slice.ensures.items) ∙ ap (λ xs. xs ++ c.args.values.now) c.in_ok-make_room.ensures.items in
    let count : c.len-2.result ≡ length c.self.inside.entries.items + 1 = omega (arith, c.len-2.ensures, ap length entries_are, length-append c.self.inside.entries.items (e ∷ [])) in
    rw (← c.self.view_is) (added_as c.self.inside.entries.items c.push.new.self.items c.self.inside.values.items c.extend_from_slice.new.self.items c.args.values.now e c.len-2.result c.self.invariant (omega (arith, c.self.invariant.short, c.in_ok-make_room.ensures.ok)) (omega (arith, c.len.ensures, ap length c.in_ok-make_room.ensures.items)) refl count entries_are flat_are).0

pub returns-clause-routes : goal.returns-clause-routes
returns-clause-routes c =
    let e : IdEntry = record { ty = c.args.ty; driver = c.args.driver; start = c.len.result; len = length c.args.values.now } in
    let entries_are : c.push.new.self.items ≡ c.self.inside.entries.items ++ e ∷ [] = (rw c.unwrap-2.ensures at c.push.ensures.items) ∙ (ap (λ xs. xs ++ c.entry_at-entry.result ∷ []) c.in_ok-reserve.ensures.items ∙ ap (λ (x : IdEntry). c.self.inside.entries.items ++ x ∷ []) c.entry_at-entry.ensures) in
    let flat_are : c.extend_from_slice.new.self.items ≡ c.self.inside.values.items ++ c.args.values.now = (rw c.unwrap.ensures at c.extend_from_slice.ensures.items) ∙ ap (λ xs. xs ++ c.args.values.now) c.in_ok-make_room.ensures.items in
    let count : c.len-2.result ≡ length c.self.inside.entries.items + 1 = omega (arith, c.len-2.ensures, ap length entries_are, length-append c.self.inside.entries.items (e ∷ [])) in
    rw (← c.self.view_is) (added_as c.self.inside.entries.items c.push.new.self.items c.self.inside.values.items c.extend_from_slice.new.self.items c.args.values.now e c.len-2.result c.self.invariant (omega (arith, c.self.invariant.short, c.in_ok-make_room.ensures.ok)) (omega (arith, c.len.ensures, ap length c.in_ok-make_room.ensures.items)) refl count entries_are flat_are).1
