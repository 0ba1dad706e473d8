use Rattle.std.proofs.Common.{◌≡◌, ◌+◌, ◌++◌, ◌<◌, ◌≤◌, ◌-◌, true, ℕ, length, ap, sym, subst, arith, ◌∙◌}
use Rattle.std.proofs.Math.ListN.{set}
use Rattle.handle_map.specs.Pairs.{has_pair}
use Rattle.terminator.specs.declared.entry.IdEntry.{IdEntry}
use Rattle.terminator.specs.Table.{IsPlace, IsTable, TableState, ids_from, routes_from}
use Rattle.terminator.proofs.Flat.{length-written}
use Rattle.terminator.proofs.Placed.{known_route, place_is, put_behind, put_here}
use Rattle.terminator.proofs.table.IdTable.put.Goals as goal

pub overflow_sub-place : goal.overflow_sub-place
overflow_sub-place c =
    let place : IsPlace c.self.inside.entries.items c.args.ty c.args.id (c.args.id - 1) = place_is c.self.inside.entries.items c.self.inside.values.items c.args.ty c.args.id (subst (λ (s : TableState). has_pair s.entries c.args.ty c.args.id ≡ true) (sym c.self.view_is) c.requires) in
    omega (arith, place.number)

pub index-entry-requires : goal.index-entry-requires
index-entry-requires c = let within : c.args.id - 1 < length c.self.inside.entries.items = (place_is c.self.inside.entries.items c.self.inside.values.items c.args.ty c.args.id (subst (λ (s : TableState). has_pair s.entries c.args.ty c.args.id ≡ true) (sym c.self.view_is) c.requires)).within in omega (arith, within, c.self.inside.entries.ok)

pub write-requires : goal.write-requires
write-requires c =
    let place : IsPlace c.self.inside.entries.items c.args.ty c.args.id (c.args.id - 1) = place_is c.self.inside.entries.items c.self.inside.values.items c.args.ty c.args.id (subst (λ (s : TableState). has_pair s.entries c.args.ty c.args.id ≡ true) (sym c.self.view_is) c.requires) in
    let inside : c.index-entry.result.now.start + c.index-entry.result.now.len ≤ length c.self.inside.values.items = subst (λ (e : IdEntry). e.start + e.len ≤ length c.self.inside.values.items) (sym c.index-entry.ensures) (c.self.invariant.inside (c.args.id - 1) c.index-entry.result.now place.within) in
    omega (arith, inside, c.if-len-entry.true)

pub index_mut-requires : goal.index_mut-requires
index_mut-requires c = let within : c.args.id - 1 < length c.self.inside.entries.items = (place_is c.self.inside.entries.items c.self.inside.values.items c.args.ty c.args.id (subst (λ (s : TableState). has_pair s.entries c.args.ty c.args.id ≡ true) (sym c.self.view_is) c.requires)).within in omega (arith, within, c.self.inside.entries.ok)

pub index_mut-requires-else-len-entry : goal.index_mut-requires-else-len-entry
index_mut-requires-else-len-entry c = let within : c.args.id - 1 < length c.self.inside.entries.items = (place_is c.self.inside.entries.items c.self.inside.values.items c.args.ty c.args.id (subst (λ (s : TableState). has_pair s.entries c.args.ty c.args.id ≡ true) (sym c.self.view_is) c.requires)).within in omega (arith, within, c.self.inside.entries.ok)

pub invariant_of-self : goal.invariant_of-self
invariant_of-self c =
    subst (λ (x : IdEntry). IsTable (set c.self.inside.entries.items (c.args.id - 1) x) c.write.new.flat.items) (sym c.with_len.ensures)
    (put_here c.self.inside.entries.items c.self.inside.values.items c.write.new.flat.items c.args.values.now c.index-entry.result.now c.args.id c.args.ty (subst (λ (s : TableState). has_pair s.entries c.args.ty c.args.id ≡ true) (sym c.self.view_is) c.requires) c.self.invariant c.index-entry.ensures c.if-len-entry.true c.write.ensures.items).table

pub returns-then-len-entry-clause-entries : goal.returns-then-len-entry-clause-entries
returns-then-len-entry-clause-entries c =
    rw (← c.self.view_is)
    (ap (λ (x : IdEntry). ids_from 1 c.write.new.flat.items (set c.self.inside.entries.items (c.args.id - 1) x)) c.with_len.ensures
    ∙ (put_here c.self.inside.entries.items c.self.inside.values.items c.write.new.flat.items c.args.values.now c.index-entry.result.now c.args.id c.args.ty (subst (λ (s : TableState). has_pair s.entries c.args.ty c.args.id ≡ true) (sym c.self.view_is) c.requires) c.self.invariant c.index-entry.ensures c.if-len-entry.true c.write.ensures.items).entries)

pub returns-then-len-entry-clause-room : goal.returns-then-len-entry-clause-room
returns-then-len-entry-clause-room c =
    omega (arith, ap length c.write.ensures.items, length-written c.self.inside.values.items c.index-entry.result.now.start c.args.values.now, c.write.ensures.capacity, ap (λ (s : TableState). s.room) c.self.view_is)

pub returns-then-len-entry-clause-routes : goal.returns-then-len-entry-clause-routes
returns-then-len-entry-clause-routes c =
    rw (← c.self.view_is)
    (ap (λ (x : IdEntry). routes_from 1 (set c.self.inside.entries.items (c.args.id - 1) x)) c.with_len.ensures
    ∙ (put_here c.self.inside.entries.items c.self.inside.values.items c.write.new.flat.items c.args.values.now c.index-entry.result.now c.args.id c.args.ty (subst (λ (s : TableState). has_pair s.entries c.args.ty c.args.id ≡ true) (sym c.self.view_is) c.requires) c.self.invariant c.index-entry.ensures c.if-len-entry.true c.write.ensures.items).routes)

pub returns-then-len-entry-clause-positive : goal.returns-then-len-entry-clause-positive
returns-then-len-entry-clause-positive c =
    let place : IsPlace c.self.inside.entries.items c.args.ty c.args.id (c.args.id - 1) = place_is c.self.inside.entries.items c.self.inside.values.items c.args.ty c.args.id (subst (λ (s : TableState). has_pair s.entries c.args.ty c.args.id ≡ true) (sym c.self.view_is) c.requires) in
    omega (arith, place.number)

pub returns-then-len-entry-clause-known : goal.returns-then-len-entry-clause-known
returns-then-len-entry-clause-known c = rw (← c.self.view_is) (λ (driver : ℕ). known_route c.self.inside.entries.items c.self.inside.values.items c.args.ty c.args.id driver (subst (λ (s : TableState). has_pair s.entries c.args.ty c.args.id ≡ true) (sym c.self.view_is) c.requires))

pub returns-in_err-make_room-clause-positive : goal.returns-in_err-make_room-clause-positive
returns-in_err-make_room-clause-positive c =
    let place : IsPlace c.self.inside.entries.items c.args.ty c.args.id (c.args.id - 1) = place_is c.self.inside.entries.items c.self.inside.values.items c.args.ty c.args.id (subst (λ (s : TableState). has_pair s.entries c.args.ty c.args.id ≡ true) (sym c.self.view_is) c.requires) in
    omega (arith, place.number)

pub returns-in_err-make_room-clause-known : goal.returns-in_err-make_room-clause-known
returns-in_err-make_room-clause-known c = rw (← c.self.view_is) (λ (driver : ℕ). known_route c.self.inside.entries.items c.self.inside.values.items c.args.ty c.args.id driver (subst (λ (s : TableState). has_pair s.entries c.args.ty c.args.id ≡ true) (sym c.self.view_is) c.requires))

pub returns-in_ok-make_room-clause-entries : goal.returns-in_ok-make_room-clause-entries
returns-in_ok-make_room-clause-entries c =
    rw (← c.self.view_is)
    (ap (λ (x : IdEntry). ids_from 1 c.extend_from_slice.new.self.items (set c.self.inside.entries.items (c.args.id - 1) x)) c.entry_at.ensures
    ∙ (put_behind c.self.inside.entries.items c.self.inside.values.items c.extend_from_slice.new.self.items c.args.values.now c.index-entry.result.now c.len-start.result c.args.id c.args.ty (subst (λ (s : TableState). has_pair s.entries c.args.ty c.args.id ≡ true) (sym c.self.view_is) c.requires) c.self.invariant c.index-entry.ensures (omega (arith, c.self.invariant.short, c.in_ok-make_room.ensures.ok))
    (omega (arith, c.len-start.ensures, ap length c.in_ok-make_room.ensures.items)) ((rw c.unwrap.ensures at c.extend_from_slice.ensures.items) ∙ ap (λ xs. xs ++ c.args.values.now) c.in_ok-make_room.ensures.items)).entries)

pub returns-in_ok-make_room-clause-routes : goal.returns-in_ok-make_room-clause-routes
returns-in_ok-make_room-clause-routes c =
    rw (← c.self.view_is)
    (ap (λ (x : IdEntry). routes_from 1 (set c.self.inside.entries.items (c.args.id - 1) x)) c.entry_at.ensures
    ∙ (put_behind c.self.inside.entries.items c.self.inside.values.items c.extend_from_slice.new.self.items c.args.values.now c.index-entry.result.now c.len-start.result c.args.id c.args.ty (subst (λ (s : TableState). has_pair s.entries c.args.ty c.args.id ≡ true) (sym c.self.view_is) c.requires) c.self.invariant c.index-entry.ensures (omega (arith, c.self.invariant.short, c.in_ok-make_room.ensures.ok))
    (omega (arith, c.len-start.ensures, ap length c.in_ok-make_room.ensures.items)) ((rw c.unwrap.ensures at c.extend_from_slice.ensures.items) ∙ ap (λ xs. xs ++ c.args.values.now) c.in_ok-make_room.ensures.items)).routes)

pub returns-in_ok-make_room-clause-positive : goal.returns-in_ok-make_room-clause-positive
returns-in_ok-make_room-clause-positive c =
    let place : IsPlace c.self.inside.entries.items c.args.ty c.args.id (c.args.id - 1) = place_is c.self.inside.entries.items c.self.inside.values.items c.args.ty c.args.id (subst (λ (s : TableState). has_pair s.entries c.args.ty c.args.id ≡ true) (sym c.self.view_is) c.requires) in
    omega (arith, place.number)

pub returns-in_ok-make_room-clause-known : goal.returns-in_ok-make_room-clause-known
returns-in_ok-make_room-clause-known c = rw (← c.self.view_is) (λ (driver : ℕ). known_route c.self.inside.entries.items c.self.inside.values.items c.args.ty c.args.id driver (subst (λ (s : TableState). has_pair s.entries c.args.ty c.args.id ≡ true) (sym c.self.view_is) c.requires))

pub entry_at-requires-clause-start : goal.entry_at-requires-clause-start
entry_at-requires-clause-start c = omega (arith, c.len-start.ensures, ap length c.in_ok-make_room.ensures.items, c.self.invariant.short)

pub invariant_of-self-else-len-entry : goal.invariant_of-self-else-len-entry
invariant_of-self-else-len-entry c =
    subst (λ (x : IdEntry). IsTable (set c.self.inside.entries.items (c.args.id - 1) x) c.extend_from_slice.new.self.items) (sym c.entry_at.ensures)
    (put_behind c.self.inside.entries.items c.self.inside.values.items c.extend_from_slice.new.self.items c.args.values.now c.index-entry.result.now c.len-start.result c.args.id c.args.ty (subst (λ (s : TableState). has_pair s.entries c.args.ty c.args.id ≡ true) (sym c.self.view_is) c.requires) c.self.invariant c.index-entry.ensures (omega (arith, c.self.invariant.short, c.in_ok-make_room.ensures.ok))
    (omega (arith, c.len-start.ensures, ap length c.in_ok-make_room.ensures.items)) ((rw c.unwrap.ensures at c.extend_from_slice.ensures.items) ∙ ap (λ xs. xs ++ c.args.values.now) c.in_ok-make_room.ensures.items)).table
