use Rattle.std.proofs.Common.{◌+◌, List, map, length, ◌∙◌, ap, refl, sym, subst}
use Rattle.dispatch_chain.specs.Holding.{AllShaped}
use Rattle.dispatch_chain.specs.Kept.{AllKept, AreInOrder}
use Rattle.dispatch_chain.specs.Room.{AllHaveBirths, ChainState, KeepUses, PartRoom, room_of}
use Rattle.dispatch_chain.specs.Rows.{entries_of}
use Rattle.dispatch_chain.specs.Seats.{kinds_of, seat_of, state_of}
use Rattle.dispatch_chain.specs.declared.part.Part.{Part}
use Rattle.dispatch_chain.proofs.Kept.{shaped_all}
use Rattle.dispatch_chain.proofs.Taken.{row_rising}
use Rattle.dispatch_chain.proofs.Lasting.{row_can}
use Rattle.dispatch_chain.proofs.Seats.{kinds_stay, seats_stay}
use Rattle.dispatch_chain.proofs.Stepping.{on_ok}
use Rattle.dispatch_chain.proofs.Upwards.{left_up, can_up}
use Rattle.dispatch_chain.proofs.Holding.{shaped_at}
use Rattle.dispatch_chain.proofs.Walked.{kinds_long}
use Rattle.dispatch_chain.proofs.Whole.{all_of_it, row_within}
use Rattle.dispatch_chain.proofs.walks.walk_leave.Goals as goal

pub up-requires-clause-within : goal.up-requires-clause-within
up-requires-clause-within g c = row_within c.args.held.now.cmd _ (kinds_of c.args.states.now.kept) c.at-entries.result.now (c.at-entries.ensures ∙ ap (λ x. entries_of x c.args.table.now.rows) c.command.ensures ∙ ap (entries_of c.args.held.now.cmd) c.requires.table) (ap length c.deref_mut.ensures.value ∙ kinds_long c.states.inside.parts.items ∙ ap (λ (v : ChainState). length (kinds_of v.kept)) c.states.view_is)

pub up-requires-clause-shaped : goal.up-requires-clause-shaped
up-requires-clause-shaped g c = λ i d h. shaped_at c.args.held.now.cmd c.forms.result.now i d (subst (AllShaped c.args.held.now.cmd) (sym c.forms.ensures.forms) c.forms.ensures.shaped) h

pub up-requires-clause-can : goal.up-requires-clause-can
up-requires-clause-can g c = can_up c.args.thread c.args.held.now c.args.states.now.kept c.states.inside.parts.items _ c.at-entries.result.now _ c.args.results.now (ap (λ (v : ChainState). v.kept) c.states.view_is) (c.at-entries.ensures ∙ ap (λ x. entries_of x c.args.table.now.rows) c.command.ensures ∙ ap (entries_of c.args.held.now.cmd) c.requires.table) c.deref_mut.ensures.value c.forms.ensures.forms (row_can c.args.thread c.args.held.now.cmd c.args.states.now.kept _ c.args.held.now.forms c.args.results.now refl (shaped_all c.args.held.now.cmd c.args.held.now.forms c.forms.ensures.shaped) (subst (λ (v : ChainState). AllKept v.kept) c.states.view_is c.states.invariant.kept) c.requires.guarded c.requires.once c.requires.lost)

pub returns-clause-states : goal.returns-clause-states
returns-clause-states g c = on_ok c.up.result (λ h forms k. ap (map state_of) (all_of_it c.states.inside.parts.len c.up.new.parts c.states.inside.parts.items (c.up.auto.parts ∙ ap length c.deref_mut.ensures.value) c.states.inside.parts.ok.0) ∙ ap (λ w. w.states) (h ∙ left_up c.args.thread c.args.held.now c.args.states.now.kept c.states.inside.parts.items _ c.at-entries.result.now _ forms c.args.results.now (ap (λ (v : ChainState). v.kept) c.states.view_is) (c.at-entries.ensures ∙ ap (λ x. entries_of x c.args.table.now.rows) c.command.ensures ∙ ap (entries_of c.args.held.now.cmd) c.requires.table) c.deref_mut.ensures.value c.forms.ensures.forms k)) c.up.ensures.left

pub returns-clause-results : goal.returns-clause-results
returns-clause-results g c = on_ok c.up.result (λ h forms k. ap (λ w. w.results) (h ∙ left_up c.args.thread c.args.held.now c.args.states.now.kept c.states.inside.parts.items _ c.at-entries.result.now _ forms c.args.results.now (ap (λ (v : ChainState). v.kept) c.states.view_is) (c.at-entries.ensures ∙ ap (λ x. entries_of x c.args.table.now.rows) c.command.ensures ∙ ap (entries_of c.args.held.now.cmd) c.requires.table) c.deref_mut.ensures.value c.forms.ensures.forms k)) c.up.ensures.left

pub returns-clause-kinds : goal.returns-clause-kinds
returns-clause-kinds g c = ap (λ xs. kinds_of (map state_of xs)) (all_of_it c.states.inside.parts.len c.up.new.parts c.states.inside.parts.items (c.up.auto.parts ∙ ap length c.deref_mut.ensures.value) c.states.inside.parts.ok.0) ∙ kinds_stay c.states.inside.parts.items c.up.new.parts (c.up.ensures.seats ∙ ap (map seat_of) c.deref_mut.ensures.value) ∙ ap (λ (v : ChainState). kinds_of v.kept) c.states.view_is

pub up-requires-clause-kept : goal.up-requires-clause-kept
up-requires-clause-kept g c = subst (λ xs. AllKept (map state_of xs)) (sym c.deref_mut.ensures.value) c.states.invariant.kept

pub invariant_of-states : goal.invariant_of-states
invariant_of-states g c = subst AreInOrder (sym (all_of_it c.states.inside.parts.len c.up.new.parts c.states.inside.parts.items (c.up.auto.parts ∙ ap length c.deref_mut.ensures.value) c.states.inside.parts.ok.0))
    (record { seats = seats_stay c.states.inside.parts.items c.up.new.parts c.states.invariant.seats (c.up.ensures.seats ∙ ap (map seat_of) c.deref_mut.ensures.value); kept = c.up.ensures.kept })

pub up-requires-clause-rising : goal.up-requires-clause-rising
up-requires-clause-rising g c = row_rising c.args.held.now.cmd c.args.table.now.rows c.at-entries.result.now (c.at-entries.ensures ∙ ap (λ x. entries_of x c.args.table.now.rows) c.command.ensures)

pub returns-clause-births : goal.returns-clause-births
returns-clause-births g c = on_ok c.up.result (λ h n all.
    subst (λ (xs : List Part). AllHaveBirths n (map room_of xs)) (sym (all_of_it c.states.inside.parts.len c.up.new.parts c.states.inside.parts.items (c.up.auto.parts ∙ ap length c.deref_mut.ensures.value) c.states.inside.parts.ok.0))
    (h n (subst (λ (rs : List PartRoom). AllHaveBirths (n + length c.args.results.now) rs) (sym (ap (map room_of) c.deref_mut.ensures.value ∙ ap (λ (v : ChainState). v.rooms) c.states.view_is)) all))) c.up.ensures.births

pub returns-clause-succeeds : goal.returns-clause-succeeds
returns-clause-succeeds g c = λ all.
    c.up.ensures.succeeds (subst (λ (rs : List PartRoom). AllHaveBirths (length c.args.results.now) rs) (sym (ap (map room_of) c.deref_mut.ensures.value ∙ ap (λ (v : ChainState). v.rooms) c.states.view_is)) all)

pub returns-clause-uses : goal.returns-clause-uses
returns-clause-uses g c = on_ok c.up.result (λ h.
    subst (λ (xs : List Part). KeepUses c.args.states.now.rooms (map room_of xs)) (sym (all_of_it c.states.inside.parts.len c.up.new.parts c.states.inside.parts.items (c.up.auto.parts ∙ ap length c.deref_mut.ensures.value) c.states.inside.parts.ok.0))
    (subst (λ (rs : List PartRoom). KeepUses rs (map room_of c.up.new.parts)) (ap (map room_of) c.deref_mut.ensures.value ∙ ap (λ (v : ChainState). v.rooms) c.states.view_is) h)) c.up.ensures.uses
