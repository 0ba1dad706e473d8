use Rattle.std.specs.Prelude.{vec_capacity}
use Rattle.std.proofs.Common.{◌≡◌, map, length, ◌∙◌, ap, refl, sym, subst}
use Rattle.command_tables.specs.Calls.{call_content}
use Rattle.layer_model.specs.Walks.{enter_parts}
use Rattle.dispatch_chain.specs.Entries.{down_of}
use Rattle.dispatch_chain.specs.Kept.{AllKept, AreInOrder}
use Rattle.dispatch_chain.specs.Room.{ChainState}
use Rattle.dispatch_chain.specs.Rows.{entries_of}
use Rattle.dispatch_chain.specs.Seats.{kinds_of, seat_of, seats_from, state_of}
use Rattle.dispatch_chain.proofs.Roomy.{found_row, held_row, roomy_row}
use Rattle.dispatch_chain.proofs.Seats.{kinds_stay, seats_stay}
use Rattle.dispatch_chain.proofs.Stepping.{on_ok}
use Rattle.dispatch_chain.proofs.Walked.{all_held, kinds_long, walked, held_of}
use Rattle.dispatch_chain.proofs.Whole.{all_of_it, forms_of, row_within}
use Rattle.dispatch_chain.proofs.walks.walk_enter.Goals as goal

pub down-requires-clause-within : goal.down-requires-clause-within
down-requires-clause-within g c = row_within c.args.call.now.cmd _ (kinds_of c.args.states.now.kept) c.at-entries.result.now (c.at-entries.ensures ∙ ap (entries_of c.args.call.now.cmd) c.requires.table) (ap length c.deref_mut.ensures.value ∙ kinds_long c.states.inside.parts.items ∙ ap (λ (v : ChainState). length (kinds_of v.kept)) c.states.view_is)

pub down-requires-clause-seats : goal.down-requires-clause-seats
down-requires-clause-seats g c = subst (λ xs. map seat_of xs ≡ seats_from 1 (kinds_of (map state_of xs))) (sym c.deref_mut.ensures.value) c.states.invariant.seats

pub down-requires-clause-cmd : goal.down-requires-clause-cmd
down-requires-clause-cmd g c = sym (ap (λ x. x.cmd) c.begin.ensures)

pub returns-clause-states : goal.returns-clause-states
returns-clause-states g c = on_ok c.down.result (λ h. ap (map state_of) (all_of_it c.states.inside.parts.len c.down.new.parts c.states.inside.parts.items (c.down.auto.parts ∙ ap length c.deref_mut.ensures.value) c.states.inside.parts.ok.0) ∙ ap (λ w. w.down.states) (walked c.args.thread c.args.number c.args.call.now.cmd c.args.states.now.kept c.states.inside.parts.items _ c.down.new.parts c.at-entries.result.now c.args.call.now c.down.new.call c.args.verdict.now c.down.new.verdict c.args.table.now.rows c.begin.new.self.forms c.down.new.held.forms (ap (λ (v : ChainState). v.kept) c.states.view_is) c.at-entries.ensures c.requires.table c.deref_mut.ensures.value refl c.requires.goes (ap (λ x. x.forms) c.begin.ensures) h)) c.down.ensures.walk

pub returns-clause-call : goal.returns-clause-call
returns-clause-call g c = on_ok c.down.result (λ h. ap (λ w. w.down.call) (walked c.args.thread c.args.number c.args.call.now.cmd c.args.states.now.kept c.states.inside.parts.items _ c.down.new.parts c.at-entries.result.now c.args.call.now c.down.new.call c.args.verdict.now c.down.new.verdict c.args.table.now.rows c.begin.new.self.forms c.down.new.held.forms (ap (λ (v : ChainState). v.kept) c.states.view_is) c.at-entries.ensures c.requires.table c.deref_mut.ensures.value refl c.requires.goes (ap (λ x. x.forms) c.begin.ensures) h)) c.down.ensures.walk

pub returns-clause-found : goal.returns-clause-found
returns-clause-found g c = on_ok c.down.result (λ h. ap (λ w. w.down.reports) (walked c.args.thread c.args.number c.args.call.now.cmd c.args.states.now.kept c.states.inside.parts.items _ c.down.new.parts c.at-entries.result.now c.args.call.now c.down.new.call c.args.verdict.now c.down.new.verdict c.args.table.now.rows c.begin.new.self.forms c.down.new.held.forms (ap (λ (v : ChainState). v.kept) c.states.view_is) c.at-entries.ensures c.requires.table c.deref_mut.ensures.value refl c.requires.goes (ap (λ x. x.forms) c.begin.ensures) h)) c.down.ensures.walk

pub returns-clause-skip : goal.returns-clause-skip
returns-clause-skip g c = on_ok c.down.result (λ h. ap (λ w. w.down.skip) (walked c.args.thread c.args.number c.args.call.now.cmd c.args.states.now.kept c.states.inside.parts.items _ c.down.new.parts c.at-entries.result.now c.args.call.now c.down.new.call c.args.verdict.now c.down.new.verdict c.args.table.now.rows c.begin.new.self.forms c.down.new.held.forms (ap (λ (v : ChainState). v.kept) c.states.view_is) c.at-entries.ensures c.requires.table c.deref_mut.ensures.value refl c.requires.goes (ap (λ x. x.forms) c.begin.ensures) h)) c.down.ensures.walk

pub returns-clause-held : goal.returns-clause-held
returns-clause-held g c = on_ok c.down.result (λ h. held_of c.down.new.held c.args.call.now.cmd (kinds_of c.args.states.now.kept) (enter_parts c.args.thread c.args.number 1 c.args.states.now.kept (call_content c.args.call.now)).forms
    (c.down.ensures.cmd ∙ ap (λ x. x.cmd) c.begin.ensures) (ap (λ w. w.forms) (walked c.args.thread c.args.number c.args.call.now.cmd c.args.states.now.kept c.states.inside.parts.items _ c.down.new.parts c.at-entries.result.now c.args.call.now c.down.new.call c.args.verdict.now c.down.new.verdict c.args.table.now.rows c.begin.new.self.forms c.down.new.held.forms (ap (λ (v : ChainState). v.kept) c.states.view_is) c.at-entries.ensures c.requires.table c.deref_mut.ensures.value refl c.requires.goes (ap (λ x. x.forms) c.begin.ensures) h)) (forms_of c.args.thread c.args.number 1 c.args.call.now.cmd c.args.states.now.kept (call_content c.args.call.now) refl)) c.down.ensures.walk

pub returns-clause-kinds : goal.returns-clause-kinds
returns-clause-kinds g c = ap (λ xs. kinds_of (map state_of xs)) (all_of_it c.states.inside.parts.len c.down.new.parts c.states.inside.parts.items (c.down.auto.parts ∙ ap length c.deref_mut.ensures.value) c.states.inside.parts.ok.0) ∙ kinds_stay c.states.inside.parts.items c.down.new.parts (c.down.ensures.seats ∙ ap (map seat_of) c.deref_mut.ensures.value) ∙ ap (λ (v : ChainState). kinds_of v.kept) c.states.view_is

pub down-requires-clause-kept : goal.down-requires-clause-kept
down-requires-clause-kept g c = subst (λ xs. AllKept (map state_of xs)) (sym c.deref_mut.ensures.value) c.states.invariant.kept

pub returns-clause-whole : goal.returns-clause-whole
returns-clause-whole g c = on_ok c.down.result (λ h. all_held c.args.thread c.args.number c.args.call.now.cmd c.down.new.held.cmd c.args.table.now.rows (kinds_of c.args.states.now.kept) c.at-entries.result.now _ (down_of (map state_of c.down.new.parts) c.down.new.call c.down.new.verdict) c.down.new.held.forms c.begin.new.self.forms h (ap (λ x. x.forms) c.begin.ensures) c.at-entries.ensures c.requires.table (c.down.ensures.cmd ∙ ap (λ x. x.cmd) c.begin.ensures)) c.down.ensures.walk

pub returns-clause-cmd : goal.returns-clause-cmd
returns-clause-cmd g c = c.down.ensures.cmd ∙ ap (λ x. x.cmd) c.begin.ensures

pub invariant_of-states : goal.invariant_of-states
invariant_of-states g c = subst AreInOrder (sym (all_of_it c.states.inside.parts.len c.down.new.parts c.states.inside.parts.items (c.down.auto.parts ∙ ap length c.deref_mut.ensures.value) c.states.inside.parts.ok.0))
    (record { seats = seats_stay c.states.inside.parts.items c.down.new.parts c.states.invariant.seats (c.down.ensures.seats ∙ ap (map seat_of) c.deref_mut.ensures.value); kept = c.down.ensures.kept })

pub returns-clause-succeeds : goal.returns-clause-succeeds
returns-clause-succeeds g c = λ roomy fits hold.
    c.down.ensures.succeeds
    (roomy_row c.args.thread c.args.number c.args.call.now.cmd c.args.states.now.kept c.args.states.now.rooms c.states.inside.parts.items c.deref_mut.result.now c.at-entries.result.now c.args.call.now c.args.verdict.now c.args.table.now.rows (ap (λ (v : ChainState). v.kept) c.states.view_is) (ap (λ (v : ChainState). v.rooms) c.states.view_is) c.at-entries.ensures c.requires.table c.deref_mut.ensures.value refl roomy)
    (found_row c.args.thread c.args.number c.args.call.now.cmd c.args.states.now.kept c.states.inside.parts.items c.deref_mut.result.now c.at-entries.result.now c.args.call.now c.args.verdict.now c.args.table.now.rows (vec_capacity c.args.verdict.now.findings) (ap (λ (v : ChainState). v.kept) c.states.view_is) c.at-entries.ensures c.requires.table c.deref_mut.ensures.value refl c.requires.goes fits)
    (held_row c.args.call.now.cmd c.args.table.now.rows (kinds_of c.args.states.now.kept) c.at-entries.result.now c.args.held.now c.begin.new.self (call_content c.args.call.now) c.begin.ensures c.at-entries.ensures c.requires.table hold)
