use Rattle.std.proofs.Common.{◌≡◌, ◌∙◌, List, length, map, ap, sym, subst, arith}
use Rattle.std.specs.Prelude.{Some, slice_get}
use Rattle.std.proofs.lemmas.List.{length-map}
use Rattle.command_tables.specs.declared.call.LayerCall.{LayerCall}
use Rattle.dispatch_chain.specs.Forms.{FormRoom, KeepsForms, form_room}
use Rattle.dispatch_chain.specs.Holding.{HeldCalls}
use Rattle.dispatch_chain.proofs.Buffers.{held_count, keeps_on}
use Rattle.dispatch_chain.proofs.held.Held.hold.Goals as goal

pub returns-in_err-make_room-clause-succeeds : goal.returns-in_err-make_room-clause-succeeds
returns-in_err-make_room-clause-succeeds c = λ less fits.
    let forms = ap (λ (h : HeldCalls). length h.forms) c.self.view_is in
    let rooms = ap (λ (h : HeldCalls). length h.rooms) c.self.view_is in
    let long = held_count c.self.inside.forms.items c.self.inside.count c.self.invariant.within in
    let wrong = c.in_err-make_room.ensures.succeeds (omega (arith, less, forms, rooms, long, length-map c.self.inside.forms.items form_room)) in cc wrong

pub returns-in_err-refill-clause-succeeds : goal.returns-in_err-refill-clause-succeeds
returns-in_err-refill-clause-succeeds c = λ less fits.
    let items = c.self.inside.forms.items in
    let count = c.self.inside.count in
    let forms = ap (λ (h : HeldCalls). length h.forms) c.self.view_is in
    let rooms = ap (λ (h : HeldCalls). length h.rooms) c.self.view_is in
    let long = held_count items count c.self.invariant.within in
    let same = c.make_room.ensures.same (omega (arith, less, forms, rooms, long, length-map items form_room)) in
    let wrong = c.in_err-refill.ensures.succeeds (λ (r : FormRoom) here.
    fits r (subst (λ (h : HeldCalls). slice_get h.rooms (length h.forms) ≡ Some r) c.self.view_is
    (ap (λ n. slice_get (map form_room items) n) long ∙ (ap (λ (xs : List LayerCall). slice_get (map form_room xs) count) (sym same) ∙ here)))) in cc wrong

pub returns-in_err-refill-clause-rooms : goal.returns-in_err-refill-clause-rooms
returns-in_err-refill-clause-rooms c =
    let made = map form_room c.make_room.new.forms.items in
    keeps_on c.args.self.now.rooms made (map form_room c.refill.new.forms.items) (subst (λ (h : HeldCalls). KeepsForms h.rooms made) c.self.view_is c.make_room.ensures.rooms) c.refill.ensures.rooms

pub returns-clause-rooms : goal.returns-clause-rooms
returns-clause-rooms c =
    let made = map form_room c.make_room.new.forms.items in
    keeps_on c.args.self.now.rooms made (map form_room c.refill.new.forms.items) (subst (λ (h : HeldCalls). KeepsForms h.rooms made) c.self.view_is c.make_room.ensures.rooms) c.refill.ensures.rooms
