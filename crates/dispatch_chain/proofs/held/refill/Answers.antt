use Rattle.std.proofs.Common.{◌≤◌, subst}
use Rattle.std.specs.Prelude.{vec_capacity}
use Rattle.command_tables.specs.Calls.{call_content}
use Rattle.command_tables.specs.Handles.{HasRoom}
use Rattle.command_tables.specs.declared.call.LayerCall.{LayerCall}
use Rattle.dispatch_chain.proofs.Buffers.{fits_there, keeps_set}
use Rattle.dispatch_chain.proofs.held.refill.Goals as goal

pub returns-in_err-copy_from-clause-succeeds : goal.returns-in_err-copy_from-clause-succeeds
returns-in_err-copy_from-clause-succeeds c = λ fits.
    let wrong = c.in_err-copy_from.ensures.succeeds (fits_there c.args.forms.now.items c.args.count c.index_mut.result.now (call_content c.args.call.now) c.requires c.index_mut.ensures.value fits) in cc wrong

pub returns-in_err-copy_from-clause-rooms : goal.returns-in_err-copy_from-clause-rooms
returns-in_err-copy_from-clause-rooms c =
    let x : LayerCall = c.copy_from.new.self in
    keeps_set c.args.forms.now.items c.args.count x c.index_mut.result.now
    (subst (λ (y : LayerCall). HasRoom x.args y.args.slots y.args.room) c.index_mut.ensures.value c.copy_from.ensures.handles)
    (subst (λ (y : LayerCall). vec_capacity y.payload ≤ vec_capacity x.payload) c.index_mut.ensures.value c.copy_from.ensures.bytes)

pub returns-clause-rooms : goal.returns-clause-rooms
returns-clause-rooms c =
    let x : LayerCall = c.copy_from.new.self in
    keeps_set c.args.forms.now.items c.args.count x c.index_mut.result.now
    (subst (λ (y : LayerCall). HasRoom x.args y.args.slots y.args.room) c.index_mut.ensures.value c.copy_from.ensures.handles)
    (subst (λ (y : LayerCall). vec_capacity y.payload ≤ vec_capacity x.payload) c.index_mut.ensures.value c.copy_from.ensures.bytes)
