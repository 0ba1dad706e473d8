use Rattle.std.proofs.Common.{◌∙◌, ◌++◌, ◌∷◌, [], ap, arith, sym}
use Rattle.model_driver.specs.Driver.{call_shown}
use Rattle.model_driver.specs.Flat.{FlatCallsState}
use Rattle.model_driver.proofs.Flats.{calls_pushed, whole_pushed}
use Rattle.model_driver.proofs.flat_calls.FlatCalls.push_reserved.Goals as goal

pub push_args-requires-clause-slots : goal.push_args-requires-clause-slots
push_args-requires-clause-slots c =
    omega (arith, c.requires.room.lists, ap (λ (f : FlatCallsState). f.room.lists) c.self.view_is, c.len-params.ensures.count, c.len-params.ensures.limit)

pub push_reserved-requires-clause-slots : goal.push_reserved-requires-clause-slots
push_reserved-requires-clause-slots c =
    omega (arith, c.requires.room.lists, ap (λ (f : FlatCallsState). f.room.lists) c.self.view_is, c.len-params.ensures.count, c.len-params.ensures.limit, c.push_args.ensures.slots)

pub invariant_of-self : goal.invariant_of-self
invariant_of-self c =
    let reply = rw c.deref.ensures.value at c.push_reserved.ensures.lists in
    let payload = rw c.deref-2.ensures.value at c.push_reserved-2.ensures.lists in
    let few = c.len-params.ensures.limit in (
      whole_pushed c.self.inside.heads.items c.push_reserved-3.new.self.items c.self.inside.lists.lists c.push_args.new.lists.lists c.push_reserved.new.self.lists c.self.inside.payloads.lists c.push_reserved-2.new.self.lists c.args.call.now.body.args.lists
          c.args.call.now.body.payload.items c.args.reply.now.handles.items _ c.self.invariant.0 c.push_reserved-3.ensures.items c.push_args.ensures.lists reply payload c.len-params.ensures.count few,
      c.push_reserved.ensures.few,
    )

pub returns-clause-calls : goal.returns-clause-calls
returns-clause-calls c =
    let reply = rw c.deref.ensures.value at c.push_reserved.ensures.lists in
    let payload = rw c.deref-2.ensures.value at c.push_reserved-2.ensures.lists in
    let before = ap (λ (f : FlatCallsState). f.calls) c.self.view_is in
    calls_pushed c.self.inside.heads.items c.push_reserved-3.new.self.items c.self.inside.lists.lists c.push_args.new.lists.lists c.push_reserved.new.self.lists c.self.inside.payloads.lists c.push_reserved-2.new.self.lists c.args.call.now.body.args.lists
    c.args.call.now.body.payload.items c.args.reply.now.handles.items _ c.self.invariant.0 c.push_reserved-3.ensures.items c.push_args.ensures.lists reply payload c.len-params.ensures.count
    ∙ (ap (λ xs. xs ++ (call_shown c.args.call.now, record { code = c.args.call.now.body.code; handles = c.args.reply.now.handles.items }) ∷ []) before
    ∙ ap (λ k. c.args.self.now.calls ++ (call_shown c.args.call.now, record { code = k; handles = c.args.reply.now.handles.items }) ∷ []) (sym c.requires.code))
