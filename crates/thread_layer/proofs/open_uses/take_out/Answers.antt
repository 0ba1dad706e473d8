use Rattle.std.proofs.Common.{◌∙◌, List, take, ap}
use Rattle.std.specs.List.{remove}
use Rattle.thread_layer.specs.declared.object_use.ObjectUse.{ObjectUse}
use Rattle.thread_layer.specs.declared.open_call.OpenCall.{OpenCall}
use Rattle.thread_layer.specs.Kept.{counted, opens_of}
use Rattle.thread_layer.proofs.Opens.{counted_still, cut_out, within_uses}
use Rattle.thread_layer.proofs.open_uses.take_out.Goals as goal

pub cut-requires : goal.cut-requires
cut-requires c = within_uses c.args.calls.now.items c.args.uses.now.items c.args.at c.start_of-start.result c.remove-closed.result c.requires.counted c.requires.within (c.start_of-start.ensures ∙ ap (λ (cs : List OpenCall). counted (take c.args.at cs)) c.deref.ensures.value) c.remove-closed.ensures.value

pub returns-clause-opens : goal.returns-clause-opens
returns-clause-opens c =
    ap (λ (cs : List OpenCall). opens_of cs c.cut.new.uses.items) c.remove-closed.ensures.items
    ∙ (ap (λ (us : List ObjectUse). opens_of (remove c.args.calls.now.items c.args.at) us) c.cut.ensures.items
    ∙ cut_out c.args.calls.now.items c.args.uses.now.items c.args.at c.start_of-start.result c.remove-closed.result c.requires.counted c.requires.within (c.start_of-start.ensures ∙ ap (λ (cs : List OpenCall). counted (take c.args.at cs)) c.deref.ensures.value) c.remove-closed.ensures.value)

pub returns-clause-counted : goal.returns-clause-counted
returns-clause-counted c =
    counted_still c.args.calls.now.items c.remove-closed.new.self.items c.args.uses.now.items c.cut.new.uses.items c.args.at c.remove-closed.result c.requires.counted c.requires.within c.remove-closed.ensures.items c.remove-closed.ensures.value c.cut.ensures.count
