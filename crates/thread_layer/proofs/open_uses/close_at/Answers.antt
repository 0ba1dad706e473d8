use Rattle.std.proofs.Common.{◌++◌, ◌∙◌, List, take, drop, ap, sym, rules}
use Rattle.object_model.specs.Uses.{InUse}
use Rattle.thread_layer.specs.Kept.{of_others}
use Rattle.thread_layer.proofs.Opens.{closed_here, open_here}
use Rattle.thread_layer.proofs.open_uses.close_at.Goals as goal

pub returns-then-not-is_of-clause-opens : goal.returns-then-not-is_of-clause-opens
returns-then-not-is_of-clause-opens c =
    open_here c.args.calls.now.items c.args.uses.now.items c.args.at c.args.thread c.index-call.result.now c.requires.within c.index-call.ensures (sym c.is_of.ensures ∙ search rules)

pub returns-clause-opens : goal.returns-clause-opens
returns-clause-opens c =
    ap (λ (os : List InUse). of_others c.args.thread (take c.args.at os) ++ drop c.args.at os) c.take_out.ensures.opens
    ∙ closed_here c.args.calls.now.items c.args.uses.now.items c.args.at c.args.thread c.index-call.result.now c.requires.within c.index-call.ensures (sym c.is_of.ensures ∙ search rules)
