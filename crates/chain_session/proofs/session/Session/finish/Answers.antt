use Rattle.std.proofs.Common.{◌∙◌, Some, ap, sym}
use Rattle.std.specs.Option.{option_map}
use Rattle.chain_session.proofs.Returning.{can_return, finishes_so, none_advances}
use Rattle.chain_session.proofs.session.Session.finish.Goals as goal

pub finish-requires : goal.finish-requires
finish-requires g c = can_return _ c.deref_mut.result.now.kept c.args.thread (ap (option_map (λ x. x.value.kept)) c.in-Some.is ∙ ap (λ x. Some x.kept) (sym c.deref_mut.ensures.value)) c.requires

pub returns-in-None : goal.returns-in-None
returns-in-None g c = none_advances _ c.args.thread c.args.lines.now.items (ap (option_map (λ x. x.value.kept)) c.in-None.is)

pub returns-in-Ok : goal.returns-in-Ok
returns-in-Ok g c = finishes_so _ c.deref_mut.result.now.kept c.finish.new.self.kept c.args.thread c.args.lines.now.items c.finish.new.lines.items (ap (option_map (λ x. x.value.kept)) c.in-Some.is ∙ ap (λ x. Some x.kept) (sym c.deref_mut.ensures.value)) c.in-Ok.ensures
