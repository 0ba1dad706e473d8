use Rattle.std.proofs.Common.{ℕ, subst}
use Rattle.replay_base.specs.Changes.{changed}
use Rattle.replay_tool.specs.Said.{Said, limit_text}
use Rattle.replay_tool.proofs.saying.say_limit.Goals as goal

pub returns : goal.returns
returns g c =
    subst (λ (most : ℕ). Said (limit_text c.args.which most) (changed (g.L.Sink.held c.args.errs.now) (g.L.Sink.held c.say_limit_of.new.errs) (g.L.Sink.faults c.args.errs.now) (g.L.Sink.faults c.say_limit_of.new.errs)))
    c.most_of.ensures c.say_limit_of.ensures
