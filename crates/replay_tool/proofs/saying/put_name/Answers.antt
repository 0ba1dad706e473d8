use Rattle.std.proofs.Common.{◌≡◌, ◌∙◌, ap, ◌++◌, List, ℕ}
use Rattle.std.specs.Prelude.{codes}
use Rattle.replay_base.specs.Bytes.{grown}
use Rattle.replay_tool.specs.Said.{limit_name}
use Rattle.replay_tool.proofs.saying.put_name.Goals as goal

pub returns-clause-all : goal.returns-clause-all
returns-clause-all g c =
    let is : c.as_bytes.result.now ≡ limit_name c.args.which = c.as_bytes.ensures.value ∙ c.name_of.ensures in
    c.in_ok-put_two.ensures.all ∙ ap (λ (text : List ℕ). grown (g.L.Sink.held c.args.errs.now) (codes "vkreplay: limit " ++ text)) is
