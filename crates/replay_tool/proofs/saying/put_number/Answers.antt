use Rattle.std.proofs.Common.{◌≡◌, ◌∙◌, ap, ◌++◌, List, ℕ}
use Rattle.std.specs.Prelude.{decimal}
use Rattle.replay_base.specs.Bytes.{grown}
use Rattle.replay_tool.proofs.saying.put_number.Goals as goal

pub returns-clause-all : goal.returns-clause-all
returns-clause-all g c =
    let is : c.as_bytes.result.now ≡ decimal c.args.number = c.as_bytes.ensures.value ∙ c.format.ensures.text in
    c.in_ok-put_two.ensures.all ∙ ap (λ (text : List ℕ). grown (g.L.Sink.held c.args.errs.now) (c.args.front.now ++ text)) is
