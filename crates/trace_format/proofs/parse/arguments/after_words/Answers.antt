use Rattle.std.proofs.Common.{◌∙◌, ap, sym, option_copied}
use Rattle.trace_format.proofs.RestLemmas.{rest_more_at, rest_none_at}
use Rattle.trace_format.proofs.parse.arguments.after_words.Goals as goal

pub returns-in_err-after : goal.returns-in_err-after
returns-in_err-after c =
    ap option_copied c.from_residual.ensures ∙ sym (c.loop-param.invariant ∙ rest_none_at c.args.params.now c.loop-param._param-index c.loop-param.rest.now c.loop-param-test.true (sym c.in_err-after.ensures))

pub loop-param-preserved : goal.loop-param-preserved
loop-param-preserved c =
    c.loop-param.invariant ∙ rest_more_at c.args.params.now c.loop-param._param-index c.loop-param.rest.now c.in_ok-after.field-0-0.now c.in_ok-after.after.now c.loop-param-test.true (sym c.in_ok-after.ensures)
