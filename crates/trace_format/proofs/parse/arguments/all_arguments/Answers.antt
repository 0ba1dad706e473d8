use Rattle.std.proofs.Common.{◌∙◌, Vec, Global, ap, sym, map, drop, ◌+◌}
use Rattle.std.proofs.lemmas.List.{map-append}
use Rattle.std.proofs.lemmas.Result.{err_from_is_err_and}
use Rattle.trace_format.specs.declared.fault.TraceFault.TheVariants as fault
use Rattle.trace_format.specs.declared.event.TraceArg.{TraceArg}
use Rattle.trace_format.specs.Content.{arg_content}
use Rattle.trace_format.proofs.ReadLemmas.{args_more_at, args_none_at, with_front, args_here}
use Rattle.trace_format.proofs.AnswerLemmas.{fault_on, is_there}
use Rattle.trace_format.proofs.parse.arguments.all_arguments.Goals as goal

pub returns-in_err-argument : goal.returns-in_err-argument
returns-in_err-argument c =
    let p = err_from_is_err_and c.from_residual.result c.from_residual.ensures.1 in
    rw (p.1, p.2) (
    fault_on arg_content (λ (v : Vec TraceArg Global). map arg_content v.items) c.in_err-argument.field-0.0 fault.Argument _ _ c.in_err-argument.ensures
    (λ none. c.loop-param.invariant ∙ args_none_at _ c.args.params.now c.loop-param.param-index _ c.loop-param.rest.now c.skip_one.result.now c.split_before.result.0.now c.loop-param-test.true c.skip_one.ensures c.split_before.ensures.before none)
    )

pub loop-param-preserved : goal.loop-param-preserved
loop-param-preserved c =
    let there = is_there arg_content c.in_ok-argument.field-0 fault.Argument _ c.in_ok-argument.ensures in
    let more = args_more_at (map arg_content c.loop-param.args.items) c.args.params.now c.loop-param.param-index _ c.loop-param.rest.now c.skip_one.result.now c.split_before.result.0.now c.split_before.result.1.now (arg_content c.in_ok-argument.field-0)
    c.loop-param-test.true c.skip_one.ensures c.split_before.ensures.before c.split_before.ensures.rest there in
    let pushed = ap (map arg_content) c.in_ok-push.ensures.items in
    c.loop-param.invariant ∙ more ∙ ap (λ front. with_front front (args_here (drop (c.loop-param.param-index + 1) c.args.params.now) c.split_before.result.1.now)) (sym (pushed ∙ map-append arg_content _ _))
