use Rattle.std.proofs.Common.{Vec, Global, map, Some, None}
use Rattle.std.proofs.lemmas.Result.{err_from_is_err_and}
use Rattle.trace_format.specs.declared.event.TraceArg.{TraceArg}
use Rattle.trace_format.specs.declared.fault.TraceFault.TheVariants as fault
use Rattle.trace_format.specs.Content.{arg_content}
use Rattle.trace_format.proofs.AnswerLemmas.{is_there}
use Rattle.trace_format.proofs.LineLemmas.{begin_rest, begin_fault, begin_ends}
use Rattle.trace_format.proofs.parse.line.begin_with.Goals as goal

pub returns-in_err-args : goal.returns-in_err-args
returns-in_err-args c =
    let p = err_from_is_err_and c.from_residual.result c.from_residual.ensures.1 in
    rw (p.1, p.2, begin_rest c.args.thread c.args.cmd c.args.bytes.now c.row-row.result.now (Some c.in-Some.after.now) c.row-row.ensures c.in-Some.ensures) (
    begin_fault c.args.thread c.args.cmd c.in-Some.after.now (λ (v : Vec TraceArg Global). map arg_content v.items) c.in_err-args.field-0.0 _ c.in_err-args.ensures
    )

pub returns : goal.returns
returns c =
    let there = is_there (λ (v : Vec TraceArg Global). map arg_content v.items) c.in_ok-args.args fault.Argument _ c.in_ok-args.ensures in
    rw (
      begin_rest c.args.thread c.args.cmd c.args.bytes.now c.row-row.result.now (Some c.in-Some.after.now) c.row-row.ensures c.in-Some.ensures,
      begin_ends c.args.thread c.args.cmd c.in-Some.after.now (map arg_content c.in_ok-args.args.items) _ there,
    ) c.end_begin.ensures

pub returns-in_default : goal.returns-in_default
returns-in_default c = begin_rest c.args.thread c.args.cmd c.args.bytes.now c.row-row.result.now None c.row-row.ensures c.in_default.ensures
