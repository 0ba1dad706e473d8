use Rattle.std.proofs.Common.{◌≡◌, ◌+◌, ◌*◌, ◌≤◌, ◌∙◌, ℕ, List, ap, drop, length, map, arith}
use Rattle.std.specs.Prelude.{Option, vec_len}
use Rattle.std.proofs.lemmas.List.{length-map}
use Rattle.command_tables.specs.Table.{ParamSpec, seen_param}
use Rattle.trace_format.specs.Content.{Arg, arg_content}
use Rattle.trace_format.specs.declared.event.Name.{Name}
use Rattle.trace_format.specs.declared.event.TraceArg.{TraceArg}
use Rattle.walk_bounds.specs.Bounds.{implied_most, weigh}
use Rattle.device_shard.specs.Rooms.{names_of}
use Rattle.device_shard.proofs.Measured.{names_here, weigh_end, weigh_more}
use Rattle.device_shard.proofs.measure.uses_in.Goals as goal

pub loop-place-preserved : goal.loop-place-preserved
loop-place-preserved c =
    let w : ParamSpec → ℕ = λ (p : ParamSpec). 1 + implied_most c.args.born p.implied in
    let params : List ParamSpec = map seen_param c.args.params.now in
    let parts : List (List (Option Name)) = names_of c.args.args.now in
    let names : List (Option Name) = c.index-args-place.result.names.items in
    let long : c.len.result ≡ length names = omega (arith, c.len.ensures, c.index-args-place.result.names.ok.0, ap (λ (a : TraceArg). vec_len a.names) c.index-args-place.is) in
    let sum : c.in_ok-uses.uses ≡ c.loop-place.uses + length names * c.in_ok-weight.weight =
    c.in_ok-uses.ensures ∙ ap (λ n. c.loop-place.uses + n) (c.in_ok-more.ensures ∙ ap (λ n. n * c.in_ok-weight.weight) long) in
    ap (λ n. n + weigh w (drop (c.loop-place.place + 1) params) (drop (c.loop-place.place + 1) parts)) sum
    ∙ weigh_more w params parts c.loop-place.place c.loop-place.uses c.in_ok-weight.weight (weigh w params parts) names
    (names_here c.args.args.now c.loop-place.place c.index-args-place.result c.loop-place-test.true c.index-args-place.is) c.in_ok-weight.ensures c.loop-place.invariant

pub returns : goal.returns
returns c =
    let w : ParamSpec → ℕ = λ (p : ParamSpec). 1 + implied_most c.args.born p.implied in
    let params : List ParamSpec = map seen_param c.args.params.now in
    let parts : List (List (Option Name)) = names_of c.args.args.now in
    let far : length parts ≤ c.loop-place.place = omega (arith, length-map (map arg_content c.args.args.now) (λ (a : Arg). a.names), length-map c.args.args.now arg_content, c.loop-place-test.false) in
    weigh_end w params parts c.loop-place.place c.loop-place.uses (weigh w params parts) far c.loop-place.invariant
