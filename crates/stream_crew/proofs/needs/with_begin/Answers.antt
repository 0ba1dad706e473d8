use Rattle.std.proofs.Common.{ap, length, arith}
use Rattle.std.specs.Prelude.{List}
use Rattle.trace_format.specs.declared.event.Name.{Name}
use Rattle.stream_crew.specs.declared.needs.Most.{Most}
use Rattle.stream_crew.proofs.Counting.{is_below}
use Rattle.stream_crew.proofs.needs.with_begin.Goals as goal

pub returns-clause-below : goal.returns-clause-below
returns-clause-below c = λ b are results payload.
    let m : Most = record { handles = c.max.result; results = c.max-2.result; bytes = c.max-3.result } in
    is_below m b c.args.args.now c.in_ok-names.names are c.if-args-gt6.false c.in_ok-names.ensures (omega (arith, c.max.ensures)) (omega (arith, ap (λ (xs : List Name). length xs) results, c.max-2.ensures))
    (omega (arith, ap (λ (xs : List _). length xs) payload, c.max-3.ensures))
