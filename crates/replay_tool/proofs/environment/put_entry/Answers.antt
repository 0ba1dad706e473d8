use Rattle.std.proofs.Common.{sym, ◌∙◌}
use Rattle.replay_tool.proofs.FirstValues.{takes_first, takes_no_second, takes_none}
use Rattle.replay_tool.proofs.environment.put_entry.Goals as goal

pub returns-in_default-clause-taken : goal.returns-in_default-clause-taken
returns-in_default-clause-taken c = takes_none c.args.entry.now _ c.in_default.ensures

pub returns-then-is_some-clause-taken : goal.returns-then-is_some-clause-taken
returns-then-is_some-clause-taken c =
    takes_no_second c.args.entry.now c.args.variables.now (record { name = c.in-Some.name.now; value = c.in-Some.value.now }) c.get.result c.in-Some.ensures c.get.ensures
    (sym c.is_some.ensures ∙ c.if-is_some.true)

pub returns-clause-taken : goal.returns-clause-taken
returns-clause-taken c =
    takes_first c.args.entry.now c.args.variables.now (record { name = c.in-Some.name.now; value = c.in-Some.value.now }) c.get.result c.in-Some.ensures c.get.ensures
    (sym c.is_some.ensures ∙ c.if-is_some.false) c.put.result c.put.new.self c.put.ensures.put
