use Rattle.command_tables.specs.declared.lookup.TheConstants.{COMMANDS}
use Rattle.command_tables.proofs.Sorted.{commands_rise, found_at, none_named, there_at}
use Rattle.command_tables.proofs.lookup.find.Goals as goal

pub returns-in-Ok-clause-found : goal.returns-in-Ok-clause-found
returns-in-Ok-clause-found c = rw c.command_at.ensures (found_at c.args.name.now COMMANDS c.in-Ok.place c.in-Ok.ensures.place)

pub returns-in-Ok-clause-none : goal.returns-in-Ok-clause-none
returns-in-Ok-clause-none c = rw c.command_at.ensures (there_at _ COMMANDS c.in-Ok.place c.in-Ok.ensures.bound)

pub returns-in-Err-clause-none : goal.returns-in-Err-clause-none
returns-in-Err-clause-none c = none_named c.args.name.now c.in-Err.field-0 (c.in-Err.ensures.place (commands_rise c.args.name.now))
