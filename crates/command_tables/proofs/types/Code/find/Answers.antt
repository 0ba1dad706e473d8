use Rattle.command_tables.specs.CodeNames.{code_name}
use Rattle.command_tables.specs.declared.codes.TheConstants.{CODES}
use Rattle.command_tables.proofs.Named.{found_name}
use Rattle.command_tables.proofs.types.Code.find.Goals as goal

pub returns-clause-found : goal.returns-clause-found
returns-clause-found c = rw c.find_code.ensures (found_name code_name c.args.name.now CODES)
