use Rattle.std.proofs.Common.{rules}
use Rattle.std.proofs.lemmas.Fn.{always_returns_same}
use Rattle.std.specs.Cmp.Lexicographic.{slice_cmp}
use Rattle.std.specs.Ordering.{nat_cmp}
use Rattle.command_tables.specs.Table.{row_of}
use Rattle.command_tables.proofs.lookup.search_by_name.Goals as goal

pub returns-clause-place : goal.returns-clause-place
returns-clause-place c = c.binary_search_by.ensures.position (λ x. slice_cmp nat_cmp (row_of x).name c.args.name.now) (always_returns_same _ _ _ (λ a r f k. search rules))
