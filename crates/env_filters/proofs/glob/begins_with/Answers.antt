use Rattle.env_filters.proofs.GlobLemmas.{starts-lowered}
use Rattle.env_filters.proofs.glob.begins_with.Goals as goal

pub returns-then-name-part : goal.returns-then-name-part
returns-then-name-part c = starts-lowered _ c.args.name.now c.args.part.now c.eq_ignore_ascii_case.ensures.test
