use Rattle.object_model.proofs.Renaming.{alive-renamed}
use Rattle.object_model.proofs.RenamedRules.{children-renamed, failures-renamed}
use Rattle.object_model.proofs.RenamedUses.{uses-renamed, overlaps-renamed}
use Rattle.object_model.proofs.numbers_do_not_matter.Goals as goal

pub returns : goal.returns
returns c = record { alive = alive-renamed; children = children-renamed; failures = failures-renamed; uses = uses-renamed; overlaps = overlaps-renamed }
