use Rattle.std.proofs.Common.{◌∙◌, ap}
use Rattle.session_parts.specs.Handed.{HandedState}
use Rattle.session_parts.proofs.Places.{shown_same}
use Rattle.session_parts.proofs.handed.HandedTable.reserve.Goals as goal

pub returns-clause-handed : goal.returns-clause-handed
returns-clause-handed c = shown_same c.self.inside.handles c.reserve.new.self c.reserve.ensures.objects c.reserve.ensures.kept ∙ ap (λ (s : HandedState). s.handed) c.self.view_is
