use Rattle.std.proofs.Common.{◌∙◌, ap}
use Rattle.session_parts.specs.Handed.{HandedState}
use Rattle.session_parts.proofs.Places.{shown_same}
use Rattle.session_parts.proofs.handed.HandedTable.copy.Goals as goal

pub returns : goal.returns
returns c = shown_same c.self.inside.handles c.in_ok-copy.field-0 c.in_ok-copy.ensures.objects c.in_ok-copy.ensures.kept ∙ ap (λ (s : HandedState). s.handed) c.self.view_is
