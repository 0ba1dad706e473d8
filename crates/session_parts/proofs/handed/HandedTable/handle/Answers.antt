use Rattle.std.proofs.Common.{◌∙◌, ap, sym}
use Rattle.std.specs.Prelude.{unwrap_or}
use Rattle.chain_model.specs.Handed.{handle_in}
use Rattle.session_parts.specs.Handed.{HandedState}
use Rattle.session_parts.proofs.Places.{handle_shown}
use Rattle.session_parts.proofs.handed.HandedTable.handle.Goals as goal

pub returns : goal.returns
returns c =
    c.unwrap_or.ensures ∙ (ap (λ h. unwrap_or h 0) c.get.ensures ∙ (sym (handle_shown c.self.inside.handles c.args.object) ∙ ap (λ (s : HandedState). handle_in s.handed c.args.object) c.self.view_is))
