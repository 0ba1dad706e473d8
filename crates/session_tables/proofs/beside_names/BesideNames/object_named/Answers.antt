use Rattle.std.proofs.Common.{◌∙◌, ap, sym}
use Rattle.std.specs.HashMap.{get}
use Rattle.replay_model.specs.Past.{object_in}
use Rattle.trace_format.specs.Accepting.{same_name}
use Rattle.session_tables.specs.Named.{BesideState}
use Rattle.session_tables.proofs.Names.{beside_found}
use Rattle.session_tables.proofs.beside_names.BesideNames.object_named.Goals as goal

pub returns : goal.returns
returns c =
    c.copied.ensures ∙ (c.get.ensures.value
    ∙ (sym (beside_found c.self.inside.names.items (λ q. get same_name c.self.inside.objects q) c.args.name (c.self.invariant c.args.name)) ∙ ap (λ (s : BesideState). object_in s.named c.args.name) c.self.view_is))
