use Rattle.std.proofs.Common.{◌∙◌, ap, sym}
use Rattle.replay_model.specs.Past.{object_in}
use Rattle.session_tables.specs.Named.{NamesState}
use Rattle.session_tables.specs.Shown.{object_at}
use Rattle.session_tables.proofs.Names.{named_at}
use Rattle.session_tables.proofs.named_table.NamedTable.object_named.Goals as goal

pub returns : goal.returns
returns c =
    c.object_of.ensures
    ∙ (ap (λ rows. object_at rows (object_in c.self.inside.others.named c.args.name) c.args.name) c.deref.ensures.value
    ∙ (sym (named_at c.self.inside.types.items c.self.inside.others.named c.args.name) ∙ ap (λ (s : NamesState). object_in s.names c.args.name) c.self.view_is))
