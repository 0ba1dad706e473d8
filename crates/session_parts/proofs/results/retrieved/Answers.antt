use Rattle.std.proofs.Common.{◌∙◌, ap, sym, Option}
use Rattle.std.specs.Option.{option_map_or}
use Rattle.replay_model.specs.Past.{Retrieval}
use Rattle.object_model.specs.Keys.{key_payload}
use Rattle.replay_model.specs.Births.{own_object, retrieved_object}
use Rattle.object_model.specs.declared.Object.{Object}
use Rattle.session_parts.specs.Opened.{returning_shown}
use Rattle.session_parts.proofs.Unowned.{none_kept}
use Rattle.session_parts.proofs.results.retrieved.Goals as goal

pub returns-in-None : goal.returns-in-None
returns-in-None c =
    c.own_object.ensures
    ∙ sym (ap (λ (f : Option Retrieval). option_map_or (λ (r : Retrieval). r.object) f (own_object c.args.ty c.args.name)) (none_kept c.args.ty c.args.place (key_payload c.args.call.cmd c.args.call.payload.now) c.args.table.now.kept))
    ∙ ap (λ (w : Option Object). retrieved_object c.args.table.now.kept (returning_shown c.args.call) w c.args.ty c.args.place c.args.name) (sym c.in-None.is)
