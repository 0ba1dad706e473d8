use Rattle.std.proofs.Common.{◌∙◌, List, ap}
use Rattle.std.specs.HashMap.{get}
use Rattle.object_model.specs.Objects.{same}
use Rattle.session_tables.specs.declared.object_places.Far.{Far}
use Rattle.session_tables.specs.Filing.{own_index}
use Rattle.session_tables.proofs.FilingLemmas.{far_none, far_read}
use Rattle.session_tables.proofs.object_places.ObjectPlaces.get_far.Goals as goal

pub returns-in-None : goal.returns-in-None
returns-in-None g c =
    let m = c.args.self.now in
    let o = c.args.object in
    far_none m.far.items o (get same m.others o) (c.in-None.ensures.index ∙ ap (λ (xs : List (Far g.row.V.Denot)). own_index xs o (get same m.others o)) c.deref.ensures.value)

pub returns-in-Some : goal.returns-in-Some
returns-in-Some g c =
    let m = c.args.self.now in
    let o = c.args.object in
    far_read m.far.items o (get same m.others o) c.in-Some.at c.index.result.now (c.in-Some.ensures.index ∙ ap (λ (xs : List (Far g.row.V.Denot)). own_index xs o (get same m.others o)) c.deref.ensures.value) c.index.ensures
