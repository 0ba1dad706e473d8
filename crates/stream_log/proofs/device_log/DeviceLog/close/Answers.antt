use Rattle.std.proofs.Common.{◌∙◌, ap, subst}
use Rattle.std.specs.Prelude.{map, reverse}
use Rattle.std.proofs.lemmas.List.{reverse-reverse}
use Rattle.stream_log.specs.Log.{line_of}
use Rattle.stream_log.specs.Log.{RisesFrom}
use Rattle.stream_log.specs.LogOwner.{list_of, held_of}
use Rattle.stream_log.proofs.Reading.{closing, rising, map-reverse}
use Rattle.stream_log.proofs.device_log.DeviceLog.close.Goals as goal

pub read_back-read-requires : goal.read_back-read-requires
read_back-read-requires c =
    let own = c.owner.invariant in
    record {
      full = c.close_with-closed.ensures.values.0;
      coded = (list_of c.owner.inside.seat.me.0, closing _ _ _ _ (held_of c.owner.inside.seat.me.0) _ _ _ (ap (λ m. m.0) own.idle) own.plain own.used c.close_with-closed.ensures.values.2);
    }

pub returns-clause-entries : goal.returns-clause-entries
returns-clause-entries c =
    let own = c.owner.invariant in
    let list = list_of c.owner.inside.seat.me.0 in
    let read = c.in-Ok.ensures list (closing _ _ _ _ (held_of c.owner.inside.seat.me.0) _ _ _ (ap (λ m. m.0) own.idle) own.plain own.used c.close_with-closed.ensures.values.2) in
    ap (map line_of) c.reverse.ensures.items ∙ (map-reverse line_of c.in-Ok.entries.items ∙ (ap reverse read ∙ (reverse-reverse list ∙ ap (λ o. o.list) c.owner.view_is)))

pub returns-clause-rises : goal.returns-clause-rises
returns-clause-rises c =
    let own = c.owner.invariant in
    let list = list_of c.owner.inside.seat.me.0 in
    subst (RisesFrom 0) (ap (λ o. o.list) c.owner.view_is) (rising _ _ list (held_of c.owner.inside.seat.me.0) _ _ _ (ap (λ m. m.0) own.idle) c.close_with-closed.ensures.values.2)
