use Rattle.std.proofs.Common.{arith, [], None, sym, ◌∙◌, ap}
use Rattle.atomic_table.specs.Table.{Me}
use Rattle.stream_log.specs.declared.place.Place.TheVariants.{Owner}
use Rattle.stream_log.specs.LogRule.{Place, desk, more}
use Rattle.stream_log.specs.LogOwner.{list_of, held_of}
use Rattle.stream_log.proofs.LogMoves.{takes_as, compares}
use Rattle.stream_log.proofs.owner.Owner.take.Goals as goal

pub join_seat-requires : goal.join_seat-requires
join_seat-requires c =
    let own = c.self.invariant in
    let id = ap (λ o. o.log) c.self.view_is ∙ c.requires.log.0 ∙ sym c.log.view_is in
    let w = ap (λ t. t.words) id in
    let room = own.room in (
      id,
      ap (λ o. o.log) c.seen.view_is ∙ c.requires.log.1 ∙ sym c.log.view_is,
      ap (λ m. m.1) c.seen.invariant,
      omega arith,
      takes_as _ _ _ _ _ _ _ (ap (λ m. m.0) own.idle) (ap (λ m. m.0) c.seen.invariant),
    )

pub load-requires : goal.load-requires
load-requires c =
    let own = c.self.invariant in
    let id = ap (λ o. o.log) c.self.view_is ∙ c.requires.log.0 ∙ sym c.log.view_is in
    let w = ap (λ t. t.words) id in
    let room = own.room in
    let key = c.log.invariant.0 in
    let me = c.join_seat.ensures.2 ∙ ap (λ (m : Me (Unit {0}) Place). (more m.0 c.seen.inside.seat.me.0, m.1)) own.idle ∙ ap (λ (m : Me (Unit {0}) Place). (more (Owner (desk (list_of c.self.inside.seat.me.0) [] (held_of c.self.inside.seat.me.0) None)) m.0, [])) c.seen.invariant in (
      c.join_seat.ensures.0 ∙ id,
      omega arith,
      compares _ _ _ _ _ _ _ me (omega arith),
    )
