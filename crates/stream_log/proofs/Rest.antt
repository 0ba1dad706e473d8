-- An owner at rest, from what its list is.
use Rattle.std.proofs.Common.{◌≡◌, ℕ, ◌+◌, ◌*◌, ◌^◌, ◌<◌, ◌≤◌, List, [], length, None, refl, sym, ap, ◌∙◌, subst}
use Rattle.atomic_table.specs.Table.{Me}
use Rattle.stream_log.specs.declared.owner.Owner.TheInside.{Inside}
use Rattle.stream_log.specs.declared.place.Place.TheVariants.{Owner}
use Rattle.stream_log.specs.Log.{last_time}
use Rattle.stream_log.specs.LogRule.{Line, Place, desk, codes, ArePlain}
use Rattle.stream_log.specs.LogOwner.{list_of, held_of, IsAtRest}

pub at_rest : (o : Inside) (list : List Line) (held : List ℕ) → o.seat.me ≡ (Owner (desk list [] held None), [])
    → o.used ≡ length (codes list) → o.used + 2 * o.entries + o.results + 1 ≤ o.seat.table_id.words → o.seat.table_id.words < 2 ^ 34 → o.results < 2 ^ 31 → ArePlain list → o.last ≡ last_time list → IsAtRest o
at_rest o list held is used room wide few plain last =
    let same : list ≡ list_of o.seat.me.0 = ap (λ (m : Me (Unit {0}) Place). list_of m.0) (sym is) in
    record {
      idle = subst (λ (m : Me (Unit {0}) Place). m ≡ (Owner (desk (list_of m.0) [] (held_of m.0) None), [])) (sym is) refl;
      used = used ∙ ap (λ (l : List Line). length (codes l)) same;
      room = room;
      wide = wide;
      few = few;
      plain = subst ArePlain same plain;
      last = last ∙ ap last_time same;
    }
