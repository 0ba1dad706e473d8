use Rattle.std.proofs.Common.{◌≡◌, true, List, map, sym, subst}
use Rattle.handle_map.specs.Pairs.{MapEntry, has_pair}
use Rattle.object_model.specs.Values.{Value}
use Rattle.terminator.specs.Shown.{IssuedState}
use Rattle.layer_model.specs.Ids.{AreIssued}
use Rattle.layer_model.proofs.Issued.{issued_stay}
use Rattle.terminator.specs.Table.{value_of}
use Rattle.terminator.proofs.issued.IssuedIds.issue.Goals as goal

pub put-requires : goal.put-requires
put-requires c = subst (λ (s : IssuedState). has_pair s.ids.entries c.args.ty c.in-Some.id ≡ true) (sym c.self.view_is) (c.in-Some.ensures.known c.args.ty c.requires)

pub invariant_of-self-in-Some : goal.invariant_of-self-in-Some
invariant_of-self-in-Some c =
    subst (λ (es : List (MapEntry (List Value))). AreIssued es c.self.inside.kept.ids) (sym c.in_ok-put-in-Some.ensures.entries)
    (issued_stay c.self.inside.table.entries c.self.inside.kept.ids c.args.ty c.in-Some.id (map value_of c.args.values.now) c.self.invariant)
