use Rattle.layer_model.specs.Ids.{AreIssued}
use Rattle.unique_layer.specs.Shown.{key_of}
use Rattle.unique_layer.proofs.Keeping.{next_kept}
use Rattle.unique_layer.proofs.state.UniqueState.put_new.Goals as goal
use Rattle.unique_layer.proofs.state.UniqueState.put_new.Goals.{then-is_some+in_ok-make_room, else-is_some}

pub invariant_of-self-in-Some : goal.invariant_of-self-in-Some
invariant_of-self-in-Some c =
    let before : AreIssued c.if-is_some.self-inside.ids.entries c.if-is_some.self-inside.kept.ids = (elim c.if-is_some.branch [
      | then-is_some+in_ok-make_room w ↦ rw (w.self-inside-is, w.in_ok-make_room.ensures.ids) c.self.invariant
      | else-is_some w ↦ rw w.self-inside-is c.self.invariant
    ]) in
    let type = rw c.in-Some.is at c.requires in
    let kept = rw c.unwrap.ensures at c.add.ensures.ok in
    let behind : AreIssued c.push.new.self.entries c.add.new.self.ids =
    rw (c.in_ok-id.ensures.ok, kept) (next_kept c.if-is_some.self-inside.ids.entries (key_of c.in-Some.key) c.args.ty c.in_ok-id.id c.args.value c.if-is_some.self-inside.kept.ids c.in_ok-id.ensures.id type before) in
    behind
