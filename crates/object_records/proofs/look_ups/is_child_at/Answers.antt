use Rattle.std.proofs.Common.{◌≡◌, ◌∙◌, true, false, sym, refl, rules}
use Rattle.object_records.proofs.Kept.{child_here}
use Rattle.object_records.proofs.look_ups.is_child_at.Goals as goal

pub returns-then-not-kept : goal.returns-then-not-kept
returns-then-not-kept c =
    let here = child_here c.args.table.now.records c.args.place c.record-kept.result c.args.object c.record-kept.ensures.owners c.record-kept.ensures.once c.record-kept.ensures.found in
    let off : c.record-kept.result.is_created ≡ false = search rules in sym (here ∙ rw off refl)

pub returns-then-not-kept-2 : goal.returns-then-not-kept-2
returns-then-not-kept-2 c =
    let here = child_here c.args.table.now.records c.args.place c.record-kept.result c.args.object c.record-kept.ensures.owners c.record-kept.ensures.once c.record-kept.ensures.found in
    let on : c.record-kept.result.is_created ≡ true = search rules in
    let off : c.record-kept.result.lives ≡ false = search rules in sym (here ∙ rw (on, off) refl)

pub returns : goal.returns
returns c =
    let here = child_here c.args.table.now.records c.args.place c.record-kept.result c.args.object c.record-kept.ensures.owners c.record-kept.ensures.once c.record-kept.ensures.found in
    let on : c.record-kept.result.is_created ≡ true = search rules in
    let lives : c.record-kept.result.lives ≡ true = search rules in c.is_owner.ensures ∙ sym (here ∙ rw (on, lives) refl)
