use Rattle.std.proofs.Common.{◌≡◌, ◌∙◌, length, ap, sym, arith}
use Rattle.command_tables.specs.Handles.{Handles}
use Rattle.session_parts.proofs.Marks.{marks_last, marks_more, marks_still}
use Rattle.session_parts.proofs.forms.mark_places.Goals.{then-has_mark, else-has_mark}
use Rattle.session_parts.proofs.forms.mark_places.Goals as goal

pub loop-k-preserved : goal.loop-k-preserved
loop-k-preserved c = elim c.if-has_mark.branch [
  | then-has_mark w ↦ record {
    lists = ap (λ (a : Handles). a.lists) w.all-is ∙ (w.mark_unborn.ensures.lists ∙ c.loop-k.invariant.lists);
    marks = ap (λ (a : Handles). a.marks) w.all-is
        ∙ (w.mark_unborn.ensures.marks
        ∙ marks_more c.loop-k.all.marks c.args.all.now.marks c.args.p c.loop-k.k c.args.at.now c.requires.marks c.loop-k-test.true (sym c.has_mark.ensures ∙ w.if-has_mark.true) c.loop-k.invariant.marks);
    room = record {
      slots = omega (arith, ap (λ (a : Handles). a.slots) w.all-is, w.mark_unborn.ensures.room.slots, c.loop-k.invariant.room.slots);
      room = omega (arith, ap (λ (a : Handles). a.room) w.all-is, w.mark_unborn.ensures.room.room, c.loop-k.invariant.room.room);
    };
  }
  | else-has_mark w ↦ record {
    lists = ap (λ (a : Handles). a.lists) w.all-is ∙ c.loop-k.invariant.lists;
    marks = ap (λ (a : Handles). a.marks) w.all-is
        ∙ marks_still c.loop-k.all.marks c.args.all.now.marks c.args.p c.loop-k.k c.args.at.now c.loop-k-test.true (sym c.has_mark.ensures ∙ w.if-has_mark.false) c.loop-k.invariant.marks;
    room = record {
      slots = omega (arith, ap (λ (a : Handles). a.slots) w.all-is, c.loop-k.invariant.room.slots);
      room = omega (arith, ap (λ (a : Handles). a.room) w.all-is, c.loop-k.invariant.room.room);
    };
  }
]

pub returns-clause-marks : goal.returns-clause-marks
returns-clause-marks c =
    let end : c.loop-k.k ≡ length c.args.at.now = omega arith in
    marks_last c.loop-k.all.marks c.args.all.now.marks c.args.p c.loop-k.k c.args.at.now end c.loop-k.invariant.marks
