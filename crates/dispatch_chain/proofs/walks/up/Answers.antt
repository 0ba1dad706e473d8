use Rattle.std.proofs.Common.{◌-◌, map, length, ◌∙◌, arith, inl, inr, refl, sym, subst}
use Rattle.std.proofs.lemmas.List.{length-map}
use Rattle.command_tables.specs.Calls.{call_content}
use Rattle.object_records.specs.Shape.{HasParams}
use Rattle.dispatch_chain.specs.Room.{room_of}
use Rattle.dispatch_chain.proofs.Taken.{births_after, births_next, none_taken, taken_more}
use Rattle.dispatch_chain.proofs.Upwards.{can_one, drop_less, ended, form_less, one_up, within_at}
use Rattle.dispatch_chain.proofs.walks.up.Goals as goal

pub loop-i-init : goal.loop-i-init
loop-i-init g c = record {
  told = ended c.args.thread c.args.entries.now (map call_content c.args.forms.now) _ c.lesser-i.result (elim c.lesser-i.ensures.one [ inl h ↦ inl h | inr h ↦ inr (simp length-map h) ]);
  entries = c.lesser-i.ensures.first;
  forms = c.lesser-i.ensures.second;
  seats = refl;
  kept = c.requires.kept;
  count = refl;
  taken = none_taken c.args.entries.now c.lesser-i.result (length c.args.results.now) (map room_of c.args.parts.now);
}

pub leave_at-requires-clause-from : goal.leave_at-requires-clause-from
leave_at-requires-clause-from g c = (within_at (length c.args.parts.now) c.args.entries.now (c.loop-i.i - 1) _ c.requires.within (omega arith)).0

pub leave_at-requires-clause-to : goal.leave_at-requires-clause-to
leave_at-requires-clause-to g c = rw c.loop-i.auto.parts ((within_at (length c.args.parts.now) c.args.entries.now (c.loop-i.i - 1) _ c.requires.within (omega arith)).1)

pub leave_at-requires-clause-shape : goal.leave_at-requires-clause-shape
leave_at-requires-clause-shape g c = subst HasParams (sym c.index-forms-i.is) (c.requires.shaped (c.loop-i.i - 1) c.index-forms-i.result (omega arith))

pub leave_at-requires-clause-once : goal.leave_at-requires-clause-once
leave_at-requires-clause-once g c = can_one c.args.thread c.args.entries.now (map call_content c.args.forms.now) _ _ c.loop-i.i _ (call_content c.index-forms-i.result) c.requires.can
    (drop_less c.args.entries.now c.loop-i.i _ c.loop-i-test.true c.loop-i.invariant.entries)
    (form_less c.args.forms.now c.loop-i.i c.index-forms-i.result c.loop-i-test.true c.loop-i.invariant.forms c.index-forms-i.is)
    c.loop-i.invariant.told

pub loop-i-preserved : goal.loop-i-preserved
loop-i-preserved g c = record {
  told = one_up c.args.thread c.args.entries.now (map call_content c.args.forms.now) _ _ c.loop-i.i _ (call_content c.index-forms-i.result)
      (drop_less c.args.entries.now c.loop-i.i _ c.loop-i-test.true c.loop-i.invariant.entries)
      (form_less c.args.forms.now c.loop-i.i c.index-forms-i.result c.loop-i-test.true c.loop-i.invariant.forms c.index-forms-i.is)
      c.loop-i.invariant.told
      ∙ sym c.in_ok-leave_at.ensures.left;
  entries = omega arith;
  forms = omega arith;
  seats = c.in_ok-leave_at.ensures.seats ∙ c.loop-i.invariant.seats;
  kept = c.in_ok-leave_at.ensures.kept;
  count = c.in_ok-leave_at.ensures.count ∙ c.loop-i.invariant.count;
  taken = taken_more c.args.entries.now c.loop-i.i (length c.args.results.now) (length c.loop-i.results) _ (map room_of c.args.parts.now) (map room_of c.loop-i.parts) (map room_of c.leave_at.new.parts) c.requires.rising c.loop-i-test.true c.loop-i.invariant.entries c.loop-i.invariant.count c.loop-i.invariant.taken
      c.in_ok-leave_at.ensures.rooms c.in_ok-leave_at.ensures.others c.in_ok-leave_at.ensures.births c.in_ok-leave_at.ensures.uses;
}

pub returns-in_err-leave_at-clause-succeeds : goal.returns-in_err-leave_at-clause-succeeds
returns-in_err-leave_at-clause-succeeds g c = λ all.
    let wrong = c.in_err-leave_at.ensures.succeeds (births_next c.args.entries.now c.loop-i.i (length c.args.results.now) (length c.loop-i.results) _ (map room_of c.args.parts.now) (map room_of c.loop-i.parts) c.loop-i-test.true c.loop-i.invariant.count c.loop-i.invariant.taken all) in cc wrong

pub returns-clause-births : goal.returns-clause-births
returns-clause-births g c = λ n all. births_after c.args.entries.now c.loop-i.i (length c.args.results.now) (map room_of c.args.parts.now) (map room_of c.loop-i.parts) c.loop-i.invariant.taken n all

pub returns-clause-uses : goal.returns-clause-uses
returns-clause-uses g c = c.loop-i.invariant.taken.uses
