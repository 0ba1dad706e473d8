use Rattle.std.proofs.Common.{Vec, Global, arith, map}
use Rattle.std.proofs.lemmas.List.{length-map}
use Rattle.object_model.specs.declared.Argument.{Argument}
use Rattle.session_tables.specs.Shown.{args_shown}
use Rattle.chain_model.specs.Chained.{handle_by}
use Rattle.chain_model.specs.Handed.{handle_in}
use Rattle.session_parts.proofs.Counted.{counted}
use Rattle.session_parts.proofs.forms.put_call.Goals as goal

pub returns-in_err-put_form-clause-succeeds : goal.returns-in_err-put_form-clause-succeeds
returns-in_err-put_form-clause-succeeds c = λ within room.
    let h = handle_by (handle_in c.args.handed.now.handed) in
    let ats = args_shown c.args.args.now in
    let wrong = c.in_err-put_form.ensures.succeeds within (record {
      slots = omega (arith, length-map ats (map h), length-map c.args.args.now (λ (v : Vec Argument Global). v.items), room.handles.slots);
      room = omega (arith, counted h ats, room.handles.room);
    }) in
    cc wrong
