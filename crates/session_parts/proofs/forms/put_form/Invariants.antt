use Rattle.std.proofs.Common.{◌≡◌, ◌≤◌, map, take, vec_capacity}
use Rattle.command_tables.specs.Handles.{HasRoom}
use Rattle.session_tables.specs.Shown.{args_shown}
use Rattle.chain_model.specs.Chained.{handle_by, is_unborn}
use Rattle.chain_model.specs.Handed.{handle_in}
use Rattle.session_parts.proofs.forms.put_form.Given as goal

abbrev pub invariant-loop-arg : goal.invariant-loop-arg
invariant-loop-arg l = record {
  lists : l.form.args.lists ≡ map (map (handle_by (handle_in l.handed.handed))) (args_shown (take l.arg-index l.args));
  marks : l.form.args.marks ≡ map (map is_unborn) (args_shown (take l.arg-index l.args));
  cmd : l.form.cmd ≡ l.initial.form.cmd;
  asked : l.form.asked ≡ l.initial.form.asked;
  code : l.form.code ≡ l.initial.form.code;
  payload : l.form.payload ≡ l.initial.form.payload;
  handles_room : vec_capacity l.initial.room ≤ vec_capacity l.room;
  args_room : HasRoom l.form.args l.initial.form.args.slots l.initial.form.args.room;
}
