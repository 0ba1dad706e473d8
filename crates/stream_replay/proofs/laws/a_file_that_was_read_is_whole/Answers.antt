use Rattle.std.proofs.Common.{◌+◌, length, sym}
use Rattle.replay_base.specs.Lines.{lines_of}
use Rattle.stream_model.specs.Refusals.{lines_in}
use Rattle.stream_model.proofs.Orders.{so_far_in_order, whole_file}
use Rattle.stream_model.proofs.ReadEvents.{read_grammar}
use Rattle.stream_replay.proofs.laws.a_file_that_was_read_is_whole.Goals as goal

pub returns : goal.returns
returns c source file r =
    let both = whole_file (length (lines_of r.bytes) + 1) (lines_in (lines_of r.bytes)) r.lines r.are in
    record { lines = r.lines; order = so_far_in_order (lines_of r.bytes) r.lines both.0; grammar = read_grammar r.bytes r.lines r.are; whole = both.1; is = sym r.made }
