use Rattle.command_tables.specs.Table.{row_of}
use Rattle.object_records.proofs.Places.{place_there}
use Rattle.object_records.proofs.reading.argument_at.Goals as goal

pub read_place-requires-clause-place : goal.read_place-requires-clause-place
read_place-requires-clause-place c =
    place_there (row_of c.args.call.now.cmd).params c.args.call.now.args.lists c.args.call.now.args.marks c.args.p c.args.k c.requires.shape c.len-count.ensures.marks c.requires.place
