use Rattle.std.proofs.Common.{map}
use Rattle.std.specs.List.{flat_map}
use Rattle.trace_format.specs.Content.{content}
use Rattle.stream_plans.specs.Contents.{stream_part}
use Rattle.stream_plans.proofs.TableLemmas.{knows_all}
use Rattle.stream_plans.proofs.filling.table_of.Goals as goal

pub returns : goal.returns
returns c =
    knows_all c.new-table.result.rows.items c.add_events.new.table.rows.items c.add_streams.new.table.rows.items c.add_events-2.new.table.rows.items (map content c.args.setup.now) (flat_map (λ s. s.events) (map stream_part c.args.streams.now)) (map content c.args.teardown.now)
    c.new-table.ensures c.in_ok-add_events.ensures c.in_ok-add_streams.ensures c.in_ok-add_events-2.ensures
