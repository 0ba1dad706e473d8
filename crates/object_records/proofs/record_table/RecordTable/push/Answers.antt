use Rattle.std.proofs.Common.{◌≡◌, ◌≤◌, ◌+◌, ℕ, List, false, length, sym, subst, arith}
use Rattle.object_records.specs.Links.{AreFew, with_linked}
use Rattle.object_records.specs.Passed.{WasWidened}
use Rattle.object_records.specs.Queues.{padded, queues_seen}
use Rattle.object_records.specs.Table.{TableState, before_owned}
use Rattle.object_records.proofs.Linking.{few_children}
use Rattle.object_records.proofs.Tables.{added_table}
use Rattle.object_records.proofs.record_table.RecordTable.push.Goals as goal

pub add-requires-clause-few : goal.add-requires-clause-few
add-requires-clause-few c = few_children c.self.inside.records.records c.self.inside.links.links c.self.invariant.linked

pub add_queue_links-requires-clause-few : goal.add_queue_links-requires-clause-few
add_queue_links-requires-clause-few c =
    let count : c.len-count.result ≡ length c.self.inside.records.records = omega (arith, c.len-count.ensures.count) in
    subst (λ n. AreFew (padded n c.self.inside.queues.items)) (sym count) (few_children (queues_seen c.self.inside.records.records) (padded (length c.self.inside.records.records) c.self.inside.queues.items) c.self.invariant.queued)

pub invariant_of-self : goal.invariant_of-self
invariant_of-self c =
    let rs = c.self.inside.records.records in
    let count : c.len-count.result ≡ length rs = omega (arith, c.len-count.ensures.count) in
    let low : before_owned c.args.added.owner ≤ length rs = subst (λ (s : TableState). before_owned c.args.added.owner ≤ length s.records) (sym c.self.view_is) c.requires.owner in
    added_table rs c.push.new.self.records c.self.inside.links.links c.add.new.self.links c.self.inside.queues.items c.add_queue_links.new.queues.items c.self.inside.passed.items c.widen_for.new.passed.items c.self.inside.has_strays
    c.has_stray-self-inside.result c.args.added c.self.invariant low (record {
      records_are = c.push.ensures.records;
      child = c.may_be_child.result;
      child_is = c.may_be_child.ensures;
      links_are = c.add.ensures.links;
      owner = c.queue_owner.result;
      owner_is = c.queue_owner.ensures;
      queues_are = subst (λ n. padded (n + 1) c.add_queue_links.new.queues.items ≡ with_linked (padded n c.self.inside.queues.items) c.queue_owner.result false) count c.add_queue_links.ensures.links;
      short = omega (arith, c.add_queue_links.ensures.long, count);
      passed_are = subst (λ (ns : List ℕ). WasWidened ns c.widen_for.new.passed.items) (c.reopen.ensures rs c.owner_above-above.ensures) c.widen_for.ensures;
      stray_is = c.has_stray-self-inside.ensures;
    })
