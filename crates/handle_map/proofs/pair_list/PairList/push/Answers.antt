use Rattle.handle_map.specs.declared.kept_pair.KeptPair.{KeptPair}
use Rattle.handle_map.proofs.Listed.{pushed_list, pushed_pairs}
use Rattle.handle_map.proofs.pair_list.PairList.push.Goals as goal

pub invariant_of-self : goal.invariant_of-self
invariant_of-self c =
    let k : KeptPair = record { number = c.keep_id-number.result.0; ty = c.args.ty; is_wide = c.keep_id-number.result.1 } in
    pushed_list c.self.inside.wide.items c.keep_id-number.new.wide.items c.self.inside.kept.items c.push.new.self.items c.args.id k c.self.invariant (record {
      wide_is = c.keep_id-number.ensures.wide;
      reads = c.keep_id-number.ensures.kept;
      within = c.keep_id-number.ensures.within;
      kept_are = rw c.unwrap.ensures at c.push.ensures.items;
    })

pub returns-clause-pairs : goal.returns-clause-pairs
returns-clause-pairs c =
    let k : KeptPair = record { number = c.keep_id-number.result.0; ty = c.args.ty; is_wide = c.keep_id-number.result.1 } in
    rw (← c.self.view_is)
    (pushed_pairs c.self.inside.wide.items c.keep_id-number.new.wide.items c.self.inside.kept.items c.push.new.self.items c.args.id k c.self.invariant (record {
      wide_is = c.keep_id-number.ensures.wide;
      reads = c.keep_id-number.ensures.kept;
      within = c.keep_id-number.ensures.within;
      kept_are = rw c.unwrap.ensures at c.push.ensures.items;
    }))
