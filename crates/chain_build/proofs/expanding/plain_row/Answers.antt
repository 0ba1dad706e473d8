use Rattle.std.proofs.Common.{◌≡◌, ◌∙◌, ap, map, take, arith}
use Rattle.std.proofs.lemmas.Grind.{common_steps}
use Rattle.chain_build.specs.Expanding.{expansion}
use Rattle.chain_build.specs.Holding.{listed_layer, names_content}
use Rattle.chain_build.proofs.Names.{row_more}
use Rattle.chain_build.proofs.expanding.plain_row.Goals as goal

pub loop-listed-preserved : goal.loop-listed-preserved
loop-listed-preserved c = record {
  row = λ all. ap (map names_content) c.in_ok-push.ensures.items ∙ row_more names_content (λ k. expansion all 0 k.layer) listed_layer c.loop-listed.row.items _ c.args.layers.now c.loop-listed.listed-index c.listed-item.result (c.loop-listed.invariant.row all) c.loop-listed-test.true c.listed-item.is (c.in_ok-plain.ensures all);
  len = grind (arith, common_steps);
}

pub returns-clause-row : goal.returns-clause-row
returns-clause-row c =
    let whole : take c.loop-listed.listed-index c.args.layers.now ≡ c.args.layers.now = grind (arith, common_steps) in
    rw whole at (c.loop-listed.invariant.row (map listed_layer c.args.layers.now))
