use Rattle.std.proofs.Common.{◌∙◌, ap, map}
use Rattle.std.proofs.lemmas.List.{map-append}
use Rattle.chain_build.specs.Expanding.{name_of}
use Rattle.chain_build.specs.Holding.{listed_layer}
use Rattle.chain_build.proofs.Names.{step_known, step_new}
use Rattle.chain_build.proofs.by_name.ByName.add.Goals as goal
use Rattle.chain_build.proofs.by_name.ByName.add.Goals.{then-branch+in_ok-push, else-branch}

pub returns : goal.returns
returns c = λ met h. elim c.if-branch.branch [
  | then-branch+in_ok-push w ↦ ap (λ v. map listed_layer v.items) w.layers-is ∙ (ap (map listed_layer) w.in_ok-push.ensures.items ∙ (map-append listed_layer c.args.self.layers.items _
      ∙ step_new name_of c.as_str.result.now c.args.self.names.keys _ met _ c.in_ok-insert.field-0 c.args.self.paired c.as_str.ensures.value c.in_ok-insert.ensures.added w.if-branch.true h))
  | else-branch w ↦ ap (λ v. map listed_layer v.items) w.layers-is
      ∙ step_known name_of c.as_str.result.now c.args.self.names.keys _ met _ c.in_ok-insert.field-0 c.args.self.paired c.as_str.ensures.value c.in_ok-insert.ensures.added w.if-branch.false h
]
