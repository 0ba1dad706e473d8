use Rattle.std.proofs.Common.{◌∙◌, ap, map, [], ◌∷◌, ◌++◌}
use Rattle.std.proofs.lemmas.List.{map-append}
use Rattle.layer_search.specs.Contents.{found_layer}
use Rattle.layer_search.specs.Found.{layer_at}
use Rattle.manifest_reader.specs.Contents.{layer_content}
use Rattle.layer_search.proofs.FirstOnes.{layer_known, layer_new}
use Rattle.layer_search.proofs.gathered.Gathered.add_entry.Goals as goal

pub returns-in_ok-push : goal.returns-in_ok-push
returns-in_ok-push c = λ met notes h.
    let r = layer_new _ _ (layer_at c.args.path.now (layer_content c.args.entry)) _ _ met c.as_str.ensures.value (c.in_ok-is_new.ensures _ h.knows) c.if-branch.true h.kept in
    record {
      knows = r.0;
      kept = ap (map found_layer) c.in_ok-push.ensures.items ∙ (map-append found_layer c.args.self.now.list.items _ ∙ (ap (λ path. map found_layer c.args.self.now.list.items ++ layer_at path (layer_content c.args.entry) ∷ []) c.in_ok-path.ensures.ok ∙ r.1));
      noted = h.noted;
    }

pub returns-else-branch : goal.returns-else-branch
returns-else-branch c = λ met notes h.
    let r = layer_known _ _ (layer_at c.args.path.now (layer_content c.args.entry)) _ _ met c.as_str.ensures.value (c.in_ok-is_new.ensures _ h.knows) c.if-branch.false h.kept in
    record { knows = r.0; kept = r.1; noted = h.noted }
