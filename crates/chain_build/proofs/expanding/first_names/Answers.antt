use Rattle.std.proofs.Common.{◌∙◌, ap, sym, Bor, List, ℕ}
use Rattle.std.proofs.lemmas.List.{map-append}
use Rattle.layer_search.specs.Order.{firsts}
use Rattle.chain_build.specs.Holding.{texts_of}
use Rattle.chain_build.proofs.Names.{keys_new, keys_known, texts_more, names_new, names_known}
use Rattle.chain_build.proofs.expanding.first_names.Goals as goal
use Rattle.chain_build.proofs.expanding.first_names.Goals.{then-branch+in_ok-push, else-branch}

pub loop-name-preserved : goal.loop-name-preserved
loop-name-preserved c =
    let more = texts_more c.args.names.now c.loop-name.name-index _ c.loop-name-test.true in
    elim c.if-branch.branch [
      | then-branch+in_ok-push w ↦
          let pushed = ap (λ v. texts_of v.items) w.kept-is ∙ (ap texts_of w.in_ok-push.ensures.items ∙ map-append (λ (t : Bor (List ℕ)). t.now) c.loop-name.kept.items _) in
          record {
            known = keys_new _ _ _ _ _ _ c.in_ok-insert.ensures.keys c.in_ok-insert.ensures.added w.if-branch.true c.loop-name.invariant.known ∙ sym pushed;
            kept = pushed ∙ (names_new _ _ _ _ _ c.loop-name.invariant.known c.in_ok-insert.ensures.added w.if-branch.true c.loop-name.invariant.kept ∙ ap (firsts (λ n. n)) more);
          }
      | else-branch w ↦
          record {
            known = keys_known _ _ _ _ _ _ c.in_ok-insert.ensures.keys c.in_ok-insert.ensures.added w.if-branch.false c.loop-name.invariant.known ∙ sym (ap (λ v. texts_of v.items) w.kept-is);
            kept = ap (λ v. texts_of v.items) w.kept-is ∙ (names_known _ _ _ _ _ c.loop-name.invariant.known c.in_ok-insert.ensures.added w.if-branch.false c.loop-name.invariant.kept ∙ ap (firsts (λ n. n)) more);
          }
    ]
