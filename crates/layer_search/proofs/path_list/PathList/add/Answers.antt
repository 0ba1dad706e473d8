use Rattle.std.proofs.Common.{◌≡◌, ◌∙◌, ◌++◌, [], ◌∷◌, ap, sym, arith, map, length, string_bytes, length-append}
use Rattle.std.proofs.lemmas.List.{length-map, map-append}
use Rattle.layer_search.specs.Order.{firsts}
use Rattle.layer_search.proofs.FirstOnes.{known_kept, new_kept}
use Rattle.layer_search.proofs.path_list.PathList.add.Goals as goal

pub returns-then-not-branch-clause-added : goal.returns-then-not-branch-clause-added
returns-then-not-branch-clause-added c = λ met h.
    let r = known_kept _ _ _ _ _ met c.as_str.ensures.value (c.in_ok-is_new.ensures met h.knows) c.if-not-branch.true h.kept in
    record { knows = r.0; kept = r.1 }

pub returns-then-len-ge-MOST_PATHS-clause-limit : goal.returns-then-len-ge-MOST_PATHS-clause-limit
returns-then-len-ge-MOST_PATHS-clause-limit c = λ met h.
    let r = new_kept _ _ _ _ _ met c.as_str.ensures.value (c.in_ok-is_new.ensures met h.knows) c.if-not-branch.false h.kept in
    let grown : length (map string_bytes c.args.self.now.list.items ++ string_bytes c.args.path ∷ []) ≡ length (firsts (λ p. p) (met ++ string_bytes c.args.path ∷ [])) = ap length r.1 in
    let count : c.len.result ≡ length (map string_bytes c.args.self.now.list.items) = c.len.ensures ∙ (c.args.self.now.list.ok.0 ∙ sym (length-map c.args.self.now.list.items string_bytes)) in
    rw (← grown, length-append) (omega arith)

pub returns-clause-added : goal.returns-clause-added
returns-clause-added c = λ met h.
    let r = new_kept _ _ _ _ _ met c.as_str.ensures.value (c.in_ok-is_new.ensures met h.knows) c.if-not-branch.false h.kept in
    record { knows = r.0; kept = ap (map string_bytes) c.in_ok-push.ensures.items ∙ (map-append string_bytes c.args.self.now.list.items (c.args.path ∷ []) ∙ r.1) }
