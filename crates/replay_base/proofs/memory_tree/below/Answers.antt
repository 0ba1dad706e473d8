use Rattle.std.proofs.Common.{lit<, ◌≡◌, ◌∙◌, ◌++◌, ap, sym}
use Rattle.std.proofs.lemmas.Str.Pattern.{strip_prefix_char}
use Rattle.replay_base.proofs.FileLemmas.{behind_folder}
use Rattle.replay_base.proofs.memory_tree.below.Goals as goal

pub returns : goal.returns
returns c =
    let rest = c.in_ok-strip_prefix.field-0.now in
    let cut = c.in_ok-strip_prefix.ensures.cases in
    let at : c.args.path.now ≡ c.args.folder.now ++ rest = cut.1.1 ∙ ap (λ x. c.args.folder.now ++ x) (sym cut.2) in
    behind_folder c.args.folder.now c.args.path.now rest c.strip_prefix-2.result at (strip_prefix_char 47 rest c.strip_prefix-2.result c.strip_prefix-2.ensures.cases (lit< tt))
