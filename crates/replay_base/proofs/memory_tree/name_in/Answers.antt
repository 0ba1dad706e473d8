use Rattle.std.proofs.Common.{◌≡◌, ◌∙◌, ap, sym, true, false, option_map, Bor, List, ℕ}
use Rattle.replay_base.specs.Files.{is_name, name_in}
use Rattle.replay_base.proofs.FileLemmas.{no_name, name_of, not_name}
use Rattle.replay_base.proofs.memory_tree.name_in.Goals as goal

pub returns-in_err-name : goal.returns-in_err-name
returns-in_err-name c = ap (option_map (λ (n : Bor (List ℕ)). n.now)) c.from_residual.ensures ∙ sym (no_name c.args.folder.now c.args.path.now c.in_err-name.ensures)

pub returns-then-is_name : goal.returns-then-is_name
returns-then-is_name c =
    let name = c.in_ok-name.name.now in
    let is : is_name name ≡ true = sym c.is_name.ensures ∙ c.if-is_name.true in
    sym (ap (name_in c.args.folder.now) c.in_ok-name.ensures ∙ name_of c.args.folder.now name is)

pub returns-else-is_name : goal.returns-else-is_name
returns-else-is_name c =
    let name = c.in_ok-name.name.now in
    let is : is_name name ≡ false = sym c.is_name.ensures ∙ c.if-is_name.false in
    sym (ap (name_in c.args.folder.now) c.in_ok-name.ensures ∙ not_name c.args.folder.now name is)
