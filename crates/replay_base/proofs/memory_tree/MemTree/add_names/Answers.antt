use Rattle.std.proofs.Common.{◌∙◌, ◌≤◌, ◌<◌, ◌++◌, [], ap, sym, map, length, string_bytes, append_assoc, arith}
use Rattle.std.specs.List.{filter_map, cons_option}
use Rattle.std.proofs.lemmas.List.{take_all}
use Rattle.replay_base.specs.Files.{File, name_in, names_in}
use Rattle.replay_base.proofs.FileLemmas.{filter_map-more, names_once}
use Rattle.replay_base.proofs.PutLemmas.{file_of}
use Rattle.replay_base.proofs.memory_tree.MemTree.add_names.Goals as goal

pub loop-file-preserved : goal.loop-file-preserved
loop-file-preserved c =
    let folder = c.args.folder.now in
    let items = c.deref-file-items.result.now in
    let i = c.loop-file.file-index in
    let before = map string_bytes c.args.out.now.items in
    let within : i < length items = omega arith in
    let more = filter_map-more file_of (λ (f : File). name_in folder f.path) items i c.file-item.result within c.file-item.is in
    let added = c.in_ok-add_name.ensures ∙ ap (λ p. map string_bytes c.loop-file.out.items ++ cons_option (name_in folder p) []) c.as_str.ensures.value in
    added ∙ (ap (λ xs. xs ++ cons_option (name_in folder (string_bytes c.file-item.result.path)) []) c.loop-file.invariant ∙ (append_assoc before _ _ ∙ ap (λ xs. before ++ xs) (sym more)))

pub returns : goal.returns
returns c =
    let folder = c.args.folder.now in
    let items = c.self.inside.files.items in
    let before = map string_bytes c.args.out.now.items in
    let all : length c.deref-file-items.result.now ≤ c.loop-file.file-index = omega arith in
    let whole = ap (λ fs. filter_map (λ (f : File). name_in folder f.path) (map file_of fs)) (take_all c.loop-file.file-index _ all ∙ c.deref-file-items.ensures.value) in
    let named = sym (names_once folder (map file_of items) c.self.invariant) ∙ ap (λ t. names_in t.files folder) c.self.view_is in
    c.loop-file.invariant ∙ ap (λ xs. before ++ xs) (whole ∙ named)
