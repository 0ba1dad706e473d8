use Rattle.std.proofs.Common.{◌≡◌, ◌∙◌, ◌≤◌, ◌<◌, ap, sym, map, None, Some, length, arith, position, ◌++◌}
use Rattle.replay_base.specs.Files.{bytes_at}
use Rattle.replay_base.proofs.PutLemmas.{file_of, has_path, read_found, read_missing, reads_absent, reads_large, reads_data}
use Rattle.replay_base.proofs.memory_tree.MemTreeTree.read.Goals as goal

pub returns-in_default-clause-bytes : goal.returns-in_default-clause-bytes
returns-in_default-clause-bytes c =
    let path = c.args.path.now in
    let items = c.self.inside.files.items in
    let same : c.args.self.now.files ≡ map file_of items = sym (ap (λ t. t.files) (c.self.view_is ∙ c.step.ensures.counted)) in
    let none : position (has_path file_of path) items ≡ None = ap (position (has_path file_of path)) (sym c.deref.ensures.value) ∙ sym c.in_default.ensures in
    reads_absent _ c.args.max _ (ap (λ fs. bytes_at fs path) same ∙ read_missing file_of path items none) c.clear.ensures.items

pub returns-then-len-max-clause-bytes : goal.returns-then-len-max-clause-bytes
returns-then-len-max-clause-bytes c =
    let path = c.args.path.now in
    let items = c.self.inside.files.items in
    let same : c.args.self.now.files ≡ map file_of items = sym (ap (λ t. t.files) (c.self.view_is ∙ c.step.ensures.counted)) in
    let some : position (has_path file_of path) items ≡ Some c.in-Some.at = ap (position (has_path file_of path)) (sym c.deref.ensures.value) ∙ sym c.in-Some.ensures in
    let found = read_found file_of path items c.in-Some.at c.index.result.now some c.index.ensures in
    let large : c.args.max < length c.index.result.now.bytes.items = omega (arith, c.index.result.now.bytes.ok.0) in
    reads_large _ c.index.result.now.bytes.items c.args.max _ (ap (λ fs. bytes_at fs path) same ∙ found) large c.clear.ensures.items

pub returns-clause-bytes : goal.returns-clause-bytes
returns-clause-bytes c =
    let path = c.args.path.now in
    let items = c.self.inside.files.items in
    let same : c.args.self.now.files ≡ map file_of items = sym (ap (λ t. t.files) (c.self.view_is ∙ c.step.ensures.counted)) in
    let some : position (has_path file_of path) items ≡ Some c.in-Some.at = ap (position (has_path file_of path)) (sym c.deref.ensures.value) ∙ sym c.in-Some.ensures in
    let found = read_found file_of path items c.in-Some.at c.index.result.now some c.index.ensures in
    let small : length c.index.result.now.bytes.items ≤ c.args.max = omega (arith, c.index.result.now.bytes.ok.0) in
    reads_data _ c.index.result.now.bytes.items c.args.max _ (ap (λ fs. bytes_at fs path) same ∙ found) small (c.in_ok-extend_from_slice.ensures.items ∙ (ap (λ bytes. bytes ++ c.deref-2.result.now) c.clear.ensures.items ∙ c.deref-2.ensures.value))
