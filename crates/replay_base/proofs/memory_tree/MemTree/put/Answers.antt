use Rattle.std.proofs.Common.{◌≡◌, ◌∙◌, ap, sym, map, None, Some, List, position, subst, refl}
use Rattle.replay_base.specs.Files.{File, PathsOnce, put_file}
use Rattle.replay_base.specs.Memory.{TreeState}
use Rattle.replay_base.proofs.PutLemmas.{file_of, has_path, put_found, put_pushed, put_once}
use Rattle.replay_base.proofs.memory_tree.MemTree.put.Goals as goal

pub invariant_of-self : goal.invariant_of-self
invariant_of-self c =
    let path = c.args.path.now in
    let items = c.self.inside.files.items in
    let some : position (has_path file_of path) items ≡ Some c.in-Some.at = ap (position (has_path file_of path)) (sym c.deref.ensures.value) ∙ sym c.in-Some.ensures in
    let put = put_found file_of path items c.in-Some.at c.index_mut.result.now (record { path = c.index_mut.result.now.path; bytes = c.in_ok-bytes.bytes }) c.args.bytes.now some c.index_mut.ensures.value refl c.in_ok-bytes.ensures.items in
    subst PathsOnce (sym put) (put_once (map file_of items) path c.args.bytes.now c.self.invariant)

pub invariant_of-self-in-Continue-branch-3 : goal.invariant_of-self-in-Continue-branch-3
invariant_of-self-in-Continue-branch-3 c =
    let path = c.args.path.now in
    let items = c.self.inside.files.items in
    let none : position (has_path file_of path) items ≡ None = ap (position (has_path file_of path)) (sym c.deref.ensures.value) ∙ sym c.in-None.ensures in
    let pushed = put_pushed file_of path items (record { path = c.in_ok-path_kept.path_kept; bytes = c.in_ok-bytes.bytes }) c.args.bytes.now none c.in_ok-path_kept.ensures.ok c.in_ok-bytes.ensures.items in
    subst PathsOnce (sym (ap (map file_of) c.in_ok-push-in-None.ensures.items ∙ pushed)) (put_once (map file_of items) path c.args.bytes.now c.self.invariant)

pub returns-in-Some-clause-put : goal.returns-in-Some-clause-put
returns-in-Some-clause-put c =
    let path = c.args.path.now in
    let items = c.self.inside.files.items in
    let some : position (has_path file_of path) items ≡ Some c.in-Some.at = ap (position (has_path file_of path)) (sym c.deref.ensures.value) ∙ sym c.in-Some.ensures in
    let put = put_found file_of path items c.in-Some.at c.index_mut.result.now (record { path = c.index_mut.result.now.path; bytes = c.in_ok-bytes.bytes }) c.args.bytes.now some c.index_mut.ensures.value refl c.in_ok-bytes.ensures.items in
    ap (λ (fs : List File). let t : TreeState = record { files = fs; calls = c.self.inside.calls; fails = c.self.inside.fails.items; faults = c.self.inside.faults } in t) put
    ∙ ap (λ (t : TreeState). let u : TreeState = record t { files = put_file t.files path c.args.bytes.now } in u) c.self.view_is

pub returns-in_ok-push-in-None-clause-put : goal.returns-in_ok-push-in-None-clause-put
returns-in_ok-push-in-None-clause-put c =
    let path = c.args.path.now in
    let items = c.self.inside.files.items in
    let none : position (has_path file_of path) items ≡ None = ap (position (has_path file_of path)) (sym c.deref.ensures.value) ∙ sym c.in-None.ensures in
    let pushed = put_pushed file_of path items (record { path = c.in_ok-path_kept.path_kept; bytes = c.in_ok-bytes.bytes }) c.args.bytes.now none c.in_ok-path_kept.ensures.ok c.in_ok-bytes.ensures.items in
    let put = ap (map file_of) c.in_ok-push-in-None.ensures.items ∙ pushed in
    ap (λ (fs : List File). let t : TreeState = record { files = fs; calls = c.self.inside.calls; fails = c.self.inside.fails.items; faults = c.self.inside.faults } in t) put
    ∙ ap (λ (t : TreeState). let u : TreeState = record t { files = put_file t.files path c.args.bytes.now } in u) c.self.view_is
