use Rattle.std.proofs.Common.{◌≡◌, ◌++◌, map, take, string_bytes}
use Rattle.layer_search.specs.Folders.{suffix_of}
use Rattle.layer_search.proofs.folder_list.folders.Given as goal

-- one folder for each base so far
abbrev pub invariant-loop-base : goal.invariant-loop-base
invariant-loop-base l = map string_bytes l.folders.items ≡ map (λ base. base ++ suffix_of l.kind) (map string_bytes (take l.base-index l.base-items))
