use Rattle.std.proofs.Common.{◌≡◌, ◌++◌, map, take, string_bytes}
use Rattle.std.specs.List.{filter_map}
use Rattle.replay_base.specs.Files.{File, name_in}
use Rattle.replay_base.proofs.PutLemmas.{file_of}
use Rattle.replay_base.proofs.memory_tree.MemTree.add_names.Given as goal

-- the names of the files so far
abbrev pub invariant-loop-file : goal.invariant-loop-file
invariant-loop-file l = map string_bytes l.out.items ≡ map string_bytes l.initial.out.items ++ filter_map (λ (f : File). name_in l.folder f.path) (map file_of (take l.file-index l.file-items))
