use Rattle.std.proofs.Common.{◌≡◌, map, take, string_bytes}
use Rattle.layer_search.specs.Places.{AllIn, place_content}
use Rattle.layer_search.proofs.places.only_folders.Given as goal

-- one place for each folder so far
abbrev pub invariant-loop-folder : goal.invariant-loop-folder
invariant-loop-folder l = map place_content l.places.items ≡ map AllIn (map string_bytes (take l.folder-index l.folders))
