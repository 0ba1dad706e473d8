use Rattle.std.proofs.Common.{◌≡◌, ◌++◌, map, string_bytes}
use Rattle.layer_search.specs.Places.{place_content, place_of}
use Rattle.layer_search.proofs.places.add_named.Given as goal

-- one place for each entry so far
abbrev pub invariant-loop-entry : goal.invariant-loop-entry
invariant-loop-entry l = map place_content l.places.items ≡ map place_content l.initial.places.items ++ map place_of (map string_bytes l.yielded)
