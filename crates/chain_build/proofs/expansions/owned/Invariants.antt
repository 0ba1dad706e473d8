use Rattle.std.proofs.Common.{◌≡◌, map, take, string_bytes}
use Rattle.chain_build.specs.Holding.{texts_of}
use Rattle.chain_build.proofs.expansions.owned.Given as goal

-- each name so far
abbrev pub invariant-loop-name : goal.invariant-loop-name
invariant-loop-name l = map string_bytes l.owned.items ≡ texts_of (take l.name-index l.names)
