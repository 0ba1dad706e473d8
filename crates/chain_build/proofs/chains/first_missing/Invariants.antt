use Rattle.std.proofs.Common.{◌≡◌, map, drop, find, string_bytes}
use Rattle.chain_build.specs.Chain.{is_missing}
use Rattle.chain_build.specs.Setup.{setup_content}
use Rattle.chain_build.proofs.chains.first_missing.Given as goal

abbrev pub invariant-loop-name : goal.invariant-loop-name
invariant-loop-name l = find (is_missing (setup_content l.builder.setup.now)) (map string_bytes l.app) ≡ find (is_missing (setup_content l.builder.setup.now)) (map string_bytes (drop l.name-index l.app))
