use Rattle.std.proofs.Common.{◌≡◌, ◌-◌, Some, length, rules, slice_get}
use Rattle.session_parts.proofs.Stopping.{last_shown}
use Rattle.session_parts.proofs.judging.last_place.Goals as goal

pub returns-in-Some : goal.returns-in-Some
returns-in-Some c =
    let e : Some c.in-Some.finding ≡ slice_get c.args.findings.now (length c.args.findings.now - 1) = search rules in
    last_shown c.args.findings.now (Some c.in-Some.finding) e
