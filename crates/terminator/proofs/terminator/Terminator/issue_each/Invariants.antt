use Rattle.std.proofs.Common.{◌≡◌, ◌≤◌, ◌+◌, ◌*◌, length}
use Rattle.terminator.specs.Shown.{answers_in, bytes_of, drivers_named, key_asked}
use Rattle.terminator.proofs.Issuing.{Issuing, left_from}
use Rattle.terminator.proofs.terminator.Terminator.issue_each.Given as goal

abbrev pub invariant-loop-place : goal.invariant-loop-place
invariant-loop-place l =
    let i : Issuing = record { key = key_asked l.fn.key; ty = l.fn.ty; cmd = l.fn.answers.cmd; answers = answers_in l.fn.answers; drivers = drivers_named l.fn.answers.receivers } in
    record {
      left : left_from i l.self.ids l.self.routes l.place l.results ≡ left_from i l.fn.self.ids l.fn.self.routes 0 l.fn.results;
      drivers : l.self.drivers ≡ l.fn.self.drivers;
      count : length l.results ≡ length l.fn.results;
      spare : l.fn.self.spare ≤ l.self.spare + l.place;
      values : l.fn.self.values ≤ l.self.values + l.place * length (drivers_named l.fn.answers.receivers);
      bytes : l.fn.self.bytes ≤ l.self.bytes + l.place * bytes_of (key_asked l.fn.key);
      first : l.place ≡ 0 → l.self.ids ≡ l.fn.self.ids;
      first_routes : l.place ≡ 0 → l.self.routes ≡ l.fn.self.routes;
      unchanged : l.place ≡ 0 → l.results ≡ l.fn.results;
    }
