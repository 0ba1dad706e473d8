use Rattle.std.proofs.Common.{◌≤◌, take}
use Rattle.std.specs.List.{list_any}
use Rattle.session_tables.specs.Lined.{AreLeft}
use Rattle.session_tables.proofs.Listing.{goes_below}
use Rattle.session_tables.proofs.object_table.ObjectTable.end_below_named.Given as goal

abbrev pub invariant-loop-argument : goal.invariant-loop-argument
invariant-loop-argument l = record {
  left : AreLeft l.fn.self.births (λ o. list_any (λ a. goes_below l.fn.self.births a o) (take l.argument-index l.at)) l.self.births;
  spare : l.fn.self.spare ≤ l.self.spare;
  links : l.fn.self.links ≤ l.self.links;
  owners : l.fn.self.owners ≤ l.self.owners;
}
