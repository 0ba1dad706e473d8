use Rattle.std.proofs.Common.{◌≡◌, ◌≤◌, ◌+◌, length, map}
use Rattle.layer_model.specs.Ids.{issue_all}
use Rattle.layer_model.specs.Parts.{there}
use Rattle.unique_layer.specs.Shown.{key_asked}
use Rattle.unique_layer.proofs.Issued.{from_place}
use Rattle.unique_layer.proofs.state.UniqueState.issue_all.Given as goal

abbrev pub invariant-loop-k : goal.invariant-loop-k
invariant-loop-k l = record {
  ids : from_place l.self.ids (key_asked l.key) l.ty l.k l.results ≡ issue_all l.fn.self.ids (key_asked l.key) l.ty 0 (map there l.fn.results);
  spare : l.fn.self.spare ≤ l.self.spare + l.k;
  count : length l.results ≡ length l.fn.results;
  first : l.k ≡ 0 → l.self.ids ≡ l.fn.self.ids;
  unchanged : l.k ≡ 0 → l.results ≡ l.fn.results;
}
