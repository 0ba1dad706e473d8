-- When reading a setup ends without an answer. Source: this project.
use Rattle.std.specs.Prelude.{ℕ, ◌<◌, ⊤}
use Rattle.layer_search.specs.Paths.{most_paths}
use Rattle.layer_search.specs.declared.errors.SearchError.{SearchError}
use Rattle.layer_search.specs.declared.errors.SearchError.TheVariants.{Tree, TooMany, NoMemory}

-- an error says that there are too many paths only where a search meets more than it may
abbrev pub MeetsTooMany : ℕ → SearchError → Type 0
MeetsTooMany most Tree = ⊤
MeetsTooMany most (TooMany count) = most_paths < most
MeetsTooMany most NoMemory = ⊤
