-- The kinds of a search. Source: this project.
use Rattle.manifest_reader.specs.declared.entries.LayerKind.{LayerKind}
use Rattle.manifest_reader.specs.declared.entries.LayerKind.TheVariants as layer
use Rattle.layer_search.specs.declared.kinds.SearchKind.{SearchKind}
use Rattle.layer_search.specs.declared.kinds.SearchKind.TheVariants.{Explicit, Implicit}

-- the search that finds the layers of a kind
abbrev pub search_of : LayerKind → SearchKind
search_of layer.Explicit = Explicit
search_of layer.Implicit = Implicit
