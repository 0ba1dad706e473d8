-- What stands in memory while a chain is built. Source: this project.
use Rattle.std.specs.Prelude.{◌≡◌, ℕ, List, map, Option, option_map}
use Rattle.std.specs.Global.{Vec}
use Rattle.std.specs.Borrow.{Bor}
use Rattle.layer_search.specs.Contents.{found_layer}
use Rattle.chain_build.specs.Switches.{FilterSet}
use Rattle.chain_build.specs.Expanding.{ListedLayer, expansion}
use Rattle.chain_build.specs.declared.switches.Filters.{Filters}
use Rattle.chain_build.specs.declared.listed.Listed.{Listed}

-- what the filters hold
abbrev pub filter_set : Filters → FilterSet
filter_set filters = record { disable = filters.disable; enable = filters.enable; allow = filters.allow }

-- what a `Listed` stands for
abbrev pub listed_layer : Listed → ListedLayer
listed_layer l = record { kind = l.kind; layer = found_layer l.layer.now }

-- borrowed texts
abbrev pub texts_of : List (Bor (List ℕ)) → List (List ℕ)
texts_of texts = map (λ text. text.now) texts

-- the names of a row's entry, where there are any
abbrev pub names_content : Option (Vec (Bor (List ℕ))) → Option (List (List ℕ))
names_content names = option_map (λ v. texts_of v.items) names

-- a row holds what each layer stands for with so many levels of meta-layers
abbrev pub IsRow : ℕ → List ListedLayer → List (Option (Vec (Bor (List ℕ)))) → Type 0
IsRow levels layers row = map names_content row ≡ map (λ l. expansion layers levels l.layer) layers
