-- Small layers, drivers and chains, on which the definitions are tried by computation. Source: this project.
use Rattle.std.specs.Prelude.{ℕ, false, None, List, [], ◌∷◌, codes}
use Rattle.layer_search.specs.Contents.{DriverFound, LayerFound, NoteContent}
use Rattle.layer_search.specs.declared.found.NoteKind.{NoteKind}
use Rattle.chain_build.specs.Chain.{ChainContent, EnvMissing, Off}
use Rattle.chain_build.specs.Setup.{SetupContent}
use Rattle.object_model.specs.declared.PartKind.TheVariants.{Threads, Unique}

-- a layer without a library
abbrev pub layer : List ℕ → List ℕ → LayerFound
layer name path = record {
  path = path;
  entry = record { name = name; library = None; components = []; disable = None; enable = None; blacklist = []; app_keys = []; override_paths = [] };
}

-- a driver
abbrev pub driver : List ℕ → List ℕ → DriverFound
driver path library = record { path = path; entry = record { library = library; portability = false } }

-- a note
abbrev pub note : NoteKind → List ℕ → NoteContent
note kind path = record { kind = kind; path = path }

-- two layers, of which the second has two parts, two drivers and two notes
abbrev pub small_chain : ChainContent
small_chain = record {
  layers = layer (codes "one") (codes "/l/one.json") ∷ layer (codes "two") (codes "two.json") ∷ [];
  parts = (Threads, 2) ∷ (Unique, 2) ∷ [];
  drivers = driver (codes "/d/a.json") (codes "lib/a.so") ∷ driver (codes "/d/b.json") (codes "libb.so") ∷ [];
  notes = EnvMissing (codes "none") ∷ Off (codes "off") ∷ [];
}

-- a setup that has these notes of drivers, of explicit and of implicit layers
abbrev pub noted_setup : List NoteContent → List NoteContent → List NoteContent → SetupContent
noted_setup drivers explicit implicit = record {
  drivers = record { list = []; notes = drivers };
  explicit = record { list = []; notes = explicit };
  implicit = record { list = []; notes = implicit };
  over = None;
  env = [];
  exe = [];
}
