-- What a threads part says of a call, as reports. Source: this project.
use Rattle.std.specs.Prelude.{ℕ, List}
use Rattle.std.specs.List.{flat_map}
use Rattle.command_tables.specs.Table.{ParamSpec}
use Rattle.object_model.specs.declared.Argument.{Argument}
use Rattle.object_model.specs.Findings.{Report, at_place}
use Rattle.object_model.specs.Objects.{is_in, object_of}
use Rattle.object_model.specs.Uses.{Use, conflicts_in, least, overlap_at, uses_at}
use Rattle.layer_model.specs.Parts.{UseModel}

-- the uses of one argument
abbrev pub argument_uses : UseModel → ℕ → ParamSpec → ℕ → Argument → List Use
argument_uses m i p k a = uses_at m.births (is_in m.living) i p k (object_of a)

-- the reports of a place at one argument of a thread's call
abbrev pub argument_reports : ℕ → ℕ → UseModel → ℕ → ParamSpec → ℕ → Argument → List Report
argument_reports place thread m i p k a = at_place place (overlap_at i k (least (flat_map (conflicts_in m.opens thread) (argument_uses m i p k a))))
