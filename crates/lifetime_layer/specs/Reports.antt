-- Findings of the program as reports of the model. Source: this project.
use Rattle.std.specs.Prelude.{ℕ, List, map}
use Rattle.command_tables.specs.declared.types.CommandId.{CommandId}
use Rattle.command_tables.specs.Table.{ParamSpec}
use Rattle.object_model.specs.declared.Argument.{Argument}
use Rattle.object_model.specs.Findings.{Report, at_place}
use Rattle.object_model.specs.Objects.{is_in}
use Rattle.object_model.specs.Rules.{failure, failures_at}
use Rattle.layer_model.specs.Parts.{LifeModel}
use Rattle.lifetime_layer.specs.declared.finding.Finding.{Finding}

-- a finding as a report
abbrev pub report_of : Finding → Report
report_of f = record { place = f.place; failure = failure f.param f.index f.rule f.detail }

-- findings as reports, in order
abbrev pub reports_of : List Finding → List Report
reports_of fs = map report_of fs

-- what a part at this place reports at one argument
abbrev pub reports_at : ℕ → LifeModel → CommandId → List (List Argument) → ℕ → ParamSpec → ℕ → Argument → List Report
reports_at place m c args i p k a = at_place place (failures_at m.births (is_in m.living) c args i p k a)
