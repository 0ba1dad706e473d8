-- What the places of a chain find at a call. Source: this project.
use Rattle.std.specs.Prelude.{ℕ, Bool, true, false, Option, List, [], ◌∷◌, ◌++◌, map}
use Rattle.object_model.specs.Rules.{Failure}

-- a failure that a place reports: the loader is place 0, the parts of the chain are numbered from 1, from the application down
pub record Report : Type 0 where
  pub place : ℕ
  pub failure : Failure

-- the reports at a call, and the place that stops it
pub record Findings : Type 0 where
  pub reports : List Report
  pub stop : Option ℕ

-- failures at a place
abbrev pub at_place : ℕ → List Failure → List Report
at_place k fs = map (λ f. record { place = k; failure = f }) fs

-- there is a failure
abbrev pub is_failing : List Failure → Bool
is_failing [] = false
is_failing (f ∷ fs) = true

-- the findings of a place come before those of the places below it
abbrev pub above : List Report → Findings → Findings
above reports below = record { reports = reports ++ below.reports; stop = below.stop }
