-- The most manifest files that a search of a setup meets.
use Rattle.std.proofs.Common.{◌≡◌, ℕ, ◌<◌, ◌≤◌, List, None, Option, length, max, arith, ap, subst, sym}
use Rattle.replay_base.specs.Files.{File}
use Rattle.env_filters.specs.Variables.{Variable}
use Rattle.manifest_reader.specs.declared.entries.LayerKind.TheVariants.{Explicit, Implicit}
use Rattle.layer_search.specs.Causes.{MeetsLimit}
use Rattle.layer_search.specs.Found.{driver_paths, layer_paths, layers_found}
use Rattle.layer_search.specs.declared.errors.SearchError.{SearchError}
use Rattle.layer_search.specs.declared.errors.SearchError.TheVariants.{Tree, TooMany, NoMemory}
use Rattle.chain_build.specs.Causes.{MeetsTooMany}
use Rattle.chain_build.specs.Override.{most_met, active_override, folders_again, paths_again}
use Rattle.chain_build.specs.Switches.{filters_of}

-- too many in one search are too many
pub meets : (paths : List (List ℕ)) (most : ℕ) (e : SearchError) → length paths ≤ most → MeetsLimit paths e → MeetsTooMany most e
meets paths most Tree l h = tt
meets paths most (TooMany count) l h = omega arith
meets paths most NoMemory l h = tt

module _ (files : List File) (env : List Variable) (root exe : List ℕ) where
  -- each search meets the most at most
  pub driver_within : length (driver_paths files env root) ≤ most_met files env root exe
  unfolding most_met
  driver_within = omega arith

  pub explicit_within : length (layer_paths files env root Explicit None) ≤ most_met files env root exe
  unfolding most_met
  explicit_within = omega arith

  pub implicit_within : length (layer_paths files env root Implicit None) ≤ most_met files env root exe
  unfolding most_met
  implicit_within = omega arith

  pub again_within : (folders : List (List ℕ)) → folders ≡ folders_again (active_override (filters_of env) env exe (layers_found files env root Implicit None).list) → length (paths_again files env root folders) ≤ most_met files env root exe
  unfolding most_met
  again_within folders same = let e = ap (λ fs. length (paths_again files env root fs)) same in omega (arith, e)

  -- where none meets more than a bound, the most is within it
  pub most_within : (folders : List (List ℕ)) (bound : ℕ) → folders ≡ folders_again (active_override (filters_of env) env exe (layers_found files env root Implicit None).list)
      → length (driver_paths files env root) ≤ bound → length (layer_paths files env root Explicit None) ≤ bound → length (layer_paths files env root Implicit None) ≤ bound → length (paths_again files env root folders) ≤ bound
      → most_met files env root exe ≤ bound
  unfolding most_met
  most_within folders bound same a b c d = let e = ap (λ fs. length (paths_again files env root fs)) same in omega (arith, e)
