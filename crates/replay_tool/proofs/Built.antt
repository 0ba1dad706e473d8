-- What comes of building a chain can be printed, and its lines are those of the outcome by which traces are judged.
use Rattle.std.proofs.Common.{◌≡◌, ◌≤◌, ◌<◌, ◌^◌, ℕ, false, refl, arith, lit<, List, length}
use Rattle.layer_search.specs.Paths.{most_paths}
use Rattle.chain_build.specs.Answers.{answer_content}
use Rattle.chain_build.specs.Chain.{Outcome, LayerNotPresent, NoDriver, TooLong, Unguarded, Built, chain_of}
use Rattle.chain_build.specs.Setup.{SetupContent}
use Rattle.chain_build.specs.declared.answers.ChainAnswer.{ChainAnswer}
use Rattle.chain_build.specs.declared.answers.ChainAnswer.TheVariants as answer
use Rattle.replay_model.specs.Setup.{is_too_long, outcome_text}
use Rattle.report_text.specs.Chains.{IsPrintable, answer_text}
use Rattle.report_text.specs.Setups.{outcome_of}
use Rattle.report_text.proofs.Printing.{built_is_printable}

-- what was built is no chain that is too long
pub no_excess : (a : ChainAnswer) → is_too_long (outcome_of (answer_content a)) ≡ false
no_excess (answer.Chain chain) = refl
no_excess (answer.LayerNotPresent name) = refl
no_excess answer.NoDriver = refl
no_excess (answer.Unguarded layer) = refl

-- the lines of an outcome are those by which traces are judged
pub same_text : (o : Outcome) (call : ℕ) → outcome_text (outcome_of o) call ≡ answer_text call o
unfolding answer_text
same_text (LayerNotPresent name) call = refl
same_text NoDriver call = refl
same_text (TooLong layers) call = refl
same_text (Unguarded layer) call = refl
same_text (Built chain) call = refl

-- drivers are counted in 32 bits, which suffice for as many as there may be paths
paths_counted : most_paths < 2 ^ 32
paths_counted = lit< tt

-- what comes of a setup can be printed
pub printable : (setup : SetupContent) (app : List (List ℕ)) → length setup.drivers.list ≤ most_paths → IsPrintable (chain_of setup app)
printable setup app few = built_is_printable (chain_of setup app) setup app refl (omega (arith, few, paths_counted))
