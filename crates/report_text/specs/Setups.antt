-- What a setup of manifests is to a trace: how many drivers there are, the notes, and the chain for each payload of a vkCreateInstance.
-- Source: Khronos Vulkan-Loader, LoaderApplicationInterface.md (the errors of vkCreateInstance); that the payload names the application's layers
-- between commas, and the code of an unguarded chain, are this project's choices.
use Rattle.std.specs.Prelude.{ℕ, List, length, map}
use Rattle.command_tables.specs.declared.types.Code.TheVariants.{ErrorLayerNotPresent, ErrorIncompatibleDriver, ErrorInitializationFailed}
use Rattle.env_filters.specs.Entries.{layer_names_of}
use Rattle.chain_build.specs.Chain as built
use Rattle.chain_build.specs.Setup.{SetupContent}
use Rattle.replay_model.specs.Setup.{Setup, Outcome, Chain, Refused, TooLong}
use Rattle.report_text.specs.Chains.{answer_text}
use Rattle.report_text.specs.Notes.{setup_notes}

-- what comes of building a chain, as traces are judged by it
abbrev pub outcome_of : built.Outcome → Outcome
outcome_of (built.LayerNotPresent name) = Refused ErrorLayerNotPresent (λ call. answer_text call (built.LayerNotPresent name))
outcome_of built.NoDriver = Refused ErrorIncompatibleDriver (λ call. answer_text call built.NoDriver)
outcome_of (built.TooLong layers) = TooLong layers
outcome_of (built.Unguarded layer) = Refused ErrorInitializationFailed (λ call. answer_text call (built.Unguarded layer))
outcome_of (built.Built chain) = Chain (map (λ p. p.0) chain.parts) (λ call. answer_text call (built.Built chain))

-- the setup under which a trace is judged
abbrev pub trace_setup : SetupContent → Setup
trace_setup setup = record {
  drivers = length setup.drivers.list;
  notes = setup_notes setup;
  outcome = λ payload. outcome_of (built.chain_of setup (layer_names_of payload));
}
