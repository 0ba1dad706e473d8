-- What a chain's answer holds. Source: this project.
use Rattle.std.specs.Prelude.{ℕ, List, map, string_bytes, ⊤, ◌≡◌}
use Rattle.layer_search.specs.Contents.{found_layer, found_driver}
use Rattle.chain_build.specs.Chain.{NoteOf, ChainContent, Outcome}
use Rattle.chain_build.specs.Chain.{EnvMissing as missing_note, Off as off_note, LayerNotPresent as not_present, NoDriver as no_driver, TooLong as too_long, Unguarded as unguarded, Built as built}
use Rattle.chain_build.specs.declared.answers.ChainNote.{ChainNote}
use Rattle.chain_build.specs.declared.answers.ChainNote.TheVariants.{EnvMissing, Off}
use Rattle.chain_build.specs.declared.answers.Chain.{Chain}
use Rattle.chain_build.specs.declared.answers.ChainAnswer.{ChainAnswer}
use Rattle.chain_build.specs.declared.answers.ChainAnswer.TheVariants as answer
use Rattle.chain_build.specs.declared.answers.ChainError.{ChainError}
use Rattle.chain_build.specs.declared.answers.ChainError.TheVariants as error

-- what a `ChainNote` holds
abbrev pub note_of : ChainNote → NoteOf
note_of (EnvMissing name) = missing_note (string_bytes name)
note_of (Off name) = off_note (string_bytes name)

-- what a `Chain` holds
abbrev pub chain_content : Chain → ChainContent
chain_content chain = record {
  layers = map found_layer chain.layers.items;
  parts = chain.parts.items;
  drivers = map found_driver chain.drivers.items;
  notes = map note_of chain.notes.items;
}

-- what a `ChainAnswer` says
abbrev pub answer_content : ChainAnswer → Outcome
answer_content (answer.Chain chain) = built (chain_content chain)
answer_content (answer.LayerNotPresent name) = not_present (string_bytes name)
answer_content answer.NoDriver = no_driver
answer_content (answer.Unguarded layer) = unguarded (string_bytes layer)

-- what an error says of the outcome: that the chain is too long, or nothing where there was no memory
abbrev pub IsRefusal : Outcome → ChainError → Type 0
IsRefusal outcome (error.TooLong count) = outcome ≡ too_long count
IsRefusal outcome error.NoMemory = ⊤
