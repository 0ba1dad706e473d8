-- What the manifests, the environment and the words come to, as far as a trace asks: the drivers, the notes, and the chain for each list of application layers.
-- Source: Khronos Vulkan-Loader interface documents (a chain of layers is built at vkCreateInstance); that a chain may be refused, and with which codes, is this project's.
use Rattle.std.specs.Prelude.{ℕ, Bool, true, false, Option, Some, None, List, []}
use Rattle.command_tables.specs.declared.types.Code.{Code}
use Rattle.object_model.specs.declared.PartKind.{PartKind}

-- What comes of a vkCreateInstance: a chain, by its checking and wrapping parts from the application down, with the text of its lines for the call's number;
-- a refusal, with the code that is answered and its text; or a chain of too many layers, with their number, at which a run ends.
pub data Outcome : Type 0 where
  Chain : (parts : List PartKind) (text : ℕ → List ℕ) → Outcome
  Refused : (code : Code) (text : ℕ → List ℕ) → Outcome
  TooLong : (layers : ℕ) → Outcome

-- the number of drivers, the text of the notes that stand before the trace, and the outcome for each payload of a vkCreateInstance
pub record Setup : Type 0 where
  pub drivers : ℕ
  pub notes : List ℕ
  pub outcome : List ℕ → Outcome

-- the parts of the chain, where there is one
abbrev pub parts_of : Outcome → List PartKind
parts_of (Chain parts text) = parts
parts_of (Refused code text) = []
parts_of (TooLong layers) = []

-- the code of a refusal
abbrev pub refusal_of : Outcome → Option Code
refusal_of (Chain parts text) = None
refusal_of (Refused code text) = Some code
refusal_of (TooLong layers) = None

-- the lines of the outcome at the call with this number
abbrev pub outcome_text : Outcome → ℕ → List ℕ
outcome_text (Chain parts text) number = text number
outcome_text (Refused code text) number = text number
outcome_text (TooLong layers) number = []

-- the chain would have too many layers
abbrev pub is_too_long : Outcome → Bool
is_too_long (Chain parts text) = false
is_too_long (Refused code text) = false
is_too_long (TooLong layers) = true
