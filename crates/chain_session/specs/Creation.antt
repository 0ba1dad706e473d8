-- What comes of the begin of a call before it is judged. Source: Khronos Vulkan-Loader, LoaderApplicationInterface.md (a chain of layers is built at
-- vkCreateInstance, and its errors).
use Rattle.std.specs.Prelude.{◌≡◌, Bool, true, false, Option, Some, None, List, ⊤}
use Rattle.command_tables.specs.declared.types.Code.{Code}
use Rattle.object_model.specs.declared.PartKind.{PartKind}
use Rattle.replay_model.specs.Setup.{Outcome, Chain, Refused, TooLong}
use Rattle.dispatch_chain.specs.Rows.{kinds_placed}
use Rattle.chain_session.specs.declared.creation.Creation.{Creation}
use Rattle.chain_session.specs.declared.creation.Creation.TheVariants as creation
use Rattle.chain_session.specs.declared.error.SessionError.{SessionError}
use Rattle.chain_session.specs.declared.error.SessionError.TheVariants as error

-- the code of a refused call
abbrev pub refusal_in : Creation → Option Code
refusal_in creation.None = None
refusal_in (creation.Refused code) = Some code
refusal_in (creation.Starts chain) = None

-- a chain with these parts is what the call passes down
abbrev pub IsStart : List PartKind → Creation → Type 0
IsStart kinds creation.None = ⊥
IsStart kinds (creation.Refused code) = ⊥
IsStart kinds (creation.Starts chain) = kinds_placed chain.parts.items ≡ kinds

-- this is what comes of an outcome: a chain with its parts, or a refusal with its code; of a chain of too many layers comes nothing
abbrev pub IsCreation : Outcome → Creation → Type 0
IsCreation (Chain parts text) c = IsStart parts c
IsCreation (Refused code text) c = refusal_in c ≡ Some code
IsCreation (TooLong layers) c = ⊥

-- the command isn't vkCreateInstance
abbrev pub IsOther : Creation → Type 0
IsOther creation.None = ⊤
IsOther (creation.Refused code) = ⊥
IsOther (creation.Starts chain) = ⊥

-- what comes of a begin: at vkCreateInstance, which the first says, what comes of the outcome
abbrev pub IsCreated : Bool → Outcome → Creation → Type 0
IsCreated true outcome c = IsCreation outcome c
IsCreated false outcome c = IsOther c

-- an error says that the chain has too many layers, with their number, or that there was no memory
abbrev pub IsFaultOf : Outcome → SessionError → Type 0
IsFaultOf outcome (error.Chain count) = outcome ≡ TooLong count
IsFaultOf outcome error.NoMemory = ⊤

-- the same at a begin: without vkCreateInstance there is no chain
abbrev pub IsFault : Bool → Outcome → SessionError → Type 0
IsFault true outcome e = IsFaultOf outcome e
IsFault false outcome e = e ≡ error.NoMemory
