-- What the parts of a chain keep says the same as the past. Source: this project.
use Rattle.std.specs.Prelude.{◌≡◌, ℕ, ◌+◌, Bool, true, false, if◌then◌else◌, List, [], ◌∷◌, map}
use Rattle.object_model.specs.declared.Object.{Object}
use Rattle.object_model.specs.declared.Argument.{Argument}
use Rattle.object_model.specs.declared.Argument.TheVariants.{Null, Unborn, The}
use Rattle.command_tables.specs.Calls.{CallContent}
use Rattle.object_model.specs.History.{Birth, History}
use Rattle.object_model.specs.Renaming.{renamed}
use Rattle.replay_model.specs.Past.{Retrieval}
use Rattle.layer_model.specs.Ids.{is_wrapped}
use Rattle.layer_model.specs.Histories.{LifeMirrors, UseMirrors}
use Rattle.layer_model.specs.Walks.{PartState, Threads, Lifetimes, Unique, has_unique}
use Rattle.chain_model.specs.Mirrored.{Mirrors}
use Rattle.chain_model.specs.Tokens.{number_in, token_in}

-- ---- a call in handles

-- the handle of an argument, by the handles of objects
abbrev pub handle_by : (Object → ℕ) → Argument → ℕ
handle_by g Null = 0
handle_by g Unborn = 0
handle_by g (The o) = g o

-- the mark of an argument
abbrev pub is_unborn : Argument → Bool
is_unborn Null = false
is_unborn Unborn = true
is_unborn (The o) = false

-- a call as it stands where objects have these handles
abbrev pub form_by : (Object → ℕ) → CallContent → List (List Argument) → CallContent
form_by g c args = record c { args = map (map (handle_by g)) args; unborn = map (map is_unborn) args }

-- the handle of an object above these parts: its number where there is a unique part among them, else what is below them
abbrev pub handle_above : List PartState → List Birth → (Object → ℕ) → Object → ℕ
handle_above states bs f o = if has_unique states then number_in bs o else (if is_wrapped o.ty then f o else number_in bs o)

-- ---- states

-- the parts from place k on keep what they have seen, in tokens, by the births, the retrievals and the values of wrapped objects below
abbrev pub StatesMirror : List Birth → List Retrieval → (Object → ℕ) → (ℕ → History) → ℕ → List PartState → Type 0
StatesMirror bs rs f seen k [] = Unit {0}
StatesMirror bs rs f seen k (Threads m ∷ states) = UseMirrors (renamed (token_in bs) (seen k)) m × StatesMirror bs rs f seen (k + 1) states
StatesMirror bs rs f seen k (Lifetimes m ∷ states) = LifeMirrors (renamed (token_in bs) (seen k)) m × StatesMirror bs rs f seen (k + 1) states
StatesMirror bs rs f seen k (Unique m ∷ states) = Mirrors ℕ is_wrapped (handle_above states bs f) bs rs m × StatesMirror bs rs f seen (k + 1) states

-- ---- a call on its way down

-- the call stands in this form above each part that it reaches, and above no other
abbrev pub AreForms : (ℕ → Bool) → CallContent → ℕ → List PartState → List CallContent → Type 0
AreForms reach form k [] [] = Unit {0}
AreForms reach form k [] (c ∷ forms) = ⊥
AreForms reach form k (s ∷ states) [] = (reach k ≡ false) × AreForms reach form (k + 1) states []
AreForms reach form k (s ∷ states) (c ∷ forms) = (reach k ≡ true) × (c ≡ form) × AreForms reach form (k + 1) states forms

-- ---- results on their way up
