-- What comes of a call and of its results at the parts, from a place on.
use Rattle.std.specs.Prelude.{◌≡◌, ◌≤◌, ℕ, ◌+◌, ◌==◌, nat_le, Bool, true, false, if◌then◌else◌, Option, Some, None, List, [], ◌∷◌, ◌++◌, map, slice_get}
use Rattle.std.specs.List.{AllByRecursion, list_any}
use Rattle.std.specs.Option.{option_map_or}
use Rattle.command_tables.specs.declared.types.CommandId.{CommandId}
use Rattle.command_tables.specs.declared.types.Effect.{Effect}
use Rattle.command_tables.specs.declared.types.Effect.TheVariants as eff
use Rattle.command_tables.specs.declared.types.ObjectType.{ObjectType}
use Rattle.object_model.specs.declared.Object.{Object}
use Rattle.object_model.specs.declared.Argument.{Argument}
use Rattle.object_model.specs.declared.Argument.TheVariants.{Null, Unborn, The}
use Rattle.replay_model.specs.declared.Born.{Born}
use Rattle.command_tables.specs.Calls.{CallContent}
use Rattle.command_tables.specs.Table.{ParamSpec, row_of}
use Rattle.object_model.specs.Objects.{same}
use Rattle.object_model.specs.History.{Call, Begins, Returns, Birth, History, births, alive, owners_given}
use Rattle.replay_model.specs.Past.{Past, Retrieval, history, retrievals, objects_of}
use Rattle.object_model.specs.Keys.{key_payload}
use Rattle.replay_model.specs.ChainPlaces.{seen_past, parts_checked, findings}
use Rattle.layer_model.specs.Walks.{PartState, Threads, Lifetimes, Unique, kind_of, Walked, Left}
use Rattle.chain_model.proofs.OneByOne.{AreDecided, Asking, births_after, retrievals_after}
use Rattle.chain_model.specs.Chained.{AreForms, StatesMirror, form_by, handle_above}
use Rattle.chain_model.specs.Tokens.{number_in}

-- the object in a place has the type of its parameter
abbrev pub HasType : ObjectType → Argument → Type 0
HasType t Null = Unit {0}
HasType t Unborn = Unit {0}
HasType t (The o) = o.ty ≡ t

-- the arguments are those of the parameters
abbrev pub AreTyped : List ParamSpec → List (List Argument) → Type 0
AreTyped [] [] = Unit {0}
AreTyped [] (args ∷ parts) = ⊥
AreTyped (p ∷ ps) [] = ⊥
AreTyped (p ∷ ps) (args ∷ parts) = AllByRecursion (HasType p.ty) args × AreTyped ps parts

-- what each place has seen with a begin more, where the call goes as far as this place
abbrev pub reaches_to : Option ℕ → ℕ → Bool
reaches_to stop j = option_map_or (nat_le j) stop true

abbrev pub stops_in : Option ℕ → ℕ → Bool
stops_in stop j = option_map_or (λ n. n == j) stop false

abbrev pub seen_begun : (ℕ → History) → Call → Option ℕ → ℕ → History
seen_begun seen call stop j = if reaches_to stop j then Begins call (stops_in stop j) ∷ seen j else seen j

-- the stop, if there is one, isn't above place k
abbrev pub StopsFrom : ℕ → Option ℕ → Type 0
StopsFrom k None = Unit {0}
StopsFrom k (Some j) = k ≤ j

-- where a lifetimes part stands, what it has seen lives as in the whole history
abbrev pub LivesSeen : (ℕ → History) → History → ℕ → List PartState → Type 0
LivesSeen seen h k [] = Unit {0}
LivesSeen seen h k (Threads m ∷ states) = LivesSeen seen h (k + 1) states
LivesSeen seen h k (Lifetimes m ∷ states) = ((o : Object) → alive (seen k) o ≡ alive h o) × LivesSeen seen h (k + 1) states
LivesSeen seen h k (Unique m ∷ states) = LivesSeen seen h (k + 1) states

-- What comes of a call that comes to place k, in the form in which it stands there: what is found is what the past says, the parts keep what they have
-- seen then, and below the last place the call stands in the handles there.
pub record WalksWell (past : Past) (f : Object → ℕ) (c : CallContent) (call : Call) (k : ℕ) (states : List PartState) (w : Walked) : Type 0 where
  pub found : w.found ≡ findings (parts_checked past call k (map kind_of states))
  pub below : StopsFrom k w.found.stop
  pub mirror : StatesMirror (births (history past)) (retrievals past) f (seen_begun (seen_past past) call w.found.stop) k w.states
  pub kinds : map kind_of w.states ≡ map kind_of states
  pub bottom : w.found.stop ≡ None → w.bottom ≡ form_by (handle_above [] (births (history past)) f) c call.args
  pub forms : AreForms (reaches_to w.found.stop) (form_by (number_in (births (history past))) c call.args) k states w.forms

-- by its effect: whether a call creates
abbrev pub creates : Effect → Bool
creates (eff.Create t owner many) = true
creates _ = false

-- the owners of what it makes or gives
abbrev pub owners_by : List Birth → List (List Argument) → Effect → List Object
owners_by bs args (eff.Create t owner many) = owners_given bs args owner
owners_by bs args (eff.Retrieve t owner many) = owners_given bs args owner
owners_by bs args _ = []

-- what it retrieves by
abbrev pub asking_by : List Birth → CommandId → List ℕ → List (List Argument) → Effect → Option Asking
asking_by bs c payload args (eff.Retrieve t owner many) = Some (record { owner = slice_get (owners_given bs args owner) 0; payload = key_payload c payload })
asking_by bs c payload args _ = None

-- births and retrievals after a call of this command, payload and arguments has made this
abbrev pub births_then : List Birth → CommandId → List (List Argument) → List Born → List Birth
births_then bs c args made = births_after (creates (row_of c).effect) (owners_by bs args (row_of c).effect) bs made

abbrev pub retrievals_then : List Birth → List Retrieval → CommandId → List ℕ → List (List Argument) → List Born → List Retrieval
retrievals_then bs rs c payload args made =
    retrievals_after (creates (row_of c).effect) (owners_by bs args (row_of c).effect) (asking_by bs c payload args (row_of c).effect) bs rs made

-- what was made has the type of the command, and each of its objects is new or was retrieved before by its place; a command that makes nothing has made nothing
abbrev pub HaveMade : List Birth → List Retrieval → CommandId → List ℕ → List (List Argument) → Option ObjectType → List Born → Type 0
HaveMade bs rs c payload args None made = made ≡ []
HaveMade bs rs c payload args (Some t) made = AreDecided (asking_by bs c payload args (row_of c).effect) t bs rs made

-- an object is among what was made
abbrev pub is_made : List Born → Object → Bool
is_made made o = list_any (λ b. same b.object o) made

-- what each place has seen with a return more
abbrev pub seen_returned : (ℕ → History) → (ℕ → Bool) → Call → List Born → ℕ → History
seen_returned seen reach call made j = if reach j then Returns call (objects_of made) ∷ seen j else seen j

-- the handles of what was made above these parts, with 0 for each lost result
abbrev pub results_above : {X : Type 0} → List PartState → List Birth → (Object → ℕ) → List Born → List X → List ℕ
results_above states bs f made lost = map (λ b. handle_above states bs f b.object) made ++ map (λ _. 0) lost

-- What comes of results that come to place k from below: the parts keep what they have seen then, and the results are the objects' handles above.
pub record LeavesWell (X : Type 0) (past : Past) (f : Object → ℕ) (bs : List Birth) (rs : List Retrieval) (reach : ℕ → Bool) (call : Call) (made : List Born) (lost : List X) (k : ℕ) (states : List PartState) (l : Left) : Type 0 where
  pub mirror : StatesMirror bs rs f (seen_returned (seen_past past) reach call made) k l.states
  pub kinds : map kind_of l.states ≡ map kind_of states
  pub results : l.results ≡ results_above states bs f made lost
