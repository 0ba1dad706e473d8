-- The parts of a chain, what comes of a call on its way down, and of its results on their way up.
-- Source: Khronos Vulkan-Loader interface documents (layers intercept calls in order); how far a reported call goes is this project's.
use Rattle.std.specs.Prelude.{ℕ, ◌+◌, Bool, true, false, ◌&&◌, ◌||◌, if◌then◌else◌, Some, None, List, [], ◌∷◌, map}
use Rattle.std.specs.List.{list_any}
use Rattle.std.specs.Option.{option_map_or}
use Rattle.command_tables.specs.declared.types.CommandId.{CommandId}
use Rattle.object_model.specs.declared.PartKind.{PartKind}
use Rattle.object_model.specs.declared.PartKind.TheVariants as part
use Rattle.command_tables.specs.Calls.{CallContent}
use Rattle.command_tables.specs.Table.{row_of}
use Rattle.command_tables.specs.Effects.{type_made}
use Rattle.object_model.specs.Rules.{Failure}
use Rattle.object_model.specs.Findings.{Findings, at_place, is_failing, above}
use Rattle.layer_model.specs.Ids.{IdMap, is_wrapped, no_ids}
use Rattle.layer_model.specs.Parts.{LifeModel, UseModel, life_failures, life_leave, life_passed, unique_enter, unique_leave, use_enter, use_failures, use_leave}
use Rattle.layer_model.specs.Reading.{read_call, read_made}

-- ---- the chain

-- what a part keeps
pub data PartState : Type 0 where
  Threads : (m : UseModel) → PartState
  Lifetimes : (m : LifeModel) → PartState
  Unique : (m : IdMap ℕ) → PartState

-- the kind of the part
abbrev pub kind_of : PartState → PartKind
kind_of (Threads m) = part.Threads
kind_of (Lifetimes m) = part.Lifetimes
kind_of (Unique m) = part.Unique

-- a part that was given nothing yet
abbrev pub new_part : PartKind → PartState
new_part part.Threads = Threads (record { births = []; living = []; opens = [] })
new_part part.Lifetimes = Lifetimes (record { births = []; living = [] })
new_part part.Unique = Unique no_ids

-- A part of this kind intercepts the command: a checking part all of them, a unique part those that name or make an object for which it issues ids.
abbrev pub intercepts : PartKind → CommandId → Bool
intercepts part.Threads c = true
intercepts part.Lifetimes c = true
intercepts part.Unique c = list_any (λ p. is_wrapped p.ty) (row_of c).params || option_map_or is_wrapped (type_made (row_of c).effect) false

-- there is a unique part
abbrev pub has_unique_kind : List PartKind → Bool
has_unique_kind [] = false
has_unique_kind (part.Threads ∷ kinds) = has_unique_kind kinds
has_unique_kind (part.Lifetimes ∷ kinds) = has_unique_kind kinds
has_unique_kind (part.Unique ∷ kinds) = true

-- each checking part has a unique part below it
abbrev pub are_parts_guarded : List PartKind → Bool
are_parts_guarded [] = true
are_parts_guarded (part.Threads ∷ kinds) = has_unique_kind kinds && are_parts_guarded kinds
are_parts_guarded (part.Lifetimes ∷ kinds) = has_unique_kind kinds && are_parts_guarded kinds
are_parts_guarded (part.Unique ∷ kinds) = are_parts_guarded kinds

-- among what parts keep is that of a unique part
abbrev pub has_unique : List PartState → Bool
has_unique states = has_unique_kind (map kind_of states)

-- what parts keep is of a guarded list
abbrev pub is_guarded : List PartState → Bool
is_guarded states = are_parts_guarded (map kind_of states)

-- what comes of a call on its way down: the states then, the call as it stood above each part that it reached, what was found, and the call below the last place
pub record Walked : Type 0 where
  pub states : List PartState
  pub forms : List CallContent
  pub found : Findings
  pub bottom : CallContent

-- nothing further is found
abbrev pub nothing_found : Findings
nothing_found = record { reports = []; stop = None }

-- a part passed a call on
abbrev pub passed : PartState → CallContent → ℕ → List Failure → Walked → Walked
passed s c k fs below = record { states = s ∷ below.states; forms = c ∷ below.forms; found = above (at_place k fs) below.found; bottom = below.bottom }

-- a part stopped a call
abbrev pub stopped : List PartState → CallContent → ℕ → List Failure → Walked
stopped states c k fs = record { states = states; forms = c ∷ []; found = record { reports = at_place k fs; stop = Some k }; bottom = c }

-- the walk down from place k
abbrev pub enter_parts : ℕ → ℕ → ℕ → List PartState → CallContent → Walked
enter_parts thread number k [] c = record { states = []; forms = []; found = nothing_found; bottom = c }
enter_parts thread number k (Threads m ∷ states) c =
    passed (Threads (use_enter m thread number c.cmd (read_call c))) c k (use_failures m thread c.cmd (read_call c)) (enter_parts thread number (k + 1) states c)
enter_parts thread number k (Lifetimes m ∷ states) c =
    if is_failing (life_failures m c.cmd (read_call c)) then stopped (Lifetimes m ∷ states) c k (life_failures m c.cmd (read_call c))
    else passed (Lifetimes (life_passed m c.cmd (read_call c))) c k [] (enter_parts thread number (k + 1) states c)
enter_parts thread number k (Unique m ∷ states) c = passed (Unique m) c k [] (enter_parts thread number (k + 1) states (unique_enter m c))

-- what comes of results on their way up
pub record Left : Type 0 where
  pub states : List PartState
  pub results : List ℕ

-- one part, with what came from below
abbrev pub leave_part : ℕ → PartState → CallContent → Left → Left
leave_part thread (Threads m) c below =
    record { states = Threads (use_leave m thread c.cmd (read_call c) (read_made (type_made (row_of c.cmd).effect) below.results)) ∷ below.states; results = below.results }
leave_part thread (Lifetimes m) c below =
    record { states = Lifetimes (life_leave m c.cmd (read_call c) (read_made (type_made (row_of c.cmd).effect) below.results)) ∷ below.states; results = below.results }
leave_part thread (Unique m) c below = let all = unique_leave m c below.results in record { states = Unique all.ids ∷ below.states; results = all.results }

-- the walk up, through the parts that the call had reached, with the handles that come from below the last
abbrev pub leave_parts : ℕ → List PartState → List CallContent → List ℕ → Left
leave_parts thread [] forms hs = record { states = []; results = hs }
leave_parts thread (s ∷ states) [] hs = record { states = s ∷ states; results = hs }
leave_parts thread (s ∷ states) (c ∷ forms) hs = leave_part thread s c (leave_parts thread states forms hs)
