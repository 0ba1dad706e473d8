-- The bounds of walks, as their laws say them.
use Rattle.std.specs.Prelude.{◌≡◌, ◌≤◌, ◌+◌, ◌*◌, ◌==◌, ℕ, true, List, length}
use Rattle.std.specs.List.{list_any}
use Rattle.command_tables.specs.Calls.{CallContent}
use Rattle.layer_model.specs.Walks.{PartState, enter_parts, leave_parts}
use Rattle.dispatch_chain.specs.Room.{AreRoomy, PartRoom}
use Rattle.session_model.specs.Steps.{NoneOpen}
use Rattle.walk_bounds.specs.Bounds.{AllHaveUses, AllLight, HaveBorn, failures_most, uses_most, uses_together}

abbrev pub FindsFew : Type 0
FindsFew = (thread number k : ℕ) (states : List PartState) (c : CallContent) → length (enter_parts thread number k states c).found.reports ≤ length states * failures_most c

abbrev pub StaysLight : Type 0
StaysLight =
    (n born : ℕ) (threads : List ℕ) (thread number k : ℕ) (states : List PartState) (c : CallContent) → uses_most born c ≤ n → HaveBorn born states → list_any (λ t. thread == t) threads ≡ true
    → NoneOpen thread states → AllLight n threads states → AllLight n threads (enter_parts thread number k states c).states

abbrev pub LeavesLight : Type 0
LeavesLight = (n : ℕ) (threads : List ℕ) (thread : ℕ) (states : List PartState) (forms : List CallContent) (hs : List ℕ) → AllLight n threads states → AllLight n threads (leave_parts thread states forms hs).states

abbrev pub BearsNone : Type 0
BearsNone = (born thread number k : ℕ) (states : List PartState) (c : CallContent) → HaveBorn born states → HaveBorn born (enter_parts thread number k states c).states

abbrev pub BearsFew : Type 0
BearsFew = (born thread : ℕ) (states : List PartState) (forms : List CallContent) (hs : List ℕ) → HaveBorn born states → HaveBorn (born + length hs) (leave_parts thread states forms hs).states

abbrev pub LightAreRoomy : Type 0
LightAreRoomy = (n : ℕ) (threads : List ℕ) (states : List PartState) (rooms : List PartRoom) → AllLight n threads states → AllHaveUses (uses_together threads n) states rooms → AreRoomy states rooms
