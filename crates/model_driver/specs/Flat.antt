-- Lists that stand one behind another in one vector, and calls with their replies in such lists. Source: this project.
use Rattle.std.specs.Prelude.{◌≡◌, ℕ, zero, suc, ◌+◌, ◌*◌, ◌-◌, ◌≤◌, List, [], ◌∷◌, take, drop}
use Rattle.command_tables.specs.Calls.{DriverCallContent, ReplyContent}
use Rattle.command_tables.specs.Handles.{list_at}
use Rattle.model_driver.specs.declared.call_head.CallHead.{CallHead}
use Rattle.model_driver.specs.Seats.{SeatRoom}

-- the lists, how many elements they have in all, and how many lists and elements more can be held with no further memory
pub record FlatState (A : Type 0) : Type 0 where
  pub lists : List (List A)
  pub count : ℕ
  pub slots : ℕ
  pub room : ℕ

-- each list ends no earlier than it starts, and starts where the one before it ends; the last ends with the elements
abbrev pub AreEnds : ℕ → List ℕ → ℕ → Type 0
AreEnds start [] total = start ≡ total
AreEnds start (end ∷ ends) total = (start ≤ end) × AreEnds end ends total

-- the elements from a place on, cut where the lists end
abbrev pub cut_at : {A : Type 0} → ℕ → List ℕ → List A → List (List A)
cut_at start [] items = []
cut_at start (end ∷ ends) items = take (end - start) items ∷ cut_at end ends (drop (end - start) items)

-- where a list starts: where the one before it ends
abbrev pub start_from : ℕ → List ℕ → ℕ → ℕ
start_from start ends zero = start
start_from start [] (suc i) = start
start_from start (end ∷ ends) (suc i) = start_from end ends i

-- a call with its reply, where the reply has the call's code
abbrev pub exchange_of : CallHead → List (List ℕ) → List ℕ → List ℕ → DriverCallContent × ReplyContent
exchange_of h args payload handles = (record { driver = h.driver; cmd = h.cmd; args = args; asked = h.asked; code = h.code; payload = payload }, record { code = h.code; handles = handles })

-- calls with their replies: of each call there are as many lists of handles as it has parameters, then one of its reply, and one
-- list of payload bytes
abbrev pub exchanges_of : List CallHead → List (List ℕ) → List (List ℕ) → List (DriverCallContent × ReplyContent)
exchanges_of [] lists payloads = []
exchanges_of (h ∷ heads) lists payloads = exchange_of h (take h.params lists) (list_at payloads 0) (list_at lists h.params) ∷ exchanges_of heads (drop (h.params + 1) lists) (drop 1 payloads)

-- there are just the lists of these calls, none of which has more than six parameters
abbrev pub AreCalls : List CallHead → ℕ → ℕ → Type 0
AreCalls [] lists payloads = (lists ≡ 0) × (payloads ≡ 0)
AreCalls (h ∷ heads) lists payloads = (h.params ≤ 6) × (h.params + 1 ≤ lists) × (1 ≤ payloads) × AreCalls heads (lists - (h.params + 1)) (payloads - 1)

-- how many calls, lists of handles, lists of payload bytes, handles and payload bytes more can be held with no further memory
pub record FlatRoom : Type 0 where
  pub heads : ℕ
  pub lists : ℕ
  pub payloads : ℕ
  pub handles : ℕ
  pub bytes : ℕ

-- calls with their replies
pub record FlatCallsState : Type 0 where
  pub calls : List (DriverCallContent × ReplyContent)
  pub room : FlatRoom

-- there is room for so much, as each call takes up to seven lists of handles
pub record FitsFlat (wanted : SeatRoom) (room : FlatRoom) : Type 0 where
  pub heads : wanted.calls ≤ room.heads
  pub lists : 7 * wanted.calls ≤ room.lists
  pub payloads : wanted.calls ≤ room.payloads
  pub handles : wanted.handles ≤ room.handles
  pub bytes : wanted.bytes ≤ room.bytes

-- no room is lost
pub record NoLess (before behind : FlatRoom) : Type 0 where
  pub heads : before.heads ≤ behind.heads
  pub lists : before.lists ≤ behind.lists
  pub payloads : before.payloads ≤ behind.payloads
  pub handles : before.handles ≤ behind.handles
  pub bytes : before.bytes ≤ behind.bytes

-- one call took so many handles and payload bytes of the room
pub record TakesCall (taken paid : ℕ) (before behind : FlatRoom) : Type 0 where
  pub heads : before.heads ≤ behind.heads + 1
  pub lists : before.lists ≤ behind.lists + 7
  pub payloads : before.payloads ≤ behind.payloads + 1
  pub handles : before.handles ≤ behind.handles + taken
  pub bytes : before.bytes ≤ behind.bytes + paid

-- a seat of a recording driver: the seat inside, its calls with their replies, and what it has room for of itself
pub record RecordedSeat (S : Type 0) : Type 0 where
  pub inner : S
  pub calls : List (DriverCallContent × ReplyContent)
  pub left : SeatRoom
