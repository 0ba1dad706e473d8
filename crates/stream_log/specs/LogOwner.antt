-- The fields of an owner and of a token, and what contracts see of them. Source: this project.
use Rattle.std.specs.Prelude.{◌≡◌, ℕ, ◌+◌, ◌*◌, ◌^◌, ◌<◌, ◌≤◌, List, [], length, None}
use Rattle.stream_log.specs.declared.owner.Owner.TheInside.{Inside}
use Rattle.stream_log.specs.declared.seen.Seen.TheInside.{Inside as SeenInside}
use Rattle.stream_log.specs.declared.place.Place.TheVariants.{Owner, Token, Spent}
use Rattle.stream_log.specs.Log.{OwnerView, SeenView, owner_view, seen_view, last_time}
use Rattle.stream_log.specs.LogRule.{Line, Place, desk, ticket, codes, ArePlain}

-- the list that a seat knows
abbrev pub list_of : Place → List Line
list_of (Owner d) = d.list
list_of (Token t) = t.list
list_of Spent = []

-- the threads whose tokens a seat holds
abbrev pub held_of : Place → List ℕ
held_of (Owner d) = d.held
held_of (Token t) = []
held_of Spent = []

-- what contracts see of an owner
abbrev pub view_of : Inside → OwnerView
view_of o = owner_view o.seat.table_id (list_of o.seat.me.0) (held_of o.seat.me.0) o.entries o.results

-- between calls nothing is pending, and no token's list is kept
pub record IsAtRest (o : Inside) : Type 0 where
  pub idle : o.seat.me ≡ (Owner (desk (list_of o.seat.me.0) [] (held_of o.seat.me.0) None), [])
  pub used : o.used ≡ length (codes (list_of o.seat.me.0))
  pub room : o.used + 2 * o.entries + o.results + 1 ≤ o.seat.table_id.words
  pub wide : o.seat.table_id.words < 2 ^ 34
  pub few : o.results < 2 ^ 31
  pub plain : ArePlain (list_of o.seat.me.0)
  pub last : o.last ≡ last_time (list_of o.seat.me.0)

-- the thread whose token a seat is
abbrev pub thread_of : Place → ℕ
thread_of (Owner d) = 0
thread_of (Token t) = t.thread
thread_of Spent = 0

-- what contracts see of a token
abbrev pub seen_of : SeenInside → SeenView
seen_of s = seen_view s.seat.table_id (thread_of s.seat.me.0) (list_of s.seat.me.0)

-- the seat is a token
abbrev pub IsToken : SeenInside → Type 0
IsToken s = s.seat.me ≡ (Token (ticket (thread_of s.seat.me.0) (list_of s.seat.me.0)), [])
