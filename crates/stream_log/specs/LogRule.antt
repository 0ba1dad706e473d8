-- The rule of a log's words, and what its steps tell. Source: this project.
use Rattle.std.specs.Prelude.{◌≡◌, ℕ, ◌+◌, ◌*◌, ◌/◌, ◌%◌, ◌^◌, ◌<◌, Bool, true, false, nat_eq, All, List, [], ◌∷◌, ◌++◌, length, replicate, Contains, Option, Some, None}
use mathlib.Core.Option.{some}
use lib.ListN.{get_elem?}
use Rattle.atomic_table.specs.Table.{State, Me, Step}
pub use Rattle.stream_log.specs.declared.line.Line.{Line}
pub use Rattle.stream_log.specs.declared.ticket.Ticket.{Ticket}
pub use Rattle.stream_log.specs.declared.desk.Desk.{Desk}
pub use Rattle.stream_log.specs.declared.place.Place.{Place}
use Rattle.stream_log.specs.declared.place.Place.TheVariants.{Owner, Token, Spent}
use Rattle.stream_log.specs.Log.{line, IsPast, RisesFrom, without}

-- 1 for true
abbrev pub bit : Bool → ℕ
bit true = 1
bit false = 0

-- the word that ends an entry: its thread, whether it begins, and how many results it has
abbrev pub mark_of : ℕ → Bool → ℕ → ℕ
mark_of thread begins count = thread + (bit begins + 2 * count) * 2 ^ 32

-- an entry's words: its time, its results and its mark
abbrev pub code : Line → List ℕ
code e = e.time ∷ e.results ++ mark_of e.thread e.begins (length e.results) ∷ []

-- the words of a list
abbrev pub codes : List Line → List ℕ
codes [] = []
codes (e ∷ es) = code e ++ codes es

-- a token's view of these parts
abbrev pub ticket : ℕ → List Line → Ticket
ticket thread list = record { thread = thread; list = list }

-- an owner's view of these parts
abbrev pub desk : List Line → List ℕ → List ℕ → Option Ticket → Desk
desk list pending held kept = record { list = list; pending = pending; held = held; kept = kept }

-- the token knows a beginning of the list, and no later entry is of its thread
abbrev pub Fits : List Line → Ticket → Type 0
Fits list t = IsPast t.thread t.list list

-- so does a token that the owner keeps
abbrev pub KeptFits : List Line → Option Ticket → Type 0
KeptFits list None = Unit {0}
KeptFits list (Some t) = Fits list t

-- the words hold the list and, after it, the pending part. Words after that are 0
pub record IsLaid (size : ℕ) (d : Desk) (words : List ℕ) : Type 0 where
  pub free : ℕ
  pub all : words ≡ (codes d.list ++ d.pending) ++ replicate free 0
  pub size_is : length words ≡ size

-- what the rule says with the owner's seat and view
pub record Stands (size : ℕ) (owner : ℕ) (d : Desk) (s : State (Unit {0}) Place) : Type 0 where
  pub at_owner : get_elem? s.views owner ≡ some (Owner d)
  pub one_owner : (id : ℕ) (e : Desk) → get_elem? s.views id ≡ some (Owner e) → id ≡ owner
  pub laid : IsLaid size d s.words
  pub rises : RisesFrom 0 d.list
  pub fits : (id : ℕ) (t : Ticket) → get_elem? s.views id ≡ some (Token t) → Fits d.list t
  pub out : (id : ℕ) (t : Ticket) → get_elem? s.views id ≡ some (Token t) → ¬ Contains d.held t.thread
  pub once : (id other : ℕ) (t u : Ticket) → get_elem? s.views id ≡ some (Token t) → get_elem? s.views other ≡ some (Token u) → t.thread ≡ u.thread → id ≡ other
  pub kept : KeptFits d.list d.kept

-- one seat is the owner's, and the rule holds with its view
abbrev pub IsLog : ℕ → State (Unit {0}) Place → Type 0
IsLog size s = (owner : ℕ) × (d : Desk) × Stands size owner d s

-- the owner of an empty log, with the token of each thread
abbrev pub newcomer : List ℕ → Place
newcomer threads = Owner (desk [] [] threads None)

-- the owner is about to store the word `at`, and keeps no token's list
abbrev pub IsWriting : ℕ → Place → Type 0
IsWriting at (Owner d) = (at ≡ length (codes d.list ++ d.pending)) × (d.kept ≡ None)
IsWriting at (Token t) = ⊥
IsWriting at Spent = ⊥

-- the owner's view with more words pending
abbrev pub written : Place → List ℕ → Place
written (Owner d) ws = Owner (desk d.list (d.pending ++ ws) d.held d.kept)
written (Token t) ws = Token t
written Spent ws = Spent

-- the word that was stored is pending
abbrev pub Written : Step (Unit {0}) → Me (Unit {0}) Place → ℕ → Me (Unit {0}) Place → Type 0
Written step me stored me' = me' ≡ (written me.0 (stored ∷ []), me.1)

-- the entry that the pending words and its mark are
abbrev pub line_from : List ℕ → ℕ → Line
line_from [] word = line 0 0 false []
line_from (time ∷ results) word = line (word % 2 ^ 32) time (nat_eq ((word / 2 ^ 32) % 2) 1) results

-- the owner's view with the pending entry in its list
abbrev pub grown : Place → ℕ → Place
grown (Owner d) word = Owner (desk (d.list ++ line_from d.pending word ∷ []) [] d.held d.kept)
grown (Token t) word = Token t
grown Spent word = Spent

-- the list has grown by the entry that the stored word ends
abbrev pub Grown : Step (Unit {0}) → Me (Unit {0}) Place → ℕ → Me (Unit {0}) Place → Type 0
Grown step me stored me' = me' ≡ (grown me.0 stored, me.1)

-- the owner holds the thread's token
abbrev pub IsHolding : ℕ → Place → Type 0
IsHolding thread (Owner d) = Contains d.held thread
IsHolding thread (Token t) = ⊥
IsHolding thread Spent = ⊥

-- the owner without the thread's token
abbrev pub less : ℕ → Place → Place
less thread (Owner d) = Owner (desk d.list d.pending (without thread d.held) d.kept)
less thread (Token t) = Token t
less thread Spent = Spent

-- the thread's token, with the owner's list
abbrev pub token_of : ℕ → Place → Place
token_of thread (Owner d) = Token (ticket thread d.list)
token_of thread (Token t) = Spent
token_of thread Spent = Spent

-- the owner holds the token's thread again, and keeps the token's list
abbrev pub held_again : Desk → Place → Place
held_again d (Owner e) = Owner d
held_again d (Token t) = Owner (desk d.list d.pending (d.held ++ t.thread ∷ []) (Some t))
held_again d Spent = Owner d

-- the owner's view after it took a token
abbrev pub more : Place → Place → Place
more (Owner d) v = held_again d v
more (Token t) v = Token t
more Spent v = Spent

-- the view of a token that was taken
abbrev pub spent : Place
spent = Spent

-- the owner keeps no token's list
abbrev pub dropped : Place → Place
dropped (Owner d) = Owner (desk d.list d.pending d.held None)
dropped (Token t) = Token t
dropped Spent = Spent

-- the token that the owner keeps knows a beginning of the list, and no later entry is of its thread
abbrev pub Learns : Place → Type 0
Learns (Owner d) = KeptFits d.list d.kept
Learns (Token t) = Unit {0}
Learns Spent = Unit {0}

-- the owner learns what the rule says of the kept list, and keeps it no longer
abbrev pub Compared : Step (Unit {0}) → Me (Unit {0}) Place → ℕ → Me (Unit {0}) Place → Type 0
Compared step me found me' = (me' ≡ (dropped me.0, me.1)) × Learns me.0

-- each thread fits its word
abbrev pub ArePlain : List Line → Type 0
ArePlain list = All (λ (e : Line). e.thread < 2 ^ 32) list

-- the words up to `used` are the list
pub record IsCoded (list : List Line) (used : ℕ) (words : List ℕ) : Type 0 where
  pub plain : ArePlain list
  pub length_is : used ≡ length (codes list)
  pub rest : List ℕ
  pub all : words ≡ codes list ++ rest
