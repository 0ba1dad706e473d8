-- What contracts see of a log's owner and of a thread's token. Source: this project.
use Rattle.std.specs.Prelude.{◌≡◌, ◌≢◌, ℕ, ◌-◌, ◌<◌, Bool, not, nat_eq, All, filter, List, [], ◌∷◌, ◌++◌, length}
use Rattle.atomic_table.specs.Seated.{TableId}
use Rattle.stream_log.specs.declared.line.Line.{Line}
use Rattle.stream_log.specs.declared.entry.Entry.{Entry}

-- an entry of these parts
abbrev pub line : ℕ → ℕ → Bool → List ℕ → Line
line thread time begins results = record { thread = thread; time = time; begins = begins; results = results }

-- an entry, with its results as a list
abbrev pub line_of : Entry → Line
line_of e = line e.thread e.time e.begins e.results.items

-- the time of the last entry, and n where there is none
abbrev pub last_from : ℕ → List Line → ℕ
last_from n [] = n
last_from n (e ∷ es) = last_from e.time es

-- the time of the last entry, and 0 where there is none
abbrev pub last_time : List Line → ℕ
last_time es = last_from 0 es

-- times rise, and the first is above n
abbrev pub RisesFrom : ℕ → List Line → Type 0
RisesFrom n [] = Unit {0}
RisesFrom n (e ∷ es) = (n < e.time) × RisesFrom e.time es

-- the list begins with what was seen, and no later entry is of the thread
abbrev pub IsPast : ℕ → List Line → List Line → Type 0
IsPast thread seen list = (later : List Line) × (list ≡ seen ++ later) × All (λ (e : Line). e.thread ≢ thread) later

-- the log, its list, the threads whose tokens the owner holds, and the entries and results for which there is room
pub record OwnerView : Type 0 where
  pub log : TableId
  pub list : List Line
  pub held : List ℕ
  pub entries : ℕ
  pub results : ℕ

-- the log, the thread, and the list as it was when the token was given
pub record SeenView : Type 0 where
  pub log : TableId
  pub thread : ℕ
  pub list : List Line

-- an owner of these parts
abbrev pub owner_view : TableId → List Line → List ℕ → ℕ → ℕ → OwnerView
owner_view log list held entries results = record { log = log; list = list; held = held; entries = entries; results = results }

-- a token of these parts
abbrev pub seen_view : TableId → ℕ → List Line → SeenView
seen_view log thread list = record { log = log; thread = thread; list = list }

-- the owner after it added an entry: the list ends in it, and there is so much less room
abbrev pub appended : OwnerView → Line → OwnerView
appended o e = owner_view o.log (o.list ++ e ∷ []) o.held (o.entries - 1) (o.results - length e.results)

-- the threads without one
abbrev pub without : ℕ → List ℕ → List ℕ
without thread threads = filter (λ (t : ℕ). not (nat_eq t thread)) threads

-- the owner after it gave a thread's token
abbrev pub given : OwnerView → ℕ → OwnerView
given o thread = owner_view o.log o.list (without thread o.held) o.entries o.results

-- the owner after it took a thread's token
abbrev pub taken : OwnerView → ℕ → OwnerView
taken o thread = owner_view o.log o.list (o.held ++ thread ∷ []) o.entries o.results
