-- How much a call can find, use and bear in the parts of a chain, by its size alone. Source: this project.
use Rattle.std.specs.Prelude.{◌≡◌, ◌≤◌, ◌+◌, ◌*◌, ℕ, true, ◌==◌, Some, None, List, [], ◌∷◌, find, length, slice_get}
use Rattle.std.specs.List.{list_any}
use Rattle.command_tables.specs.Calls.{CallContent}
use Rattle.command_tables.specs.Table.{ParamSpec, row_of}
use Rattle.command_tables.specs.declared.types.Implied.{Implied}
use Rattle.command_tables.specs.declared.types.Implied.TheVariants as imp
use Rattle.object_model.specs.Uses.{InUse}
use Rattle.dispatch_chain.specs.Room.{PartRoom}
use Rattle.layer_model.specs.Walks.{PartState, Threads, Lifetimes, Unique}

-- what all arguments weigh together, where each of a parameter weighs so much
abbrev pub weigh : {X : Type 0} → (ParamSpec → ℕ) → List ParamSpec → List (List X) → ℕ
weigh w [] parts = 0
weigh w (p ∷ params) [] = 0
weigh w (p ∷ params) (args ∷ parts) = length args * w p + weigh w params parts

-- how many objects a parameter's mark can imply, where so many were born
abbrev pub implied_most : ℕ → Implied → ℕ
implied_most births imp.None = 0
implied_most births imp.PoolOf = 1
implied_most births imp.QueuesOf = births
implied_most births imp.SetsOf = births

-- how many uses a call can have, where so many objects were born
abbrev pub uses_most : ℕ → CallContent → ℕ
uses_most births c = weigh (λ p. 1 + implied_most births p.implied) (row_of c.cmd).params c.args

-- how many failures a call can have in one part: three at each argument
abbrev pub failures_most : CallContent → ℕ
failures_most c = weigh (λ p. 3) (row_of c.cmd).params c.args

-- no more than so many objects were born to a threads part
abbrev pub HaveBorn : ℕ → List PartState → Type 0
HaveBorn n [] = Unit {0}
HaveBorn n (Threads m ∷ states) = (length m.births ≤ n) × HaveBorn n states
HaveBorn n (Lifetimes m ∷ states) = HaveBorn n states
HaveBorn n (Unique m ∷ states) = HaveBorn n states

-- ---- open calls

-- each of these open calls has so many uses at most, and is of one of these threads, and no two are of one thread
abbrev pub AreLight : ℕ → List ℕ → List InUse → Type 0
AreLight n threads [] = Unit {0}
AreLight n threads (c ∷ opens) = (length c.uses ≤ n) × ((list_any (λ t. c.thread == t) threads ≡ true) × ((find (λ u. u.thread == c.thread) opens ≡ None) × AreLight n threads opens))

-- in each threads part
abbrev pub AllLight : ℕ → List ℕ → List PartState → Type 0
AllLight n threads [] = Unit {0}
AllLight n threads (Threads m ∷ states) = AreLight n threads m.opens × AllLight n threads states
AllLight n threads (Lifetimes m ∷ states) = AllLight n threads states
AllLight n threads (Unique m ∷ states) = AllLight n threads states

-- ---- room

-- a threads part has room for so many open calls, and for so many uses of them in all
abbrev pub HasUses : ℕ → PartState → PartRoom → Type 0
HasUses n (Threads m) r = n ≤ r.uses
HasUses n (Lifetimes m) r = Unit {0}
HasUses n (Unique m) r = Unit {0}

-- each threads part has
abbrev pub AllHaveUses : ℕ → List PartState → List PartRoom → Type 0
AllHaveUses n states rooms = (i : ℕ) (s : PartState) (r : PartRoom) → slice_get states i ≡ Some s → slice_get rooms i ≡ Some r → HasUses n s r

-- a use for each of so many threads, and besides so many for each
abbrev pub uses_together : List ℕ → ℕ → ℕ
uses_together threads n = length threads + length threads * n
