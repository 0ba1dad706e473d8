-- The rule of a clock's one word, and what its steps tell. Source: this project.
use Rattle.std.specs.Prelude.{◌≡◌, ℕ, ◌+◌, ◌-◌, ◌^◌, ◌<◌, ◌≤◌, max, List, length, slice_index}
use Rattle.std.specs.List.{sum_by}
use mathlib.Core.Option.{some}
use lib.ListN.{get_elem?}
use Rattle.atomic_table.specs.Table.{State, Me, Step}
use Rattle.stream_log.specs.declared.ticks.Ticks.{Ticks}

-- a view of these parts
abbrev pub ticks : ℕ → ℕ → Ticks
ticks left seen = record { left = left; seen = seen }

-- how many draws a view has left
abbrev pub left_of : Ticks → ℕ
left_of v = v.left

-- no view has seen more than the word
abbrev pub IsBehind : ℕ → List Ticks → Type 0
IsBehind word views = (id : ℕ) (v : Ticks) → get_elem? views id ≡ some v → v.seen ≤ word

-- the word and what is left in all views add up to the greatest word
pub record IsClock (s : State (Unit {0}) Ticks) : Type 0 where
  pub one_word : length s.words ≡ 1
  pub balance : slice_index s.words 0 + sum_by left_of s.views ≡ 2 ^ 64 - 1
  pub behind : IsBehind (slice_index s.words 0) s.views

-- one less is left, and the new word is seen
abbrev pub Drawn : Step (Unit {0}) → Me (Unit {0}) Ticks → ℕ → Me (Unit {0}) Ticks → Type 0
Drawn step me found me' = (me' ≡ (ticks (me.0.left - 1) (found + 1), me.1)) × (me.0.seen ≤ found) × (found + 1 < 2 ^ 64)

-- what a tick keeps that shares out an amount of its draws
abbrev pub kept_of : ℕ → Ticks → Ticks
kept_of amount v = ticks (v.left - amount) v.seen

-- what the new tick has
abbrev pub given_of : ℕ → Ticks → Ticks
given_of amount v = ticks amount v.seen

-- what a tick has that took in another
abbrev pub pooled : Ticks → Ticks → Ticks
pooled v w = ticks (v.left + w.left) (max v.seen w.seen)
