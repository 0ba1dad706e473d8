-- How much the calls of a plan need. Source: this project.
use Rattle.std.specs.Prelude.{◌≤◌, ◌+◌, ⊤, ℕ, Option, List, length, map, sum_by}
use Rattle.command_tables.specs.Table.{row_of}
use Rattle.trace_format.specs.Content.{BeginEvent, TraceEvent, Begin, Return}
use Rattle.trace_format.specs.declared.event.Name.{Name}
use Rattle.session_parts.specs.Scratch.{AreWithin}
use Rattle.walk_bounds.specs.Bounds.{implied_most, weigh}

-- how many arguments a parameter has, how many a call has in all, how many results it has, how many bytes its payload has, and how many uses it has in a part to which
-- so many objects were born: each at most
pub record Needs : Type 0 where
  pub wide : ℕ
  pub args : ℕ
  pub results : ℕ
  pub bytes : ℕ
  pub uses : ℕ
  pub born : ℕ

-- the names that are a begin's arguments, by parameter
abbrev pub names_at : BeginEvent → List (List (Option Name))
names_at b = map (λ a. a.names) b.args

-- how many names there are in all
abbrev pub names_in : List (List (Option Name)) → ℕ
names_in xss = sum_by (λ xs. length xs) xss

-- a begin needs no more than that, and has six parameters at most
pub record IsWithin (n : Needs) (b : BeginEvent) : Type 0 where
  pub params : length b.args ≤ 6
  pub wide : AreWithin n.wide (names_at b)
  pub args : names_in (names_at b) ≤ n.args
  pub results : length b.results ≤ n.results
  pub bytes : length b.payload ≤ n.bytes
  pub uses : weigh (λ p. 1 + implied_most n.born p.implied) (row_of b.cmd).params (names_at b) ≤ n.uses

-- an event does, if it is a begin
abbrev pub IsWithinAt : Needs → TraceEvent → Type 0
IsWithinAt n (Begin b) = IsWithin n b
IsWithinAt n (Return thread) = ⊤
