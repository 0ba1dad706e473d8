-- Events of a trace of which calls were left out, as a device's log leaves out those on other devices. Its names keep their numbers, so that these have gaps. Events
-- stand newest first. Source: this project.
use Rattle.std.specs.Prelude.{◌≡◌, Bool, true, false, not, ◌&&◌, ◌||◌, List, [], ◌∷◌}
use Rattle.std.specs.List.{AllByRecursion, list_all, list_any}
use Rattle.command_tables.specs.Table.{row_of}
use Rattle.trace_format.specs.declared.event.Name.{Name}
use Rattle.trace_format.specs.Accepting.{breaks_instance, is_known, is_of_type, is_open, names_used, same_name}
use Rattle.trace_format.specs.Content.{TraceEvent, Begin, Return}
use Rattle.trace_format.specs.Grammar.{IsEvent}

-- one of these events gave the name
abbrev pub is_given : List TraceEvent → Name → Bool
is_given [] n = false
is_given (Begin b ∷ before) n = list_any (λ r. same_name r n) b.results || is_given before n
is_given (Return thread ∷ before) n = is_given before n

-- these names are distinct, and none of these events gave one of them
abbrev pub are_new : List TraceEvent → List Name → Bool
are_new before [] = true
are_new before (n ∷ names) = not (is_given before n) && (not (list_any (same_name n) names) && are_new before names)

-- An event may follow others as in a trace, but that a begin gives any new names: its thread has no open call, its arguments were given before and are of the types that
-- are asked for, and no other event stands between the begin and the return of a creation of the instance.
abbrev pub may_come : List TraceEvent → TraceEvent → Bool
may_come before (Begin b) =
    not (is_open b.thread before) && (list_all (is_known before) (names_used (row_of b.cmd).params b.args)
    && (list_all (is_of_type before) (names_used (row_of b.cmd).params b.args) && (are_new before b.results && not (breaks_instance before (Begin b)))))
may_come before (Return thread) = is_open thread before && not (breaks_instance before (Return thread))

-- each event may follow those before it
abbrev pub may_all_come : List TraceEvent → Bool
may_all_come [] = true
may_all_come (e ∷ before) = may_all_come before && may_come before e

-- events of the grammar, each of which may follow those before it
pub record IsGapped (events : List TraceEvent) : Type 0 where
  pub grammar : AllByRecursion IsEvent events
  pub each : may_all_come events ≡ true
