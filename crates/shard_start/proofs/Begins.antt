-- A begin that comes next in a log, as its trace has it.
use Rattle.std.proofs.Common.{◌≡◌, Bool, true, false, not, ◌||◌, Option, Some, List, [], ◌∷◌, ◌++◌, refl, sym, ◌∙◌, ap, subst, rules}
use Rattle.command_tables.specs.Table.{row_of}
use Rattle.command_tables.specs.Tests.{same_command, same_type}
use Rattle.command_tables.specs.declared.types.CommandId.{CommandId}
use Rattle.command_tables.specs.declared.types.CommandId.TheVariants as cmd
use Rattle.stream_log.specs.Log.{line}
use Rattle.stream_log.specs.declared.line.Line.{Line}
use Rattle.trace_format.specs.Content.{BeginEvent, TraceEvent, Begin}
use Rattle.chain_model.specs.Gaps.{IsGapped}
use Rattle.stream_model.specs.FileParts.{StreamPart}
use Rattle.stream_model.specs.Order.{is_on_no_device}
use Rattle.stream_model.specs.Plans.{with_event}
use Rattle.shard_model.specs.Followed.{Follows, IsNextStep, events_of, next_event}
use Rattle.shard_model.specs.Replays.{IsOnInstance, Start}
use Rattle.shard_start.specs.Starting.{CanStart, IsOnDevice}

-- ---- the instance

abbrev makes_no_instance : CommandId → Bool
makes_no_instance c = is_on_no_device (row_of c).params || not (same_command c cmd.CreateInstance)

no_instance_in_row : (c : CommandId) → makes_no_instance c ≡ true
unfolding row_of same_type same_command
no_instance_in_row c = search rules

pub flip : (u : Bool) → not u ≡ true → u ≡ false
flip false e = refl
flip true e = cc e

-- a call on a device doesn't make the instance
pub on_instance : (b : BeginEvent) → IsOnDevice (Begin b) → IsOnInstance b
on_instance b on = flip (same_command b.cmd cmd.CreateInstance) (sym (ap (λ u. u || not (same_command b.cmd cmd.CreateInstance)) on) ∙ no_instance_in_row b.cmd)

-- ---- the log with the begin

begin_follows : (streams : List StreamPart) (entries : List Line) (b : BeginEvent) → Follows streams entries → next_event streams b.thread entries ≡ Some (Begin b) → Follows streams (line b.thread 0 true [] ∷ entries)
begin_follows streams entries b follows next =
    let step : IsNextStep (line b.thread 0 true []) (Some (Begin b)) = (refl, refl) in
    (subst (λ (o : Option TraceEvent). IsNextStep (line b.thread 0 true []) o) (sym next) step, follows)

-- its trace
pub begin_trace : (start : Start) (streams : List StreamPart) (entries : List Line) (b : BeginEvent) (can : CanStart start streams) → Follows streams entries → next_event streams b.thread entries ≡ Some (Begin b)
    → IsGapped (Begin b ∷ events_of streams entries ++ can.events)
begin_trace start streams entries b can follows next =
    subst (λ (o : Option TraceEvent). IsGapped (with_event o (events_of streams entries) ++ can.events)) next (can.goes_on (line b.thread 0 true [] ∷ entries) (begin_follows streams entries b follows next))
