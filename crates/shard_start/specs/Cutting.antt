-- Plans that are cut from a stream file, for whose setup a session stands. Source: this project.
use Rattle.std.specs.Prelude.{◌≡◌, Option, None, List, map, reverse}
use Rattle.std.specs.List.{AllByRecursion, IsDistinct}
use Rattle.command_tables.specs.Calls.{ReplyContent}
use Rattle.trace_format.specs.Accepting.{same_name}
use Rattle.trace_format.specs.Grammar.{IsEvent}
use Rattle.replay_model.specs.Setup.{Setup}
use Rattle.chain_model.specs.Traces.{GivesGuarded}
use Rattle.stream_model.specs.FileLines.{FileLine}
use Rattle.stream_model.specs.FileParts.{AreInOrder, parts}
use Rattle.stream_model.specs.Order.{events, refusal_at_end}
use Rattle.stream_model.specs.Plans.{DevicePlan, plan_cut}
use Rattle.chain_session.specs.declared.kept.Kept.{Kept}
use Rattle.chain_session.specs.Standing.{StandsFor}
use Rattle.shard_model.specs.Replays.{Start}

-- what a session that has begun gives: its parts, and how many calls it has replayed
abbrev pub start_of : Kept → Start
start_of k = record { parts = k.parts; calls = k.calls }

-- the plan is what is cut from a file of these lines for its device
abbrev pub IsCut : List FileLine → DevicePlan → Type 0
IsCut lines p = p ≡ plan_cut (parts lines) p.device

-- The plans are cut from a whole stream file, whose lines stand newest first, and are of distinct devices; the session stands for the file's setup with some replies, under a setup whose chains are guarded.
pub record AreCutFrom (k : Option Kept) (plans : List DevicePlan) : Type 0 where
  pub lines : List FileLine
  pub order : AreInOrder lines
  pub grammar : AllByRecursion IsEvent (events lines)
  pub whole : refusal_at_end lines ≡ None
  pub setup : Setup
  pub guarded : GivesGuarded setup
  pub replies : List ReplyContent
  pub stands : StandsFor setup k (reverse (parts lines).setup) replies
  pub cut : AllByRecursion (IsCut lines) plans
  pub distinct : IsDistinct same_name (map (λ (p : DevicePlan). p.device) plans)
