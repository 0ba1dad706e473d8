-- A step under a lock, by what it did to the log.
use Rattle.std.proofs.Common.{◌≡◌, ◌<◌, ℕ, true, false, List, [], ◌∷◌, ◌++◌, sym, ◌∙◌, ap}
use Rattle.std.specs.Prelude.{reverse}
use Rattle.std.specs.Option.{is_none}
use Rattle.atomic_table.specs.Seated.{TableId}
use Rattle.command_tables.specs.Calls.{DriverCallContent, ReplyContent}
use Rattle.stream_log.specs.declared.line.Line.{Line}
use Rattle.stream_log.specs.Log.{IsPast, SeenView, line, seen_view}
use Rattle.trace_format.specs.Content.{TraceEvent}
use Rattle.shard_model.specs.Replays.{Tells}
use Rattle.device_shard.specs.declared.begun.Begun.{Begun}
use Rattle.device_shard.specs.Shards.{ShardName}
use Rattle.device_shard.specs.Steps.{AreResults, IsDriverOf, IsToldOf, OfBegin, told_as}
use Rattle.stream_workers.specs.Steps.{BeginsAt, ReturnsAt}

pub begins_at : (n : ShardName) (seen : SeenView) (e : TraceEvent) (told : DriverCallContent) (from : ℕ) (b : Begun) (log : TableId) → log ≡ n.log → {before : List Line} {new : List Line} → IsPast seen.thread seen.list before → from < b.time
    → new ≡ before ++ line seen.thread b.time true [] ∷ [] → b.seen ≡ seen_view log seen.thread new → IsDriverOf b.driver told → (is_none b.driver ≡ false → OfBegin (λ x. IsToldOf x told) e)
    → OfBegin (λ x. Tells n.start n.plan.streams (reverse before) x (is_none b.driver) (told_as b.driver told)) e → BeginsAt n seen e told from b
begins_at n seen e told from b log is {before = before} {new = new} past later entry token driver told_is tells =
    record {
      before = before;
      past = past;
      later = later;
      token = token ∙ (ap (λ l. seen_view l seen.thread new) is ∙ ap (seen_view n.log seen.thread) entry);
      driver = driver;
      told_is = told_is;
      tells = tells;
    }

pub returns_at : (n : ShardName) (seen : SeenView) (thread : ℕ) (reply : ReplyContent) (from time : ℕ) (after : SeenView) (log : TableId) → log ≡ n.log → seen.thread ≡ thread → {until : List Line} {new : List Line} → IsPast seen.thread seen.list until → from < time
    → (results : List ℕ) → new ≡ until ++ line thread time false results ∷ [] → AreResults n seen reply results → after ≡ seen_view log thread new → ReturnsAt n seen reply from time after
returns_at n seen thread reply from time after log is own {until = until} {new = new} past later results entry are token =
    record {
      until = until;
      past = past;
      later = later;
      results = results;
      token_is = token
          ∙ (ap (λ l. seen_view l thread new) is ∙ (ap (seen_view n.log thread) entry ∙ ap (λ t. seen_view n.log t (until ++ line t time false results ∷ [])) (sym own)));
      are = are;
    }
