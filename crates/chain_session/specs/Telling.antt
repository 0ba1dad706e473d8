-- What drivers were told, and what they answered. Source: this project.
use Rattle.std.specs.Prelude.{◌≡◌, ℕ, List, [], ◌∷◌, ◌++◌, take}
use Rattle.std.specs.List.{zip}
use Rattle.command_tables.specs.Calls.{DriverCallContent, ReplyContent}
use Rattle.model_driver.specs.Driver.{IsAnsweredBy}
use Rattle.model_driver.specs.Logs.{Log, logged}
use Rattle.session_model.specs.Stands.{AreRepliesTo}

-- these calls were told, each with its reply, and nothing else
pub record AreAsked (calls : List DriverCallContent) (own : List ReplyContent) (before after : Log) : Type 0 where
  pub answers : AreRepliesTo calls own
  pub told : after ≡ logged before (zip calls own)

-- the first so many of these calls were told, each with a reply, and nothing else
pub record FrontAsked (calls : List DriverCallContent) (before after : Log) : Type 0 where
  pub count : ℕ
  pub own : List ReplyContent
  pub asked : AreAsked (take count calls) own before after

-- one call was told, and its reply stands behind those before
pub record AskedOnce (call : DriverCallContent) (old new : List ReplyContent) (before after : Log) : Type 0 where
  pub reply : ReplyContent
  pub answers : IsAnsweredBy call reply
  pub kept : new ≡ old ++ reply ∷ []
  pub told : after ≡ logged before ((call, reply) ∷ [])
