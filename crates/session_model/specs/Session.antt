-- What a session keeps while it replays a trace through a chain of layers, as flat lists with the oldest first. Source: this project.
use Rattle.std.specs.Prelude.{ℕ, List, []}
use Rattle.object_model.specs.History.{Birth}
use Rattle.replay_model.specs.declared.Named.{Named}
use Rattle.replay_model.specs.Past.{Retrieval}
use Rattle.replay_model.specs.Direct.{Sent}
use Rattle.chain_model.specs.Simulated.{ChainKept, no_chain}

-- the numbers of calls, skipped calls and reports, and how many names came to stand for objects; the names with their objects; the births of the objects that live,
-- with their owners, in any order; the retrieved objects with their keys; the open calls with what was answered; and what is kept of the chain
pub record SessionKept : Type 0 where
  pub calls : ℕ
  pub skipped : ℕ
  pub reports : ℕ
  pub count : ℕ
  pub names : List Named
  pub births : List Birth
  pub retrieved : List Retrieval
  pub sent : List Sent
  pub chain : ChainKept

-- nothing was replayed yet
abbrev pub nothing_kept : SessionKept
nothing_kept = record { calls = 0; skipped = 0; reports = 0; count = 0; names = []; births = []; retrieved = []; sent = []; chain = no_chain }
