-- What a session keeps, as the definitions have it. Source: this project.
use Rattle.std.specs.Prelude.{◌≡◌, ℕ, true, false, if◌then◌else◌, Option, Some, None, List, [], ◌∷◌, map}
use Rattle.command_tables.specs.Calls.{call_content}
use Rattle.command_tables.specs.Tests.{same_command}
use Rattle.command_tables.specs.declared.types.Code.{Code}
use Rattle.command_tables.specs.declared.types.CommandId.{CommandId}
use Rattle.command_tables.specs.declared.types.CommandId.TheVariants as cmd
use Rattle.object_model.specs.declared.PartKind.{PartKind}
use Rattle.replay_model.specs.Past.{is_skipped}
use Rattle.replay_model.specs.Setup.{Setup, parts_of, refusal_of}
use Rattle.chain_build.specs.declared.answers.Chain.{Chain}
use Rattle.chain_model.specs.Simulated.{Held}
use Rattle.chain_model.specs.Traces.{starts_chain}
use Rattle.dispatch_chain.specs.Holding.{IsHeldOf}
use Rattle.dispatch_chain.specs.Rows.{kinds_placed}
use Rattle.dispatch_chain.specs.Seats.{kinds_of}
use Rattle.session_model.specs.Session.{SessionKept}
use Rattle.session_parts.specs.Parts.{PartsShow}
use Rattle.chain_session.specs.declared.call.OpenCall.{OpenCall}
use Rattle.chain_session.specs.declared.kept.Kept.{Kept}
use Rattle.chain_session.specs.Opened.{opened_of, sent_of}

-- ---- an open call

-- the code with which the chain of a call is refused
abbrev pub refusal_at : Setup → CommandId → List ℕ → Option Code
refusal_at s c payload = if same_command c cmd.CreateInstance then refusal_of (s.outcome payload) else None

-- the kinds of the parts of a chain, where there is one
abbrev pub kinds_chained : Option Chain → List PartKind
kinds_chained None = []
kinds_chained (Some chain) = kinds_placed chain.parts.items

-- An open call holds what the model of the chain holds of it: its forms above the parts that it came to, the call below the last where it isn't skipped,
-- the code with which its chain is refused, and the chain that comes in force where it makes the instance.
pub record IsHeldAs (s : Setup) (kinds : List PartKind) (c : OpenCall) (h : Held) : Type 0 where
  pub thread : h.thread ≡ c.thread
  pub forms : IsHeldOf c.held kinds h.forms
  pub bottom : is_skipped (opened_of c) ≡ false → call_content c.bottom ≡ h.bottom
  pub refusal : c.refusal ≡ refusal_at s c.cmd c.payload.items
  pub chain : is_skipped (opened_of c) ≡ false → starts_chain (opened_of c) ≡ true → kinds_chained c.chain ≡ parts_of (s.outcome c.payload.items)

-- each open call does, in order
abbrev pub AreHeldAs : Setup → List PartKind → List OpenCall → List Held → Type 0
AreHeldAs s kinds [] [] = Unit {0}
AreHeldAs s kinds [] (h ∷ held) = ⊥
AreHeldAs s kinds (c ∷ calls) [] = ⊥
AreHeldAs s kinds (c ∷ calls) (h ∷ held) = IsHeldAs s kinds c h × AreHeldAs s kinds calls held

-- ---- all that is kept

-- what the program keeps is this, under a setup
pub record Shows (s : Setup) (x : Kept) (k : SessionKept) : Type 0 where
  pub calls : x.calls ≡ k.calls
  pub skipped : x.skipped ≡ k.skipped
  pub reports : x.reports ≡ k.reports
  pub parts : PartsShow s x.parts k
  pub sent : map sent_of x.open_calls ≡ k.sent
  pub held : AreHeldAs s (kinds_of x.parts.states.kept) x.open_calls k.chain.held
