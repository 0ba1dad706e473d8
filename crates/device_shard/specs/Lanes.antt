-- A call at the lane of its thread. Source: this project.
use Rattle.std.specs.Prelude.{◌≡◌, ℕ, Bool, false, if◌then◌else◌, List, [], ◌∷◌, length}
use Rattle.command_tables.specs.Calls.{CallContent, HasRoomFor, ReplyContent}
use Rattle.command_tables.specs.declared.call.LayerCall.{LayerCall}
use Rattle.trace_format.specs.Content.{TraceEvent}
use Rattle.lifetime_layer.specs.declared.verdict.Verdict.{Verdict}
use Rattle.terminator.specs.Calls.{drivers_for}
use Rattle.dispatch_chain.specs.Holding.{HeldCalls}
use Rattle.session_parts.specs.declared.parts.SessionParts.{SessionParts}
use Rattle.session_parts.specs.Entering.{EntersAt}

-- a begin that has entered and isn't skipped goes to one driver, and what that is told fits in a body
abbrev pub EntersOne : SessionParts → ℕ → TraceEvent → LayerCall → Type 0
EntersOne x number e body =
    (call : CallContent) (held : HeldCalls) (verdict : Verdict) (y : SessionParts) → EntersAt x number e call held verdict y → verdict.skip ≡ false → (length (drivers_for y.terminator call) ≡ 1) × HasRoomFor body call

-- the replies that a return reads: none where the call was skipped
abbrev pub replies_read : Bool → ReplyContent → List ReplyContent
replies_read skip reply = if skip then [] else reply ∷ []
