-- The return of a call, by what the program keeps. Source: this project.
use Rattle.std.specs.Prelude.{◌≡◌, ◌++◌, ℕ, Some, List}
use Rattle.object_model.specs.History.{Birth}
use Rattle.replay_model.specs.Direct.{Sent}
use Rattle.replay_model.specs.Setup.{Setup}
use Rattle.chain_model.specs.Simulated.{Held}
use Rattle.session_model.specs.Session.{SessionKept}
use Rattle.session_tables.specs.Lined.{AreAdded}
use Rattle.session_model.specs.Returning.{given_kept, held_of_thread, kept_after_return, return_line, sent_of_thread}
use Rattle.session_model.specs.Tables.{SaySame, with_tables}
use Rattle.session_parts.specs.Leaving.{Returns}
use Rattle.chain_session.specs.declared.kept.Kept.{Kept}
use Rattle.chain_session.specs.Shown.{Shows}

-- the open call of a thread may return: what is kept allows it under some setup
pub record CanFinish (x : Kept) (thread : ℕ) : Type 0 where
  pub setup : Setup
  pub kept : SessionKept
  pub shows : Shows setup x kept
  pub call : Sent
  pub held : Held
  pub found : sent_of_thread kept thread ≡ Some call
  pub holds : held_of_thread kept thread ≡ Some held
  pub returns : Returns setup kept call held

-- what a return comes to: the births of what lives then, what is kept, with names and handles that say the same, and its line
pub record Returned (s : Setup) (k : SessionKept) (call : Sent) (held : Held) (new : Kept) (old_lines lines : List ℕ) : Type 0 where
  pub births : List Birth
  pub since : AreAdded k.births (given_kept s k call.opened) births
  pub same : SaySame (kept_after_return s k call held births) new.parts.names.kept.names new.parts.names.kept.handed
  pub shows : Shows s new (with_tables (kept_after_return s k call held births) new.parts.names.kept.names new.parts.names.kept.handed)
  pub wrote : lines ≡ old_lines ++ return_line s k call.opened

-- so it is for whatever the program keeps
abbrev pub Finishes : Kept → Kept → ℕ → List ℕ → List ℕ → Type 0
Finishes old new thread old_lines lines =
    (s : Setup) (k : SessionKept) (call : Sent) (held : Held) → Shows s old k → sent_of_thread k thread ≡ Some call → held_of_thread k thread ≡ Some held → Returns s k call held → Returned s k call held new old_lines lines
