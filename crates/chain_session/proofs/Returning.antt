-- A return, by what a session keeps.
use Rattle.std.proofs.Common.{◌≡◌, ℕ, Option, Some, None, List, [], ◌∷◌, sym, subst}
use Rattle.command_tables.specs.Calls.{ReplyContent}
use Rattle.trace_format.specs.Content.{TraceEvent, Return}
use Rattle.replay_model.specs.Direct.{Sent}
use Rattle.replay_model.specs.Setup.{Setup}
use Rattle.chain_model.specs.Gaps.{IsGapped}
use Rattle.session_model.specs.Session.{nothing_kept}
use Rattle.session_model.specs.Returning.{sent_of_thread}
use Rattle.session_model.specs.Stands.{HasCall}
use Rattle.session_model.proofs.Turns.{returns_busy}
use Rattle.chain_session.specs.declared.kept.Kept.{Kept}
use Rattle.chain_session.specs.Finishing.{CanFinish, Finishes}
use Rattle.chain_session.specs.Standing.{Advances, CanCome, CanReturn, ReturnsAs, StandsFor}
use Rattle.chain_session.proofs.Finished.{can_finish, return_advances}

none_sent : (thread : ℕ) (c : Sent) → sent_of_thread nothing_kept thread ≡ Some c → ⊥
none_sent thread c is = cc

-- where nothing is kept, no call can return
none_returns : {T : Type 0} (s : Setup) (thread : ℕ) (events : List TraceEvent) (before : List ReplyContent) → StandsFor s None events before → IsGapped (Return thread ∷ events) → T
none_returns s thread events before st trace =
    let busy : HasCall st.kept thread = returns_busy s st.kept events thread before trace st.stands in
    absurd (none_sent thread busy.call (subst (λ k. sent_of_thread k thread ≡ Some busy.call) st.shows busy.sent))

pub none_advances : (old : Option Kept) (thread : ℕ) (lines : List ℕ) → old ≡ None → ReturnsAs old old thread lines lines
none_advances old thread lines is = λ s guarded log. subst (λ o. Advances s o o (Return thread) log log lines lines) (sym is) (record {
  replies = [];
  stands = λ events before st trace. none_returns s thread events before st trace;
  each = λ events before st trace. none_returns s thread events before st trace;
  told = λ events before st trace. none_returns s thread events before st trace;
  wrote = λ events before st trace. none_returns s thread events before st trace;
})

-- what can return can be finished
pub can_return : (old : Option Kept) (x : Kept) (thread : ℕ) → old ≡ Some x → CanReturn old thread → CanFinish x thread
can_return old x thread is can = can_finish can.setup x thread can.guarded (subst (λ o. CanCome can.setup o (Return thread)) is can.can)

-- and is one event more
pub finishes_so : (old : Option Kept) (x new : Kept) (thread : ℕ) (lines0 lines1 : List ℕ) → old ≡ Some x → Finishes x new thread lines0 lines1 → ReturnsAs old (Some new) thread lines0 lines1
finishes_so old x new thread lines0 lines1 is h = λ s guarded log. subst (λ o. Advances s o (Some new) (Return thread) log log lines0 lines1) (sym is) (return_advances s x new thread log lines0 lines1 guarded h)
