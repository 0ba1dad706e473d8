-- The open call of a step, as its trace has it: its drivers, and the owners of what it makes.
use Rattle.std.proofs.Common.{◌≡◌, ◌≤◌, ℕ, suc, Bool, true, false, cond, Some, List, [], ◌∷◌, ◌++◌, length, map, refl, sym, ◌∙◌, ap, subst}
use Rattle.std.specs.Prelude.{find}
use Rattle.command_tables.specs.Calls.{DriverCallContent, ReplyContent}
use Rattle.command_tables.specs.Table.{row_of}
use Rattle.stream_log.specs.declared.line.Line.{Line}
use Rattle.trace_format.specs.Content.{TraceEvent}
use Rattle.object_model.specs.History.{Birth}
use Rattle.replay_model.specs.Direct.{Sent}
use Rattle.replay_model.specs.Judged.{judged}
use Rattle.replay_model.specs.Past.{Opened, Past, arguments_in, is_of, is_skipped, open_calls}
use Rattle.replay_model.specs.Setup.{Setup}
use Rattle.layer_model.specs.Routes.{drivers_at}
use Rattle.chain_model.specs.Gaps.{IsGapped}
use Rattle.chain_model.specs.Simulated.{Held}
use Rattle.chain_model.specs.Traces.{GivesGuarded}
use Rattle.terminator.specs.Calls.{drivers_for}
use Rattle.session_model.specs.Enough.{IsOpenOf, history_of}
use Rattle.session_model.specs.Living.{AreOfLiving}
use Rattle.session_model.specs.Returning.{held_of_thread, sent_of_thread}
use Rattle.session_model.specs.Session.{SessionKept}
use Rattle.session_model.specs.Stands.{AreRepliesTo, Stands}
use Rattle.session_model.specs.Steps.{ReturnSteps}
use Rattle.session_tables.specs.Lined.{owners_made}
use Rattle.stream_model.specs.FileParts.{StreamPart}
use Rattle.session_parts.specs.declared.parts.SessionParts.{SessionParts}
use Rattle.session_parts.specs.Leaving.{opened_again, recalled}
use Rattle.session_parts.proofs.Recalled.{marked_all}
use Rattle.chain_session.specs.PartsStanding.{AreLeftOpen, IsLeftOpen, PartsStand}
use Rattle.shard_model.specs.Followed.{Follows, events_of}
use Rattle.shard_model.specs.Replies.{last_replies}
use Rattle.shard_model.specs.Replays.{AreOfThreads, IsReplay, IsReplayOf, OpenStep, Start, is_step_of, left_of}
use Rattle.shard_model.proofs.Opens.{of_found}
use Rattle.shard_start.specs.Starting.{CanStart}

-- ---- what is found

left_found : (k : SessionKept) (past : Past) (replies : List ReplyContent) (thread : ℕ) (opens : List OpenStep) (o : OpenStep) → find (is_step_of thread) opens ≡ Some o → AreLeftOpen k (map (left_of past replies) opens)
    → IsLeftOpen k (left_of past replies o)
left_found k past replies thread [] o is all = cc is
left_found k past replies thread (q ∷ opens) o is all = go (is_step_of thread q) (left_found k past replies thread opens o) is
  where
    go : (u : Bool) → (find (is_step_of thread) opens ≡ Some o → AreLeftOpen k (map (left_of past replies) opens) → IsLeftOpen k (left_of past replies o)) → cond u (Some q) (find (is_step_of thread) opens) ≡ Some o
        → IsLeftOpen k (left_of past replies o)
    go true ih h = let same : q ≡ o = cc in subst (λ (p : OpenStep). IsLeftOpen k (left_of past replies p)) same all.0
    go false ih h = ih h all.1

opened_found : (thread : ℕ) (cs : List Sent) (c : Sent) → find (λ (x : Sent). is_of thread x.opened) cs ≡ Some c → find (is_of thread) (map (λ (x : Sent). x.opened) cs) ≡ Some c.opened
opened_found thread [] c is = cc is
opened_found thread (x ∷ cs) c is = go (is_of thread x.opened) (opened_found thread cs c) is
  where
    go : (u : Bool) → (find (λ (y : Sent). is_of thread y.opened) cs ≡ Some c → find (is_of thread) (map (λ (y : Sent). y.opened) cs) ≡ Some c.opened) → cond u (Some x) (find (λ (y : Sent). is_of thread y.opened) cs) ≡ Some c
        → cond u (Some x.opened) (find (is_of thread) (map (λ (y : Sent). y.opened) cs)) ≡ Some c.opened
    go true ih h = let same : x ≡ c = cc in ap (λ (y : Sent). Some y.opened) same
    go false ih h = ih h

replies_long : (calls : List DriverCallContent) (own : List ReplyContent) → AreRepliesTo calls own → length own ≡ length calls
replies_long [] [] may = refl
replies_long [] (r ∷ own) may = absurd may
replies_long (c ∷ calls) [] may = absurd may
replies_long (c ∷ calls) (r ∷ own) may = ap suc (replies_long calls own may.1)

-- ---- laws of a session

abbrev pub FewOwners : Type 0
FewOwners =
    (s : Setup) (events : List TraceEvent) (thread : ℕ) (o : Opened) (ls : List Birth) → IsGapped events → IsOpenOf s events thread o → AreOfLiving ls (history_of s events) → length (owners_made ls o.args (row_of o.cmd).effect) ≤ 3

abbrev pub StepsReturn : Type 0
StepsReturn =
    (s : Setup) (k : SessionKept) (events : List TraceEvent) (thread : ℕ) (replies : List ReplyContent) (c : Sent) (h : Held) → GivesGuarded s → IsGapped events → Stands s k events replies → sent_of_thread k thread ≡ Some c
    → held_of_thread k thread ≡ Some h → ReturnSteps s k c h

-- ---- an open step of a log

module _ (start : Start) (streams : List StreamPart) (entries : List Line) (x : SessionParts) (opens : List OpenStep) (thread : ℕ) (o : OpenStep) (can : CanStart start streams) (replay : IsReplay start streams entries x opens) (follows : Follows streams entries)
    (is : find (is_step_of thread) opens ≡ Some o) (sent_on : o.skip ≡ false) where
  abbrev so_far : List TraceEvent
  so_far = events_of streams entries ++ can.events

  abbrev past : Past
  past = judged can.setup so_far

  trace : IsGapped so_far
  trace = can.goes_on entries follows

  old : IsReplayOf can.setup can.events can.replies streams entries x opens
  old = replay can.setup can.events can.replies can.stands trace

  stood : PartsStand can.setup x so_far old.some (map (left_of past old.some) opens)
  stood = old.stands old.some old.some_are

  left : IsLeftOpen stood.kept (left_of past old.some o)
  left = left_found stood.kept past old.some thread opens o is stood.opens

  abbrev opened : Opened
  opened = left.sent.opened

  goes : is_skipped opened ≡ false
  goes = sym left.opens.left.skips ∙ sent_on

  open_there : find (is_of o.begin.thread) (open_calls past) ≡ Some opened
  open_there = ap (find (is_of o.begin.thread)) (sym stood.stands.open_calls) ∙ opened_found o.begin.thread stood.kept.sent left.sent left.opens.sent

  args_are : recalled o.call.unborn (arguments_in x.names.kept.names o.begin.args) ≡ opened.args
  args_are =
      (λ i. recalled (left.opens.left.marks goes i) (arguments_in (stood.shows.names i) o.begin.args))
      ∙ marked_all stood.kept.names o.begin.args opened.args left.opens.left.args

  owners_are : length (owners_made stood.kept.births opened.args (row_of opened.cmd).effect) ≡ length (owners_made x.names.kept.births (opened_again x o.begin o.call).args (row_of o.begin.cmd).effect)
  owners_are = λ i. length (owners_made (sym stood.shows.births i) (sym args_are i) (row_of (left.opens.left.cmd i)).effect)

  owners_few : FewOwners → length (owners_made x.names.kept.births (opened_again x o.begin o.call).args (row_of o.begin.cmd).effect) ≤ 3
  owners_few law = subst (λ n. n ≤ 3) owners_are (law can.setup so_far o.begin.thread opened stood.kept.births trace open_there stood.stands.living)

  drivers_found : StepsReturn → length (drivers_for x.terminator o.call) ≡ length o.told
  drivers_found law =
      let steps : ReturnSteps can.setup stood.kept left.sent left.form = law can.setup stood.kept so_far o.begin.thread old.some left.sent left.form can.stands.guarded trace stood.stands left.opens.sent left.opens.holds in
      let same : drivers_for x.terminator o.call ≡ opened.drivers = (λ i. drivers_at (stood.shows.drivers i) (stood.shows.routes i) (left.opens.left.bottom goes i)) ∙ steps.drivers goes in
      let may : AreRepliesTo o.told (last_replies past old.some o.begin.thread) = of_found (λ q. AreRepliesTo q.told (last_replies past old.some q.begin.thread)) thread opens o is (old.answered old.some old.some_are) in
      ap length same ∙ (sym left.opens.count ∙ replies_long o.told (last_replies past old.some o.begin.thread) may)

pub owners_so : FewOwners → (start : Start) (streams : List StreamPart) (entries : List Line) (x : SessionParts) (opens : List OpenStep) (thread : ℕ) (o : OpenStep) (own : List ReplyContent)
    → CanStart start streams → IsReplay start streams entries x opens → Follows streams entries → find (is_step_of thread) opens ≡ Some o → AreOfThreads opens → AreRepliesTo o.told own → o.skip ≡ false
    → length (owners_made x.names.kept.births (opened_again x o.begin o.call).args (row_of o.begin.cmd).effect) ≤ 3
owners_so law start streams entries x opens thread o own can replay follows is apart may sent_on = owners_few start streams entries x opens thread o can replay follows is sent_on law

pub drivers_so : StepsReturn → (start : Start) (streams : List StreamPart) (entries : List Line) (x : SessionParts) (opens : List OpenStep) (thread : ℕ) (o : OpenStep) (own : List ReplyContent)
    → CanStart start streams → IsReplay start streams entries x opens → Follows streams entries → find (is_step_of thread) opens ≡ Some o → AreOfThreads opens → AreRepliesTo o.told own → o.skip ≡ false
    → length (drivers_for x.terminator o.call) ≡ length o.told
drivers_so law start streams entries x opens thread o own can replay follows is apart may sent_on = drivers_found start streams entries x opens thread o can replay follows is sent_on law
