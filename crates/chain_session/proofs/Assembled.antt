-- A begin by what the program keeps is the begin by the definitions.
use Rattle.std.proofs.Common.{◌≡◌, ◌∙◌, ℕ, ◌+◌, Bool, true, false, not, cond, ◌||◌, ◌&&◌, Option, Some, None, List, [], ◌∷◌, ◌++◌, length, map, refl, ap, sym, subst}
use Rattle.std.proofs.lemmas.List.{map-append, length-map}
use Rattle.std.specs.Prelude.{is_some}
use Rattle.std.specs.List.{flat_map, zip}
use Rattle.command_tables.specs.Calls.{CallContent, DriverCallContent, ReplyContent, call_content}
use Rattle.command_tables.specs.Effects.{succeeds}
use Rattle.command_tables.specs.Tests.{same_command}
use Rattle.command_tables.specs.declared.types.Code.{Code}
use Rattle.command_tables.specs.declared.types.CommandId.TheVariants as cmd
use Rattle.model_driver.specs.Driver.{reply_shown}
use Rattle.model_driver.specs.Logs.{Log, logged}
use Rattle.trace_format.specs.Content.{BeginEvent}
use Rattle.object_model.specs.History.{Birth}
use Rattle.object_model.specs.declared.PartKind.{PartKind}
use Rattle.object_model.specs.Findings.{Findings, Report, at_place, is_failing}
use Rattle.replay_model.specs.declared.Named.{Named}
use Rattle.replay_model.specs.Setup.{Setup, parts_of, refusal_of}
use Rattle.replay_model.specs.Past.{Opened, is_skipped}
use Rattle.replay_model.specs.Judged.{is_refused}
use Rattle.replay_model.specs.Direct.{answers_to}
use Rattle.replay_model.specs.Text.{chain_text, report_text}
use Rattle.layer_model.specs.Terminator.{told_call}
use Rattle.layer_model.specs.Walks.{PartState, nothing_found}
use Rattle.terminator.specs.Calls.{TerminatorState, drivers_for, targets_of}
use Rattle.lifetime_layer.specs.declared.verdict.Verdict.{Verdict}
use Rattle.lifetime_layer.specs.Reports.{report_of, reports_of}
use Rattle.chain_model.specs.Handed.{Handed}
use Rattle.chain_model.specs.Simulated.{Held, after_begin, after_none, after_walk, base_of, found_by, held_of}
use Rattle.chain_model.specs.Traces.{starts_chain}
use Rattle.dispatch_chain.specs.Holding.{HeldCalls, IsHeldOf}
use Rattle.dispatch_chain.specs.Seats.{kinds_of}
use Rattle.session_model.specs.Session.{SessionKept}
use Rattle.session_model.specs.Living.{ArePast}
use Rattle.session_model.specs.Beginning.{begun_kept, calls_told, drivers_kept, findings_kept, loader_kept, walk_kept}
use Rattle.session_model.specs.Stands.{AreRepliesTo}
use Rattle.session_parts.specs.declared.parts.SessionParts.{SessionParts}
use Rattle.session_parts.specs.Judging.{Passes, found_at}
use Rattle.session_parts.specs.Names.{NamesKept}
use Rattle.session_parts.specs.Opening.{opened_first}
use Rattle.session_parts.proofs.Ended.{past_sent}
use Rattle.chain_session.specs.declared.call.OpenCall.{OpenCall}
use Rattle.chain_session.specs.declared.kept.Kept.{Kept}
use Rattle.chain_session.specs.Beginning.{Begins}
use Rattle.chain_session.specs.Judging.{IsJudged}
use Rattle.chain_session.specs.Keeping.{KeepsBegun}
use Rattle.chain_session.specs.Opened.{opened_of, sent_of}
use Rattle.chain_session.specs.Sending.{IsSentTo, calls_due, drivers_due}
use Rattle.chain_session.specs.Shown.{AreHeldAs, IsHeldAs, Shows, kinds_chained, refusal_at}

-- ---- the values that a begin reads

-- the count of calls, the names, the births of what lives, what the parts keep, the handles, and the end of the chain
pub record Read : Type 0 where
  pub calls : ℕ
  pub names : List Named
  pub births : List Birth
  pub states : List PartState
  pub handed : List Handed
  pub terminator : TerminatorState

-- the end of the chain without its room, of which the definitions say nothing
abbrev pub roomless : TerminatorState → TerminatorState
roomless t = record { ids = t.ids; routes = t.routes; drivers = t.drivers; spare = 0; values = 0; bytes = 0 }

-- what the program keeps of them
abbrev pub read_of : Kept → Read
read_of x = record { calls = x.calls; names = x.parts.names.kept.names; births = x.parts.names.kept.births; states = x.parts.states.kept; handed = x.parts.names.kept.handed; terminator = roomless x.parts.terminator }

-- what the definitions keep of them
abbrev pub read_in : Setup → SessionKept → Read
read_in s k = record { calls = k.calls; names = k.names; births = k.births; states = k.chain.states; handed = k.chain.handed; terminator = record { ids = k.chain.terminator; routes = k.chain.routes; drivers = s.drivers; spare = 0; values = 0; bytes = 0 } }

pub read_same : (s : Setup) (x : Kept) (k : SessionKept) → Shows s x k → read_of x ≡ read_in s k
read_same s x k sh = λ i. record {
  calls = sh.calls i;
  names = sh.parts.names i;
  births = sh.parts.births i;
  states = sh.parts.states i;
  handed = sh.parts.handed i;
  terminator = record { ids = sh.parts.ids i; routes = sh.parts.routes i; drivers = sh.parts.drivers i; spare = 0; values = 0; bytes = 0 };
}

sent_roomless : (t : TerminatorState) (judged sent : OpenCall) (log0 log1 : Log) → IsSentTo t judged sent log0 log1 → IsSentTo (roomless t) judged sent log0 log1
sent_roomless t judged sent log0 log1 p = record { opened = p.opened; asked = p.asked; held = p.held; bottom = p.bottom; refusal = p.refusal; chain = p.chain }

-- what the steps of a begin came to, by these values
pub record Steps (v : Read) (e : BeginEvent) (number : ℕ) (refusal : Option Code) (judged : OpenCall) (verdict : Verdict) (after : List PartState) : Type 0 where
  pub counted : number ≡ v.calls + 1
  pub judges : IsJudged v.births v.handed v.states (opened_first number v.names e refusal) judged verdict after

-- ---- what is skipped goes to no driver

due_so : (t : TerminatorState) (c : OpenCall) (w : CallContent) (skip : Bool) → is_skipped (opened_of c) ≡ skip → (skip ≡ false → call_content c.bottom ≡ w)
    → (calls_due t c ≡ map (told_call t.ids w) (cond skip [] (drivers_for t w))) × (drivers_due t c ≡ cond skip [] (drivers_for t w))
due_so t c w true is bottom = (ap (λ b. cond b [] (targets_of t (call_content c.bottom))) is, ap (λ b. cond b [] (drivers_for t (call_content c.bottom))) is)
due_so t c w false is bottom = (
  ap (λ b. cond b [] (targets_of t (call_content c.bottom))) is ∙ ap (targets_of t) (bottom refl),
  ap (λ b. cond b [] (drivers_for t (call_content c.bottom))) is ∙ ap (drivers_for t) (bottom refl),
)

-- a call that nothing stopped came down
down_so : (refused failing : Bool) (rs : List Report) (found : Findings) → (refused || is_some (cond refused nothing_found (cond failing (record { reports = rs; stop = Some 0 }) found)).stop) ≡ false
    → not (refused || failing) ≡ true
down_so true failing rs found h = cc
down_so false true rs found h = cc
down_so false false rs found h = refl

-- a code is there where the chain is refused
code_there : (t : Bool) (r : Option Code) → is_some (cond t r None) ≡ (t && is_some r)
code_there true r = refl
code_there false r = refl

both_first : (a b : Bool) → (a && b) ≡ true → a ≡ true
both_first true b h = refl
both_first false b h = cc

or_first : (a b : Bool) → (a || b) ≡ false → a ≡ false
or_first true b h = cc
or_first false b h = refl

-- ---- a begin

module _ (s : Setup) (k : SessionKept) (e : BeginEvent) (number : ℕ) (refusal : Option Code) (judged : OpenCall) (verdict : Verdict) (after : List PartState)
    (is : refusal ≡ refusal_at s e.cmd e.payload) (st : Steps (read_in s k) e number refusal judged verdict after) where
  abbrev o : Opened
  o = opened_first (k.calls + 1) k.names e refusal

  abbrev t : TerminatorState
  t = record { ids = k.chain.terminator; routes = k.chain.routes; drivers = s.drivers; spare = 0; values = 0; bytes = 0 }

  abbrev failing : Bool
  failing = is_failing (loader_kept k e)

  abbrev found : Findings
  found = found_at k.births k.chain.states k.chain.handed o

  abbrev skip : Bool
  skip = is_refused s e.cmd e.payload || is_some (findings_kept s k e).stop

  refused_is : is_some refusal ≡ is_refused s e.cmd e.payload
  refused_is = ap (λ (r : Option Code). is_some r) is ∙ code_there (same_command e.cmd cmd.CreateInstance) (refusal_of (s.outcome e.payload))

  found_is : found ≡ findings_kept s k e
  found_is = ap (λ b. cond b nothing_found (found_by (loader_kept k e) (walk_kept k e).found)) refused_is

  well_judged : IsJudged k.births k.chain.handed k.chain.states o judged verdict after
  well_judged = subst (λ n. IsJudged k.births k.chain.handed k.chain.states (opened_first n k.names e refusal) judged verdict after) st.counted st.judges

  stops_so : (is_some refusal || is_some found.stop) ≡ skip
  stops_so = ap (λ b. b || is_some found.stop) refused_is ∙ ap (λ (f : Findings). is_refused s e.cmd e.payload || is_some f.stop) found_is

  skipped_is : is_skipped (opened_of judged) ≡ skip
  skipped_is = ap is_skipped well_judged.opened ∙ stops_so

  bottom_is : skip ≡ false → call_content judged.bottom ≡ (walk_kept k e).bottom
  bottom_is h = well_judged.bottom (down_so (is_some refusal) failing (at_place 0 (loader_kept k e)) (walk_kept k e).found (stops_so ∙ h))

  pub due : (calls_due t judged ≡ calls_told s k e) × (drivers_due t judged ≡ drivers_kept s k e)
  due = due_so t judged (walk_kept k e).bottom skip skipped_is bottom_is

  pub opened_is : (sent : OpenCall) (log0 log1 : Log) → IsSentTo t judged sent log0 log1 → opened_of sent ≡ (begun_kept s k e).opened
  opened_is sent log0 log1 went =
      went.opened
      ∙ (ap (λ (p : Opened). record p { drivers = drivers_due t judged }) well_judged.opened
      ∙ (ap (λ ds. record o { stop = found.stop; drivers = ds }) due.1
      ∙ (ap (λ (f : Findings). record o { stop = f.stop; drivers = drivers_kept s k e }) found_is
      ∙ ap (λ b. record o { stop = (findings_kept s k e).stop; refused = b; drivers = drivers_kept s k e }) refused_is)))

  pub reports_is : reports_of verdict.findings.items ≡ (findings_kept s k e).reports
  reports_is = well_judged.reports ∙ ap (λ (f : Findings). f.reports) found_is

  pub answers_is : (sent : OpenCall) (log0 log1 : Log) → IsSentTo t judged sent log0 log1 → AreRepliesTo (calls_told s k e) (map reply_shown sent.replies.items)
  answers_is sent log0 log1 went = subst (λ (cs : List DriverCallContent). AreRepliesTo cs (map reply_shown sent.replies.items)) due.0 went.asked.answers

  pub told_is : (sent : OpenCall) (log0 log1 : Log) → IsSentTo t judged sent log0 log1 → log1 ≡ logged log0 (zip (calls_told s k e) (map reply_shown sent.replies.items))
  told_is sent log0 log1 went = went.asked.told ∙ ap (λ (cs : List DriverCallContent). logged log0 (zip cs (map reply_shown sent.replies.items))) due.0

  -- ---- the chain then

  abbrev b : Bool
  b = is_refused s e.cmd e.payload || failing

  abbrev begun : Opened
  begun = (begun_kept s k e).opened

  states_in_turn : (b : Bool) → cond (not b) (walk_kept k e).states k.chain.states ≡ (cond b (after_none k.chain begun) (after_walk k.chain begun (walk_kept k e))).states
  states_in_turn true = refl
  states_in_turn false = refl

  pub states_is : after ≡ (after_begin k.chain (loader_kept k e) begun).states
  states_is = well_judged.states ∙ (ap (λ r. cond (not (r || failing)) (walk_kept k e).states k.chain.states) refused_is ∙ states_in_turn b)

  rest_stays : (b : Bool) → ((cond b (after_none k.chain begun) (after_walk k.chain begun (walk_kept k e))).terminator ≡ k.chain.terminator)
      × (((cond b (after_none k.chain begun) (after_walk k.chain begun (walk_kept k e))).routes ≡ k.chain.routes) × ((cond b (after_none k.chain begun) (after_walk k.chain begun (walk_kept k e))).handed ≡ k.chain.handed))
  rest_stays true = (refl, (refl, refl))
  rest_stays false = (refl, (refl, refl))

  pub rest_is : ((after_begin k.chain (loader_kept k e) begun).terminator ≡ k.chain.terminator)
      × (((after_begin k.chain (loader_kept k e) begun).routes ≡ k.chain.routes) × ((after_begin k.chain (loader_kept k e) begun).handed ≡ k.chain.handed))
  rest_is = rest_stays b

  -- ---- the open call

  abbrev held : Bool → Held
  held b = held_of begun (cond (not b) (walk_kept k e).forms []) (cond (not b) (walk_kept k e).bottom (base_of begun))

  held_in_turn : (b : Bool) → k.chain.held ++ held b ∷ [] ≡ (cond b (after_none k.chain begun) (after_walk k.chain begun (walk_kept k e))).held
  held_in_turn true = refl
  held_in_turn false = refl

  pub held_is : k.chain.held ++ held b ∷ [] ≡ (after_begin k.chain (loader_kept k e) begun).held
  held_is = held_in_turn b

  down_is : skip ≡ false → b ≡ false
  down_is h = not_true b (ap (λ r. not (r || failing)) (sym refused_is) ∙ down_so (is_some refusal) failing (at_place 0 (loader_kept k e)) (walk_kept k e).found (stops_so ∙ h))
    where
      not_true : (b : Bool) → not b ≡ true → b ≡ false
      not_true true h = cc
      not_true false h = refl

  bottom_held : (b : Bool) → b ≡ false → (walk_kept k e).bottom ≡ cond (not b) (walk_kept k e).bottom (base_of begun)
  bottom_held true h = cc
  bottom_held false h = refl

  chained_so : (sent : OpenCall) → opened_of sent ≡ (begun_kept s k e).opened → (same_command e.cmd cmd.CreateInstance ≡ true → is_refused s e.cmd e.payload ≡ false → kinds_chained sent.chain ≡ parts_of (s.outcome e.payload))
      → is_skipped (opened_of sent) ≡ false → starts_chain (opened_of sent) ≡ true → kinds_chained sent.chain ≡ parts_of (s.outcome sent.payload.items)
  chained_so sent opened chained h starts =
      chained (both_first (same_command e.cmd cmd.CreateInstance) (succeeds e.cmd e.code) (sym (ap starts_chain opened) ∙ starts)) (or_first (is_refused s e.cmd e.payload) (is_some (findings_kept s k e).stop) (sym (ap is_skipped opened) ∙ h))
      ∙ ap (λ (p : Opened). parts_of (s.outcome p.payload)) (sym opened)

  pub held_as : (sent : OpenCall) (log0 log1 : Log) → IsSentTo t judged sent log0 log1 → (same_command e.cmd cmd.CreateInstance ≡ true → is_refused s e.cmd e.payload ≡ false → kinds_chained sent.chain ≡ parts_of (s.outcome e.payload)) → judged.refusal ≡ refusal
      → IsHeldAs s (kinds_of k.chain.states) sent (held b)
  held_as sent log0 log1 went chained kept = record {
    thread = ap (λ (p : Opened). p.thread) (sym (opened_is sent log0 log1 went));
    forms = subst (λ (h : HeldCalls). IsHeldOf h (kinds_of k.chain.states) (cond (not b) (walk_kept k e).forms [])) (sym went.held)
        (subst (λ r. IsHeldOf judged.held (kinds_of k.chain.states) (cond (not (r || failing)) (walk_kept k e).forms [])) refused_is well_judged.held);
    bottom = λ h. let goes : skip ≡ false = sym (ap is_skipped (opened_is sent log0 log1 went)) ∙ h in
        ap call_content went.bottom ∙ (bottom_is goes ∙ bottom_held b (down_is goes));
    refusal = went.refusal ∙ (kept ∙ (is ∙ ap (λ (p : Opened). refusal_at s p.cmd p.payload) (sym (opened_is sent log0 log1 went))));
    chain = λ h starts. chained_so sent (opened_is sent log0 log1 went) chained h starts;
  }

-- ---- all that is kept

held_more : (s : Setup) (kinds : List PartKind) (calls : List OpenCall) (hs : List Held) (c : OpenCall) (h : Held) → AreHeldAs s kinds calls hs → IsHeldAs s kinds c h → AreHeldAs s kinds (calls ++ c ∷ []) (hs ++ h ∷ [])
held_more s kinds [] [] c h all one = (one, tt)
held_more s kinds [] (g ∷ hs) c h all one = absurd all
held_more s kinds (x ∷ calls) [] c h all one = absurd all
held_more s kinds (x ∷ calls) (g ∷ hs) c h all one = (all.0, held_more s kinds calls hs c h all.1 one)

-- what the steps of a begin came to, by what the program keeps
pub record Stepped (s : Setup) (x : Kept) (e : BeginEvent) (number : ℕ) (refusal : Option Code) (judged sent : OpenCall) (verdict : Verdict) (mid : SessionParts) (new : Kept) (log0 log1 : Log) (lines0 lines1 : List ℕ) : Type 0 where
  pub counted : number ≡ x.calls + 1
  pub refused : refusal ≡ refusal_at s e.cmd e.payload
  pub judges : IsJudged x.parts.names.kept.births x.parts.names.kept.handed x.parts.states.kept (opened_first number x.parts.names.kept.names e refusal) judged verdict mid.states.kept
  pub passes : Passes x.parts (opened_of judged) mid
  pub keeps : judged.refusal ≡ refusal
  pub kinds : kinds_of mid.states.kept ≡ kinds_of x.parts.states.kept
  pub sends : IsSentTo x.parts.terminator judged sent log0 log1
  pub chained : same_command e.cmd cmd.CreateInstance ≡ true → is_refused s e.cmd e.payload ≡ false → kinds_chained sent.chain ≡ parts_of (s.outcome e.payload)
  pub begun : KeepsBegun (record x { parts = mid }) sent (length verdict.findings.items) new
  pub wrote : lines1 ≡ lines0 ++ (chain_text s e number ++ flat_map (report_text e number) (reports_of verdict.findings.items))

pub begins_so : (s : Setup) (x : Kept) (e : BeginEvent) (number : ℕ) (refusal : Option Code) (judged sent : OpenCall) (verdict : Verdict) (mid : SessionParts) (new : Kept) (log0 log1 : Log) (lines0 lines1 : List ℕ)
    → Stepped s x e number refusal judged sent verdict mid new log0 log1 lines0 lines1 → (k : SessionKept) → Shows s x k → Begins s k e (map reply_shown sent.replies.items) new log0 log1 lines0 lines1
begins_so s x e number refusal judged sent verdict mid new log0 log1 lines0 lines1 p k sh =
    let after : List PartState = mid.states.kept in
    let st : Steps (read_in s k) e number refusal judged verdict after =
    subst (λ v. Steps v e number refusal judged verdict after) (read_same s x k sh) (record { counted = p.counted; judges = p.judges }) in
    let went : IsSentTo (read_in s k).terminator judged sent log0 log1 = subst (λ v. IsSentTo v.terminator judged sent log0 log1) (read_same s x k sh) (sent_roomless x.parts.terminator judged sent log0 log1 p.sends) in
    let opened : opened_of sent ≡ (begun_kept s k e).opened = opened_is s k e number refusal judged verdict after p.refused st sent log0 log1 went in
    let found : reports_of verdict.findings.items ≡ (findings_kept s k e).reports = reports_is s k e number refusal judged verdict after p.refused st in
    let states : after ≡ (after_begin k.chain (loader_kept k e) (begun_kept s k e).opened).states = states_is s k e number refusal judged verdict after p.refused st in
    let rest = rest_is s k e number refusal judged verdict after p.refused st in
    let passed : ArePast x.parts.names.kept.births (opened_of sent) mid.names.kept.births = subst (λ (o : Opened). ArePast x.parts.names.kept.births o mid.names.kept.births) (sym p.sends.opened) (past_sent x.parts.names.kept.births mid.names.kept.births (opened_of judged) (drivers_due x.parts.terminator judged) p.passes.past) in
    let past : ArePast k.births (begun_kept s k e).opened new.parts.names.kept.births =
    subst (λ (y : SessionParts). ArePast k.births (begun_kept s k e).opened y.names.kept.births) (sym p.begun.parts)
    (subst (λ (o : Opened). ArePast k.births o mid.names.kept.births) opened (subst (λ (bs : List Birth). ArePast bs (opened_of sent) mid.names.kept.births) sh.parts.births passed)) in
    let named : new.parts.names.kept ≡ record x.parts.names.kept { births = mid.names.kept.births } = ap (λ (y : SessionParts). y.names.kept) p.begun.parts ∙ p.passes.names in
    let stays : new.parts.states.kept ≡ after = ap (λ (y : SessionParts). y.states.kept) p.begun.parts in
    let ended : new.parts.terminator ≡ x.parts.terminator = ap (λ (y : SessionParts). y.terminator) p.begun.parts ∙ p.passes.terminator in
    let own : List ReplyContent = map reply_shown sent.replies.items in
    let kinds : kinds_of new.parts.states.kept ≡ kinds_of k.chain.states = ap kinds_of stays ∙ (p.kinds ∙ ap kinds_of sh.parts.states) in
    record {
      births = new.parts.names.kept.births;
      answers = answers_is s k e number refusal judged verdict after p.refused st sent log0 log1 went;
      past = past;
      shows = record {
        calls = p.begun.calls ∙ ap (λ (o : Opened). o.number) opened;
        skipped = p.begun.skipped ∙ (ap (λ n. n + cond (is_skipped (opened_of sent)) 1 0) sh.skipped ∙ ap (λ (o : Opened). k.skipped + cond (is_skipped o) 1 0) opened);
        reports = p.begun.reports ∙ (ap (λ n. n + length verdict.findings.items) sh.reports ∙ ap (λ n. k.reports + n) (sym (length-map verdict.findings.items report_of) ∙ ap (λ rs. length rs) found));
        parts = record {
          names = ap (λ (n : NamesKept). n.names) named ∙ sh.parts.names;
          count = ap (λ (n : NamesKept). n.count) named ∙ sh.parts.count;
          births = refl;
          retrieved = ap (λ (n : NamesKept). n.retrieved) named ∙ sh.parts.retrieved;
          states = stays ∙ states;
          ids = ap (λ (t : TerminatorState). t.ids) ended ∙ (sh.parts.ids ∙ sym rest.0);
          routes = ap (λ (t : TerminatorState). t.routes) ended ∙ (sh.parts.routes ∙ sym rest.1.0);
          handed = ap (λ (n : NamesKept). n.handed) named ∙ (sh.parts.handed ∙ sym rest.1.1);
          drivers = ap (λ (t : TerminatorState). t.drivers) ended ∙ sh.parts.drivers;
        };
        sent = ap (map sent_of) p.begun.open_calls ∙ (map-append sent_of x.open_calls (sent ∷ []) ∙ (ap (λ cs. cs ++ sent_of sent ∷ []) sh.sent
            ∙ ap (λ (o : Opened). k.sent ++ record { opened = o; answers = answers_to o own } ∷ []) opened));
        held = subst (λ hs. AreHeldAs s (kinds_of new.parts.states.kept) new.open_calls hs) (held_is s k e number refusal judged verdict after p.refused st)
            (subst (λ cs. AreHeldAs s (kinds_of new.parts.states.kept) cs (k.chain.held ++ held s k e number refusal judged verdict after p.refused st (b s k e number refusal judged verdict after p.refused st) ∷ [])) (sym p.begun.open_calls)
            (subst (λ qs. AreHeldAs s qs (x.open_calls ++ sent ∷ []) (k.chain.held ++ held s k e number refusal judged verdict after p.refused st (b s k e number refusal judged verdict after p.refused st) ∷ [])) (sym kinds)
            (held_more s (kinds_of k.chain.states) x.open_calls k.chain.held sent (held s k e number refusal judged verdict after p.refused st (b s k e number refusal judged verdict after p.refused st))
            (subst (λ ss. AreHeldAs s (kinds_of ss) x.open_calls k.chain.held) sh.parts.states sh.held)
            (held_as s k e number refusal judged verdict after p.refused st sent log0 log1 went p.chained p.keeps))));
      };
      told = told_is s k e number refusal judged verdict after p.refused st sent log0 log1 went;
      wrote = p.wrote ∙ (ap (λ n. lines0 ++ (chain_text s e n ++ flat_map (report_text e n) (reports_of verdict.findings.items))) (p.counted ∙ ap (λ n. n + 1) sh.calls)
          ∙ ap (λ rs. lines0 ++ (chain_text s e (k.calls + 1) ++ flat_map (report_text e (k.calls + 1)) rs)) found);
    }
