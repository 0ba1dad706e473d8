-- The steps of a begin, put together.
use Rattle.std.proofs.Common.{◌≡◌, ◌∙◌, ℕ, ◌+◌, Bool, true, false, cond, ◌&&◌, Option, List, [], ◌++◌, map, ap, sym, subst, append_assoc}
use Rattle.std.specs.Prelude.{is_some}
use Rattle.std.specs.List.{AllByRecursion, flat_map}
use Rattle.command_tables.specs.Calls.{DriverCallContent, call_content}
use Rattle.command_tables.specs.Tests.{same_command}
use Rattle.command_tables.specs.declared.types.Code.{Code}
use Rattle.command_tables.specs.declared.types.CommandId.TheVariants as cmd
use Rattle.model_driver.specs.Driver.{HasShape, reply_shown}
use Rattle.model_driver.specs.Logs.{Log}
use Rattle.trace_format.specs.Content.{BeginEvent}
use Rattle.object_model.specs.declared.PartKind.{PartKind}
use Rattle.replay_model.specs.Setup.{Chain, Outcome, Refused, Setup, TooLong, parts_of, refusal_of}
use Rattle.replay_model.specs.Past.{Opened, is_skipped}
use Rattle.replay_model.specs.Text.{chain_text, report_text}
use Rattle.chain_build.specs.declared.answers.Chain.{Chain as Built}
use Rattle.terminator.specs.Calls.{TerminatorState, targets_of}
use Rattle.lifetime_layer.specs.declared.verdict.Verdict.{Verdict}
use Rattle.lifetime_layer.specs.Reports.{reports_of}
use Rattle.dispatch_chain.specs.Seats.{kinds_of}
use Rattle.session_model.specs.Session.{SessionKept}
use Rattle.session_model.specs.Beginning.{calls_told}
use Rattle.session_parts.specs.declared.parts.SessionParts.{SessionParts}
use Rattle.session_parts.specs.Judging.{Passes}
use Rattle.session_parts.specs.Opening.{opened_first}
use Rattle.chain_session.specs.declared.call.OpenCall.{OpenCall}
use Rattle.chain_session.specs.declared.creation.Creation.{Creation}
use Rattle.chain_session.specs.declared.kept.Kept.{Kept}
use Rattle.chain_session.specs.Beginning.{BeginsAs, CutShort, Tells}
use Rattle.chain_session.specs.Creation.{IsCreated, IsStart}
use Rattle.chain_session.specs.Judging.{IsJudged}
use Rattle.chain_session.specs.Opened.{opened_of}
use Rattle.chain_session.specs.Sending.{IsSentTo, calls_due}
use Rattle.chain_session.specs.Shown.{Shows, kinds_chained, refusal_at}
use Rattle.chain_session.specs.Telling.{FrontAsked}
use Rattle.chain_session.proofs.Assembled.{Steps, begins_so, due, read_in, read_same}
use Rattle.chain_session.proofs.Told.{none_asked}

-- the chain of a call that isn't refused is that of the outcome
pub chained_from : (t : Bool) (o : Outcome) (creation : Creation) (chain : Option Built) → IsCreated t o creation → ((kinds : List PartKind) → IsStart kinds creation → kinds_chained chain ≡ kinds)
    → t ≡ true → (t && is_some (refusal_of o)) ≡ false → kinds_chained chain ≡ parts_of o
chained_from true (Chain parts text) creation chain made f is not = f parts made
chained_from true (Refused code text) creation chain made f is not = cc
chained_from true (TooLong layers) creation chain made f is not = absurd made
chained_from false o creation chain made f is not = cc

module _ (s : Setup) (x : Kept) (e : BeginEvent) (number : ℕ) (refusal : Option Code) (judged : OpenCall) (verdict : Verdict) (mid : SessionParts)
    (counted : number ≡ x.calls + 1) (refused : refusal ≡ refusal_at s e.cmd e.payload)
    (judges : IsJudged x.parts.names.kept.births x.parts.names.kept.handed x.parts.states.kept (opened_first number x.parts.names.kept.names e refusal) judged verdict mid.states.kept) where
  steps_in : (k : SessionKept) → Shows s x k → Steps (read_in s k) e number refusal judged verdict mid.states.kept
  steps_in k sh = subst (λ v. Steps v e number refusal judged verdict mid.states.kept) (read_same s x k sh) (record { counted = counted; judges = judges })

  -- what the drivers are told of it is what the definitions say
  due_in : (k : SessionKept) → Shows s x k → calls_due x.parts.terminator judged ≡ calls_told s k e
  due_in k sh = ap (λ v. calls_due v.terminator judged) (read_same s x k sh) ∙ (due s k e number refusal judged verdict mid.states.kept refused (steps_in k sh)).0

  pub shapes_so : (k : SessionKept) → Shows s x k → AllByRecursion HasShape (calls_told s k e) → is_skipped (opened_of judged) ≡ false → AllByRecursion HasShape (targets_of x.parts.terminator (call_content judged.bottom))
  shapes_so k sh shapes sent =
      subst (λ (cs : List DriverCallContent). AllByRecursion HasShape cs) (sym (due_in k sh) ∙ ap (λ b. cond b [] (targets_of x.parts.terminator (call_content judged.bottom))) sent) shapes

  -- so were the first so many of them
  pub cut_so : (log0 log1 : Log) → FrontAsked (calls_due x.parts.terminator judged) log0 log1 → CutShort s x e log0 log1
  cut_so log0 log1 f = λ k sh. subst (λ (cs : List DriverCallContent). FrontAsked cs log0 log1) (due_in k sh) f

  pub number_so : judged.number ≡ number
  number_so = ap (λ (o : Opened). o.number) judges.opened

  -- the begin is the definitions'
  pub began_so : (y new : Kept) (log0 log1 : Log) (lines0 lines1 lines2 : List ℕ) → y ≡ record x { parts = mid } → Passes x.parts (opened_of judged) mid → kinds_of mid.states.kept ≡ kinds_of x.parts.states.kept → judged.refusal ≡ refusal
      → (same_command e.cmd cmd.CreateInstance ≡ true → (same_command e.cmd cmd.CreateInstance && is_some (refusal_of (s.outcome e.payload))) ≡ false → kinds_chained judged.chain ≡ parts_of (s.outcome e.payload))
      → lines1 ≡ lines0 ++ chain_text s e number → Tells y judged e verdict new log0 log1 lines1 lines2 → BeginsAs s x e new log0 log1 lines0 lines2
  began_so y new log0 log1 lines0 lines1 lines2 is passes kinds kept chained wrote tells =
      let again = subst (λ z. Tells z judged e verdict new log0 log1 lines1 lines2) is tells in
      record {
        own = map reply_shown again.sent.replies.items;
        begins = λ k sh. begins_so s x e number refusal judged again.sent verdict mid new log0 log1 lines0 lines2
            (record {
              counted = counted;
              refused = refused;
              judges = judges;
              passes = passes;
              keeps = kept;
              kinds = kinds;
              sends = subst (λ (t : TerminatorState). IsSentTo t judged again.sent log0 log1) passes.terminator again.sends;
              chained = λ made allowed. ap kinds_chained again.sends.chain ∙ chained made allowed;
              begun = again.begun;
              wrote = again.wrote ∙ (ap (λ ls. ls ++ flat_map (report_text e judged.number) (reports_of verdict.findings.items)) wrote
                  ∙ (append_assoc lines0 (chain_text s e number) (flat_map (report_text e judged.number) (reports_of verdict.findings.items))
                  ∙ ap (λ n. lines0 ++ (chain_text s e number ++ flat_map (report_text e n) (reports_of verdict.findings.items))) number_so));
            }) k sh;
      }

-- nothing was told
pub cut_first : (s : Setup) (x : Kept) (e : BeginEvent) (log0 log1 : Log) → log1 ≡ log0 → CutShort s x e log0 log1
cut_first s x e log0 log1 is = λ k sh. none_asked (calls_told s k e) log0 log1 is
