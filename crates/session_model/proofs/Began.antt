-- A begin more: what is kept then stands for the trace with it.
use Rattle.std.proofs.Common.{◌≡◌, ℕ, suc, ◌+◌, cond, List, [], ◌∷◌, ◌++◌, map, length, reverse, take, refl, sym, ◌∙◌, ap, subst, arith}
use Rattle.std.proofs.lemmas.List.{drop_at, length-append, length-reverse, map-append, reverse-reverse, take-append-drop, take_at}
use Rattle.std.specs.List.{zip}
use Rattle.command_tables.specs.Calls.{ReplyContent}
use Rattle.trace_format.specs.Content.{BeginEvent, TraceEvent, Begin}
use Rattle.object_model.specs.History.{Birth}
use Rattle.replay_model.specs.Setup.{Setup}
use Rattle.replay_model.specs.Past.{Opened, Past, history, is_skipped, retrievals}
use Rattle.replay_model.specs.Judged.{Begun, begun_of, judged}
use Rattle.replay_model.specs.Direct.{Sent, Valued, answers_to, before_call, driver_call, driver_calls, exchanges_at, own_replies, sent, valued}
use Rattle.chain_model.specs.Gaps.{IsGapped, may_all_come, may_come}
use Rattle.chain_model.specs.Traces.{AreAnswered, Replies, loader_finds}
use Rattle.layer_model.proofs.Same.{and_true}
use Rattle.chain_model.proofs.Grammar.{shaped}
use Rattle.chain_model.proofs.Tracing.{goes_down}
use Rattle.session_model.specs.Session.{SessionKept}
use Rattle.session_model.specs.Living.{AreOfLiving, ArePast}
use Rattle.session_model.specs.Beginning.{begun_kept, calls_told, kept_after_begun, loader_kept}
use Rattle.session_model.specs.Stands.{AreRepliesTo, BeginsWell, Stands}
use Rattle.session_model.proofs.Begun.{begun_is, lines_are, loader_is, sends_is, told_is}
use Rattle.session_model.proofs.Enough.{living_past}
use Rattle.session_model.proofs.Owning.{owning_judged}

-- replies to the calls are answers of their drivers
answered_own : (values : List Valued) (o : Opened) (ds : List ℕ) (own : List ReplyContent) → AreRepliesTo (map (driver_call values o) ds) own → AreAnswered values o ds own × (length own ≡ length ds)
answered_own values o [] [] a = (tt, refl)
answered_own values o [] (r ∷ own) a = absurd a
answered_own values o (d ∷ ds) [] a = absurd a
answered_own values o (d ∷ ds) (r ∷ own) a = let rest = answered_own values o ds own a.1 in ((a.0, rest.0), ap suc rest.1)

own_is : (o : Opened) (own replies : List ReplyContent) → length own ≡ length o.drivers → own_replies o (reverse own ++ replies) ≡ own
own_is o own replies is = ap reverse (take_at (reverse own) replies (length o.drivers) (length-reverse own ∙ is)) ∙ reverse-reverse own

back_is : (o : Opened) (own replies : List ReplyContent) → length own ≡ length o.drivers → before_call o (reverse own ++ replies) ≡ replies
back_is o own replies is = drop_at (reverse own) replies (length o.drivers) (length-reverse own ∙ is)

count_is : (o : Opened) (own replies : List ReplyContent) → length own ≡ length o.drivers → length (reverse own ++ replies) ≡ length replies + length o.drivers
count_is o own replies is =
    let all : length (reverse own ++ replies) ≡ length (reverse own) + length replies = length-append (reverse own) replies in
    let turned : length (reverse own) ≡ length own = length-reverse own in omega (arith, all, turned, is)

module _ (s : Setup) (k : SessionKept) (events : List TraceEvent) (e : BeginEvent) (replies : List ReplyContent) (trace : IsGapped (Begin e ∷ events)) (st : Stands s k events replies) (own : List ReplyContent)
    (answers : AreRepliesTo (driver_calls (valued (judged s events) replies) (begun_of s (judged s events) e).opened) own) where
  abbrev past : Past
  past = judged s events

  abbrev b : Begun
  b = begun_of s (judged s events) e

  abbrev after : List ReplyContent
  after = reverse own ++ replies

  answered : AreAnswered (valued past replies) b.opened b.opened.drivers own × (length own ≡ length b.opened.drivers)
  answered = answered_own (valued past replies) b.opened b.opened.drivers own answers

  own_so : own_replies b.opened after ≡ own
  own_so = own_is b.opened own replies answered.1

  back : before_call b.opened after ≡ replies
  back = back_is b.opened own replies answered.1

  pub given : Replies (valued (judged s events) replies) (begun_of s (judged s events) e).opened replies (reverse own ++ replies)
  given = record { back = back; answers = subst (λ rs. AreAnswered (valued past replies) b.opened b.opened.drivers rs) (sym own_so) answered.0 }

  pub exchanged : zip (driver_calls (valued (judged s events) replies) (begun_of s (judged s events) e).opened) own ≡ exchanges_at s (judged s events) (Begin e) (reverse own ++ replies)
  exchanged =
      ap (λ rs. zip (driver_calls (valued past rs) b.opened) own) (sym back)
      ∙ ap (λ rs. zip (driver_calls (valued past (before_call b.opened after)) b.opened) rs) (sym own_so)

  abbrev call : List ReplyContent → Sent
  call rs = record { opened = b.opened; answers = answers_to b.opened rs }

  lives_on : (births : List Birth) → ArePast k.births b.opened births → AreOfLiving births (history (judged s (Begin e ∷ events)))
  lives_on births on =
      let own = owning_judged s events (and_true (may_all_come events) (may_come events (Begin e)) trace.each).0 (shaped (Begin e ∷ events) trace.grammar).1 in
      living_past (history past) (retrievals past) own k.births st.living b.opened births on

  pub stands_begun : (births : List Birth) → ArePast k.births (begun_of s (judged s events) e).opened births
      → Stands s (kept_after_begun k (begun_of s (judged s events) e) (loader_finds (judged s events) (begun_of s (judged s events) e).opened) own births) (Begin e ∷ events) (reverse own ++ replies)
  stands_begun births on = record {
    calls = ap (λ n. n + 1) st.calls;
    skipped = ap (λ n. n + cond (is_skipped b.opened) 1 0) st.skipped;
    reports = ap (λ n. n + length b.reports) st.reports;
    names = st.names;
    count = st.count;
    living = lives_on births on;
    retrieved = st.retrieved;
    open_calls = map-append (λ (c : Sent). c.opened) k.sent (call own ∷ []) ∙ ap (λ os. os ++ b.opened ∷ []) st.open_calls;
    sent = ap (λ cs. cs ++ call own ∷ []) (st.sent ∙ ap (sent past) (sym back)) ∙ ap (λ rs. sent past (before_call b.opened after) ++ call rs ∷ []) (sym own_so);
    each = count_is b.opened own replies answered.1 ∙ ap (λ n. n + length b.opened.drivers) st.each;
    simulates = (goes_down s k.chain events e replies (reverse own ++ replies) trace st.simulates).stands given;
  }

-- answers of the drivers are replies to the calls
own_answered : (values : List Valued) (o : Opened) (ds : List ℕ) (own : List ReplyContent) → AreAnswered values o ds own → AreRepliesTo (map (driver_call values o) ds) own
own_answered values o [] [] a = tt
own_answered values o [] (r ∷ own) a = absurd a
own_answered values o (d ∷ ds) [] a = absurd a
own_answered values o (d ∷ ds) (r ∷ own) a = (a.0, own_answered values o ds own a.1)

-- what is taken off in front, turned, stands in front again
turned_back : (o : Opened) (after replies : List ReplyContent) → before_call o after ≡ replies → reverse (own_replies o after) ++ replies ≡ after
turned_back o after replies back =
    ap (λ rs. rs ++ replies) (reverse-reverse (take (length o.drivers) after)) ∙ (ap (λ rs. take (length o.drivers) after ++ rs) (sym back) ∙ take-append-drop (length o.drivers) after)

-- by what is kept
pub begins_well : (s : Setup) (k : SessionKept) (events : List TraceEvent) (e : BeginEvent) (replies : List ReplyContent) → IsGapped (Begin e ∷ events) → Stands s k events replies → BeginsWell s k events e replies
begins_well s k events e replies trace st =
    let begun : begun_kept s k e ≡ begun_of s (judged s events) e = begun_is s k events e replies trace st in
    let told : calls_told s k e ≡ driver_calls (valued (judged s events) replies) (begun_of s (judged s events) e).opened = told_is s k events e replies trace st in
    let failing : loader_kept k e ≡ loader_finds (judged s events) (begun_of s (judged s events) e).opened = loader_is s k events e replies trace st in
    let to_past = λ (own : List ReplyContent) (a : AreRepliesTo (calls_told s k e) own). subst (λ cs. AreRepliesTo cs own) told a in
    record {
      begun = begun;
      told = told;
      sends = sends_is s k events e replies trace st;
      lines = lines_are s k events e replies trace st;
      answered = λ own a. given s k events e replies trace st own (to_past own a);
      turned = λ after r. (
        subst (λ cs. AreRepliesTo cs (own_replies (begun_of s (judged s events) e).opened after)) (sym told)
            (own_answered (valued (judged s events) replies) (begun_of s (judged s events) e).opened (begun_of s (judged s events) e).opened.drivers (own_replies (begun_of s (judged s events) e).opened after) r.answers),
        turned_back (begun_of s (judged s events) e).opened after replies r.back,
      );
      exchanges = λ own a. ap (λ cs. zip cs own) told ∙ exchanged s k events e replies trace st own (to_past own a);
      stands = λ own births a on.
          subst (λ (x : Begun). Stands s (kept_after_begun k x (loader_kept k e) own births) (Begin e ∷ events) (reverse own ++ replies)) (sym begun)
          (subst (λ fs. Stands s (kept_after_begun k (begun_of s (judged s events) e) fs own births) (Begin e ∷ events) (reverse own ++ replies)) (sym failing)
          (stands_begun s k events e replies trace st own (to_past own a) births (subst (λ (x : Begun). ArePast k.births x.opened births) begun on)));
    }
