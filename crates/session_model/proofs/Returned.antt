-- A return more: what is kept then stands for the trace with it.
use Rattle.std.proofs.Common.{◌≡◌, ℕ, ◌+◌, Bool, true, false, not, cond, Option, Some, List, [], ◌∷◌, ◌++◌, map, length, refl, sym, ◌∙◌, ap, subst}
use Rattle.std.proofs.lemmas.Bool.{eqb-true}
use Rattle.std.proofs.lemmas.List.{length-append, length-map}
use Rattle.std.specs.Prelude.{find}
use Rattle.std.specs.List.{filter}
use Rattle.std.specs.Option.{option_map_or}
use Rattle.command_tables.specs.Calls.{ReplyContent}
use Rattle.command_tables.specs.Table.{row_of}
use Rattle.trace_format.specs.declared.event.Name.{Name}
use Rattle.trace_format.specs.Content.{TraceEvent, Return}
use Rattle.object_model.specs.History.{Birth, alive, births, births_given}
use Rattle.object_model.specs.Values.{Answered}
use Rattle.replay_model.specs.declared.Born.{Born}
use Rattle.replay_model.specs.declared.Named.{Named}
use Rattle.replay_model.specs.Setup.{Setup}
use Rattle.replay_model.specs.Past.{Opened, Past, Returned, calls_in, history, is_of, is_skipped, named, named_of, object_in, objects_of, open_calls, retrievals, retrieved_by}
use Rattle.replay_model.specs.Births.{made_by}
use Rattle.replay_model.specs.Judged.{judged, made_of, returned_by}
use Rattle.replay_model.specs.Direct.{Sent, answers_of, sends_in, sent}
use Rattle.replay_model.specs.Text.{judged_lines, lines_at, reports_in, return_text, skipped_in}
use Rattle.chain_model.specs.Gaps.{IsGapped}
use Rattle.chain_model.specs.Handed.{Handed}
use Rattle.chain_model.specs.Simulated.{Held, after_reply, after_skipped}
use Rattle.chain_model.specs.Traces.{GivesGuarded, Simulates, held_in_force, in_force}
use Rattle.chain_model.proofs.Accepted.{accepted_judged}
use Rattle.chain_model.proofs.Handing.{simulates_handed}
use Rattle.chain_model.proofs.Grammar.{shaped}
use Rattle.chain_model.proofs.Tracing.{sent_up, skipped_up}
use Rattle.session_model.specs.Session.{SessionKept}
use Rattle.session_tables.specs.Lined.{AreAdded}
use Rattle.session_model.specs.Living.{AreOfLiving}
use Rattle.session_model.specs.Returning.{chain_after_return, given_kept, held_of_thread, kept_after_return, lost_kept, made_kept, return_line, sent_of_thread}
use Rattle.session_model.specs.Stands.{ReturnsWell, Stands}
use Rattle.session_model.specs.Tables.{SaySame, with_tables}
use Rattle.session_model.proofs.Named.{objects_behind}
use Rattle.session_model.proofs.Enough.{living_since, made_alike, retrieved_alike}
use Rattle.session_model.proofs.Owning.{IsOwning, MakesWell, makes_well, owning_judged}

-- the open call that is found is the thread's
found_sent : (thread : ℕ) (cs : List Sent) (c : Sent) → find (λ x. is_of thread x.opened) cs ≡ Some c → (find (is_of thread) (map (λ (x : Sent). x.opened) cs) ≡ Some c.opened) × (c.opened.thread ≡ thread)
found_sent thread [] c is = cc
found_sent thread (x ∷ cs) c is = go (found_sent thread cs c) (is_of thread x.opened) refl is
  where
    go : (find (λ x. is_of thread x.opened) cs ≡ Some c → (find (is_of thread) (map (λ (x : Sent). x.opened) cs) ≡ Some c.opened) × (c.opened.thread ≡ thread)) → (t : Bool) → is_of thread x.opened ≡ t → cond t (Some x) (find (λ x. is_of thread x.opened) cs) ≡ Some c
        → (cond t (Some x.opened) (find (is_of thread) (map (λ (x : Sent). x.opened) cs)) ≡ Some c.opened) × (c.opened.thread ≡ thread)
    go ih true e is = let same : x ≡ c = cc in (ap (λ (y : Sent). Some y.opened) same, ap (λ (y : Sent). y.opened.thread) (sym same) ∙ eqb-true x.opened.thread thread e)
    go ih false e is = ih is

sent_rest : (thread : ℕ) (cs : List Sent) → map (λ (c : Sent). c.opened) (filter (λ c. not (is_of thread c.opened)) cs) ≡ filter (λ o. not (is_of thread o)) (map (λ (c : Sent). c.opened) cs)
sent_rest thread [] = refl
sent_rest thread (c ∷ cs) = go (is_of thread c.opened) (sent_rest thread cs)
  where
    go : (t : Bool) → map (λ (c : Sent). c.opened) (filter (λ c. not (is_of thread c.opened)) cs) ≡ filter (λ o. not (is_of thread o)) (map (λ (c : Sent). c.opened) cs)
        → map (λ (c : Sent). c.opened) (cond (not t) (c ∷ filter (λ c. not (is_of thread c.opened)) cs) (filter (λ c. not (is_of thread c.opened)) cs))
        ≡ cond (not t) (c.opened ∷ filter (λ o. not (is_of thread o)) (map (λ (c : Sent). c.opened) cs)) (filter (λ o. not (is_of thread o)) (map (λ (c : Sent). c.opened) cs))
    go true ih = ih
    go false ih = ap (λ os. c.opened ∷ os) ih

module _ (s : Setup) (k : SessionKept) (events : List TraceEvent) (thread : ℕ) (replies : List ReplyContent) (c : Sent) (h : Held) (guarded : GivesGuarded s) (trace : IsGapped events) (st : Stands s k events replies)
    (is : sent_of_thread k thread ≡ Some c) (held : held_of_thread k thread ≡ Some h) where
  abbrev past : Past
  past = judged s events

  abbrev o : Opened
  o = c.opened

  abbrev made : List Born
  made = made_of s (judged s events) c.opened

  abbrev lost : List Name
  lost = lost_kept s k c.opened

  abbrev bs : List Birth
  bs = births (history (judged s events))

  found : (find (is_of thread) (map (λ (x : Sent). x.opened) k.sent) ≡ Some c.opened) × (c.opened.thread ≡ thread)
  found = found_sent thread k.sent c is

  pub opened_is : find (is_of thread) (open_calls (judged s events)) ≡ Some c.opened
  opened_is = ap (find (is_of thread)) (sym st.open_calls) ∙ found.0

  pub past_is : judged s (Return thread ∷ events) ≡ Returned c.opened (made_of s (judged s events) c.opened) ∷ judged s events
  past_is = ap (returned_by s past) opened_is

  own : IsOwning (history past) (retrievals past)
  own = owning_judged s events trace.each (shaped events trace.grammar)

  makes : MakesWell past o made
  makes = makes_well s events past thread o (accepted_judged s events trace.each (shaped events trace.grammar)) opened_is

  made_is : made_kept s k o ≡ made
  made_is =
      made_alike (history past) (retrievals past) own k.births st.living o makes.known makes.typed s.drivers k.retrieved ∙ ap (λ rs. made_by s.drivers bs (alive (history past)) rs o) st.retrieved

  line_is : return_line s k o ≡ lines_at s past (Return thread)
  line_is =
      ap (λ (ms : List Born). return_text s o (length ms)) made_is
      ∙ ap (λ (f : Option Opened). option_map_or (λ x. judged_lines s (Returned x (made_of s past x))) f []) (sym opened_is)

  answers_are : answers_of (sent past replies) o.thread ≡ c.answers
  answers_are =
      ap (λ cs. answers_of cs o.thread) (sym st.sent)
      ∙ (ap (answers_of k.sent) found.1 ∙ ap (λ (f : Option Sent). option_map_or (λ (x : Sent). x.answers) f []) is)

  pub simulates_skipped : is_skipped c.opened ≡ true → Simulates s (after_skipped k.chain c.opened h (lost_kept s k c.opened)) (Return thread ∷ events) replies
  simulates_skipped skipped = skipped_up s k.chain events thread o h lost replies trace st.simulates opened_is held skipped

  pub simulates_sent : is_skipped c.opened ≡ false
      → Simulates s (after_reply (in_force s k.chain c.opened) c.opened (held_in_force s c.opened h) c.answers (made_kept s k c.opened) (lost_kept s k c.opened)) (Return thread ∷ events) replies
  simulates_sent goes =
      subst (λ (xs : List Answered). Simulates s (after_reply (in_force s k.chain o) o (held_in_force s o h) xs (made_kept s k o) lost) (Return thread ∷ events) replies) answers_are
      (subst (λ (ms : List Born). Simulates s (after_reply (in_force s k.chain o) o (held_in_force s o h) (answers_of (sent past replies) o.thread) ms lost) (Return thread ∷ events) replies) (sym made_is)
      (sent_up s k.chain events thread o h lost replies trace st.simulates opened_is held guarded goes))

  simulates_then : Simulates s (chain_after_return s k c h) (Return thread ∷ events) replies
  simulates_then = go (is_skipped o) refl
    where
      go : (u : Bool) → is_skipped o ≡ u
          → Simulates s (cond u (after_skipped k.chain o h lost) (after_reply (in_force s k.chain o) o (held_in_force s o h) c.answers (made_kept s k o) lost)) (Return thread ∷ events) replies
      go true e = simulates_skipped e
      go false e = simulates_sent e

  lives_then : (births : List Birth) → AreAdded k.births (given_kept s k o) births → AreOfLiving births (history (Returned o made ∷ past))
  lives_then births too =
      living_since (history past) (retrievals past) own k.births st.living o makes.known makes.typed made makes.bearing makes.have births
      (subst (λ (ms : List Born). AreAdded k.births (births_given k.births o.args (row_of o.cmd).effect (objects_of ms)) births) made_is too)

  names_then : (n : Name) → object_in (k.names ++ map named_of (made_kept s k o)) n ≡ object_in (named (judged s (Return thread ∷ events))) n
  names_then n =
      objects_behind k.names (named past) st.names (map named_of (made_kept s k o)) n
      ∙ (ap (λ (ms : List Born). object_in (named past ++ map named_of ms) n) made_is ∙ sym (ap (λ (p : Past). object_in (named p) n) past_is))

  count_then : k.count + length (made_kept s k o) ≡ length (named (judged s (Return thread ∷ events)))
  count_then =
      ap (λ n. n + length (made_kept s k o)) st.count
      ∙ (ap (λ (ms : List Born). length (named past) + length ms) made_is
      ∙ (ap (λ n. length (named past) + n) (sym (length-map made named_of)) ∙ (sym (length-append (named past) (map named_of made)) ∙ sym (ap (λ (p : Past). length (named p)) past_is))))

  stands_then : (births : List Birth) (names : List Named) (handed : List Handed) → AreAdded k.births (given_kept s k o) births → SaySame (kept_after_return s k c h births) names handed
      → Stands s (with_tables (kept_after_return s k c h births) names handed) (Return thread ∷ events) replies
  stands_then births names handed too alike = record {
    calls = st.calls ∙ sym (ap calls_in past_is);
    skipped = st.skipped ∙ sym (ap skipped_in past_is);
    reports = st.reports ∙ sym (ap reports_in past_is);
    names = λ n. alike.names n ∙ names_then n;
    count = count_then;
    living = subst (λ (p : Past). AreOfLiving births (history p)) (sym past_is) (lives_then births too);
    retrieved = ap (λ rs. rs ++ retrieved_by k.births o (made_kept s k o)) st.retrieved
        ∙ (ap (λ (ms : List Born). retrievals past ++ retrieved_by k.births o ms) made_is
        ∙ (ap (λ ks. retrievals past ++ ks) (retrieved_alike (history past) (retrievals past) own k.births st.living o makes.known makes.typed made makes.bearing makes.have) ∙ sym (ap retrievals past_is)));
    open_calls = sent_rest o.thread k.sent ∙ (ap (filter (λ x. not (is_of o.thread x))) st.open_calls ∙ sym (ap open_calls past_is));
    sent = ap (filter (λ x. not (is_of o.thread x.opened))) st.sent ∙ sym (ap (λ (p : Past). sent p replies) past_is);
    each = st.each ∙ sym (ap sends_in past_is);
    simulates = simulates_handed s (chain_after_return s k c h) (Return thread ∷ events) replies handed simulates_then alike.handed;
  }

  pub returns_well : ReturnsWell s k events thread replies c h
  returns_well = record { opened = opened_is; made = made_is; line = line_is; stands = stands_then }
