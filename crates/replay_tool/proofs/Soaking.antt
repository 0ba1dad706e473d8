-- Replays of generated traces: why one can be cut short, and what it leaves.
use Rattle.std.proofs.Common.{◌≡◌, ◌∙◌, ℕ, ◌≤◌, List, Option, ap, sym, subst, arith, inl, inr}
use Rattle.std.specs.Prelude.{Some, None, IfErr, Result, Ok, Err}
use Rattle.program_words.specs.Asked.{GenAsked}
use Rattle.model_driver.specs.Logs.{Log}
use Rattle.replay_base.specs.Bytes.{GrownByFront}
use Rattle.replay_base.specs.Changes.{Change, Gained}
use Rattle.replay_base.specs.Faults.{raised}
use Rattle.replay_base.specs.declared.limit.Which.TheVariants as which
use Rattle.replay_model.specs.Judged.{judged}
use Rattle.replay_model.specs.Past.{Past, calls_in}
use Rattle.replay_model.specs.Setup.{Setup}
use Rattle.replay_model.specs.Stop.{Stop, Fault, LineBytes, Lines, Names, Layers, at_fault, events_of, stop}
use Rattle.replay_model.specs.Text.{end_line, skipped_in}
use Rattle.trace_gen.specs.Stops.{StopsAtLayersAlone}
use Rattle.trace_gen.specs.declared.turns.TheConstants.{MOST_CALLS}
use Rattle.trace_gen.proofs.StopLemmas.{only_layers}
use Rattle.chain_session.specs.declared.kept.Kept.{Kept}
use Rattle.chain_session.specs.Standing.{Counts}
use Rattle.replay_core.specs.Ending.{PutsText}
use Rattle.replay_core.specs.Replayed.{IsCutShort, Run, StoppedAt}
use Rattle.replay_core.specs.Traffic.{Traffic, end_line_of}
use Rattle.replay_core.specs.declared.error.ReplayError.{ReplayError}
use Rattle.replay_core.specs.declared.error.ReplayError.TheVariants as error
use Rattle.replay_core.specs.declared.status.Status.{Status}
use Rattle.replay_tool.specs.Ends.{CountsTo}
use Rattle.replay_tool.specs.Outcome.{OfGenerated, Soaked, SoakCut, SoakedWhole, SoaksUnder}
use Rattle.replay_tool.specs.Output.{made_text}
use Rattle.replay_tool.specs.Said.{IsSilent, Said}
use Rattle.replay_tool.specs.Showing.{WroteNothing}
use Rattle.replay_tool.specs.Statuses.{line_of, status_of}
use Rattle.replay_tool.proofs.Ending.{by_reports, gave_all, has_all, status_kept}

-- what counts no fault has none
never : (before now : ℕ) → before ≡ 0 → now ≡ 0 → now ≡ raised before → ⊥
never before now none still failed = omega (arith, none, still, failed)

module _ (s : Setup) (made : GenAsked) (few : made.calls ≤ MOST_CALLS) (old_log log : Log) (inner : Run) (of : OfGenerated made old_log log inner) where
  -- the one cause of a stop
  stops_so : (place : Stop) → StoppedAt s place inner → place.cause ≡ Layers
  stops_so place stopped =
      let all : stopped.bytes ≡ made_text made = has_all inner.source (made_text made) stopped.bytes place.line of.source stopped.read in
      subst StopsAtLayersAlone (ap (stop s) (sym all) ∙ stopped.here) (only_layers s made.number made.calls few)

  -- why it can be cut short, where neither its source nor its sink counts faults
  pub cut_within : (e : ReplayError) → inner.source.faults_before ≡ 0 → inner.source.faults ≡ 0 → inner.traffic.sink.faults_before ≡ 0 → inner.traffic.sink.faults ≡ 0
      → IsCutShort s inner e → SoakCut s made old_log log e
  cut_within error.Read sb sn kb kn cut = absurd (never inner.source.faults_before inner.source.faults sb sn cut.failed)
  cut_within error.Write sb sn kb kn cut = absurd (never inner.traffic.sink.faults_before inner.traffic.sink.faults kb kn cut.failed)
  cut_within (error.Trace line fault) sb sn kb kn cut = let is : Fault fault ≡ Layers = stops_so (at_fault line fault) cut in cc
  cut_within (error.Limit which.Lines) sb sn kb kn cut = let is : Lines ≡ Layers = stops_so (record { line = cut.line; cause = Lines }) cut.stopped in cc
  cut_within (error.Limit which.LineBytes) sb sn kb kn cut = let is : LineBytes ≡ Layers = stops_so (record { line = cut.line; cause = LineBytes }) cut.stopped in cc
  cut_within (error.Limit which.Names) sb sn kb kn cut = let is : Names ≡ Layers = stops_so (record { line = cut.line; cause = Names }) cut.stopped in cc
  cut_within (error.Limit which.Chain) sb sn kb kn cut = record { inner = inner; of = of; stopped = cut }
  cut_within (error.Limit which.Manifests) sb sn kb kn cut = absurd cut
  cut_within (error.Limit which.Events) sb sn kb kn cut = absurd cut
  cut_within (error.Limit which.Devices) sb sn kb kn cut = absurd cut
  cut_within error.NoMemory sb sn kb kn cut = inr (record { inner = inner; of = of; ran_out = cut })

  pub cut_result : {T : Type 0} → inner.source.faults_before ≡ 0 → inner.source.faults ≡ 0 → inner.traffic.sink.faults_before ≡ 0 → inner.traffic.sink.faults ≡ 0
      → (r : Result T ReplayError) → IfErr r (IsCutShort s inner) → IfErr r (SoakCut s made old_log log)
  cut_result sb sn kb kn (Ok x) cut = tt
  cut_result sb sn kb kn (Err e) cut = cut_within e sb sn kb kn cut

module _ (s : Setup) (made : GenAsked) (t : Traffic) (errs : Change) (st : Status) where
  -- nothing is written of one that is cut short
  pub soak_cut : (e : ReplayError) → SoakCut s made t.old_log t.log e → WroteNothing t.sink → st ≡ status_of e → Said (line_of e) errs → SoaksUnder s made t errs st None
  soak_cut e cut nothing is said = subst (λ (r : Status). SoaksUnder s made t errs r None) (sym is) (go e cut said)
    where
      go : (e : ReplayError) → SoakCut s made t.old_log t.log e → Said (line_of e) errs → SoaksUnder s made t errs (status_of e) None
      go error.Read cut said = absurd cut
      go error.Write cut said = absurd cut
      go (error.Trace line fault) cut said = absurd cut
      go (error.Limit which.Lines) cut said = absurd cut
      go (error.Limit which.LineBytes) cut said = absurd cut
      go (error.Limit which.Names) cut said = absurd cut
      go (error.Limit which.Chain) cut said = record { cause = cut; nothing = nothing; said = said }
      go (error.Limit which.Manifests) cut said = absurd cut
      go (error.Limit which.Events) cut said = absurd cut
      go (error.Limit which.Devices) cut said = absurd cut
      go error.NoMemory cut said = record { cause = inl cut; nothing = nothing; said = said }

  module _ (x : Option Kept) (whole : SoakedWhole s made x t.old_log t.log) where
    -- the end line by what the session has counted
    line_counted : (calls skipped reports : ℕ) → Counts x calls skipped reports → end_line calls skipped reports ≡ end_line_of s (events_of s (made_text made))
    line_counted calls skipped reports counts =
        let e = whole.ended in
        let past : Past = judged s (events_of s e.bytes) in
        let c = counts s e.stands.kept e.stands.shows in
        let same : e.bytes ≡ made_text made = gave_all (made_text made) e.bytes whole.inner.source.new (sym whole.of.source ∙ e.read.given) e.read.spent in
        ap (λ n. end_line n skipped reports) (c.0 ∙ e.stands.stands.calls)
        ∙ (ap (λ n. end_line (calls_in past) n reports) (c.1.0 ∙ e.stands.stands.skipped) ∙ (ap (λ n. end_line (calls_in past) (skipped_in past) n) (c.1.1 ∙ e.stands.stands.reports)
        ∙ ap (λ b. end_line_of s (events_of s b)) same))

    -- its end line was written
    pub soak_done : (calls skipped reports : ℕ) → Counts x calls skipped reports → PutsText (end_line calls skipped reports) t.sink (Ok tt) → CountsTo x st → IsSilent errs → SoaksUnder s made t errs st (Some x)
    soak_done calls skipped reports counts puts to silent =
        subst (λ (r : Status). SoaksUnder s made t errs r (Some x)) (sym (status_kept s x whole.ended.stands.kept st whole.ended.stands.shows to))
        (by_reports x (λ r. SoaksUnder s made t errs r (Some x)) (λ none. (done, none)) (λ some. (done, some)))
      where
        done : Soaked s made x t errs
        done = record {
          whole = whole;
          wrote = subst (λ (line : List ℕ). Gained t.sink line) (line_counted calls skipped reports counts) puts.0;
          stood = puts.1;
          silent = silent;
        }

    -- it wasn't
    pub soak_unput : (calls skipped reports : ℕ) (e : ReplayError) → Counts x calls skipped reports → PutsText (end_line calls skipped reports) t.sink (Err e) → st ≡ status_of e → Said (line_of e) errs → SoaksUnder s made t errs st None
    soak_unput calls skipped reports e counts puts is said = subst (λ (r : Status). SoaksUnder s made t errs r None) (sym is) (go e puts said)
      where
        go : (e : ReplayError) → PutsText (end_line calls skipped reports) t.sink (Err e) → Said (line_of e) errs → SoaksUnder s made t errs (status_of e) None
        go error.Write puts said = record {
          session = x;
          whole = whole;
          front = subst (λ (line : List ℕ). GrownByFront t.sink.old t.sink.new line) (line_counted calls skipped reports counts) puts.front;
          failed = puts.failed;
          said = said;
        }
        go error.NoMemory puts said = record { cause = inr (record { session = x; whole = whole }); nothing = record { same = puts.0; stood = puts.1 }; said = said }
        go error.Read puts said = absurd puts
        go (error.Trace line fault) puts said = absurd puts
        go (error.Limit which) puts said = absurd puts
