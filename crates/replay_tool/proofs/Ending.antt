-- Each end of a replay or of a chain is one of the program, and where nothing failed it is a function of the words, the variables, the files and the bytes.
use Rattle.std.proofs.Common.{◌≡◌, ◌∙◌, ℕ, ◌<◌, ◌≤◌, List, [], ◌++◌, Option, refl, ap, sym, subst, arith, append-nil, inl, inr}
use Rattle.std.specs.Prelude.{◌≢◌, ⊤, Some, None, Result, Ok, Err, cond, nat_le, Bool, true, false, ◌⊎◌, ◌==◌}
use Rattle.std.specs.List.{concat}
use Rattle.layer_search.specs.Paths.{most_paths}
use Rattle.chain_build.specs.Override.{most_met, setup_of}
use Rattle.chain_build.specs.Setup.{SetupContent}
use Rattle.env_filters.specs.Variables.{Variable}
use Rattle.model_driver.specs.Logs.{Log}
use Rattle.program_words.specs.Asked.{Asked, AsksChain, AsksGen, AsksRun, AsksSoak, ChainAsked, GenAsked, RunAsked, SoakAsked, words_ask}
use Rattle.program_words.specs.Words.{Word}
use Rattle.program_words.specs.declared.read.WordsError.{WordsError}
use Rattle.program_words.specs.declared.read.WordsError.TheVariants as words
use Rattle.replay_base.specs.Bytes.{before, grown, IsSpent}
use Rattle.replay_base.specs.Changes.{Change, FailedOnce, Gained, Stood, changed}
use Rattle.replay_base.specs.Faults.{Rose, raised}
use Rattle.replay_base.specs.Files.{File}
use Rattle.replay_base.specs.declared.limit.Which.{Which}
use Rattle.replay_base.specs.declared.limit.Which.TheVariants as which
use Rattle.replay_base.proofs.Written.{grown_nil}
use Rattle.replay_model.specs.Setup.{Setup, is_too_long}
use Rattle.replay_model.specs.Judged.{judged}
use Rattle.replay_model.specs.Text.{reports_in}
use Rattle.trace_format.specs.declared.fault.TraceFault.{TraceFault}
use Rattle.replay_model.specs.Stop.{Stop, Cause, Fault, LineBytes, Lines, Names, Layers, at_fault, events_of, stop}
use Rattle.report_text.specs.Setups.{trace_setup}
use Rattle.chain_session.specs.declared.kept.Kept.{Kept}
use Rattle.chain_session.specs.Standing.{ShowsOnce}
use Rattle.session_model.specs.Session.{SessionKept}
use Rattle.layer_search.specs.Causes.{ErrorHasCause, WhereTold}
use Rattle.layer_search.specs.declared.errors.SearchError.{SearchError}
use Rattle.layer_search.specs.declared.errors.SearchError.TheVariants as search-error
use Rattle.chain_build.specs.Causes.{MeetsTooMany}
use Rattle.replay_core.specs.Given.{HasGiven, IsLeft}
use Rattle.replay_core.specs.Replayed.{Run, Ended, IsCutShort, RanOutOf, StoppedAt, StoppedByLimit, run_of}
use Rattle.replay_core.specs.Traffic.{Traffic, text_of, traffic_of}
use Rattle.replay_core.specs.declared.error.ReplayError.{ReplayError}
use Rattle.replay_core.specs.declared.error.ReplayError.TheVariants as error
use Rattle.replay_core.specs.declared.status.Status.{Status}
use Rattle.replay_core.specs.declared.status.Status.TheVariants as status
use Rattle.replay_tool.specs.Ends.{CountsTo, End, Flushes, HasStatus, LacksSetup, SaysOf, session_at}
use Rattle.replay_tool.specs.Outcome.{Completed, DidNothing, Ends, EndsAs, EndsBefore, EndsChain, EndsGen, EndsRun, EndsSoak, EndsUnder, IsLimited, IsUnread, Keeps, LeftTrace, MakeEnds, Process, ShowEnds, SinkStood, SoakCut, Soaked, SoakedWhole, SoaksUnder, Tells, TellsFiles, TellsTrace, reports_kept}
use Rattle.replay_tool.specs.Output.{Answer, IsAnswer, chain_output, end_status, gen_output, limit_of, made_text, manifests_output, output_at, output_of, replay_output, run_output, shown_output, shown_so, soak_output, soak_under, soaked_at, stopped_output}
use Rattle.replay_tool.specs.Said.{Said, IsSilent, fault_line, limit_line}
use Rattle.replay_tool.specs.Showing.{ChainRun, IsSetupOf, Search, Shows, ShowsSetup, TreeSeen, WroteAll, WroteNothing, chain_run, search_of, search_stop, shown_lines, shown_outcome}
use Rattle.replay_tool.specs.Statuses.{line_of, status_of, words_line, words_status}

-- ---- the causes

-- an error of a replay under a setup
pub under_refused : (s : Setup) (run : Run) (errs : Change) (e : ReplayError) (st : Status) → IsCutShort s run e → st ≡ status_of e → Said (line_of e) errs → EndsUnder s run errs st None
under_refused s run errs e st cut is said = subst (λ (t : Status). EndsUnder s run errs t None) (sym is) (go e cut said)
  where
    go : (e : ReplayError) → IsCutShort s run e → Said (line_of e) errs → EndsUnder s run errs (status_of e) None
    go error.Read cut said = record { cut = cut; said = said }
    go error.Write cut said = record { cut = cut; said = said }
    go (error.Trace line fault) cut said = record { line = line; fault = fault; stopped = record { cut = cut; said = said } }
    go (error.Limit which.Lines) cut said = record { cause = Lines; which = which.Lines; limit = refl; stopped = record { cut = cut; said = said } }
    go (error.Limit which.LineBytes) cut said = record { cause = LineBytes; which = which.LineBytes; limit = refl; stopped = record { cut = cut; said = said } }
    go (error.Limit which.Names) cut said = record { cause = Names; which = which.Names; limit = refl; stopped = record { cut = cut; said = said } }
    go (error.Limit which.Chain) cut said = record { cause = Layers; which = which.Chain; limit = refl; stopped = record { cut = cut; said = said } }
    go (error.Limit which.Manifests) cut said = absurd cut
    go (error.Limit which.Events) cut said = absurd cut
    go (error.Limit which.Devices) cut said = absurd cut
    go error.NoMemory cut said = record { cut = cut; said = said }

-- what a session has counted is what it keeps
counted : (s : Setup) (x : Option Kept) (k : SessionKept) → ShowsOnce s x k → reports_kept x ≡ k.reports
counted s None k is = sym (ap (λ (l : SessionKept). l.reports) is)
counted s (Some x) k shows = shows.reports

-- a status by the reports of a session
pub status_kept : (s : Setup) (x : Option Kept) (k : SessionKept) (st : Status) → ShowsOnce s x k → CountsTo x st → st ≡ end_status (reports_kept x)
status_kept s x k st shows counts = counts s k shows ∙ ap end_status (sym (counted s x k shows))

-- it is one of two
module _ (x : Option Kept) (P : Status → Type 0) where
  pub by_reports : (reports_kept x ≡ 0 → P status.Clean) → (reports_kept x ≢ 0 → P status.Reported) → P (end_status (reports_kept x))
  by_reports none some = go (reports_kept x == 0) refl
    where
      go : (b : Bool) → (reports_kept x == 0) ≡ b → P (cond b status.Clean status.Reported)
      go true is = none (grind (arith, is))
      go false is = some (grind (arith, is))

-- a replay under a setup that ended
pub under_completed : (s : Setup) (run : Run) (errs : Change) (x : Option Kept) (st : Status) → Ended s x run → CountsTo x st → IsSilent errs → EndsUnder s run errs st (Some x)
under_completed s run errs x st ended counts silent =
    subst (λ (t : Status). EndsUnder s run errs t (Some x)) (sym (status_kept s x ended.stands.kept st ended.stands.shows counts))
    (by_reports x (λ t. EndsUnder s run errs t (Some x)) (λ none. (done, none)) (λ some. (done, some)))
  where
    done : Completed s x run errs
    done = record { ended = ended; silent = silent }

-- a replay under the setup that was read
pub run_under : (search : Search) (run : Run) (errs : Change) (st : Status) (session : Option (Option Kept)) (setup : SetupContent) → WhereTold search.tree.files (IsSetupOf search setup)
    → search.tree.faults ≡ search.tree.faults_before → EndsUnder (trace_setup setup) run errs st session → EndsRun search run errs st session
run_under search run errs st session setup told stood ends = inr (record { setup = setup; told = told; stood = stood; holds = ends })

-- the same where the drivers were told nothing before it
pub run_read : (search : Search) (source : Change) (old_log mid log : Log) (sink errs : Change) (st : Status) (session : Option (Option Kept)) (setup : SetupContent)
    → WhereTold search.tree.files (IsSetupOf search setup) → search.tree.faults ≡ search.tree.faults_before → mid ≡ old_log
    → EndsUnder (trace_setup setup) (run_of source mid log sink) errs st session → EndsRun search (run_of source old_log log sink) errs st session
run_read search source old_log mid log sink errs st session setup told stood same ends =
    run_under search (run_of source old_log log sink) errs st session setup told stood
    (subst (λ (l : Log). EndsUnder (trace_setup setup) (run_of source l log sink) errs st session) same ends)

-- the replay of a generated trace under the setup that was read
pub soak_read : (search : Search) (source : Change) (made : GenAsked) (old_log mid log : Log) (sink errs : Change) (st : Status) (session : Option (Option Kept)) (setup : SetupContent)
    → IsUnread source → WhereTold search.tree.files (IsSetupOf search setup) → search.tree.faults ≡ search.tree.faults_before → mid ≡ old_log
    → SoaksUnder (trace_setup setup) made (traffic_of mid log sink) errs st session → EndsSoak search made (run_of source old_log log sink) errs st session
soak_read search source made old_log mid log sink errs st session setup unread told stood same ends =
    inr (
      unread,
      record {
        setup = setup;
        told = told;
        stood = stood;
        holds = subst (λ (l : Log). SoaksUnder (trace_setup setup) made (traffic_of l log sink) errs st session) same ends;
      },
    )

-- a search's error, as what there is in place of a setup
pub lacks : (search : Search) (e : SearchError) (r : ReplayError) → r ≡ search_stop e → ErrorHasCause search.tree.faults_before search.tree.faults e
    → WhereTold search.tree.files (λ files. MeetsTooMany (most_met files search.env search.root search.exe) e) → LacksSetup search r
lacks search e r is cause many = subst (λ (x : ReplayError). LacksSetup search x) (sym is) (go e cause many)
  where
    go : (e : SearchError) → ErrorHasCause search.tree.faults_before search.tree.faults e → WhereTold search.tree.files (λ files. MeetsTooMany (most_met files search.env search.root search.exe) e)
        → LacksSetup search (search_stop e)
    go search-error.Tree cause many = cause
    go (search-error.TooMany count) cause many = (many, cause.0)
    go search-error.NoMemory cause many = cause

-- it ends a replay before its trace is read
pub without_setup : (search : Search) (run : Run) (errs : Change) (e : ReplayError) (st : Status) → LacksSetup search e → DidNothing run → st ≡ status_of e → Said (line_of e) errs
    → EndsBefore search run errs st None
without_setup search run errs e st lacks nothing is said = subst (λ (t : Status). EndsBefore search run errs t None) (sym is) (go e lacks said)
  where
    unwritten : WroteNothing run.traffic.sink
    unwritten = record { same = nothing.untouched.sink; stood = nothing.untouched.stood }

    go : (e : ReplayError) → LacksSetup search e → Said (line_of e) errs → EndsBefore search run errs (status_of e) None
    go error.Read lacks said = record { cause = record { failed = lacks; nothing = unwritten }; only = record { nothing = nothing; said = said } }
    go error.Write lacks said = absurd lacks
    go (error.Trace line fault) lacks said = absurd lacks
    go (error.Limit which.Manifests) lacks said = record { cause = record { told = lacks.0; stood = lacks.1; nothing = unwritten }; only = record { nothing = nothing; said = said } }
    go (error.Limit which.Lines) lacks said = absurd lacks
    go (error.Limit which.LineBytes) lacks said = absurd lacks
    go (error.Limit which.Names) lacks said = absurd lacks
    go (error.Limit which.Chain) lacks said = absurd lacks
    go (error.Limit which.Events) lacks said = absurd lacks
    go (error.Limit which.Devices) lacks said = absurd lacks
    go error.NoMemory lacks said = record { cause = lacks; only = record { nothing = nothing; said = said } }

-- a chain that was cut short
pub chain_cut : (chain : ChainRun) (sink errs : Change) (e : ReplayError) (s : Status) → Shows chain sink (Err e) → s ≡ status_of e → Said (line_of e) errs → ShowEnds chain sink errs s
chain_cut chain sink errs e s shows is said = subst (λ (t : Status). ShowEnds chain sink errs t) (sym is) (go e shows said)
  where
    go : (e : ReplayError) → Shows chain sink (Err e) → Said (line_of e) errs → ShowEnds chain sink errs (status_of e)
    go error.Read shows said = record { shows = shows; said = said }
    go error.Write shows said = record { shows = shows; said = said }
    go (error.Trace line fault) shows said = absurd shows.writes
    go (error.Limit which.Manifests) shows said = inl (record { shows = shows; said = said })
    go (error.Limit which.Chain) shows said = inr (record { shows = shows; said = said })
    go (error.Limit which.Names) shows said = absurd shows.writes
    go (error.Limit which.Lines) shows said = absurd shows.writes
    go (error.Limit which.LineBytes) shows said = absurd shows.writes
    go (error.Limit which.Events) shows said = absurd shows.writes
    go (error.Limit which.Devices) shows said = absurd shows.writes
    go error.NoMemory shows said = record { shows = shows; said = said }

-- ---- the answer to a trace

-- what a source gave to its end is all that it had
pub gave_all : (bs bytes : List ℕ) (left : Option (List ℕ)) → Some bs ≡ before bytes left → IsSpent left → bytes ≡ bs
gave_all bs bytes None given spent = cc
gave_all bs bytes (Some more) given spent =
    let same : bs ≡ bytes ++ more = cc in
    sym (same ∙ (ap (λ ys. bytes ++ ys) spent ∙ append-nil bytes))

-- a failure of an object is a count that rose
rose : (before now : ℕ) → now ≡ raised before → Rose before now
rose before now failed = omega (arith, failed)

-- what a source that tells has in all
pub has_all : (source : Change) (bs bytes : List ℕ) (count : ℕ) → source.old ≡ Some bs → HasGiven source bytes count → bytes ≡ bs
has_all source bs bytes count told has = go source.new has.taken has.left
  where
    go : (left : Option (List ℕ)) → source.old ≡ before (has.given ++ has.ahead) left → IsLeft left has.later → bytes ≡ bs
    go None taken is = let none : Some bs ≡ before (has.given ++ has.ahead) None = sym told ∙ taken in cc
    go (Some more) taken is =
        let whole : Some bs ≡ before (has.given ++ has.ahead) (Some more) = sym told ∙ taken in
        let same : bs ≡ (has.given ++ has.ahead) ++ more = cc in
        has.whole ∙ (ap (λ ys. (has.given ++ has.ahead) ++ ys) is ∙ sym same)

-- a replay that ended
ended_gives : (s : Setup) (run : Run) (errs : Change) (x : Option Kept) (bs : List ℕ) → run.source.old ≡ Some bs → Completed s x run errs → IsAnswer (replay_output s bs) (end_status (reports_kept x)) run.traffic.sink errs
ended_gives s run errs x bs told done =
    let e = done.ended in
    let same : e.bytes ≡ bs = gave_all bs e.bytes run.source.new (sym told ∙ e.read.given) e.read.spent in
    let none : stop s bs ≡ None = ap (stop s) (sym same) ∙ e.none in
    let Whole : List ℕ → Type 0 = λ b. IsAnswer (output_at s None (events_of s b)) (end_status (reports_kept x)) run.traffic.sink errs in
    subst (λ (o : Option Stop). IsAnswer (output_at s o (events_of s bs)) (end_status (reports_kept x)) run.traffic.sink errs) (sym none)
    (subst Whole same (record {
      status = ap end_status (counted s x e.stands.kept e.stands.shows ∙ e.stands.stands.reports);
      wrote = e.wrote;
      said = inl (record { stood = done.silent.stood; gained = done.silent.same ∙ sym (grown_nil errs.old) });
    }))

-- a replay that stopped is answered so
stopped_gives : (s : Setup) (place : Stop) (run : Run) (errs : Change) (bs : List ℕ) (st : Status) → run.source.old ≡ Some bs → StoppedAt s place run
    → st ≡ (stopped_output s place.line place.cause []).status → Said (stopped_output s place.line place.cause []).said errs → IsAnswer (replay_output s bs) st run.traffic.sink errs
stopped_gives s place run errs bs st told stopped is said =
    let same : stopped.bytes ≡ bs = has_all run.source bs stopped.bytes place.line told stopped.read in
    let here : stop s bs ≡ Some place = ap (stop s) (sym same) ∙ stopped.here in
    let wrote : Gained run.traffic.sink (text_of s (events_of s bs)) = stopped.wrote ∙ ap (λ b. grown run.traffic.sink.old (text_of s (events_of s b))) same in
    subst (λ (o : Option Stop). IsAnswer (output_at s o (events_of s bs)) st run.traffic.sink errs) (sym here) (go place.cause is said wrote)
  where
    go : (cause : Cause) → st ≡ (stopped_output s place.line cause []).status → Said (stopped_output s place.line cause []).said errs → Gained run.traffic.sink (text_of s (events_of s bs))
        → IsAnswer (stopped_output s place.line cause (events_of s bs)) st run.traffic.sink errs
    go (Fault f) is said wrote = record { status = is; wrote = wrote; said = said }
    go Lines is said wrote = record { status = is; wrote = wrote; said = said }
    go LineBytes is said wrote = record { status = is; wrote = wrote; said = said }
    go Names is said wrote = record { status = is; wrote = wrote; said = said }
    go Layers is said wrote = record { status = is; wrote = wrote; said = said }

-- a fault is answered so
fault_gives : (s : Setup) (line : ℕ) (fault : TraceFault) (run : Run) (errs : Change) (bs : List ℕ) → run.source.old ≡ Some bs → StoppedAt s (at_fault line fault) run
    → Said (fault_line line fault) errs → IsAnswer (replay_output s bs) status.Malformed run.traffic.sink errs
fault_gives s line fault run errs bs told stopped said = stopped_gives s (at_fault line fault) run errs bs status.Malformed told stopped refl said

-- and so is a limit
limit_gives : (s : Setup) (run : Run) (errs : Change) (bs : List ℕ) → run.source.old ≡ Some bs → IsLimited s run errs → IsAnswer (replay_output s bs) status.Limit run.traffic.sink errs
limit_gives s run errs bs told limited = go limited.cause limited.which limited.limit limited.stopped.cut limited.stopped.said
  where
    stops : (c : Cause) (cut : StoppedByLimit s c run) → status.Limit ≡ (stopped_output s cut.line c []).status → Said (stopped_output s cut.line c []).said errs → IsAnswer (replay_output s bs) status.Limit run.traffic.sink errs
    stops c cut is said = stopped_gives s (record { line = cut.line; cause = c }) run errs bs status.Limit told cut.stopped is said

    go : (c : Cause) (w : Which) → limit_of c ≡ Some w → StoppedByLimit s c run → Said (limit_line w) errs → IsAnswer (replay_output s bs) status.Limit run.traffic.sink errs
    go (Fault f) w is cut said = cc
    go Lines w is cut said = let same : which.Lines ≡ w = cc in stops Lines cut refl (subst (λ (v : Which). Said (limit_line v) errs) (sym same) said)
    go LineBytes w is cut said = let same : which.LineBytes ≡ w = cc in stops LineBytes cut refl (subst (λ (v : Which). Said (limit_line v) errs) (sym same) said)
    go Names w is cut said = let same : which.Names ≡ w = cc in stops Names cut refl (subst (λ (v : Which). Said (limit_line v) errs) (sym same) said)
    go Layers w is cut said = let same : which.Chain ≡ w = cc in stops Layers cut refl (subst (λ (v : Which). Said (limit_line v) errs) (sym same) said)

-- the reports of a session that ended, as a status
clean : (n : ℕ) → n ≡ 0 → end_status n ≡ status.Clean
clean n none = ap end_status none

reported : (n : ℕ) → n ≢ 0 → end_status n ≡ status.Reported
reported n some =
    let is : (n == 0) ≡ false = grind (arith, some) in
    ap (λ b. cond b status.Clean status.Reported) is

-- the answer to a trace under a setup is a function of its bytes
under_gives : (s : Setup) (p : Process) (st : Status) (session : Option (Option Kept)) → EndsUnder s p.run p.errs st session → (bs : List ℕ) → TellsTrace p bs
    → IsAnswer (replay_output s bs) st p.run.traffic.sink p.errs ⊎ (st ≡ status.NoMemory)
under_gives s p status.Clean (Some x) done bs tells =
    inl (subst (λ (t : Status). IsAnswer (replay_output s bs) t p.run.traffic.sink p.errs) (clean (reports_kept x) done.1) (ended_gives s p.run p.errs x bs tells.told done.0))
under_gives s p status.Reported (Some x) done bs tells =
    inl (subst (λ (t : Status). IsAnswer (replay_output s bs) t p.run.traffic.sink p.errs) (reported (reports_kept x) done.1) (ended_gives s p.run p.errs x bs tells.told done.0))
under_gives s p status.Malformed None done bs tells = inl (fault_gives s done.line done.fault p.run p.errs bs tells.told done.stopped.cut done.stopped.said)
under_gives s p status.ReadFault None done bs tells = absurd (tells.source (rose p.run.source.faults_before p.run.source.faults done.cut.failed))
under_gives s p status.WriteFault None done bs tells = absurd (tells.sink (rose p.run.traffic.sink.faults_before p.run.traffic.sink.faults done.cut.failed))
under_gives s p status.Limit None done bs tells = inl (limit_gives s p.run p.errs bs tells.told done)
under_gives s p status.NoMemory None done bs tells = inr refl
under_gives s p other session done bs tells = absurd done

-- ---- the answer where manifests are read

module _ (search : Search) (sink errs : Change) (files : List File) (answer : Answer) where
  abbrev met : ℕ
  met = most_met files search.env search.root search.exe

  abbrev answers : Status → Type 0
  answers st = IsAnswer (cond (nat_le met most_paths) answer manifests_output) st sink errs

  within : met ≤ most_paths → (st : Status) → IsAnswer answer st sink errs → answers st
  within few st gives =
      let is : nat_le met most_paths ≡ true = grind arith in
      subst (λ (b : Bool). IsAnswer (cond b answer manifests_output) st sink errs) (sym is) gives

  too_many : most_paths < met → Gained sink [] → Said (limit_line which.Manifests) errs → answers status.Limit
  too_many many wrote said =
      let is : nat_le met most_paths ≡ false = grind arith in
      subst (λ (b : Bool). IsAnswer (cond b answer manifests_output) status.Limit sink errs) (sym is) (record { status = refl; wrote = wrote; said = said })

-- ---- the answer where a replay is asked for

run_gives : (p : Process) (asked : RunAsked) (st : Status) (session : Option (Option Kept)) → EndsRun (search_of asked.root asked.exe p.env p.tree) p.run p.errs st session
    → (files : List File) (bs : List ℕ) → TellsTrace p bs → TellsFiles p files → IsAnswer (run_output files p.env asked bs) st p.run.traffic.sink p.errs ⊎ (st ≡ status.NoMemory)
run_gives p asked st session (inr under) files bs trace tells = go (under_gives (trace_setup under.setup) p st session under.holds bs trace)
  where
    search : Search
    search = search_of asked.root asked.exe p.env p.tree

    go : IsAnswer (replay_output (trace_setup under.setup) bs) st p.run.traffic.sink p.errs ⊎ (st ≡ status.NoMemory) → IsAnswer (run_output files p.env asked bs) st p.run.traffic.sink p.errs ⊎ (st ≡ status.NoMemory)
    go (inr out) = inr out
    go (inl gives) =
        let has = under.told files tells.told in
        inl (within search p.run.traffic.sink p.errs files (replay_output (trace_setup (setup_of files p.env asked.root asked.exe)) bs) has.within st
        (subst (λ (c : SetupContent). IsAnswer (replay_output (trace_setup c) bs) st p.run.traffic.sink p.errs) has.is gives))
run_gives p asked status.ReadFault None (inl cut) files bs trace tells = absurd (tells.tree (rose p.tree.faults_before p.tree.faults cut.cause.failed))
run_gives p asked status.Limit None (inl cut) files bs trace tells =
    inl (too_many (search_of asked.root asked.exe p.env p.tree) p.run.traffic.sink p.errs files (replay_output (trace_setup (setup_of files p.env asked.root asked.exe)) bs)
    (cut.cause.told files tells.told) (cut.cause.nothing.same ∙ sym (grown_nil p.run.traffic.sink.old)) cut.only.said)
run_gives p asked status.NoMemory None (inl cut) files bs trace tells = inr refl
run_gives p asked other session (inl cut) files bs trace tells = absurd cut

-- ---- the answer where a chain is asked for

module _ (chain : ChainRun) (sink errs : Change) (files : List File) (told : chain.tree.files ≡ Some files) where
  abbrev search_shown : Search
  search_shown = search_of chain.asked.root chain.asked.exe chain.env chain.tree

  abbrev answer_shown : Answer
  answer_shown = shown_output (setup_of files chain.env chain.asked.root chain.asked.exe) chain.asked

  -- the setup that was read is that of the files, and its chain is too long or isn't
  shown : (s : Status) (result : Result Unit ReplayError) (long : Bool) (shows : ShowsSetup chain sink result)
      → WroteAll (shown_lines shows.setup chain.asked) sink → is_too_long (shown_outcome shows.setup chain.asked) ≡ long
      → ((bytes : List ℕ) → Gained sink bytes → IsAnswer (shown_so long bytes) s sink errs) → IsAnswer (chain_output files chain.env chain.asked) s sink errs
  shown s result long shows wrote is gives =
      let has = shows.told files told in
      within search_shown sink errs files answer_shown has.within s
      (subst (λ (c : SetupContent). IsAnswer (shown_output c chain.asked) s sink errs) has.is
      (subst (λ (b : Bool). IsAnswer (shown_so b (concat (shown_lines shows.setup chain.asked))) s sink errs) (sym is)
      (gives (concat (shown_lines shows.setup chain.asked)) wrote.wrote)))

chain_gives : (p : Process) (asked : ChainAsked) (s : Status) (session : Option (Option Kept))
    → EndsChain (record { asked = asked; env = p.env; tree = p.tree }) p.run p.errs s session → (files : List File) → TellsFiles p files
    → IsAnswer (chain_output files p.env asked) s p.run.traffic.sink p.errs ⊎ (s ≡ status.NoMemory)
chain_gives p asked status.Clean None done files tells =
    let chain : ChainRun = record { asked = asked; env = p.env; tree = p.tree } in
    let all = done.1 in
    inl (shown chain p.run.traffic.sink p.errs files tells.told status.Clean (Ok tt) false all.shows all.shows.writes.0 all.shows.writes.1
    (λ bytes wrote. record { status = refl; wrote = wrote; said = inl (record { stood = all.silent.stood; gained = all.silent.same ∙ sym (grown_nil p.errs.old) }) }))
chain_gives p asked status.ReadFault None done files tells = absurd (tells.tree (rose p.tree.faults_before p.tree.faults done.1.shows.failed))
chain_gives p asked status.WriteFault None done files tells = absurd (tells.sink (rose p.run.traffic.sink.faults_before p.run.traffic.sink.faults done.1.shows.writes.failed))
chain_gives p asked status.Limit None (left, inl cut) files tells =
    let chain : ChainRun = record { asked = asked; env = p.env; tree = p.tree } in
    inl (too_many (search_shown chain p.run.traffic.sink p.errs files tells.told) p.run.traffic.sink p.errs files (answer_shown chain p.run.traffic.sink p.errs files tells.told)
    (cut.shows.told files tells.told) (cut.shows.nothing.same ∙ sym (grown_nil p.run.traffic.sink.old)) cut.said)
chain_gives p asked status.Limit None (left, inr cut) files tells =
    let chain : ChainRun = record { asked = asked; env = p.env; tree = p.tree } in
    inl (shown chain p.run.traffic.sink p.errs files tells.told status.Limit (Err (error.Limit which.Chain)) true cut.shows cut.shows.writes.0 cut.shows.writes.1
    (λ bytes wrote. record { status = refl; wrote = wrote; said = cut.said }))
chain_gives p asked status.NoMemory None done files tells = inr refl
chain_gives p asked status.Reported None done files tells = absurd done.1
chain_gives p asked status.Usage None done files tells = absurd done.1
chain_gives p asked status.Malformed None done files tells = absurd done.1
chain_gives p asked s (Some session) done files tells = absurd done

-- ---- the answer where a generated trace is asked for

-- nothing was said
unsaid : (errs : Change) → IsSilent errs → Said [] errs
unsaid errs silent = inl (record { stood = silent.stood; gained = silent.same ∙ sym (grown_nil errs.old) })

gen_gives : (p : Process) (made : GenAsked) (s : Status) (session : Option (Option Kept)) → EndsGen made p.run p.errs s session → SinkStood p
    → IsAnswer (gen_output made) s p.run.traffic.sink p.errs ⊎ (s ≡ status.NoMemory)
gen_gives p made status.Clean None done stood = inl (record { status = refl; wrote = done.1.wrote; said = unsaid p.errs done.1.silent })
gen_gives p made status.WriteFault None done stood = absurd (stood (rose p.run.traffic.sink.faults_before p.run.traffic.sink.faults done.1.failed))
gen_gives p made status.NoMemory None done stood = inr refl
gen_gives p made status.Reported None done stood = absurd done.1
gen_gives p made status.Usage None done stood = absurd done.1
gen_gives p made status.Malformed None done stood = absurd done.1
gen_gives p made status.ReadFault None done stood = absurd done.1
gen_gives p made status.Limit None done stood = absurd done.1
gen_gives p made s (Some session) done stood = absurd done

-- ---- the answer where its replay is asked for

module _ (s : Setup) (made : GenAsked) where
  abbrev text : List ℕ
  text = made_text made

  -- it came to its end where nothing stops it, and its end line is that of what the session stands for
  module _ (x : Option Kept) (old_log log : Log) (whole : SoakedWhole s made x old_log log) where
    same : whole.ended.bytes ≡ text
    same = gave_all text whole.ended.bytes whole.inner.source.new (sym whole.of.source ∙ whole.ended.read.given) whole.ended.read.spent

    pub unstopped : stop s text ≡ None
    unstopped = ap (stop s) (sym same) ∙ whole.ended.none

    pub reports_soaked : reports_kept x ≡ reports_in (judged s (events_of s text))
    reports_soaked = counted s x whole.ended.stands.kept whole.ended.stands.shows
        ∙ (whole.ended.stands.stands.reports ∙ ap (λ b. reports_in (judged s (events_of s b))) same)

  soaked_gives : (t : Traffic) (errs : Change) (x : Option Kept) → Soaked s made x t errs → IsAnswer (soak_under s text) (end_status (reports_kept x)) t.sink errs
  soaked_gives t errs x done =
      subst (λ (o : Option Stop). IsAnswer (soaked_at s o (events_of s text)) (end_status (reports_kept x)) t.sink errs) (sym (unstopped x t.old_log t.log done.whole))
      (record { status = ap end_status (reports_soaked x t.old_log t.log done.whole); wrote = done.wrote; said = unsaid errs done.silent })

  barred_gives : (t : Traffic) (errs : Change) → SoakCut s made t.old_log t.log (error.Limit which.Chain) → WroteNothing t.sink → Said (limit_line which.Chain) errs
      → IsAnswer (soak_under s text) status.Limit t.sink errs
  barred_gives t errs barred nothing said =
      let line : ℕ = barred.stopped.line in
      let place : Stop = record { line = line; cause = Layers } in
      let all : barred.stopped.stopped.bytes ≡ text = has_all barred.inner.source text barred.stopped.stopped.bytes line barred.of.source barred.stopped.stopped.read in
      let here : stop s text ≡ Some place = ap (stop s) (sym all) ∙ barred.stopped.stopped.here in
      subst (λ (o : Option Stop). IsAnswer (soaked_at s o (events_of s text)) status.Limit t.sink errs) (sym here)
      (record { status = refl; wrote = nothing.same ∙ sym (grown_nil t.sink.old); said = said })

  soaks_give : (p : Process) (st : Status) (session : Option (Option Kept)) → SoaksUnder s made p.run.traffic p.errs st session → SinkStood p
      → IsAnswer (soak_under s text) st p.run.traffic.sink p.errs ⊎ (st ≡ status.NoMemory)
  soaks_give p status.Clean (Some x) done stood =
      inl (subst (λ (t : Status). IsAnswer (soak_under s text) t p.run.traffic.sink p.errs) (clean (reports_kept x) done.1) (soaked_gives p.run.traffic p.errs x done.0))
  soaks_give p status.Reported (Some x) done stood =
      inl (subst (λ (t : Status). IsAnswer (soak_under s text) t p.run.traffic.sink p.errs) (reported (reports_kept x) done.1) (soaked_gives p.run.traffic p.errs x done.0))
  soaks_give p status.WriteFault None done stood = absurd (stood (rose p.run.traffic.sink.faults_before p.run.traffic.sink.faults done.failed))
  soaks_give p status.Limit None done stood = inl (barred_gives p.run.traffic p.errs done.cause done.nothing done.said)
  soaks_give p status.NoMemory None done stood = inr refl
  soaks_give p other session done stood = absurd done

soak_gives : (p : Process) (asked : SoakAsked) (st : Status) (session : Option (Option Kept)) → EndsSoak (search_of asked.run.root asked.run.exe p.env p.tree) asked.made p.run p.errs st session
    → (files : List File) → TellsFiles p files → IsAnswer (soak_output files p.env asked) st p.run.traffic.sink p.errs ⊎ (st ≡ status.NoMemory)
soak_gives p asked st session (inr (unread, under)) files tells = go (soaks_give (trace_setup under.setup) asked.made p st session under.holds tells.sink)
  where
    search : Search
    search = search_of asked.run.root asked.run.exe p.env p.tree

    go : IsAnswer (soak_under (trace_setup under.setup) (made_text asked.made)) st p.run.traffic.sink p.errs ⊎ (st ≡ status.NoMemory) → IsAnswer (soak_output files p.env asked) st p.run.traffic.sink p.errs ⊎ (st ≡ status.NoMemory)
    go (inr out) = inr out
    go (inl gives) =
        let has = under.told files tells.told in
        inl (within search p.run.traffic.sink p.errs files (soak_under (trace_setup (setup_of files p.env asked.run.root asked.run.exe)) (made_text asked.made)) has.within st
        (subst (λ (c : SetupContent). IsAnswer (soak_under (trace_setup c) (made_text asked.made)) st p.run.traffic.sink p.errs) has.is gives))
soak_gives p asked status.ReadFault None (inl cut) files tells = absurd (tells.tree (rose p.tree.faults_before p.tree.faults cut.cause.failed))
soak_gives p asked status.Limit None (inl cut) files tells =
    inl (too_many (search_of asked.run.root asked.run.exe p.env p.tree) p.run.traffic.sink p.errs files (soak_under (trace_setup (setup_of files p.env asked.run.root asked.run.exe)) (made_text asked.made))
    (cut.cause.told files tells.told) (cut.cause.nothing.same ∙ sym (grown_nil p.run.traffic.sink.old)) cut.only.said)
soak_gives p asked status.NoMemory None (inl cut) files tells = inr refl
soak_gives p asked other session (inl cut) files tells = absurd cut

-- ---- the promises

-- where what the words ask for is told, the sink stood
sink_stood : (p : Process) (asked : Asked) (files : List File) (bytes : List ℕ) → Tells (Some asked) p files bytes → SinkStood p
sink_stood p (AsksRun asked) files bytes tells = tells.1.sink
sink_stood p (AsksChain asked) files bytes tells = tells.sink
sink_stood p (AsksGen made) files bytes tells = tells
sink_stood p (AsksSoak asked) files bytes tells = tells.sink

-- an end, where the sink didn't fail behind it
unbroken : (p : Process) (asked : Asked) (s : Status) (session : Option (Option Kept)) → Ends (Some asked) p s session → EndsAs (Some asked) p s session ⊎ FailedOnce p.run.traffic.sink
unbroken p asked status.WriteFault None (inl ends) = inl ends
unbroken p asked status.WriteFault None (inr broke) = inr broke.failed
unbroken p asked status.WriteFault (Some session) ends = inl ends
unbroken p asked status.Clean session ends = inl ends
unbroken p asked status.Reported session ends = inl ends
unbroken p asked status.Usage session ends = inl ends
unbroken p asked status.Malformed session ends = inl ends
unbroken p asked status.ReadFault session ends = inl ends
unbroken p asked status.Limit session ends = inl ends
unbroken p asked status.NoMemory session ends = inl ends

-- and the other way
ends_as : (p : Process) (asked : Asked) (s : Status) (session : Option (Option Kept)) → EndsAs (Some asked) p s session → Ends (Some asked) p s session
ends_as p asked status.WriteFault None ends = inl ends
ends_as p asked status.WriteFault (Some session) ends = ends
ends_as p asked status.Clean session ends = ends
ends_as p asked status.Reported session ends = ends
ends_as p asked status.Usage session ends = ends
ends_as p asked status.Malformed session ends = ends
ends_as p asked status.ReadFault session ends = ends
ends_as p asked status.Limit session ends = ends
ends_as p asked status.NoMemory session ends = ends

-- an end by what the words ask for
keeps_as : (p : Process) (s : Status) (session : Option (Option Kept)) (asked : Option Asked) → words_ask p.words ≡ asked → Ends asked p s session → Keeps p s session
keeps_as p s session asked is done = record {
  function = λ files bytes tells. subst (λ (o : Option Asked). IsAnswer (output_by o files bytes) s p.run.traffic.sink p.errs ⊎ (s ≡ status.NoMemory)) (sym is)
      (gives asked s session done files bytes (subst (λ (o : Option Asked). Tells o p files bytes) is tells));
  causes = subst (λ (o : Option Asked). Ends o p s session) (sym is) done;
}
  where
    output_by : Option Asked → List File → List ℕ → Answer
    output_by o files bytes = output_of o p.env files bytes

    gives_as : (asked : Asked) (s : Status) (session : Option (Option Kept)) → EndsAs (Some asked) p s session → (files : List File) (bytes : List ℕ) → Tells (Some asked) p files bytes
        → IsAnswer (output_by (Some asked) files bytes) s p.run.traffic.sink p.errs ⊎ (s ≡ status.NoMemory)
    gives_as (AsksRun asked) s session done files bytes tells = run_gives p asked s session done files bytes tells.0 tells.1
    gives_as (AsksChain asked) s session done files bytes tells = chain_gives p asked s session done files tells
    gives_as (AsksGen made) s session done files bytes tells = gen_gives p made s session done tells
    gives_as (AsksSoak asked) s session done files bytes tells = soak_gives p asked s session done files tells

    gives_or : (asked : Asked) (s : Status) (session : Option (Option Kept)) → EndsAs (Some asked) p s session ⊎ FailedOnce p.run.traffic.sink → (files : List File) (bytes : List ℕ) → Tells (Some asked) p files bytes
        → IsAnswer (output_by (Some asked) files bytes) s p.run.traffic.sink p.errs ⊎ (s ≡ status.NoMemory)
    gives_or asked s session (inl ends) files bytes tells = gives_as asked s session ends files bytes tells
    gives_or asked s session (inr failed) files bytes tells =
        absurd (sink_stood p asked files bytes tells (rose p.run.traffic.sink.faults_before p.run.traffic.sink.faults failed))

    gives : (o : Option Asked) (s : Status) (session : Option (Option Kept)) → Ends o p s session → (files : List File) (bytes : List ℕ) → Tells o p files bytes
        → IsAnswer (output_by o files bytes) s p.run.traffic.sink p.errs ⊎ (s ≡ status.NoMemory)
    gives None status.Usage None done files bytes tells =
        inl (record { status = refl; wrote = done.nothing.untouched.sink ∙ sym (grown_nil p.run.traffic.sink.old); said = done.said })
    gives None status.NoMemory None done files bytes tells = inr refl
    gives None other session done files bytes tells = absurd done
    gives (Some asked) s session done files bytes tells = gives_or asked s session (unbroken p asked s session done) files bytes tells

-- ---- an end whose sink is to hand on what it held back

-- a status of an end, which an error of the sink alone makes a write fault
abbrev plain_status : End → Status
plain_status (Ok None) = status.Clean
plain_status (Ok (Some session)) = end_status (reports_kept session)
plain_status (Err e) = status_of e

has_plain : (end : End) → HasStatus end (plain_status end)
has_plain (Ok None) = refl
has_plain (Ok (Some session)) = λ s k shows. ap end_status (counted s session k shows)
has_plain (Err e) = refl

-- an error sink that has what is said of an end
abbrev errs_of : End → Change
errs_of (Ok session) = changed None None 0 0
errs_of (Err e) = changed (Some []) (Some (line_of e)) 0 0

says_of : (end : End) → SaysOf end (errs_of end)
says_of (Ok session) = record { same = refl; stood = refl }
says_of (Err e) = inl (record { stood = refl; gained = refl })

-- a status that isn't a write fault
abbrev NotWrite : Status → Type 0
NotWrite status.WriteFault = ⊥
NotWrite other = ⊤

not_write : (end : End) → (end ≡ Err error.Write → ⊥) → NotWrite (plain_status end)
not_write (Ok None) other = tt
not_write (Ok (Some session)) other = by_reports session NotWrite (λ none. tt) (λ some. tt)
not_write (Err error.Read) other = tt
not_write (Err error.Write) other = absurd (other refl)
not_write (Err (error.Trace line fault)) other = tt
not_write (Err (error.Limit which)) other = tt
not_write (Err error.NoMemory) other = tt

-- the sink stood where manifests weren't read
stood_before : (search : Search) (run : Run) (errs : Change) (s : Status) (session : Option (Option Kept)) → EndsBefore search run errs s session → Stood run.traffic.sink
stood_before search run errs status.ReadFault None ends = ends.only.nothing.untouched.stood
stood_before search run errs status.Limit None ends = ends.only.nothing.untouched.stood
stood_before search run errs status.NoMemory None ends = ends.only.nothing.untouched.stood
stood_before search run errs other session ends = absurd ends

-- and where a replay had another end than a write fault
stood_under : (s : Setup) (run : Run) (errs : Change) (st : Status) (session : Option (Option Kept)) → NotWrite st → EndsUnder s run errs st session → Stood run.traffic.sink
stood_under s run errs status.Clean (Some x) other ends = ends.0.ended.stood.sink
stood_under s run errs status.Reported (Some x) other ends = ends.0.ended.stood.sink
stood_under s run errs status.Malformed None other ends = ends.stopped.cut.stood.sink
stood_under s run errs status.ReadFault None other ends = ends.cut.stood
stood_under s run errs status.Limit None other ends = ends.stopped.cut.stopped.stood.sink
stood_under s run errs status.NoMemory None other ends = go ends.cut
  where
    go : RanOutOf s run → Stood run.traffic.sink
    go (inl first) = first.untouched.stood
    go (inr out) = out.stood.sink
stood_under s run errs status.WriteFault None other ends = absurd other
stood_under s run errs st session other ends = absurd ends

stood_soaking : (s : Setup) (made : GenAsked) (t : Traffic) (errs : Change) (st : Status) (session : Option (Option Kept)) → NotWrite st → SoaksUnder s made t errs st session → Stood t.sink
stood_soaking s made t errs status.Clean (Some x) other ends = ends.0.stood
stood_soaking s made t errs status.Reported (Some x) other ends = ends.0.stood
stood_soaking s made t errs status.Limit None other ends = ends.nothing.stood
stood_soaking s made t errs status.NoMemory None other ends = ends.nothing.stood
stood_soaking s made t errs status.WriteFault None other ends = absurd other
stood_soaking s made t errs st session other ends = absurd ends

stood_showing : (chain : ChainRun) (sink errs : Change) (st : Status) → NotWrite st → ShowEnds chain sink errs st → Stood sink
stood_showing chain sink errs status.Clean other ends = ends.shows.writes.0.stood
stood_showing chain sink errs status.ReadFault other ends = ends.shows.nothing.stood
stood_showing chain sink errs status.Limit other (inl ends) = ends.shows.nothing.stood
stood_showing chain sink errs status.Limit other (inr ends) = ends.shows.writes.0.stood
stood_showing chain sink errs status.NoMemory other ends = go ends.shows
  where
    go : Shows chain sink (Err error.NoMemory) → Stood sink
    go (inl none) = none.0.stood
    go (inr some) = some.writes.stood
stood_showing chain sink errs status.WriteFault other ends = absurd other
stood_showing chain sink errs status.Reported other ends = absurd ends
stood_showing chain sink errs status.Usage other ends = absurd ends
stood_showing chain sink errs status.Malformed other ends = absurd ends

stood_making : (bytes : List ℕ) (sink errs : Change) (st : Status) → NotWrite st → MakeEnds bytes sink errs st → Stood sink
stood_making bytes sink errs status.Clean other ends = ends.stood
stood_making bytes sink errs status.NoMemory other ends = ends.nothing.stood
stood_making bytes sink errs status.WriteFault other ends = absurd other
stood_making bytes sink errs status.Reported other ends = absurd ends
stood_making bytes sink errs status.Usage other ends = absurd ends
stood_making bytes sink errs status.Malformed other ends = absurd ends
stood_making bytes sink errs status.ReadFault other ends = absurd ends
stood_making bytes sink errs status.Limit other ends = absurd ends

stood_as : (asked : Asked) (p : Process) (st : Status) (session : Option (Option Kept)) → NotWrite st → EndsAs (Some asked) p st session → Stood p.run.traffic.sink
stood_as (AsksRun asked) p st session other (inl ends) = stood_before (search_of asked.root asked.exe p.env p.tree) p.run p.errs st session ends
stood_as (AsksRun asked) p st session other (inr under) = stood_under (trace_setup under.setup) p.run p.errs st session other under.holds
stood_as (AsksChain asked) p st None other (left, ends) = stood_showing (chain_run asked p.env p.tree) p.run.traffic.sink p.errs st other ends
stood_as (AsksChain asked) p st (Some session) other ends = absurd ends
stood_as (AsksGen made) p st None other (left, ends) = stood_making (made_text made) p.run.traffic.sink p.errs st other ends
stood_as (AsksGen made) p st (Some session) other ends = absurd ends
stood_as (AsksSoak asked) p st session other (inl ends) = stood_before (search_of asked.run.root asked.run.exe p.env p.tree) p.run p.errs st session ends
stood_as (AsksSoak asked) p st session other (inr (unread, under)) = stood_soaking (trace_setup under.setup) asked.made p.run.traffic p.errs st session other under.holds

-- what the program was given and what went through it
abbrev process : List Word → List Variable → TreeSeen → Run → Change → Process
process words env tree run errs = record { words = words; env = env; tree = tree; run = run; errs = errs }

module _ (words : List Word) (env : List Variable) (tree : TreeSeen) (source : Change) (old_log log : Log) (asked : Asked) (is : words_ask words ≡ Some asked) where
  abbrev run_with : Change → Run
  run_with sink = run_of source old_log log sink

  -- how it ends with this sink and this error sink
  abbrev EndsWith : Change → Change → Status → Option (Option Kept) → Type 0
  EndsWith sink errs st session = EndsAs (Some asked) (process words env tree (run_with sink) errs) st session

  -- it failed behind an end
  broken : (h0 h1 h2 : Option (List ℕ)) (f0 f1 f2 : ℕ) (errs : Change) (before : End) → (before ≡ Err error.Write → ⊥)
      → EndsWith (changed h0 h1 f0 f1) (errs_of before) (plain_status before) (session_at before) → h2 ≡ h1 → f2 ≡ raised f1 → Said (line_of error.Write) errs
      → Ends (Some asked) (process words env tree (run_with (changed h0 h2 f0 f2)) errs) status.WriteFault None
  broken h0 h1 h2 f0 f1 f2 errs before other ends held failed said =
      let stood : f1 ≡ f0 = stood_as asked (process words env tree (run_with (changed h0 h1 f0 f1)) (errs_of before)) (plain_status before) (session_at before) (not_write before other) ends in
      inr (record {
        status = plain_status before;
        session = session_at before;
        errs = errs_of before;
        ended = subst (λ (h : Option (List ℕ)). EndsWith (changed h0 h f0 f0) (errs_of before) (plain_status before) (session_at before)) (sym held)
            (subst (λ (f : ℕ). EndsWith (changed h0 h1 f0 f) (errs_of before) (plain_status before) (session_at before)) stood ends);
        failed = failed ∙ ap raised stood;
        said = said;
      })

  -- what is known of an end stands behind it
  pub keeps_flushed : (h0 h1 h2 : Option (List ℕ)) (f0 f1 f2 : ℕ) (errs : Change) (before after : End) (st : Status) (session : Option (Option Kept))
      → ((t : Status) (e : Change) → HasStatus before t → SaysOf before e → EndsWith (changed h0 h1 f0 f1) e t (session_at before))
      → Flushes before after (changed h1 h2 f1 f2) → HasStatus after st → session ≡ session_at after → SaysOf after errs
      → Keeps (process words env tree (run_with (changed h0 h2 f0 f2)) errs) st session
  keeps_flushed h0 h1 h2 f0 f1 f2 errs before after st session ends (inl handed) has comes says =
      keeps_as (process words env tree (run_with (changed h0 h2 f0 f2)) errs) st session (Some asked) is
      (ends_as (process words env tree (run_with (changed h0 h2 f0 f2)) errs) asked st session
      (subst (λ (x : Option (Option Kept)). EndsWith (changed h0 h2 f0 f2) errs st x) (sym (comes ∙ ap session_at handed.is))
      (subst (λ (h : Option (List ℕ)). EndsWith (changed h0 h f0 f2) errs st (session_at before)) (sym handed.same)
      (subst (λ (f : ℕ). EndsWith (changed h0 h1 f0 f) errs st (session_at before)) (sym handed.stood)
      (ends st errs (subst (λ (x : End). HasStatus x st) handed.is has) (subst (λ (x : End). SaysOf x errs) handed.is says))))))
  keeps_flushed h0 h1 h2 f0 f1 f2 errs before after st session ends (inr failed) has comes says =
      let st_is : st ≡ status.WriteFault = subst (λ (x : End). HasStatus x st) failed.is has in
      let none : session ≡ None = comes ∙ ap session_at failed.is in
      keeps_as (process words env tree (run_with (changed h0 h2 f0 f2)) errs) st session (Some asked) is
      (subst (λ (t : Status). Ends (Some asked) (process words env tree (run_with (changed h0 h2 f0 f2)) errs) t session) (sym st_is)
      (subst (λ (x : Option (Option Kept)). Ends (Some asked) (process words env tree (run_with (changed h0 h2 f0 f2)) errs) status.WriteFault x) (sym none)
      (broken h0 h1 h2 f0 f1 f2 errs before failed.other (ends (plain_status before) (errs_of before) (has_plain before) (says_of before)) failed.same failed.failed
      (subst (λ (x : End). SaysOf x errs) failed.is says))))

-- the words couldn't be read
pub keeps_words : (p : Process) (e : WordsError) (s : Status) → (e ≡ words.Usage → words_ask p.words ≡ None) → p.tree.faults ≡ p.tree.faults_before
    → s ≡ words_status e → DidNothing p.run → Said (words_line e) p.errs → Keeps p s None
keeps_words p e s usage stood is nothing said = subst (λ (t : Status). Keeps p t None) (sym is) (go e usage said)
  where
    left : LeftTrace p.run
    left = record { unread = nothing.unread; stood = nothing.stood; driver = nothing.untouched.driver }

    unwritten : WroteNothing p.run.traffic.sink
    unwritten = record { same = nothing.untouched.sink; stood = nothing.untouched.stood }

    no_memory : (o : Option Asked) → Said (words_line words.NoMemory) p.errs → Ends o p status.NoMemory None
    no_memory None said = record { nothing = nothing; said = said }
    no_memory (Some (AsksRun asked)) said = inl (record { cause = stood; only = record { nothing = nothing; said = said } })
    no_memory (Some (AsksChain asked)) said = (left, record { shows = inl (unwritten, stood); said = said })
    no_memory (Some (AsksGen made)) said = (left, record { nothing = unwritten; said = said })
    no_memory (Some (AsksSoak asked)) said = inl (record { cause = stood; only = record { nothing = nothing; said = said } })

    go : (e : WordsError) → (e ≡ words.Usage → words_ask p.words ≡ None) → Said (words_line e) p.errs → Keeps p (words_status e) None
    go words.Usage usage said = keeps_as p status.Usage None None (usage refl) (record { nothing = nothing; said = said })
    go words.NoMemory usage said = keeps_as p status.NoMemory None (words_ask p.words) refl (no_memory (words_ask p.words) said)
