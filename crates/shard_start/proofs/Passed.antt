-- A call below the last part has the command and the payload of its begin.
use Rattle.std.proofs.Common.{◌≡◌, ◌+◌, ℕ, Bool, true, false, cond, ◌||◌, Some, List, [], ◌∷◌, ◌++◌, length, map, is_some, unwrap_or, refl, sym, ◌∙◌, ap, subst}
use Rattle.std.proofs.lemmas.List.{length-map}
use Rattle.command_tables.specs.Table.{ParamSpec, row_of}
use Rattle.command_tables.specs.declared.types.ObjectType.{ObjectType}
use Rattle.trace_format.specs.Content.{Arg}
use Rattle.object_model.specs.declared.Argument.{Argument}
use Rattle.object_model.specs.declared.Object.{Object}
use Rattle.object_model.specs.Findings.{Findings, at_place}
use Rattle.object_model.specs.Rules.{Failure}
use Rattle.handle_map.specs.Pairs.{values_of}
use Rattle.replay_model.specs.declared.Named.{Named}
use Rattle.replay_model.specs.Judged.{is_refused}
use Rattle.replay_model.specs.Past.{argument_in, arguments_in}
use Rattle.layer_model.specs.Ids.{IdMap, is_wrapped}
use Rattle.layer_model.specs.Parts.{below_handles, below_params}
use Rattle.layer_model.specs.Walks.{nothing_found}
use Rattle.chain_model.specs.Chained.{handle_by}
use Rattle.session_model.specs.Beginning.{walk_kept}
use Rattle.shard_start.specs.Starting.{IsPassedOn}
use Rattle.command_tables.specs.Calls.{CallContent, ReplyContent}
use Rattle.stream_log.specs.declared.line.Line.{Line}
use Rattle.trace_format.specs.Content.{BeginEvent, TraceEvent, Begin}
use Rattle.object_model.specs.Findings.{is_failing}
use Rattle.replay_model.specs.Past.{Opened, is_skipped}
use Rattle.replay_model.specs.Setup.{Setup}
use Rattle.lifetime_layer.specs.declared.verdict.Verdict.{Verdict}
use Rattle.layer_model.specs.Parts.{life_failures, unique_enter}
use Rattle.layer_model.specs.Reading.{read_call}
use Rattle.layer_model.specs.Walks.{Lifetimes, PartState, Threads, Unique, enter_parts}
use Rattle.chain_model.specs.Chained.{form_by}
use Rattle.chain_model.specs.Gaps.{IsGapped}
use Rattle.chain_model.specs.Handed.{handle_in}
use Rattle.chain_model.specs.Simulated.{base_of, held_of, walk_of}
use Rattle.dispatch_chain.specs.Holding.{HeldCalls}
use Rattle.session_model.specs.Beginning.{begun_kept, loader_kept}
use Rattle.session_model.specs.Session.{SessionKept}
use Rattle.stream_model.specs.FileParts.{StreamPart}
use Rattle.session_parts.specs.declared.parts.SessionParts.{SessionParts}
use Rattle.session_parts.specs.Entering.{CanEnter, Entered, Enters, held_begun}
use Rattle.shard_model.specs.Followed.{Follows, begins_in, events_of, next_event}
use Rattle.shard_model.specs.Replays.{IsOnInstance, IsReplay, NoneOf, OpenStep, Start, StartStands}
use Rattle.shard_start.specs.Starting.{CanStart, IsOnDevice}
use Rattle.shard_start.proofs.Begins.{begin_trace, on_instance}

-- ---- on its way down

-- a call is another in other handles, as many at each parameter
record Keeps (c d : CallContent) : Type 0 where
  cmd : d.cmd ≡ c.cmd
  payload : d.payload ≡ c.payload
  asked : d.asked ≡ c.asked
  sizes : map (λ (hs : List ℕ). length hs) d.args ≡ map (λ (hs : List ℕ). length hs) c.args

keeps_all : (c : CallContent) → Keeps c c
keeps_all c = record { cmd = refl; payload = refl; asked = refl; sizes = refl }

below_long : (m : IdMap ℕ) (t : ObjectType) (hs : List ℕ) → length (below_handles m t hs) ≡ length hs
below_long m t hs = go (is_wrapped t)
  where
    go : (u : Bool) → length (cond u (map (λ h. unwrap_or (values_of m.entries t h) 0) hs) hs) ≡ length hs
    go true = length-map hs (λ h. unwrap_or (values_of m.entries t h) 0)
    go false = refl

below_sizes : (m : IdMap ℕ) (params : List ParamSpec) (lists : List (List ℕ)) → map (λ (hs : List ℕ). length hs) (below_params m params lists) ≡ map (λ (hs : List ℕ). length hs) lists
below_sizes m [] lists = refl
below_sizes m (p ∷ params) [] = refl
below_sizes m (p ∷ params) (hs ∷ lists) =
    ap (λ n. n ∷ map (λ (xs : List ℕ). length xs) (below_params m params lists)) (below_long m p.ty hs) ∙ ap (λ ns. length hs ∷ ns) (below_sizes m params lists)

walk_keeps : (thread number k : ℕ) (states : List PartState) (c : CallContent) → Keeps c (enter_parts thread number k states c).bottom
walk_keeps thread number k [] c = keeps_all c
walk_keeps thread number k (Threads m ∷ states) c = walk_keeps thread number (k + 1) states c
walk_keeps thread number k (Lifetimes m ∷ states) c = go (is_failing (life_failures m c.cmd (read_call c))) refl (walk_keeps thread number (k + 1) states c)
  where
    go : (u : Bool) → is_failing (life_failures m c.cmd (read_call c)) ≡ u → Keeps c (enter_parts thread number (k + 1) states c).bottom → Keeps c (enter_parts thread number k (Lifetimes m ∷ states) c).bottom
    go true fails ih = rw fails (keeps_all c)
    go false fails ih = rw fails ih
walk_keeps thread number k (Unique m ∷ states) c =
    let rest = walk_keeps thread number (k + 1) states (unique_enter m c) in
    record { cmd = rest.cmd; payload = rest.payload; asked = rest.asked; sizes = rest.sizes ∙ below_sizes m (row_of c.cmd).params c.args }

-- the form that comes to the first part
formed_sizes : (g : Object → ℕ) (args : List (List Argument)) → map (λ (hs : List ℕ). length hs) (map (map (handle_by g)) args) ≡ map (λ (at : List Argument). length at) args
formed_sizes g [] = refl
formed_sizes g (at ∷ args) = ap (λ n. n ∷ map (λ (hs : List ℕ). length hs) (map (map (handle_by g)) args)) (length-map at (handle_by g)) ∙ ap (λ ns. length at ∷ ns) (formed_sizes g args)

named_sizes : (names : List Named) (args : List Arg) → map (λ (at : List Argument). length at) (arguments_in names args) ≡ map (λ a. length a.names) args
named_sizes names [] = refl
named_sizes names (a ∷ args) =
    ap (λ n. n ∷ map (λ (at : List Argument). length at) (arguments_in names args)) (length-map a.names (argument_in names)) ∙ ap (λ ns. length a.names ∷ ns) (named_sizes names args)

-- a call that isn't skipped came down through the parts
let_by : (u v : Bool) (fs : List Failure) (w : Findings) → u ≡ false → is_some (cond u nothing_found (cond v (record { reports = at_place 0 fs; stop = Some 0 }) w)).stop ≡ false → v ≡ false
let_by true v fs w plain goes = cc plain
let_by false true fs w plain goes = cc goes
let_by false false fs w plain goes = refl

or_false : (a b : Bool) → (a || b) ≡ false → (a ≡ false) × (b ≡ false)
or_false false b e = (refl, e)
or_false true b e = cc e

held_passed : (s : Setup) (k : SessionKept) (e : BeginEvent) → is_skipped (begun_kept s k e).opened ≡ false → IsPassedOn e (held_begun k e (begun_kept s k e).opened).bottom
held_passed s k e goes =
    let o : Opened = (begun_kept s k e).opened in
    let parts = or_false o.refused (is_some o.stop) goes in
    let passes : is_failing (loader_kept k e) ≡ false = let_by (is_refused s e.cmd e.payload) (is_failing (loader_kept k e)) (loader_kept k e) (walk_kept k e).found parts.0 parts.1 in
    let form : CallContent = form_by (handle_in k.chain.handed) (base_of o) o.args in
    let walked : Keeps form (walk_of k.chain o).bottom = walk_keeps o.thread o.number 1 k.chain.states form in
    let way : (o.refused || is_failing (loader_kept k e)) ≡ false = ap (λ u. u || is_failing (loader_kept k e)) parts.0 ∙ passes in
    let bottom : (held_begun k e o).bottom ≡ (walk_of k.chain o).bottom = ap (λ (u : Bool). (cond u (held_of o [] (base_of o)) (held_of o (walk_of k.chain o).forms (walk_of k.chain o).bottom)).bottom) way in
    record {
      cmd = ap (λ (c : CallContent). c.cmd) bottom ∙ walked.cmd;
      bytes = ap (λ (c : CallContent). c.payload) bottom ∙ walked.payload;
      asked = ap (λ (c : CallContent). c.asked) bottom ∙ walked.asked;
      sizes = ap (λ (c : CallContent). map (λ (hs : List ℕ). length hs) c.args) bottom ∙ (walked.sizes ∙ (formed_sizes (handle_in k.chain.handed) o.args ∙ named_sizes k.names e.args));
    }

-- ---- a begin of a log

-- the begin that comes next may enter
abbrev pub MayBegin : Type 0
MayBegin =
    (start : Start) (streams : List StreamPart) (entries : List Line) (x : SessionParts) (opens : List OpenStep) (b : BeginEvent) (s : Setup) (events : List TraceEvent) (first : List ReplyContent) → StartStands start s events first
    → IsGapped (Begin b ∷ events_of streams entries ++ events) → IsReplay start streams entries x opens → Follows streams entries → IsOnInstance b → CanEnter x (start.calls + begins_in entries + 1) b

pub passed_so : MayBegin → (start : Start) (streams : List StreamPart) (entries : List Line) (x y : SessionParts) (opens : List OpenStep) (b : BeginEvent) (call : CallContent) (held : HeldCalls) (verdict : Verdict)
    → CanStart start streams → IsReplay start streams entries x opens → Follows streams entries → next_event streams b.thread entries ≡ Some (Begin b) → NoneOf b.thread opens → IsOnDevice (Begin b)
    → Enters x (start.calls + begins_in entries + 1) b call held verdict y → verdict.skip ≡ false → IsPassedOn b call
passed_so law start streams entries x y opens b call held verdict can replay follows next none on enters sent_on =
    let may : CanEnter x (start.calls + begins_in entries + 1) b = law start streams entries x opens b can.setup can.events can.replies can.stands (begin_trace start streams entries b can follows next) replay follows (on_instance b on) in
    let entered : Entered may.setup may.kept b call held verdict y = enters may.setup may.kept may.shows may.counted may.allowed in
    let o : Opened = (begun_kept may.setup may.kept b).opened in
    let goes : is_skipped o ≡ false = sym entered.leaves.skips ∙ sent_on in
    let bottom : call ≡ (held_begun may.kept b o).bottom = entered.leaves.bottom goes in
    subst (IsPassedOn b) (sym bottom) (held_passed may.setup may.kept b goes)
