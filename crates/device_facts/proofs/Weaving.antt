-- The threads' events in turns, behind the setup of a file: each is on one device, and each begin comes where its thread has no open call.
use Rattle.std.proofs.Common.{◌≡◌, ◌∙◌, ◌==◌, ℕ, zero, suc, Bool, true, false, not, cond, ◌&&◌, ◌||◌, Option, Some, None, List, [], ◌∷◌, ◌++◌, length, drop, refl, sym, ap, subst}
use Rattle.std.specs.Prelude.{filter, find, is_some, reverse, slice_get}
use Rattle.std.specs.List.{AllByRecursion, list_any}
use Rattle.std.specs.Option.{option_map_or}
use Rattle.std.proofs.lemmas.Bool.{eq-eqb, eqb-true}
use Rattle.std.proofs.lemmas.List.{reverse-append, reverse-reverse}
use Rattle.trace_format.specs.declared.event.Name.{Name}
use Rattle.trace_format.specs.Accepting.{is_open}
use Rattle.trace_format.specs.Content.{BeginEvent, TraceEvent, Begin, Return}
use Rattle.trace_format.specs.Grammar.{IsEvent}
use Rattle.chain_model.specs.Gaps.{IsGapped}
use Rattle.chain_model.proofs.Gapped.{gapped}
use Rattle.object_model.specs.History.{alive, births}
use Rattle.replay_model.specs.Setup.{Setup}
use Rattle.replay_model.specs.Past.{Opened, history, is_of, open_calls, retrievals}
use Rattle.replay_model.specs.Judged.{begun_of, judged, made_of, returned_by}
use Rattle.replay_model.proofs.Accepted.{open-threads}
use Rattle.stream_model.specs.declared.heading.Heading.{Heading}
use Rattle.stream_model.specs.declared.heading.Heading.TheVariants as heading
use Rattle.stream_model.specs.FileLines.{FileLine}
use Rattle.stream_model.specs.FileParts.{AreInOrder, FileParts, StreamPart, all_events, closed_parts, open_events, parts, with_section}
use Rattle.stream_model.specs.Devices.{written_device}
use Rattle.stream_model.specs.Order.{event_thread, events, section}
use Rattle.stream_model.specs.Plans.{Along, device_written, events_along, events_planned, next_turn, turns_of, with_event}
use Rattle.stream_model.proofs.Comings.{open_other}
use Rattle.stream_model.proofs.Orders.{lines_accepted}
use Rattle.stream_model.proofs.WholeTraces.{Stands, all_in_order, placed_lines}
use Rattle.device_facts.proofs.Beheld.{IdleAlong, StreamFits}
use Rattle.device_facts.proofs.Homes.{FitsOpen, Held, Homes, held_begun, held_returned, made_homes}
use Rattle.device_facts.proofs.Looks.{all_join, at_found}
use Rattle.device_facts.proofs.Opening.{fits_open}
use Rattle.device_facts.proofs.Sections.{Alternate, Sectioned, SetupFits, Stage, Streamed, closed_stream, open_returned, staged}

-- ---- the sections of a file that has a stream

none_next : (k : ℕ) (e : TraceEvent) → slice_get [] k ≡ Some e → ⊥
none_next k e is = cc is

module _ (device_of : Name → Option Name) (thread : ℕ) (turns : List ℕ) (e : TraceEvent) where
  in_sections : (lines : List FileLine) (s : Option Heading) (file : FileParts) (latest : List TraceEvent) → Stands s file latest → Stage device_of lines s file latest → next_turn (with_section file s latest).streams thread turns ≡ Some e
      → Sectioned device_of (with_section file s latest)
  in_sections lines None file latest stands stage is =
      absurd (none_next (turns_of thread turns) e (sym (ap (λ (f : FileParts). next_turn f.streams thread turns) stands.0) ∙ is))
  in_sections lines (Some heading.Setup) file latest stands stage is =
      absurd (none_next (turns_of thread turns) e (sym (ap (λ (f : FileParts). next_turn f.streams thread turns) stands) ∙ is))
  in_sections lines (Some (heading.Stream t)) file latest stands stage is = closed_stream device_of lines t file latest stage
  in_sections lines (Some heading.Teardown) file latest stands stage is =
      record { setup = stage.setup; idle = stage.idle; streams = stage.streams }

pub sectioned : (lines : List FileLine) → AreInOrder lines → AllByRecursion IsEvent (events lines) → (thread : ℕ) (turns : List ℕ) (e : TraceEvent) → next_turn (parts lines).streams thread turns ≡ Some e
    → Sectioned (device_written (parts lines)) (parts lines)
sectioned lines order grammar thread turns e is =
    let all : IsGapped (events lines) = gapped (events lines) (record { grammar = grammar; accepted = lines_accepted lines order }) in
    let newest : reverse (all_events (parts lines)) ≡ events lines = ap reverse (all_in_order lines order) ∙ reverse-reverse (events lines) in
    in_sections (device_written (parts lines)) thread turns e lines (section lines) (closed_parts lines) (open_events lines) (placed_lines lines order).stands
    (staged (device_written (parts lines)) lines order all.each grammar (λ n given. ap (λ es. written_device es n) newest)) is

-- ---- the setup

all_back : (P : TraceEvent → Type 0) (es : List TraceEvent) → AllByRecursion P es → AllByRecursion P (reverse es)
all_back P [] all = tt
all_back P (e ∷ es) all = subst (AllByRecursion P) (sym (reverse-append (e ∷ []) es)) (all_join P (reverse es) (e ∷ []) (all_back P es all.1) (all.0, tt))

held_behind : (h : Homes) (s : Setup) (es : List TraceEvent) → AllByRecursion (SetupFits h.name) es → Held h (judged s es)
held_behind h s [] fits = record { names = tt; born = tt; kept = tt; opens = tt }
held_behind h s (Begin b ∷ es) fits =
    let w = held_behind h s es fits.1 in
    held_begun h (judged s es) b (begun_of s (judged s es) b).opened (begun_of s (judged s es) b).reports w (fits_open h s (judged s es) b w fits.0)
held_behind h s (Return t ∷ es) fits = go (find (is_of t) (open_calls (judged s es))) refl (held_behind h s es fits.1)
  where
    go : (f : Option Opened) → find (is_of t) (open_calls (judged s es)) ≡ f → Held h (judged s es) → Held h (returned_by s (judged s es) f)
    go None e w = w
    go (Some o) e w =
        held_returned h (judged s es) o (made_of s (judged s es) o) w
        (made_homes h s.drivers (births (history (judged s es))) (alive (history (judged s es))) (retrievals (judged s es)) o w.kept (at_found (FitsOpen h) (is_of t) (open_calls (judged s es)) o w.opens e).0)

pub held_setup : (h : Homes) (s : Setup) (file : FileParts) → Sectioned h.name file → Held h (judged s (reverse file.setup))
held_setup h s file sections = held_behind h s (reverse file.setup) (all_back (SetupFits h.name) file.setup sections.setup)

-- where a thread isn't open, it has no call
none_open : (t : ℕ) (cs : List Opened) → is_some (find (is_of t) cs) ≡ false → find (is_of t) cs ≡ None
none_open t cs is = go (find (is_of t) cs) refl is
  where
    go : (f : Option Opened) → find (is_of t) cs ≡ f → is_some f ≡ false → f ≡ None
    go None e k = refl
    go (Some o) e k = cc k

no_call_at : (s : Setup) (es : List TraceEvent) (t : ℕ) → is_open t es ≡ false → find (is_of t) (open_calls (judged s es)) ≡ None
no_call_at s es t is = none_open t (open_calls (judged s es)) (open-threads s es t ∙ is)

pub closed_setup : (device_of : Name → Option Name) (s : Setup) (file : FileParts) → Sectioned device_of file → (t : ℕ) → find (is_of t) (open_calls (judged s (reverse file.setup))) ≡ None
closed_setup device_of s file sections t = no_call_at s (reverse file.setup) t (ap (list_any (λ x. x == t)) sections.idle)

-- ---- a thread's events

record Planned (device_of : Name → Option Name) (t : ℕ) (es : List TraceEvent) : Type 0 where
  pub fits : AllByRecursion (StreamFits device_of) es
  pub threads : AllByRecursion (λ e. event_thread e ≡ t) es
  pub alternate : Alternate false es

planned : (device_of : Name → Option Name) (streams : List StreamPart) (t : ℕ) → AllByRecursion (Streamed device_of) streams → Planned device_of t (events_planned streams t)
planned device_of streams t all = go (find (λ (s : StreamPart). s.thread == t) streams) refl
  where
    go : (f : Option StreamPart) → find (λ (s : StreamPart). s.thread == t) streams ≡ f → Planned device_of t (option_map_or (λ (s : StreamPart). s.events) f [])
    go None e = record { fits = tt; threads = tt; alternate = tt }
    go (Some x) e =
        let both = at_found (Streamed device_of) (λ (s : StreamPart). s.thread == t) streams x all e in
        record { fits = both.0.fits; threads = subst (λ u. AllByRecursion (λ e. event_thread e ≡ u) x.events) (eqb-true x.thread t both.1) both.0.threads; alternate = both.0.alternate }

all_at : (P : TraceEvent → Type 0) (es : List TraceEvent) (k : ℕ) (e : TraceEvent) → AllByRecursion P es → slice_get es k ≡ Some e → P e
all_at P [] k e all is = cc is
all_at P (x ∷ es) zero e all is = let one : x ≡ e = cc in subst P one all.0
all_at P (x ∷ es) (suc k) e all is = all_at P es k e all.1 is

drop_next : (es : List TraceEvent) (k : ℕ) (e : TraceEvent) → slice_get es k ≡ Some e → drop k es ≡ e ∷ drop (suc k) es
drop_next [] k e is = cc is
drop_next (x ∷ es) zero e is = let one : x ≡ e = cc in ap (λ y. y ∷ es) one
drop_next (x ∷ es) (suc k) e is = drop_next es k e is

pub next_fits : (device_of : Name → Option Name) (streams : List StreamPart) (t : ℕ) (turns : List ℕ) (e : TraceEvent) → AllByRecursion (Streamed device_of) streams → next_turn streams t turns ≡ Some e → StreamFits device_of e
next_fits device_of streams t turns e all is = all_at (StreamFits device_of) (events_planned streams t) (turns_of t turns) e (planned device_of streams t all).fits is

-- ---- all turns

pub along_fits : (device_of : Name → Option Name) (streams : List StreamPart) (turns : List ℕ) → AllByRecursion (Streamed device_of) streams → AllByRecursion (StreamFits device_of) (events_along streams turns)
along_fits device_of streams [] all = tt
along_fits device_of streams (t ∷ before) all = go (next_turn streams t before) refl (along_fits device_of streams before all)
  where
    go : (o : Option TraceEvent) → next_turn streams t before ≡ o → AllByRecursion (StreamFits device_of) (events_along streams before) → AllByRecursion (StreamFits device_of) (with_event o (events_along streams before))
    go None e rest = rest
    go (Some x) e rest = (next_fits device_of streams t before x all e, rest)

-- what is left of each thread's events begins calls only where none is open
record Woven (s : Setup) (streams : List StreamPart) (setup : List TraceEvent) (turns : List ℕ) : Type 0 where
  pub left : (t : ℕ) → Alternate (is_open t (events_along streams turns ++ setup)) (drop (turns_of t turns) (events_planned streams t))
  pub idle : IdleAlong s setup (events_along streams turns)

turns_more : (t : ℕ) (before : List ℕ) → turns_of t (t ∷ before) ≡ suc (turns_of t before)
turns_more t before = ap (λ u. length (cond u (t ∷ filter (λ x. x == t) before) (filter (λ x. x == t) before))) (eq-eqb t t refl)

turns_other : (t u : ℕ) (before : List ℕ) → (t == u) ≡ false → turns_of u (t ∷ before) ≡ turns_of u before
turns_other t u before other = ap (λ v. length (cond v (t ∷ filter (λ x. x == u) before) (filter (λ x. x == u) before))) other

module _ (s : Setup) (streams : List StreamPart) (setup : List TraceEvent) (t : ℕ) (before : List ℕ) (w : Woven s streams setup before) where
  weave_begin : (b : BeginEvent) → next_turn streams t before ≡ Some (Begin b) → b.thread ≡ t
      → ((u : ℕ) → Alternate (is_open u (Begin b ∷ (events_along streams before ++ setup))) (drop (turns_of u (t ∷ before)) (events_planned streams u))) × IdleAlong s setup (Begin b ∷ events_along streams before)
  weave_begin b is thread = (λ u. go u (t == u) refl, (no_call_at s (events_along streams before ++ setup) b.thread (ap (λ v. is_open v (events_along streams before ++ setup)) thread ∙ next.0), w.idle))
    where
      next : (is_open t (events_along streams before ++ setup) ≡ false) × Alternate true (drop (suc (turns_of t before)) (events_planned streams t))
      next = subst (Alternate (is_open t (events_along streams before ++ setup))) (drop_next (events_planned streams t) (turns_of t before) (Begin b) is) (w.left t)

      mine : Alternate (is_open t (Begin b ∷ (events_along streams before ++ setup))) (drop (turns_of t (t ∷ before)) (events_planned streams t))
      mine =
          subst (λ k. Alternate (is_open t (Begin b ∷ (events_along streams before ++ setup))) (drop k (events_planned streams t))) (sym (turns_more t before))
          (subst (λ v. Alternate v (drop (suc (turns_of t before)) (events_planned streams t))) (sym (ap (λ v. v || is_open t (events_along streams before ++ setup)) (eq-eqb b.thread t thread))) next.1)

      go : (u : ℕ) (v : Bool) → (t == u) ≡ v → Alternate (is_open u (Begin b ∷ (events_along streams before ++ setup))) (drop (turns_of u (t ∷ before)) (events_planned streams u))
      go u true same = subst (λ x. Alternate (is_open x (Begin b ∷ (events_along streams before ++ setup))) (drop (turns_of x (t ∷ before)) (events_planned streams x))) (eqb-true t u same) mine
      go u false other =
          subst (λ k. Alternate (is_open u (Begin b ∷ (events_along streams before ++ setup))) (drop k (events_planned streams u))) (sym (turns_other t u before other))
          (subst (λ v. Alternate v (drop (turns_of u before) (events_planned streams u))) (sym (open_other (events_along streams before ++ setup) (Begin b) u (ap (λ x. x == u) thread ∙ other))) (w.left u))

  weave_return : (r : ℕ) → next_turn streams t before ≡ Some (Return r) → r ≡ t
      → ((u : ℕ) → Alternate (is_open u (Return r ∷ (events_along streams before ++ setup))) (drop (turns_of u (t ∷ before)) (events_planned streams u))) × IdleAlong s setup (Return r ∷ events_along streams before)
  weave_return r is thread = (λ u. go u (t == u) refl, w.idle)
    where
      next : Alternate false (drop (suc (turns_of t before)) (events_planned streams t))
      next = subst (Alternate (is_open t (events_along streams before ++ setup))) (drop_next (events_planned streams t) (turns_of t before) (Return r) is) (w.left t)

      mine : Alternate (is_open t (Return r ∷ (events_along streams before ++ setup))) (drop (turns_of t (t ∷ before)) (events_planned streams t))
      mine =
          subst (λ k. Alternate (is_open t (Return r ∷ (events_along streams before ++ setup))) (drop k (events_planned streams t))) (sym (turns_more t before))
          (subst (λ v. Alternate v (drop (suc (turns_of t before)) (events_planned streams t)))
          (sym (open_returned t r (events_along streams before ++ setup) ∙ ap (λ v. not v && is_open t (events_along streams before ++ setup)) (eq-eqb t r (sym thread)))) next)

      go : (u : ℕ) (v : Bool) → (t == u) ≡ v → Alternate (is_open u (Return r ∷ (events_along streams before ++ setup))) (drop (turns_of u (t ∷ before)) (events_planned streams u))
      go u true same = subst (λ x. Alternate (is_open x (Return r ∷ (events_along streams before ++ setup))) (drop (turns_of x (t ∷ before)) (events_planned streams x))) (eqb-true t u same) mine
      go u false other =
          subst (λ k. Alternate (is_open u (Return r ∷ (events_along streams before ++ setup))) (drop k (events_planned streams u))) (sym (turns_other t u before other))
          (subst (λ v. Alternate v (drop (turns_of u before) (events_planned streams u))) (sym (open_other (events_along streams before ++ setup) (Return r) u (ap (λ x. x == u) thread ∙ other))) (w.left u))

  weave : (device_of : Name → Option Name) → AllByRecursion (Streamed device_of) streams → (e : TraceEvent) → next_turn streams t before ≡ Some e
      → ((u : ℕ) → Alternate (is_open u (e ∷ (events_along streams before ++ setup))) (drop (turns_of u (t ∷ before)) (events_planned streams u))) × IdleAlong s setup (e ∷ events_along streams before)
  weave device_of all (Begin b) is = weave_begin b is (all_at (λ e. event_thread e ≡ t) (events_planned streams t) (turns_of t before) (Begin b) (planned device_of streams t all).threads is)
  weave device_of all (Return r) is = weave_return r is (all_at (λ e. event_thread e ≡ t) (events_planned streams t) (turns_of t before) (Return r) (planned device_of streams t all).threads is)

woven : (s : Setup) (device_of : Name → Option Name) (file : FileParts) → Sectioned device_of file → (turns : List ℕ) → Along file.streams turns → Woven s file.streams (reverse file.setup) turns
woven s device_of file sections [] along_all = record {
  left = λ t. subst (λ v. Alternate v (events_planned file.streams t)) (sym (ap (list_any (λ x. x == t)) sections.idle)) (planned device_of file.streams t sections.streams).alternate;
  idle = tt;
}
woven s device_of file sections (t ∷ before) along_all = go (next_turn file.streams t before) refl along_all.0 (woven s device_of file sections before along_all.1)
  where
    go : (o : Option TraceEvent) → next_turn file.streams t before ≡ o → is_some o ≡ true → Woven s file.streams (reverse file.setup) before
        → Woven s file.streams (reverse file.setup) (t ∷ before)
    go None e there w = cc there
    go (Some x) e there w =
        let both = weave s file.streams (reverse file.setup) t before w device_of sections.streams x e in
        record {
          left = λ u. subst (λ o. Alternate (is_open u (with_event o (events_along file.streams before) ++ reverse file.setup)) (drop (turns_of u (t ∷ before)) (events_planned file.streams u))) (sym e) (both.0 u);
          idle = subst (λ o. IdleAlong s (reverse file.setup) (with_event o (events_along file.streams before))) (sym e) both.1;
        }

pub along_idle : (s : Setup) (device_of : Name → Option Name) (file : FileParts) → Sectioned device_of file → (turns : List ℕ) → Along file.streams turns → IdleAlong s (reverse file.setup) (events_along file.streams turns)
along_idle s device_of file sections turns along_all = (woven s device_of file sections turns along_all).idle
