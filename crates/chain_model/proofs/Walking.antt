-- A call on its way down finds what the past says, and the parts keep what they have seen then.
use Rattle.std.proofs.Common.{◌≡◌, ◌≤◌, ◌<◌, ℕ, ◌+◌, Bool, true, false, cond, ◌&&◌, Option, Some, None, List, [], ◌∷◌, map, refl, sym, ◌∙◌, ap, subst, arith}
use Rattle.std.proofs.lemmas.Bool.{ne_eqb, eq-eqb, le-leb, leb-true}
use Rattle.std.specs.Prelude.{nat_le}
use Rattle.object_model.specs.declared.Object.{Object}
use Rattle.object_model.specs.declared.Argument.{Argument}
use Rattle.object_model.specs.declared.PartKind.TheVariants as part
use Rattle.command_tables.specs.Calls.{CallContent}
use Rattle.command_tables.specs.Table.{row_of}
use Rattle.object_model.specs.History.{Call, Begins, History, Birth, born_in, births, alive}
use Rattle.object_model.specs.Rules.{Failure, failures, failures_in}
use Rattle.object_model.specs.Uses.{overlaps}
use Rattle.object_model.specs.Renaming.{renamed, renamed_call, renamed_args, KnowsAll, KnowsArgs}
use Rattle.object_model.proofs.RenamedRules.{failures-renamed}
use Rattle.object_model.proofs.RenamedUses.{overlaps-renamed}
use Rattle.replay_model.specs.Past.{Past, Retrieval, history, retrievals}
use Rattle.replay_model.specs.ChainPlaces.{seen_past, parts_checked, findings}
use Rattle.object_model.specs.Findings.{is_failing, at_place, above}
use Rattle.layer_model.specs.Ids.{is_wrapped, IdMap}
use Rattle.chain_model.specs.Tokens.{number_in, token_in}
use Rattle.chain_model.specs.Mirrored.{Mirrors}
use Rattle.layer_model.specs.Reading.{read_call}
use Rattle.layer_model.specs.Parts.{LifeModel, UseModel, life_failures, life_passed, use_failures, use_enter}
use Rattle.layer_model.specs.Walks.{PartState, Threads, Lifetimes, Unique, kind_of, has_unique, is_guarded, Walked, passed, stopped, enter_parts}
use Rattle.chain_model.specs.Chained.{form_by, handle_above, StatesMirror, AreForms}
use Rattle.chain_model.proofs.Passing.{AreTyped, reaches_to, seen_begun, StopsFrom, LivesSeen, WalksWell}
use Rattle.layer_model.proofs.Same.{and_true}
use Rattle.chain_model.proofs.OneToOne.{one_to_one}
use Rattle.chain_model.proofs.Reading.{read_form, unique_form}
use Rattle.layer_model.proofs.Steps.{life_enters, life_finds, life_skips, use_enters, use_finds}
use Rattle.layer_model.specs.Histories.{LifeMirrors, UseMirrors}

-- ---- places

-- a place at which the call doesn't stop, and that it reaches
pub seen_here : (s : ℕ → History) (call : Call) (k : ℕ) (stop : Option ℕ) → StopsFrom (k + 1) stop → seen_begun s call stop k ≡ Begins call false ∷ s k
seen_here s call k None from = refl
seen_here s call k (Some j) from = rw (le-leb k j (omega (arith, from)), ne_eqb j k (λ e. omega (arith, e, from))) refl

reached_here : (k : ℕ) (stop : Option ℕ) → StopsFrom (k + 1) stop → reaches_to stop k ≡ true
reached_here k None from = refl
reached_here k (Some j) from = le-leb k j (omega (arith, from))

-- the place that stops it
seen_stopped : (s : ℕ → History) (call : Call) (k : ℕ) → seen_begun s call (Some k) k ≡ Begins call true ∷ s k
seen_stopped s call k = rw (le-leb k k (omega arith), eq-eqb k k refl) refl

-- the places below
nat_le_not : (j k : ℕ) → k < j → nat_le j k ≡ false
nat_le_not j k l = go (nat_le j k) refl
  where
    go : (t : Bool) → nat_le j k ≡ t → t ≡ false
    go true e = let m : j ≤ k = leb-true j k e in absurd (omega (arith, m, l))
    go false e = refl

seen_below : (s : ℕ → History) (call : Call) (k j : ℕ) → k < j → seen_begun s call (Some k) j ≡ s j
seen_below s call k j l = rw (nat_le_not j k l) refl

-- parts mirror alike histories alike
pub mirror_alike : (bs : List Birth) (rs : List Retrieval) (f : Object → ℕ) (s s2 : ℕ → History) (k : ℕ) (states : List PartState) → ((j : ℕ) → k ≤ j → s2 j ≡ s j) → StatesMirror bs rs f s k states → StatesMirror bs rs f s2 k states
mirror_alike bs rs f s s2 k [] alike m = tt
mirror_alike bs rs f s s2 k (Threads x ∷ states) alike m = (subst (λ h. UseMirrors (renamed (token_in bs) h) x) (sym (alike k (omega arith))) m.0, mirror_alike bs rs f s s2 (k + 1) states (λ j l. alike j (omega (arith, l))) m.1)
mirror_alike bs rs f s s2 k (Lifetimes x ∷ states) alike m = (subst (λ h. LifeMirrors (renamed (token_in bs) h) x) (sym (alike k (omega arith))) m.0, mirror_alike bs rs f s s2 (k + 1) states (λ j l. alike j (omega (arith, l))) m.1)
mirror_alike bs rs f s s2 k (Unique x ∷ states) alike m = (m.0, mirror_alike bs rs f s s2 (k + 1) states (λ j l. alike j (omega (arith, l))) m.1)

stops_above : (k : ℕ) (stop : Option ℕ) → StopsFrom (k + 1) stop → StopsFrom k stop
stops_above k None from = tt
stops_above k (Some j) from = omega (arith, from)

-- a part below a stop is not reached
forms_below : (form : CallContent) (k j : ℕ) → k < j → (states : List PartState) → AreForms (reaches_to (Some k)) form j states []
forms_below form k j l [] = tt
forms_below form k j l (s ∷ states) = (nat_le_not j k l, forms_below form k (j + 1) (omega (arith, l)) states)

-- ---- guards

-- a guarded list that isn't empty has a unique part
pub guarded_unique : (s : PartState) (states : List PartState) → is_guarded (s ∷ states) ≡ true → has_unique (s ∷ states) ≡ true
guarded_unique (Threads m) states g = (and_true (has_unique states) (is_guarded states) g).0
guarded_unique (Lifetimes m) states g = (and_true (has_unique states) (is_guarded states) g).0
guarded_unique (Unique m) states g = refl

pub guarded_rest : (s : PartState) (states : List PartState) → is_guarded (s ∷ states) ≡ true → is_guarded states ≡ true
guarded_rest (Threads m) states g = (and_true (has_unique states) (is_guarded states) g).1
guarded_rest (Lifetimes m) states g = (and_true (has_unique states) (is_guarded states) g).1
guarded_rest (Unique m) states g = g

-- above a unique part handles are numbers
pub above_unique : (states : List PartState) (bs : List Birth) (f : Object → ℕ) → has_unique states ≡ true → handle_above states bs f ≡ number_in bs
above_unique states bs f u = λ i o. cond (u i) (number_in bs o) (cond (is_wrapped o.ty) (f o) (number_in bs o))

-- the kinds alone tell whether there is one
pub unique_kinds : (xs ys : List PartState) → map kind_of xs ≡ map kind_of ys → has_unique xs ≡ has_unique ys
unique_kinds [] [] e = refl
unique_kinds [] (y ∷ ys) e = cc e
unique_kinds (x ∷ xs) [] e = cc e
unique_kinds (Threads m ∷ xs) (Threads n ∷ ys) e = unique_kinds xs ys (cc e)
unique_kinds (Lifetimes m ∷ xs) (Threads n ∷ ys) e = cc e
unique_kinds (Unique m ∷ xs) (Threads n ∷ ys) e = cc e
unique_kinds (Threads m ∷ xs) (Lifetimes n ∷ ys) e = cc e
unique_kinds (Lifetimes m ∷ xs) (Lifetimes n ∷ ys) e = unique_kinds xs ys (cc e)
unique_kinds (Unique m ∷ xs) (Lifetimes n ∷ ys) e = cc e
unique_kinds (Threads m ∷ xs) (Unique n ∷ ys) e = cc e
unique_kinds (Lifetimes m ∷ xs) (Unique n ∷ ys) e = cc e
unique_kinds (Unique m ∷ xs) (Unique n ∷ ys) e = refl

pub above_kinds : (xs ys : List PartState) (bs : List Birth) (f : Object → ℕ) → map kind_of xs ≡ map kind_of ys → handle_above xs bs f ≡ handle_above ys bs f
above_kinds xs ys bs f e = λ i o. cond (unique_kinds xs ys e i) (number_in bs o) (cond (is_wrapped o.ty) (f o) (number_in bs o))

-- ---- the walk

not_failing : (fs : List Failure) → is_failing fs ≡ false → fs ≡ []
not_failing [] e = refl
not_failing (x ∷ fs) e = cc e

module _ (past : Past) (f : Object → ℕ) (c : CallContent) (thread number : ℕ) (args : List (List Argument)) (typed : AreTyped (row_of c.cmd).params args) (knows : KnowsArgs (born_in (births (history past))) args)
    (known_seen : (k : ℕ) → KnowsAll (born_in (births (history past))) (seen_past past k)) (born_seen : (k : ℕ) → births (seen_past past k) ≡ births (history past)) where
  -- the births, and the call
  abbrev now : List Birth
  now = births (history past)

  abbrev the_call : Call
  the_call = record { number = number; thread = thread; cmd = c.cmd; args = args }

  -- the call in tokens, as it stands above each checking part
  abbrev in_tokens : Call
  in_tokens = renamed_call (token_in now) the_call

  abbrev form : CallContent
  form = form_by (number_in now) c args

  -- so it is read
  reads : (g : Object → ℕ) → g ≡ number_in now → read_call (form_by g c args) ≡ renamed_args (token_in now) args
  reads g e = ap (λ (x : Object → ℕ). read_call (form_by x c args)) e ∙ read_form now (row_of c.cmd).params args typed

  abbrev Good : ℕ → List PartState → Walked → Type 0
  Good k states w = WalksWell past f c the_call k states w

  walks_end : (k : ℕ) → Good k [] (enter_parts thread number k [] (form_by (handle_above [] now f) c args))
  walks_end k = record { found = refl; below = tt; mirror = tt; kinds = refl; bottom = λ e. refl; forms = tt }

  -- a threads part
  walks_threads : (k : ℕ) (m : UseModel) (states : List PartState) (w : Walked) (g : Object → ℕ) → g ≡ number_in now → UseMirrors (renamed (token_in now) (seen_past past k)) m → Good (k + 1) states w
      → Good k (Threads m ∷ states) (passed (Threads (use_enter m thread number c.cmd (read_call (form_by g c args)))) (form_by g c args) k (use_failures m thread c.cmd (read_call (form_by g c args))) w)
  walks_threads k m states w g is s rest =
      let r : read_call (form_by g c args) ≡ renamed_args (token_in now) args = reads g is in
      let finds : use_failures m thread c.cmd (read_call (form_by g c args)) ≡ overlaps (seen_past past k) the_call =
      ap (λ given. use_failures m thread c.cmd given) r
      ∙ (use_finds (renamed (token_in now) (seen_past past k)) m in_tokens s ∙ overlaps-renamed (born_in now) (token_in now) (one_to_one now) (seen_past past k) (known_seen k) the_call knows) in
      let enters : UseMirrors (Begins in_tokens false ∷ renamed (token_in now) (seen_past past k)) (use_enter m thread number c.cmd (read_call (form_by g c args))) =
      subst (λ given. UseMirrors (Begins in_tokens false ∷ renamed (token_in now) (seen_past past k)) (use_enter m thread number c.cmd given)) (sym r) (use_enters (renamed (token_in now) (seen_past past k)) m in_tokens s) in
      record {
        found = ap (λ fs. above (at_place k fs) w.found) finds ∙ ap (λ x. above (at_place k (overlaps (seen_past past k) the_call)) x) rest.found;
        below = stops_above k w.found.stop rest.below;
        mirror = (
          subst (λ h. UseMirrors (renamed (token_in now) h) (use_enter m thread number c.cmd (read_call (form_by g c args)))) (sym (seen_here (seen_past past) the_call k w.found.stop rest.below)) enters,
          rest.mirror,
        );
        kinds = ap (λ ks. part.Threads ∷ ks) rest.kinds;
        bottom = rest.bottom;
        forms = (reached_here k w.found.stop rest.below, ap (λ (x : Object → ℕ). form_by x c args) is, rest.forms);
      }

  -- a lifetimes part that finds nothing
  walks_on : (k : ℕ) (m : LifeModel) (states : List PartState) (w : Walked) (g : Object → ℕ) → g ≡ number_in now → LifeMirrors (renamed (token_in now) (seen_past past k)) m → failures (history past) the_call ≡ [] → Good (k + 1) states w
      → Good k (Lifetimes m ∷ states) (passed (Lifetimes (life_passed m c.cmd (read_call (form_by g c args)))) (form_by g c args) k [] w)
  walks_on k m states w g is s none rest =
      let r : read_call (form_by g c args) ≡ renamed_args (token_in now) args = reads g is in
      let enters : LifeMirrors (Begins in_tokens false ∷ renamed (token_in now) (seen_past past k)) (life_passed m c.cmd (read_call (form_by g c args))) =
      subst (λ given. LifeMirrors (Begins in_tokens false ∷ renamed (token_in now) (seen_past past k)) (life_passed m c.cmd given)) (sym r) (life_enters (renamed (token_in now) (seen_past past k)) m in_tokens s) in
      record {
        found = rest.found
            ∙ ap (λ fs. cond (true && is_failing fs) (record { reports = at_place k fs; stop = Some k }) (above (at_place k fs) (findings (parts_checked past the_call (k + 1) (map kind_of states))))) (sym none);
        below = stops_above k w.found.stop rest.below;
        mirror = (
          subst (λ h. LifeMirrors (renamed (token_in now) h) (life_passed m c.cmd (read_call (form_by g c args)))) (sym (seen_here (seen_past past) the_call k w.found.stop rest.below)) enters,
          rest.mirror,
        );
        kinds = ap (λ ks. part.Lifetimes ∷ ks) rest.kinds;
        bottom = rest.bottom;
        forms = (reached_here k w.found.stop rest.below, ap (λ (x : Object → ℕ). form_by x c args) is, rest.forms);
      }

  -- a lifetimes part that stops the call
  walks_stopped : (k : ℕ) (m : LifeModel) (states : List PartState) (g : Object → ℕ) → g ≡ number_in now → StatesMirror now (retrievals past) f (seen_past past) k (Lifetimes m ∷ states) → (fs : List Failure) → fs ≡ failures (history past) the_call → is_failing fs ≡ true
      → Good k (Lifetimes m ∷ states) (stopped (Lifetimes m ∷ states) (form_by g c args) k fs)
  walks_stopped k m states g is s fs finds fails = record {
    found = ap (λ b. cond (true && b) (record { reports = at_place k fs; stop = Some k }) (above (at_place k fs) (findings (parts_checked past the_call (k + 1) (map kind_of states))))) (sym fails)
        ∙ ap (λ xs. cond (true && is_failing xs) (record { reports = at_place k xs; stop = Some k }) (above (at_place k xs) (findings (parts_checked past the_call (k + 1) (map kind_of states))))) finds;
    below = omega arith;
    mirror = (
      subst (λ h. LifeMirrors (renamed (token_in now) h) m) (sym (seen_stopped (seen_past past) the_call k)) (life_skips (renamed (token_in now) (seen_past past k)) m in_tokens s.0),
      mirror_alike now (retrievals past) f (seen_past past) (seen_begun (seen_past past) the_call (Some k)) (k + 1) states (λ j l. seen_below (seen_past past) the_call k j (omega (arith, l))) s.1,
    );
    kinds = refl;
    bottom = λ e. cc;
    forms = (le-leb k k (omega arith), ap (λ (x : Object → ℕ). form_by x c args) is, forms_below form k (k + 1) (omega arith) states);
  }

  -- a unique part
  walks_unique : (k : ℕ) (m : IdMap ℕ) (states : List PartState) (w : Walked) (g : Object → ℕ) → g ≡ number_in now → Mirrors ℕ is_wrapped (handle_above states now f) now (retrievals past) m → Good (k + 1) states w
      → Good k (Unique m ∷ states) (passed (Unique m) (form_by g c args) k [] w)
  walks_unique k m states w g is s rest = record {
    found = rest.found;
    below = stops_above k w.found.stop rest.below;
    mirror = (subst (λ (x : Object → ℕ). Mirrors ℕ is_wrapped x now (retrievals past) m) (sym (above_kinds w.states states now f rest.kinds)) s, rest.mirror);
    kinds = ap (λ ks. part.Unique ∷ ks) rest.kinds;
    bottom = rest.bottom;
    forms = (reached_here k w.found.stop rest.below, ap (λ (x : Object → ℕ). form_by x c args) is, rest.forms);
  }

  -- what a lifetimes part finds is what the whole history says
  life_says : (k : ℕ) (m : LifeModel) (g : Object → ℕ) → g ≡ number_in now → LifeMirrors (renamed (token_in now) (seen_past past k)) m → ((o : Object) → alive (seen_past past k) o ≡ alive (history past) o)
      → life_failures m c.cmd (read_call (form_by g c args)) ≡ failures (history past) the_call
  life_says k m g is s lives =
      ap (λ given. life_failures m c.cmd given) (reads g is)
      ∙ (life_finds (renamed (token_in now) (seen_past past k)) m in_tokens s
      ∙ (failures-renamed (born_in now) (token_in now) (one_to_one now) (seen_past past k) (known_seen k) the_call knows
      ∙ (ap (λ bs. failures_in bs (alive (seen_past past k)) c.cmd args) (born_seen k) ∙ ap (λ (l : Object → Bool). failures_in now l c.cmd args) (λ i o. lives o i))))

  -- a lifetimes part, by what it finds
  walks_life : (k : ℕ) (m : LifeModel) (states : List PartState) (w : Walked) (g : Object → ℕ) → g ≡ number_in now → StatesMirror now (retrievals past) f (seen_past past) k (Lifetimes m ∷ states) → (fs : List Failure)
      → fs ≡ failures (history past) the_call → (t : Bool) → is_failing fs ≡ t → Good (k + 1) states w
      → Good k (Lifetimes m ∷ states) (cond t (stopped (Lifetimes m ∷ states) (form_by g c args) k fs) (passed (Lifetimes (life_passed m c.cmd (read_call (form_by g c args)))) (form_by g c args) k [] w))
  walks_life k m states w g is s fs finds true e rest = walks_stopped k m states g is s fs finds e
  walks_life k m states w g is s fs finds false e rest = walks_on k m states w g is s.0 (sym finds ∙ not_failing fs e) rest

  -- all parts
  pub walks : (k : ℕ) (states : List PartState) → is_guarded states ≡ true → StatesMirror now (retrievals past) f (seen_past past) k states → LivesSeen (seen_past past) (history past) k states
      → Good k states (enter_parts thread number k states (form_by (handle_above states now f) c args))
  walks k [] guard s lives = walks_end k
  walks k (Threads m ∷ states) guard s lives =
      let is : handle_above states now f ≡ number_in now = above_unique states now f (guarded_unique (Threads m) states guard) in
      walks_threads k m states (enter_parts thread number (k + 1) states (form_by (handle_above states now f) c args)) (handle_above states now f) is s.0 (walks (k + 1) states (guarded_rest (Threads m) states guard) s.1 lives)
  walks k (Lifetimes m ∷ states) guard s lives =
      let is : handle_above states now f ≡ number_in now = above_unique states now f (guarded_unique (Lifetimes m) states guard) in
      walks_life k m states (enter_parts thread number (k + 1) states (form_by (handle_above states now f) c args)) (handle_above states now f) is s
      (life_failures m c.cmd (read_call (form_by (handle_above states now f) c args))) (life_says k m (handle_above states now f) is s.0 lives.0) (is_failing (life_failures m c.cmd (read_call (form_by (handle_above states now f) c args)))) refl
      (walks (k + 1) states (guarded_rest (Lifetimes m) states guard) s.1 lives.1)
  walks k (Unique m ∷ states) guard s lives =
      subst (λ (x : CallContent). Good k (Unique m ∷ states) (passed (Unique m) (form_by (handle_above (Unique m ∷ states) now f) c args) k [] (enter_parts thread number (k + 1) states x)))
      (sym (unique_form states f now (retrievals past) m c args s.0 typed knows))
      (walks_unique k m states (enter_parts thread number (k + 1) states (form_by (handle_above states now f) c args)) (handle_above (Unique m ∷ states) now f) refl s.0 (walks (k + 1) states guard s.1 lives))
