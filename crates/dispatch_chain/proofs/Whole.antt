-- A walk down over a stored row is the walk through all parts.
use Rattle.std.proofs.Common.{◌≡◌, ℕ, suc, ◌+◌, ◌-◌, ◌<◌, ◌≤◌, Bool, true, false, if◌then◌else◌, List, [], ◌∷◌, ◌++◌, length, take, drop, slice_get, slice_set, Some, is_some, ap, sym, ◌∙◌, refl, subst, append_assoc, append-nil, arith}
use Rattle.std.proofs.Math.Seq.{take-append_seam}
use Rattle.command_tables.specs.declared.types.CommandId.{CommandId}
use Rattle.command_tables.specs.Calls.{CallContent}
use Rattle.object_model.specs.declared.PartKind.{PartKind}
use Rattle.object_model.specs.declared.PartKind.TheVariants as kind
use Rattle.object_model.specs.Findings.{Report, at_place, is_failing}
use Rattle.object_model.specs.Rules.{Failure}
use Rattle.layer_model.specs.Parts.{LifeModel, life_failures, life_passed, unique_enter}
use Rattle.layer_model.specs.Reading.{read_call}
use Rattle.layer_model.specs.Walks.{PartState, Walked, enter_parts, intercepts, kind_of, passed, stopped}
use Rattle.layer_model.specs.Walks.{Threads, Lifetimes, Unique}
use Rattle.layer_model.proofs.LeftOut.{enters_as_it_is}
use Rattle.dispatch_chain.specs.declared.entry.Entry.{Entry}
use Rattle.dispatch_chain.specs.Entries.{Down, Entered, AllWithin, enter_entries, step_down, stepped, walk_seen, with_form}
use Rattle.dispatch_chain.specs.Holding.{AllOf}
use Rattle.dispatch_chain.specs.Rows.{entries_from, entries_of, picked}
use Rattle.dispatch_chain.specs.Seats.{kinds_of}
use Rattle.dispatch_chain.specs.Steps.{Step, entered}
use Rattle.dispatch_chain.proofs.Stepping.{down_at, stopped_there}

pub get_behind : (done : List PartState) (p : PartState) (ps : List PartState) → slice_get (done ++ p ∷ ps) (length done) ≡ Some p
get_behind [] p ps = refl
get_behind (q ∷ qs) p ps = get_behind qs p ps

pub set_behind : (done : List PartState) (p q : PartState) (ps : List PartState) → slice_set (done ++ p ∷ ps) (length done) q ≡ (done ++ q ∷ []) ++ ps
set_behind [] p q ps = refl
set_behind (r ∷ rs) p q ps = ap (λ xs. r ∷ xs) (set_behind rs p q ps)

pub one_more : (done : List PartState) (p : PartState) → length (done ++ p ∷ []) ≡ suc (length done)
one_more [] p = refl
one_more (q ∷ qs) p = ap suc (one_more qs p)

-- the part behind has the next place
pub next_place : (k : ℕ) (done : List PartState) (p : PartState) → k ≡ suc (length done) → k + 1 ≡ suc (length (done ++ p ∷ []))
next_place k done p h = let e : length (done ++ p ∷ []) ≡ suc (length done) = one_more done p in omega (arith, e, h)

-- the index of a place
pub index_there : (k : ℕ) (done : List PartState) → k ≡ suc (length done) → k - 1 ≡ length done
index_there k done h = omega (arith, h)

abbrev pub seen_at : List PartState → CallContent → List Report → Bool → List CallContent → Entered
seen_at states c reports skip forms = record { down = down_at states c reports skip; forms = forms }

-- what a walk over the rest of a row leaves, where the walk through the rest of the parts leaves w
abbrev pub shown : CommandId → List PartState → List PartState → List Report → Walked → Entered
shown cmd done rest reports w = seen_at (done ++ w.states) w.bottom (reports ++ w.found.reports) (is_some w.found.stop) (picked cmd (kinds_of rest) w.forms)

picked_none : (cmd : CommandId) (ks : List PartKind) → picked cmd ks [] ≡ []
picked_none cmd [] = refl
picked_none cmd (k ∷ ks) = refl

-- one part of a row
module _ (thread number k : ℕ) (done : List PartState) (p : PartState) (ps : List PartState) (d : Down) (hk : k ≡ suc (length done)) (hx : d.states ≡ done ++ p ∷ ps) where
  pub there : slice_get d.states (k - 1) ≡ Some p
  there = ap (λ xs. slice_get xs (k - 1)) hx ∙ ap (slice_get (done ++ p ∷ ps)) (index_there k done hk) ∙ get_behind done p ps

  moved : (q : PartState) → slice_set d.states (k - 1) q ≡ (done ++ q ∷ []) ++ ps
  moved q = ap (λ xs. slice_set xs (k - 1) q) hx ∙ ap (λ i. slice_set (done ++ p ∷ ps) i q) (index_there k done hk) ∙ set_behind done p q ps

  pub next : step_down thread number (record { place = k; kind = kind_of p }) d ≡ down_at ((done ++ (entered thread number k p d.call).state ∷ []) ++ ps) (entered thread number k p d.call).call (d.reports ++ (entered thread number k p d.call).reports) (entered thread number k p d.call).skip
  next = ap (stepped thread number k d) there ∙ ap (λ xs. down_at xs (entered thread number k p d.call).call (d.reports ++ (entered thread number k p d.call).reports) (entered thread number k p d.call).skip) (moved (entered thread number k p d.call).state)

  one : (es : List Entry) → d.skip ≡ false → enter_entries thread number (record { place = k; kind = kind_of p } ∷ es) d
      ≡ with_form d.call (enter_entries thread number es (down_at ((done ++ (entered thread number k p d.call).state ∷ []) ++ ps) (entered thread number k p d.call).call (d.reports ++ (entered thread number k p d.call).reports) (entered thread number k p d.call).skip))
  one es hs = ap (λ b. if b then record { down = d; forms = [] } else with_form d.call (enter_entries thread number es (step_down thread number (record { place = k; kind = kind_of p }) d))) hs
      ∙ ap (λ x. with_form d.call (enter_entries thread number es x)) next

-- one part further
further : (cmd : CommandId) (done : List PartState) (q : PartState) (ps : List PartState) (c : CallContent) (reports r : List Report) (w : Walked)
    → with_form c (shown cmd (done ++ q ∷ []) ps (reports ++ r) w) ≡ seen_at (done ++ q ∷ w.states) w.bottom (reports ++ (r ++ w.found.reports)) (is_some w.found.stop) (c ∷ picked cmd (kinds_of ps) w.forms)
further cmd done q ps c reports r w =
    ap (λ xs. seen_at xs w.bottom ((reports ++ r) ++ w.found.reports) (is_some w.found.stop) (c ∷ picked cmd (kinds_of ps) w.forms)) (append_assoc done (q ∷ []) w.states)
    ∙ ap (λ rs. seen_at (done ++ q ∷ w.states) w.bottom rs (is_some w.found.stop) (c ∷ picked cmd (kinds_of ps) w.forms)) (append_assoc reports r w.found.reports)

-- a walk goes on below a part
abbrev GoesOn : ℕ → ℕ → CommandId → ℕ → List PartState → List PartState → List Report → Type 0
GoesOn thread number cmd k done ps reports = (q : PartState) (c : CallContent) (r : List Report) → c.cmd ≡ cmd →
    enter_entries thread number (entries_from cmd (k + 1) (kinds_of ps)) (down_at ((done ++ q ∷ []) ++ ps) c (reports ++ r) false) ≡ shown cmd (done ++ q ∷ []) ps (reports ++ r) (enter_parts thread number (k + 1) ps c)

-- a lifetimes part, by what fails there
life_step : (thread number : ℕ) (cmd : CommandId) (k : ℕ) (done ps : List PartState) (reports : List Report) (m l : LifeModel) (c : CallContent) (fs : List Failure)
    → GoesOn thread number cmd k done ps reports → c.cmd ≡ cmd
    → with_form c (enter_entries thread number (entries_from cmd (k + 1) (kinds_of ps)) (down_at ((done ++ Lifetimes (if is_failing fs then m else l) ∷ []) ++ ps) c (reports ++ at_place k fs) (is_failing fs)))
    ≡ shown cmd done (Lifetimes m ∷ ps) reports (if is_failing fs then stopped (Lifetimes m ∷ ps) c k fs else passed (Lifetimes l) c k [] (enter_parts thread number (k + 1) ps c))
life_step thread number cmd k done ps reports m l c [] on hc = ap (with_form c) (on (Lifetimes l) c [] hc) ∙ further cmd done (Lifetimes l) ps c reports [] (enter_parts thread number (k + 1) ps c)
life_step thread number cmd k done ps reports m l c (f ∷ fs) on hc =
    ap (with_form c) (stopped_there thread number (entries_from cmd (k + 1) (kinds_of ps)) (down_at ((done ++ Lifetimes m ∷ []) ++ ps) c (reports ++ at_place k (f ∷ fs)) true) refl)
    ∙ ap (λ xs. seen_at xs c (reports ++ at_place k (f ∷ fs)) true (c ∷ [])) (append_assoc done (Lifetimes m ∷ []) ps)
    ∙ ap (λ xs. seen_at (done ++ Lifetimes m ∷ ps) c (reports ++ at_place k (f ∷ fs)) true (c ∷ xs)) (sym (picked_none cmd (kinds_of ps)))

pub whole : (thread number : ℕ) (cmd : CommandId) (done rest : List PartState) (k : ℕ) (d : Down) → k ≡ suc (length done) → d.states ≡ done ++ rest → d.call.cmd ≡ cmd → d.skip ≡ false
    → enter_entries thread number (entries_from cmd k (kinds_of rest)) d ≡ shown cmd done rest d.reports (enter_parts thread number k rest d.call)
whole thread number cmd done [] k d hk hx hc hs =
    ap (λ xs. seen_at xs d.call d.reports d.skip []) hx
    ∙ ap (λ rs. seen_at (done ++ []) d.call rs d.skip []) (sym (append-nil d.reports))
    ∙ ap (λ b. seen_at (done ++ []) d.call (d.reports ++ []) b []) hs
whole thread number cmd done (Threads m ∷ ps) k d hk hx hc hs =
    let e : Step = entered thread number k (Threads m) d.call in
    one thread number k done (Threads m) ps d hk hx (entries_from cmd (k + 1) (kinds_of ps)) hs
    ∙ ap (with_form d.call) (whole thread number cmd (done ++ e.state ∷ []) ps (k + 1) (down_at ((done ++ e.state ∷ []) ++ ps) d.call (d.reports ++ e.reports) false) (next_place k done e.state hk) refl hc refl)
    ∙ further cmd done e.state ps d.call d.reports e.reports (enter_parts thread number (k + 1) ps d.call)
whole thread number cmd done (Lifetimes m ∷ ps) k d hk hx hc hs =
    one thread number k done (Lifetimes m) ps d hk hx (entries_from cmd (k + 1) (kinds_of ps)) hs
    ∙ life_step thread number cmd k done ps d.reports m (life_passed m d.call.cmd (read_call d.call)) d.call (life_failures m d.call.cmd (read_call d.call))
    (λ q c r h. whole thread number cmd (done ++ q ∷ []) ps (k + 1) (down_at ((done ++ q ∷ []) ++ ps) c (d.reports ++ r) false) (next_place k done q hk) refl h refl) hc
whole thread number cmd done (Unique m ∷ ps) k d hk hx hc hs =
    let ks : List PartKind = kinds_of ps in
    let es : List Entry = entries_from cmd (k + 1) ks in
    let here : Entry = record { place = k; kind = kind.Unique } in
    let w : Walked = enter_parts thread number (k + 1) ps (unique_enter m d.call) in
    let goal_at : Bool → Type 0 = λ b. enter_entries thread number (if b then here ∷ es else es) d
    ≡ seen_at (done ++ Unique m ∷ w.states) w.bottom (d.reports ++ w.found.reports) (is_some w.found.stop) (if b then d.call ∷ picked cmd ks w.forms else picked cmd ks w.forms) in
    let at : (b : Bool) → intercepts kind.Unique cmd ≡ b → goal_at b = λ b. elim b as (λ b. intercepts kind.Unique cmd ≡ b → goal_at b) [
      | true ↦ λ hi.
          one thread number k done (Unique m) ps d hk hx es hs
          ∙ ap (with_form d.call) (whole thread number cmd (done ++ Unique m ∷ []) ps (k + 1) (down_at ((done ++ Unique m ∷ []) ++ ps) (unique_enter m d.call) (d.reports ++ []) false) (next_place k done (Unique m) hk) refl hc refl)
          ∙ further cmd done (Unique m) ps d.call d.reports [] w
      | false ↦ λ hi.
          whole thread number cmd (done ++ Unique m ∷ []) ps (k + 1) d (next_place k done (Unique m) hk) (hx ∙ sym (append_assoc done (Unique m ∷ []) ps)) hc hs
          ∙ ap (λ c. shown cmd (done ++ Unique m ∷ []) ps d.reports (enter_parts thread number (k + 1) ps c)) (sym (enters_as_it_is m d.call (ap (intercepts kind.Unique) hc ∙ hi)))
          ∙ ap (λ xs. seen_at xs w.bottom (d.reports ++ w.found.reports) (is_some w.found.stop) (picked cmd ks w.forms)) (append_assoc done (Unique m ∷ []) w.states)
    ]
    in at (intercepts kind.Unique cmd) refl

-- the walk over the row of a command is that through all parts
pub row_whole : (thread number : ℕ) (cmd : CommandId) (states : List PartState) (es : List Entry) (d : Down) → es ≡ entries_of cmd (kinds_of states) → d.states ≡ states → d.call.cmd ≡ cmd → d.skip ≡ false
    → enter_entries thread number es d ≡ walk_seen cmd states d.reports (enter_parts thread number 1 states d.call)
row_whole thread number cmd states es d he hx hc hs = ap (λ x. enter_entries thread number x d) he ∙ whole thread number cmd [] states 1 d refl hx hc hs

-- each entry of a row is within the parts
pub within_from : (cmd : CommandId) (k n : ℕ) (ks : List PartKind) → 0 < k → k - 1 + length ks ≤ n → AllWithin n (entries_from cmd k ks)
within_from cmd k n [] h l = tt
within_from cmd k n (q ∷ ks) h l = elim (intercepts q cmd) as (λ b. AllWithin n (if b then record { place = k; kind = q } ∷ entries_from cmd (k + 1) ks else entries_from cmd (k + 1) ks))
    [ true ↦ (h, (omega (arith, h, l), within_from cmd (k + 1) n ks (omega arith) (omega (arith, h, l)))) | false ↦ within_from cmd (k + 1) n ks (omega arith) (omega (arith, h, l)) ]

pub row_within : (cmd : CommandId) (n : ℕ) (ks : List PartKind) (es : List Entry) → es ≡ entries_of cmd ks → n ≡ length ks → AllWithin n es
row_within cmd n ks es he hn = subst (AllWithin n) (sym he) (within_from cmd 1 n ks (omega arith) (omega (arith, hn)))

-- the forms of a walk are all of one command
pub forms_of : (thread number k : ℕ) (cmd : CommandId) (states : List PartState) (c : CallContent) → c.cmd ≡ cmd → AllOf cmd (enter_parts thread number k states c).forms
forms_of thread number k cmd [] c h = tt
forms_of thread number k cmd (Threads m ∷ states) c h = (h, forms_of thread number (k + 1) cmd states c h)
forms_of thread number k cmd (Lifetimes m ∷ states) c h =
    elim (is_failing (life_failures m c.cmd (read_call c))) as (λ b. AllOf cmd (if b then stopped (Lifetimes m ∷ states) c k (life_failures m c.cmd (read_call c)) else passed (Lifetimes (life_passed m c.cmd (read_call c))) c k [] (enter_parts thread number (k + 1) states c)).forms)
    [ true ↦ (h, tt) | false ↦ (h, forms_of thread number (k + 1) cmd states c h) ]
forms_of thread number k cmd (Unique m ∷ states) c h = (h, forms_of thread number (k + 1) cmd states (unique_enter m c) h)

-- what stands in a vector whose items were all replaced
pub all_of_it : {X : Type 0} (n : ℕ) (xs ys : List X) → length xs ≡ length ys → n ≡ length ys → take n (xs ++ drop (length xs) ys) ≡ xs
all_of_it n xs ys h k = ap (λ m. take m (xs ++ drop (length xs) ys)) (k ∙ sym h) ∙ take-append_seam xs (drop (length xs) ys)
