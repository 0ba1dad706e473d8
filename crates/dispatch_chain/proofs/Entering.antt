-- Where there is room for what a walk leaves open, there is at each part that the call comes to.
use Rattle.std.proofs.Common.{◌≡◌, ℕ, suc, ◌+◌, ◌-◌, ◌≤◌, Bool, true, false, if◌then◌else◌, List, [], ◌∷◌, ◌++◌, length, Some, None, Option, slice_get, ap, sym, ◌∙◌, refl, subst, append_assoc, length-append, arith}
use Rattle.command_tables.specs.declared.types.CommandId.{CommandId}
use Rattle.command_tables.specs.Calls.{CallContent}
use Rattle.object_model.specs.declared.PartKind.TheVariants as kind
use Rattle.object_model.specs.Findings.{Report, at_place, is_failing}
use Rattle.object_model.specs.Rules.{Failure}
use Rattle.layer_model.specs.Parts.{LifeModel, life_failures, life_passed, unique_enter}
use Rattle.layer_model.specs.Reading.{read_call}
use Rattle.layer_model.specs.Walks.{PartState, enter_parts, intercepts, kind_of, passed, stopped}
use Rattle.layer_model.specs.Walks.{Threads, Lifetimes, Unique}
use Rattle.layer_model.proofs.LeftOut.{enters_as_it_is}
use Rattle.dispatch_chain.specs.declared.entry.Entry.{Entry}
use Rattle.dispatch_chain.specs.Entries.{Down, Entered, enter_entries, step_down, stepped, with_form}
use Rattle.dispatch_chain.specs.Room.{AllCanEnter, AreRoomy, CanEnter, CanEnterAt, PartRoom}
use Rattle.dispatch_chain.specs.Rows.{entries_from, entries_of}
use Rattle.dispatch_chain.specs.Seats.{kinds_of}
use Rattle.dispatch_chain.specs.Steps.{Step, entered}
use Rattle.dispatch_chain.proofs.Stepping.{down_at}
use Rattle.dispatch_chain.proofs.Whole.{next, next_place, there}

-- ---- reports only grow

stepped_grows : (thread number place : ℕ) (d : Down) (o : Option PartState) → length d.reports ≤ length (stepped thread number place d o).reports
stepped_grows thread number place d None = omega arith
stepped_grows thread number place d (Some s) = omega (arith, length-append d.reports (entered thread number place s d.call).reports)

pub reports_grow : (thread number : ℕ) (es : List Entry) (d : Down) → length d.reports ≤ length (enter_entries thread number es d).down.reports
reports_grow thread number [] d = omega arith
reports_grow thread number (e ∷ es) d = go d.skip (reports_grow thread number es (step_down thread number e d)) (stepped_grows thread number e.place d (slice_get d.states (e.place - 1)))
  where
    ended : Entered
    ended = record { down = d; forms = [] }

    below : Entered
    below = enter_entries thread number es (step_down thread number e d)

    go : (b : Bool) → length (step_down thread number e d).reports ≤ length below.down.reports → length d.reports ≤ length (step_down thread number e d).reports → length d.reports ≤ length (if b then ended else with_form d.call below).down.reports
    go true ih one = omega arith
    go false ih one = omega (arith, ih, one)

-- ---- part by part

got_behind : (qs : List PartRoom) (r : PartRoom) (rs : List PartRoom) → slice_get (qs ++ r ∷ rs) (length qs) ≡ Some r
got_behind [] r rs = refl
got_behind (q ∷ qs) r rs = got_behind qs r rs

-- a call that was stopped comes to no further part
can_stop : (thread number : ℕ) (rooms : List PartRoom) (es : List Entry) (d : Down) → d.skip ≡ true → AllCanEnter thread number rooms es d
can_stop thread number rooms [] d h = tt
can_stop thread number rooms (e ∷ es) d h = λ goes. let wrong : true ≡ false = sym h ∙ goes in cc wrong

-- one part of a row
module _ (thread number k : ℕ) (done : List PartState) (p : PartState) (ps : List PartState) (d : Down) (qs : List PartRoom) (r : PartRoom) (rs : List PartRoom) (hk : k ≡ suc (length done)) (hq : length qs ≡ length done) (hx : d.states ≡ done ++ p ∷ ps) where
  room_there : slice_get (qs ++ r ∷ rs) (k - 1) ≡ Some r
  room_there = let same : k - 1 ≡ length qs = omega (arith, hk, hq) in ap (slice_get (qs ++ r ∷ rs)) same ∙ got_behind qs r rs

  can_there : CanEnter thread number p r d.call → CanEnterAt thread number (slice_get d.states (k - 1)) (slice_get (qs ++ r ∷ rs) (k - 1)) d.call
  can_there h = subst (λ x. CanEnterAt thread number x (slice_get (qs ++ r ∷ rs) (k - 1)) d.call) (sym (there thread number k done p ps d hk hx)) (subst (λ x. CanEnterAt thread number (Some p) x d.call) (sym room_there) h)

  can_next : (es : List Entry) → AllCanEnter thread number ((qs ++ r ∷ []) ++ rs) es (down_at ((done ++ (entered thread number k p d.call).state ∷ []) ++ ps) (entered thread number k p d.call).call (d.reports ++ (entered thread number k p d.call).reports) (entered thread number k p d.call).skip)
      → AllCanEnter thread number (qs ++ r ∷ rs) es (step_down thread number (record { place = k; kind = kind_of p }) d)
  can_next es h = subst (λ x. AllCanEnter thread number (qs ++ r ∷ rs) es x) (sym (next thread number k done p ps d hk hx)) (subst (λ x. AllCanEnter thread number x es (down_at ((done ++ (entered thread number k p d.call).state ∷ []) ++ ps) (entered thread number k p d.call).call (d.reports ++ (entered thread number k p d.call).reports) (entered thread number k p d.call).skip)) (append_assoc qs (r ∷ []) rs) h)

  long_next : (q : PartState) → length (qs ++ r ∷ []) ≡ length (done ++ q ∷ [])
  long_next q = omega (arith, hq, length-append qs (r ∷ []), length-append done (q ∷ []))

-- below a lifetimes part, by what fails there
life_can : (thread number k : ℕ) (done ps : List PartState) (reports : List Report) (m l : LifeModel) (c : CallContent) (fs : List Failure) (r : PartRoom) (rooms rs : List PartRoom) (es : List Entry)
    → ((q : PartState) (before : List Report) → AreRoomy (enter_parts thread number (k + 1) ps c).states rs → AllCanEnter thread number rooms es (down_at ((done ++ q ∷ []) ++ ps) c before false))
    → AreRoomy (if is_failing fs then stopped (Lifetimes m ∷ ps) c k fs else passed (Lifetimes l) c k [] (enter_parts thread number (k + 1) ps c)).states (r ∷ rs)
    → AllCanEnter thread number rooms es (down_at ((done ++ Lifetimes (if is_failing fs then m else l) ∷ []) ++ ps) c (reports ++ at_place k fs) (is_failing fs))
life_can thread number k done ps reports m l c [] r rooms rs es on ok = on (Lifetimes l) (reports ++ []) ok.1
life_can thread number k done ps reports m l c (f ∷ fs) r rooms rs es on ok = can_stop thread number rooms es (down_at ((done ++ Lifetimes m ∷ []) ++ ps) c (reports ++ at_place k (f ∷ fs)) true) refl

can_whole : (thread number : ℕ) (cmd : CommandId) (done rest : List PartState) (k : ℕ) (d : Down) (qs rs : List PartRoom) → k ≡ suc (length done) → length qs ≡ length done → length rs ≡ length rest → d.states ≡ done ++ rest → d.call.cmd ≡ cmd
    → AreRoomy (enter_parts thread number k rest d.call).states rs → AllCanEnter thread number (qs ++ rs) (entries_from cmd k (kinds_of rest)) d
can_whole thread number cmd done [] k d qs rs hk hq hl hx hc ok = tt
can_whole thread number cmd done (p ∷ ps) k d qs [] hk hq hl hx hc ok = absurd (omega (arith, hl))
can_whole thread number cmd done (Threads m ∷ ps) k d qs (r ∷ rs) hk hq hl hx hc ok = λ goes.
    let e : Step = entered thread number k (Threads m) d.call in (
      can_there thread number k done (Threads m) ps d qs r rs hk hq hx ok.0,
      can_next thread number k done (Threads m) ps d qs r rs hk hq hx (entries_from cmd (k + 1) (kinds_of ps))
          (can_whole thread number cmd (done ++ e.state ∷ []) ps (k + 1) (down_at ((done ++ e.state ∷ []) ++ ps) d.call (d.reports ++ e.reports) false) (qs ++ r ∷ []) rs (next_place k done e.state hk) (long_next thread number k done (Threads m) ps d qs r rs hk hq hx e.state) (omega (arith, hl)) refl hc ok.1),
    )
can_whole thread number cmd done (Lifetimes m ∷ ps) k d qs (r ∷ rs) hk hq hl hx hc ok = λ goes. (
  can_there thread number k done (Lifetimes m) ps d qs r rs hk hq hx tt,
  can_next thread number k done (Lifetimes m) ps d qs r rs hk hq hx (entries_from cmd (k + 1) (kinds_of ps))
      (life_can thread number k done ps d.reports m (life_passed m d.call.cmd (read_call d.call)) d.call (life_failures m d.call.cmd (read_call d.call)) r ((qs ++ r ∷ []) ++ rs) rs (entries_from cmd (k + 1) (kinds_of ps))
      (λ q before h. can_whole thread number cmd (done ++ q ∷ []) ps (k + 1) (down_at ((done ++ q ∷ []) ++ ps) d.call before false) (qs ++ r ∷ []) rs (next_place k done q hk) (long_next thread number k done (Lifetimes m) ps d qs r rs hk hq hx q) (omega (arith, hl)) refl hc h) ok),
)
can_whole thread number cmd done (Unique m ∷ ps) k d qs (r ∷ rs) hk hq hl hx hc ok =
    let es : List Entry = entries_from cmd (k + 1) (kinds_of ps) in
    let here : Entry = record { place = k; kind = kind.Unique } in
    let long : length (qs ++ r ∷ []) ≡ length (done ++ Unique m ∷ []) = long_next thread number k done (Unique m) ps d qs r rs hk hq hx (Unique m) in
    let goal_at : Bool → Type 0 = λ b. AllCanEnter thread number (qs ++ r ∷ rs) (if b then here ∷ es else es) d in
    let at : (b : Bool) → intercepts kind.Unique cmd ≡ b → goal_at b = λ b. elim b as (λ b. intercepts kind.Unique cmd ≡ b → goal_at b) [
      | true ↦ λ hi goes. (
        can_there thread number k done (Unique m) ps d qs r rs hk hq hx tt,
        can_next thread number k done (Unique m) ps d qs r rs hk hq hx es
            (can_whole thread number cmd (done ++ Unique m ∷ []) ps (k + 1) (down_at ((done ++ Unique m ∷ []) ++ ps) (unique_enter m d.call) (d.reports ++ []) false) (qs ++ r ∷ []) rs (next_place k done (Unique m) hk) long (omega (arith, hl)) refl hc ok.1),
      )
      | false ↦ λ hi.
          subst (λ x. AllCanEnter thread number x es d) (append_assoc qs (r ∷ []) rs)
          (can_whole thread number cmd (done ++ Unique m ∷ []) ps (k + 1) d (qs ++ r ∷ []) rs (next_place k done (Unique m) hk) long (omega (arith, hl)) (hx ∙ sym (append_assoc done (Unique m ∷ []) ps)) hc
          (subst (λ c. AreRoomy (enter_parts thread number (k + 1) ps c).states rs) (enters_as_it_is m d.call (ap (intercepts kind.Unique) hc ∙ hi)) ok.1))
    ]
    in at (intercepts kind.Unique cmd) refl

-- over the row of a command
pub row_can_enter : (thread number : ℕ) (cmd : CommandId) (states : List PartState) (rooms : List PartRoom) (es : List Entry) (d : Down) → es ≡ entries_of cmd (kinds_of states) → d.states ≡ states → d.call.cmd ≡ cmd → length rooms ≡ length states
    → AreRoomy (enter_parts thread number 1 states d.call).states rooms → AllCanEnter thread number rooms es d
row_can_enter thread number cmd states rooms es d he hx hc hl ok = subst (λ xs. AllCanEnter thread number rooms xs d) (sym he) (can_whole thread number cmd [] states 1 d [] rooms refl refl hl hx hc ok)
