-- What each stored function answers, and where it may be called: what the contract of the layer's own call says.
-- What those contracts say of histories besides follows from this, by the laws of the machine. Source: this project.
use Rattle.std.specs.Prelude.{◌≡◌, ◌≤◌, ℕ, ◌+◌, ◌++◌, List, Result, IsOk, true, if◌then◌else◌, length, vec_capacity}
use Rattle.std.specs.Result.{ForOk, ForErr}
use Rattle.std.specs.Borrow.{Bor, MutBor}
use Rattle.command_tables.specs.Calls.{call_content}
use Rattle.command_tables.specs.Handles.{HasRoom}
use Rattle.command_tables.specs.declared.call.LayerCall.{LayerCall}
use Rattle.command_tables.specs.declared.memory.NoMemory.{NoMemory}
use Rattle.object_model.specs.Findings.{at_place, is_failing}
use Rattle.layer_model.specs.Parts.{life_failures, life_leave, life_passed, unique_enter, unique_leave, use_enter, use_failures, use_leave}
use Rattle.object_records.specs.Shape.{AreNewOnce, HasParams, arguments_of, made_of}
use Rattle.lifetime_layer.specs.declared.state.LifeState.{LifeState}
use Rattle.lifetime_layer.specs.declared.verdict.Verdict.{Verdict}
use Rattle.lifetime_layer.specs.Reports.{reports_of}
use Rattle.lifetime_layer.specs.Shape.{HasFewPlaces}
use Rattle.thread_layer.specs.declared.state.UseState.{UseState}
use Rattle.thread_layer.specs.Room.{HaveRoom}
use Rattle.unique_layer.specs.declared.state.UniqueState.{UniqueState}

-- a step that takes memory is done, or there was none
abbrev pub Outcome : Type 0
Outcome = Result (Unit {0}) NoMemory

-- ---- a unique part

-- it may be entered with any call
abbrev pub UniqueMayEnter : (Bor UniqueState → MutBor LayerCall → Type 0) → Type 0
UniqueMayEnter pre = (s : Bor UniqueState) (c : MutBor LayerCall) → pre s c

-- the call goes on with the handles below, and no room is lost
abbrev pub UniqueEnters : (Bor UniqueState → MutBor LayerCall → Unit {0} → MutBor LayerCall → Type 0) → Type 0
UniqueEnters post = (s : Bor UniqueState) (c : MutBor LayerCall) (r : Unit {0}) (c' : MutBor LayerCall) →
    post s c r c' → (call_content c'.now ≡ unique_enter s.now.ids (call_content c.now)) × (HasRoom c'.now.args c.now.args.slots c.now.args.room × (vec_capacity c.now.payload ≤ vec_capacity c'.now.payload))

-- it may be left with any results
abbrev pub UniqueMayLeave : (MutBor UniqueState → Bor LayerCall → MutBor (List ℕ) → Type 0) → Type 0
UniqueMayLeave pre = (s : MutBor UniqueState) (c : Bor LayerCall) (hs : MutBor (List ℕ)) → pre s c hs

-- results get their ids; where there is room for so many births, none of them wants memory
abbrev pub UniqueLeaves : (MutBor UniqueState → Bor LayerCall → MutBor (List ℕ) → Outcome → MutBor UniqueState → MutBor (List ℕ) → Type 0) → Type 0
UniqueLeaves post = (s : MutBor UniqueState) (c : Bor LayerCall) (hs : MutBor (List ℕ)) (r : Outcome) (s' : MutBor UniqueState) (hs' : MutBor (List ℕ)) →
    post s c hs r s' hs' → ForOk r (λ _. record { results = hs'.now; ids = s'.now.ids } ≡ unique_leave s.now.ids (call_content c.now) hs.now)
    × ((length hs.now ≤ s.now.spare → IsOk r) × (s.now.spare ≤ s'.now.spare + length hs.now))

-- ---- a lifetimes part

-- it may be entered with a call of its row's shape, with few places
abbrev pub LifeMayEnter : (MutBor LifeState → Bor LayerCall → MutBor Verdict → Type 0) → Type 0
LifeMayEnter pre = (s : MutBor LifeState) (c : Bor LayerCall) (v : MutBor Verdict) → HasParams c.now → HasFewPlaces c.now → pre s c v

-- What fails is found, behind what was found, and the call is skipped where anything is; else what it ends lives no longer.
-- Without memory the part is as before, and there was something to find, for which there was no room.
abbrev pub LifeEnters : (MutBor LifeState → Bor LayerCall → MutBor Verdict → Outcome → MutBor LifeState → MutBor Verdict → Type 0) → Type 0
LifeEnters post = (s : MutBor LifeState) (c : Bor LayerCall) (v : MutBor Verdict) (r : Outcome) (s' : MutBor LifeState) (v' : MutBor Verdict) →
    HasParams c.now → HasFewPlaces c.now → post s c v r s' v' →
    ForOk r (λ _. (reports_of v'.now.findings.items ≡ reports_of v.now.findings.items ++ at_place s.now.place (life_failures s.now.kept c.now.cmd (arguments_of c.now)))
    × ((v'.now.skip ≡ is_failing (life_failures s.now.kept c.now.cmd (arguments_of c.now)))
    × (s'.now.kept ≡ (if v'.now.skip then s.now.kept else life_passed s.now.kept c.now.cmd (arguments_of c.now)))))
    × (ForErr r (λ _. (s'.now ≡ s.now) × (is_failing (life_failures s.now.kept c.now.cmd (arguments_of c.now)) ≡ true))
    × ((s'.now.place ≡ s.now.place)
    × ((s'.now.spare ≡ s.now.spare)
    × ((vec_capacity v.now.findings ≤ vec_capacity v'.now.findings)
    × (length v.now.findings.items + length (life_failures s.now.kept c.now.cmd (arguments_of c.now)) ≤ vec_capacity v.now.findings → IsOk r)))))

-- it may be left with results of which no two new ones are the same
abbrev pub LifeMayLeave : (MutBor LifeState → Bor LayerCall → Bor (List ℕ) → Type 0) → Type 0
LifeMayLeave pre = (s : MutBor LifeState) (c : Bor LayerCall) (hs : Bor (List ℕ)) →
    HasParams c.now → AreNewOnce s.now.kept.births (made_of c.now hs.now) → pre s c hs

-- what is new is born; where there is room for so many births, with no further memory
abbrev pub LifeLeaves : (MutBor LifeState → Bor LayerCall → Bor (List ℕ) → Outcome → MutBor LifeState → Type 0) → Type 0
LifeLeaves post = (s : MutBor LifeState) (c : Bor LayerCall) (hs : Bor (List ℕ)) (r : Outcome) (s' : MutBor LifeState) →
    HasParams c.now → AreNewOnce s.now.kept.births (made_of c.now hs.now) → post s c hs r s' →
    ForOk r (λ _. s'.now.kept ≡ life_leave s.now.kept c.now.cmd (arguments_of c.now) (made_of c.now hs.now))
    × ((s'.now.place ≡ s.now.place) × ((length hs.now ≤ s.now.spare → IsOk r) × (s.now.spare ≤ s'.now.spare + length hs.now)))

-- ---- a threads part

-- it may be entered with a call of its row's shape, with few places
abbrev pub UseMayEnter : (MutBor UseState → ℕ → ℕ → Bor LayerCall → MutBor Verdict → Type 0) → Type 0
UseMayEnter pre = (s : MutBor UseState) (thread number : ℕ) (c : Bor LayerCall) (v : MutBor Verdict) → HasParams c.now → HasFewPlaces c.now → pre s thread number c v

-- What overlaps is found, behind what was found, and the call is open; the skip mark stays; without memory the part is as before. Where
-- there is room for what the call uses and for what is found, it wants none.
abbrev pub UseEnters : (MutBor UseState → ℕ → ℕ → Bor LayerCall → MutBor Verdict → Outcome → MutBor UseState → MutBor Verdict → Type 0) → Type 0
UseEnters post = (s : MutBor UseState) (thread number : ℕ) (c : Bor LayerCall) (v : MutBor Verdict) (r : Outcome) (s' : MutBor UseState) (v' : MutBor Verdict) →
    HasParams c.now → HasFewPlaces c.now → post s thread number c v r s' v' →
    ForOk r (λ _. (reports_of v'.now.findings.items ≡ reports_of v.now.findings.items ++ at_place s.now.place (use_failures s.now.kept thread c.now.cmd (arguments_of c.now)))
    × (s'.now.kept ≡ use_enter s.now.kept thread number c.now.cmd (arguments_of c.now)))
    × (ForErr r (λ _. (s'.now.kept ≡ s.now.kept) × (s'.now.spare ≡ s.now.spare))
    × ((v'.now.skip ≡ v.now.skip)
    × ((s'.now.place ≡ s.now.place)
    × (((s'.now.spare ≡ s.now.spare) × (s.now.room ≤ s'.now.room))
    × ((vec_capacity v.now.findings ≤ vec_capacity v'.now.findings)
    × (HaveRoom (use_enter s.now.kept thread number c.now.cmd (arguments_of c.now)).opens s.now.room → length v.now.findings.items + length (use_failures s.now.kept thread c.now.cmd (arguments_of c.now)) ≤ vec_capacity v.now.findings → IsOk r))))))

-- it may be left with results of which no two new ones are the same
abbrev pub UseMayLeave : (MutBor UseState → ℕ → Bor LayerCall → Bor (List ℕ) → Type 0) → Type 0
UseMayLeave pre = (s : MutBor UseState) (thread : ℕ) (c : Bor LayerCall) (hs : Bor (List ℕ)) →
    HasParams c.now → AreNewOnce s.now.kept.births (made_of c.now hs.now) → pre s thread c hs

-- the call is open no longer, and what is new is born; where there is room for so many births, with no further memory
abbrev pub UseLeaves : (MutBor UseState → ℕ → Bor LayerCall → Bor (List ℕ) → Outcome → MutBor UseState → Type 0) → Type 0
UseLeaves post = (s : MutBor UseState) (thread : ℕ) (c : Bor LayerCall) (hs : Bor (List ℕ)) (r : Outcome) (s' : MutBor UseState) →
    HasParams c.now → AreNewOnce s.now.kept.births (made_of c.now hs.now) → post s thread c hs r s' →
    ForOk r (λ _. s'.now.kept ≡ use_leave s.now.kept thread c.now.cmd (arguments_of c.now) (made_of c.now hs.now))
    × ((s'.now.place ≡ s.now.place) × (((length hs.now ≤ s.now.spare → IsOk r) × (s.now.spare ≤ s'.now.spare + length hs.now)) × (s'.now.room ≡ s.now.room)))
