-- A walk up over a stored row is the walk up through all parts.
use Rattle.std.proofs.Common.{◌≡◌, ℕ, zero, suc, ◌+◌, ◌-◌, ◌<◌, ◌≤◌, Bool, true, false, if◌then◌else◌, List, [], ◌∷◌, ◌++◌, ◌⊎◌, inl, inr, length, map, get_or, drop, slice_get, slice_set, Some, ap, sym, ◌∙◌, refl, subst, append_assoc, arith}
use Rattle.std.proofs.lemmas.List.{drop_more, drop_all, length-map}
use Rattle.std.proofs.Math.ListN.{get_or-map}
use Rattle.command_tables.specs.declared.types.CommandId.{CommandId}
use Rattle.command_tables.specs.declared.call.LayerCall.{LayerCall}
use Rattle.command_tables.specs.Calls.{CallContent, call_content}
use Rattle.object_model.specs.declared.PartKind.{PartKind}
use Rattle.layer_model.specs.Walks.{PartState, Left, intercepts, kind_of, leave_parts}
use Rattle.layer_model.specs.Walks.{Threads, Lifetimes, Unique}
use Rattle.layer_model.proofs.LeftOut.{leaves_as_they_are}
use Rattle.dispatch_chain.specs.declared.entry.Entry.{Entry}
use Rattle.dispatch_chain.specs.Entries.{AllWithin, CanLeave, MayLeaveAt, leave_entries, step_up, stepped_up}
use Rattle.dispatch_chain.specs.Holding.{AllOf, HeldCalls, IsHeldOf}
use Rattle.dispatch_chain.specs.Rows.{entries_from, entries_of, picked}
use Rattle.dispatch_chain.specs.Seats.{kinds_of, state_of}
use Rattle.dispatch_chain.specs.declared.part.Part.{Part}
use Rattle.dispatch_chain.specs.Steps.{left, left_results}
use Rattle.dispatch_chain.proofs.Stepping.{left_state}
use Rattle.dispatch_chain.proofs.Whole.{get_behind, index_there, next_place, set_behind}

pub none_left : (thread : ℕ) (es : List Entry) (w : Left) → leave_entries thread es [] w ≡ w
none_left thread [] w = refl
none_left thread (e ∷ es) w = refl

-- where the entries or the forms have ended
pub ended : (thread : ℕ) (es : List Entry) (cs : List CallContent) (w : Left) (i : ℕ) → (length es ≤ i) ⊎ (length cs ≤ i) → leave_entries thread (drop i es) (drop i cs) w ≡ w
ended thread es cs w i a = elim a [
  | inl h ↦ ap (λ x. leave_entries thread x (drop i cs) w) (drop_all i es h)
  | inr h ↦ ap (λ x. leave_entries thread (drop i es) x w) (drop_all i cs h) ∙ none_left thread (drop i es) w
]

pub drop_less : {X : Type 0} (xs : List X) (i : ℕ) (d : X) → 0 < i → i ≤ length xs → drop (i - 1) xs ≡ get_or xs (i - 1) d ∷ drop i xs
drop_less xs i d h k = let e : i - 1 + 1 ≡ i = omega arith in drop_more xs (i - 1) d (omega arith) ∙ ap (λ j. get_or xs (i - 1) d ∷ drop j xs) e

pub form_less : (xs : List LayerCall) (i : ℕ) (x : LayerCall) → 0 < i → i ≤ length xs → x ≡ get_or xs (i - 1) x → drop (i - 1) (map call_content xs) ≡ call_content x ∷ drop i (map call_content xs)
form_less xs i x h k e = drop_less (map call_content xs) i (call_content x) h (simp length-map k) ∙ ap (λ c. c ∷ drop i (map call_content xs)) (get_or-map call_content xs (i - 1) x ∙ ap call_content (sym e))

pub one_up : (thread : ℕ) (es : List Entry) (cs : List CallContent) (w w' : Left) (i : ℕ) (e : Entry) (c : CallContent) → drop (i - 1) es ≡ e ∷ drop i es → drop (i - 1) cs ≡ c ∷ drop i cs → leave_entries thread (drop i es) (drop i cs) w ≡ w' → leave_entries thread (drop (i - 1) es) (drop (i - 1) cs) w ≡ step_up thread e c w'
one_up thread es cs w w' i e c h1 h2 h3 = ap (λ x. leave_entries thread x (drop (i - 1) cs) w) h1 ∙ ap (λ x. leave_entries thread (e ∷ drop i es) x w) h2 ∙ ap (step_up thread e c) h3

-- each entry of a list within n is
pub within_at : (n : ℕ) (es : List Entry) (j : ℕ) (d : Entry) → AllWithin n es → j < length es → (0 < (get_or es j d).place) × ((get_or es j d).place - 1 < n)
within_at n [] j d h k = absurd (omega arith)
within_at n (e ∷ es) zero d h k = (h.0, h.1.0)
within_at n (e ∷ es) (suc j) d h k = within_at n es j d h.1.1 (omega arith)

pub can_drop : (thread : ℕ) (es : List Entry) (cs : List CallContent) (w : Left) (i : ℕ) → CanLeave thread es cs w → CanLeave thread (drop i es) (drop i cs) w
can_drop thread es cs w zero h = h
can_drop thread [] cs w (suc i) h = tt
can_drop thread (e ∷ es) [] w (suc i) h = elim (drop i es) as (λ xs. CanLeave thread xs [] w) [ [] ↦ tt | x ∷ xs ↦ tt ]
can_drop thread (e ∷ es) (c ∷ cs) w (suc i) h = can_drop thread es cs w i h.1

-- the part of an entry may take results in
pub can_one : (thread : ℕ) (es : List Entry) (cs : List CallContent) (w w' : Left) (i : ℕ) (e : Entry) (c : CallContent) → CanLeave thread es cs w → drop (i - 1) es ≡ e ∷ drop i es → drop (i - 1) cs ≡ c ∷ drop i cs → leave_entries thread (drop i es) (drop i cs) w ≡ w'
    → MayLeaveAt c w'.results (slice_get w'.states (e.place - 1))
can_one thread es cs w w' i e c h h1 h2 h3 =
    let k : CanLeave thread (drop (i - 1) es) (drop (i - 1) cs) w = can_drop thread es cs w (i - 1) h in
    let k1 : CanLeave thread (e ∷ drop i es) (drop (i - 1) cs) w = subst (λ x. CanLeave thread x (drop (i - 1) cs) w) h1 k in
    let k2 : CanLeave thread (e ∷ drop i es) (c ∷ drop i cs) w = subst (λ x. CanLeave thread (e ∷ drop i es) x w) h2 k1 in
    subst (λ (x : Left). MayLeaveAt c x.results (slice_get x.states (e.place - 1))) h3 k2.0

-- a part that doesn't intercept a command stays
left_alone : (thread : ℕ) (s : PartState) (c : CallContent) (rs : List ℕ) → intercepts (kind_of s) c.cmd ≡ false → left thread s c rs ≡ s
left_alone thread (Threads m) c rs h = cc
left_alone thread (Lifetimes m) c rs h = cc
left_alone thread (Unique m) c rs h = ap (λ x. Unique x.ids) (leaves_as_they_are m c rs h)

results_alone : (s : PartState) (c : CallContent) (rs : List ℕ) → intercepts (kind_of s) c.cmd ≡ false → left_results s c rs ≡ rs
results_alone (Threads m) c rs h = refl
results_alone (Lifetimes m) c rs h = refl
results_alone (Unique m) c rs h = ap (λ x. x.results) (leaves_as_they_are m c rs h)

-- the machine's step up
machine_step : (thread : ℕ) (s : PartState) (ss : List PartState) (c : CallContent) (cs : List CallContent) (rs : List ℕ)
    → leave_parts thread (s ∷ ss) (c ∷ cs) rs ≡ left_state (left thread s c (leave_parts thread ss cs rs).results ∷ (leave_parts thread ss cs rs).states) (left_results s c (leave_parts thread ss cs rs).results)
machine_step thread (Threads m) ss c cs rs = refl
machine_step thread (Lifetimes m) ss c cs rs = refl
machine_step thread (Unique m) ss c cs rs = refl

abbrev pub behind : List PartState → Left → Left
behind done w = left_state (done ++ w.states) w.results

pub whole_up : (thread : ℕ) (cmd : CommandId) (done rest : List PartState) (k : ℕ) (cs : List CallContent) (rs : List ℕ) → k ≡ suc (length done) → AllOf cmd cs
    → leave_entries thread (entries_from cmd k (kinds_of rest)) (picked cmd (kinds_of rest) cs) (left_state (done ++ rest) rs) ≡ behind done (leave_parts thread rest cs rs)
whole_up thread cmd done [] k cs rs hk ha = refl
whole_up thread cmd done (p ∷ ps) k [] rs hk ha = none_left thread (entries_from cmd k (kinds_of (p ∷ ps))) (left_state (done ++ p ∷ ps) rs)
whole_up thread cmd done (p ∷ ps) k (c ∷ cs) rs hk ha =
    let ks : List PartKind = kinds_of ps in
    let es : List Entry = entries_from cmd (k + 1) ks in
    let fs : List CallContent = picked cmd ks cs in
    let here : Entry = record { place = k; kind = kind_of p } in
    let start : Left = left_state (done ++ p ∷ ps) rs in
    let W : Left = leave_parts thread ps cs rs in
    let V : Left = left_state (done ++ p ∷ W.states) W.results in
    let goal_at : Bool → Type 0 = λ b. leave_entries thread (if b then here ∷ es else es) (if b then c ∷ fs else fs) start ≡ left_state (done ++ left thread p c W.results ∷ W.states) (left_results p c W.results) in
    let below : leave_entries thread es fs start ≡ V =
    ap (λ xs. leave_entries thread es fs (left_state xs rs)) (sym (append_assoc done (p ∷ []) ps))
    ∙ whole_up thread cmd (done ++ p ∷ []) ps (k + 1) cs rs (next_place k done p hk) ha.1
    ∙ ap (λ xs. left_state xs W.results) (append_assoc done (p ∷ []) W.states) in
    let there : slice_get V.states (k - 1) ≡ Some p = ap (slice_get (done ++ p ∷ W.states)) (index_there k done hk) ∙ get_behind done p W.states in
    let set_is : slice_set V.states (k - 1) (left thread p c W.results) ≡ done ++ left thread p c W.results ∷ W.states =
    ap (λ i. slice_set (done ++ p ∷ W.states) i (left thread p c W.results)) (index_there k done hk) ∙ set_behind done p (left thread p c W.results) W.states ∙ append_assoc done (left thread p c W.results ∷ []) W.states in
    let at : (b : Bool) → intercepts (kind_of p) cmd ≡ b → goal_at b = λ b. elim b as (λ b. intercepts (kind_of p) cmd ≡ b → goal_at b) [
      | true ↦ λ hi. ap (step_up thread here c) below ∙ ap (stepped_up thread k c V) there ∙ ap (λ xs. left_state xs (left_results p c W.results)) set_is
      | false ↦ λ hi. below
          ∙ ap (λ q. left_state (done ++ q ∷ W.states) W.results) (sym (left_alone thread p c W.results (ap (intercepts (kind_of p)) ha.0 ∙ hi)))
          ∙ ap (left_state (done ++ left thread p c W.results ∷ W.states)) (sym (results_alone p c W.results (ap (intercepts (kind_of p)) ha.0 ∙ hi)))
    ]
    in at (intercepts (kind_of p) cmd) refl ∙ ap (behind done) (sym (machine_step thread p ps c cs rs))

-- the walk up over the row of what is held is that through all parts, whichever forms it was held of
pub row_up : (thread : ℕ) (held : HeldCalls) (states : List PartState) (es : List Entry) (forms : List CallContent) (rs : List ℕ) → es ≡ entries_of held.cmd (kinds_of states) → IsHeldOf held (kinds_of states) forms
    → leave_entries thread es held.forms (left_state states rs) ≡ leave_parts thread states forms rs
row_up thread held states es forms rs he h =
    ap (λ x. leave_entries thread x held.forms (left_state states rs)) he
    ∙ ap (λ x. leave_entries thread (entries_of held.cmd (kinds_of states)) x (left_state states rs)) h.picked
    ∙ whole_up thread held.cmd [] states 1 forms rs refl h.one

-- the same by the program's values
pub left_up : (thread : ℕ) (held : HeldCalls) (states : List PartState) (ps slice : List Part) (es : List Entry) (cs : List LayerCall) (forms : List CallContent) (rs : List ℕ) → map state_of ps ≡ states → es ≡ entries_of held.cmd (kinds_of states) → slice ≡ ps → map call_content cs ≡ held.forms → IsHeldOf held (kinds_of states) forms
    → leave_entries thread es (map call_content cs) (left_state (map state_of slice) rs) ≡ leave_parts thread states forms rs
left_up thread held states ps slice es cs forms rs hv he hs hc h =
    ap (λ x. leave_entries thread es x (left_state (map state_of slice) rs)) hc
    ∙ ap (λ x. leave_entries thread es held.forms (left_state x rs)) (ap (map state_of) hs ∙ hv)
    ∙ row_up thread held states es forms rs he h

pub can_up : (thread : ℕ) (held : HeldCalls) (states : List PartState) (ps slice : List Part) (es : List Entry) (cs : List LayerCall) (rs : List ℕ) → map state_of ps ≡ states → es ≡ entries_of held.cmd (kinds_of states) → slice ≡ ps → map call_content cs ≡ held.forms
    → CanLeave thread (entries_of held.cmd (kinds_of states)) held.forms (left_state states rs) → CanLeave thread es (map call_content cs) (left_state (map state_of slice) rs)
can_up thread held states ps slice es cs rs hv he hs hc h =
    let a : CanLeave thread es held.forms (left_state states rs) = subst (λ x. CanLeave thread x held.forms (left_state states rs)) (sym he) h in
    let b : CanLeave thread es (map call_content cs) (left_state states rs) = subst (λ x. CanLeave thread es x (left_state states rs)) (sym hc) a in
    subst (λ x. CanLeave thread es (map call_content cs) (left_state x rs)) (sym (ap (map state_of) hs ∙ hv)) b
