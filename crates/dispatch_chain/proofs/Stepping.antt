-- One step of a walk.
use Rattle.std.proofs.Common.{◌≡◌, ℕ, zero, suc, ◌<◌, ◌-◌, ◌++◌, Bool, true, List, [], ◌∷◌, Result, Ok, Err, OnOk, Some, length, map, get_or, slice_get, slice_set, ap, sym, refl, ◌∙◌, if◌then◌else◌}
use Rattle.std.proofs.lemmas.Option.{slice_get-get_or}
use Rattle.command_tables.specs.Calls.{CallContent, call_content}
use Rattle.command_tables.specs.declared.call.LayerCall.{LayerCall}
use Rattle.object_model.specs.Findings.{Report}
use Rattle.lifetime_layer.specs.declared.verdict.Verdict.{Verdict}
use Rattle.lifetime_layer.specs.Reports.{reports_of}
use Rattle.layer_model.specs.Walks.{PartState, Left}
use Rattle.layer_model.specs.Walks.{Threads, Lifetimes, Unique}
use Rattle.dispatch_chain.specs.declared.entry.Entry.{Entry}
use Rattle.dispatch_chain.specs.declared.part.Part.{Part}
use Rattle.dispatch_chain.specs.Entries.{Down, down_of, enter_entries, step_down, step_up, stepped, stepped_up, with_form}
use Rattle.dispatch_chain.specs.Seats.{state_of}
use Rattle.dispatch_chain.specs.Steps.{entered, left, left_results}
use Rattle.dispatch_chain.proofs.Rows.{get_mapped}

pub on_ok : {T E P Q : Type 0} (r : Result T E) → (P → Q) → OnOk r P → OnOk r Q
on_ok (Ok x) f h = f h
on_ok (Err e) f h = h

pub on_both : {T E P Q R : Type 0} (r : Result T E) → (P → Q → R) → OnOk r P → OnOk r Q → OnOk r R
on_both (Ok x) f h k = f h k
on_both (Err e) f h k = h

pub on_four : {T E A B C D R : Type 0} (r : Result T E) → (A → B → C → D → R) → OnOk r A → OnOk r B → OnOk r C → OnOk r D → OnOk r R
on_four (Ok x) f a b c d = f a b c d
on_four (Err e) f a b c d = a

abbrev pub down_at : List PartState → CallContent → List Report → Bool → Down
down_at states c reports skip = record { states = states; call = c; reports = reports; skip = skip }

pub map_set : {X Y : Type 0} (f : X → Y) (xs : List X) (i : ℕ) (x : X) → map f (slice_set xs i x) ≡ slice_set (map f xs) i (f x)
map_set f [] i x = refl
map_set f (y ∷ xs) zero x = refl
map_set f (y ∷ xs) (suc i) x = ap (λ ys. f y ∷ ys) (map_set f xs i x)

-- the part at a place, as the machine's
pub state_there : (ps : List Part) (i : ℕ) (d : Part) → i < length ps → slice_get (map state_of ps) i ≡ Some (state_of (get_or ps i d))
state_there ps i d h = get_mapped state_of ps i (get_or ps i d) (slice_get-get_or ps i d h)

-- a part that takes a call in is a step down
pub entered_at : (thread number : ℕ) (e : Entry) (ps : List Part) (d q : Part) (c c' : LayerCall) (v v' : Verdict) → e.place - 1 < length ps →
    state_of q ≡ (entered thread number e.place (state_of (get_or ps (e.place - 1) d)) (call_content c)).state → call_content c' ≡ (entered thread number e.place (state_of (get_or ps (e.place - 1) d)) (call_content c)).call →
    reports_of v'.findings.items ≡ reports_of v.findings.items ++ (entered thread number e.place (state_of (get_or ps (e.place - 1) d)) (call_content c)).reports → v'.skip ≡ (entered thread number e.place (state_of (get_or ps (e.place - 1) d)) (call_content c)).skip →
    down_of (map state_of (slice_set ps (e.place - 1) q)) c' v' ≡ step_down thread number e (down_of (map state_of ps) c v)
entered_at thread number e ps d q c c' v v' h hs hc hr hk =
    ap (λ xs. down_at xs (call_content c') (reports_of v'.findings.items) v'.skip) (map_set state_of ps (e.place - 1) q)
    ∙ ap (λ s. down_at (slice_set (map state_of ps) (e.place - 1) s) (call_content c') (reports_of v'.findings.items) v'.skip) hs
    ∙ ap (λ x. down_at (slice_set (map state_of ps) (e.place - 1) (entered thread number e.place (state_of (get_or ps (e.place - 1) d)) (call_content c)).state) x (reports_of v'.findings.items) v'.skip) hc
    ∙ ap (λ x. down_at (slice_set (map state_of ps) (e.place - 1) (entered thread number e.place (state_of (get_or ps (e.place - 1) d)) (call_content c)).state) (entered thread number e.place (state_of (get_or ps (e.place - 1) d)) (call_content c)).call x v'.skip) hr
    ∙ ap (λ x. down_at (slice_set (map state_of ps) (e.place - 1) (entered thread number e.place (state_of (get_or ps (e.place - 1) d)) (call_content c)).state) (entered thread number e.place (state_of (get_or ps (e.place - 1) d)) (call_content c)).call (reports_of v.findings.items ++ (entered thread number e.place (state_of (get_or ps (e.place - 1) d)) (call_content c)).reports) x) hk
    ∙ sym (ap (stepped thread number e.place (down_of (map state_of ps) c v)) (state_there ps (e.place - 1) d h))

-- the command stays
pub entered_cmd : (thread number k : ℕ) (s : PartState) (c : CallContent) → (entered thread number k s c).call.cmd ≡ c.cmd
entered_cmd thread number k (Threads m) c = refl
entered_cmd thread number k (Lifetimes m) c = refl
entered_cmd thread number k (Unique m) c = refl

-- what is stopped goes no further
pub stopped_there : (thread number : ℕ) (es : List Entry) (d : Down) → d.skip ≡ true → enter_entries thread number es d ≡ record { down = d; forms = [] }
stopped_there thread number [] d h = refl
stopped_there thread number (e ∷ es) d h = ap (λ b. if b then record { down = d; forms = [] } else with_form d.call (enter_entries thread number es (step_down thread number e d))) h

abbrev pub left_state : List PartState → List ℕ → Left
left_state states results = record { states = states; results = results }

-- a part that takes results in is a step up
pub left_at : (thread : ℕ) (e : Entry) (ps : List Part) (d q : Part) (c : CallContent) (hs hs' : List ℕ) → e.place - 1 < length ps →
    state_of q ≡ left thread (state_of (get_or ps (e.place - 1) d)) c hs → hs' ≡ left_results (state_of (get_or ps (e.place - 1) d)) c hs →
    left_state (map state_of (slice_set ps (e.place - 1) q)) hs' ≡ step_up thread e c (left_state (map state_of ps) hs)
left_at thread e ps d q c hs hs' h hq hr =
    ap (λ xs. left_state xs hs') (map_set state_of ps (e.place - 1) q)
    ∙ ap (λ s. left_state (slice_set (map state_of ps) (e.place - 1) s) hs') hq
    ∙ ap (left_state (slice_set (map state_of ps) (e.place - 1) (left thread (state_of (get_or ps (e.place - 1) d)) c hs))) hr
    ∙ sym (ap (stepped_up thread e.place c (left_state (map state_of ps) hs)) (state_there ps (e.place - 1) d h))
