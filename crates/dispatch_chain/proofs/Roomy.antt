-- Room on a walk down.
use Rattle.std.proofs.Common.{◌≡◌, ◌<◌, ◌≤◌, ℕ, zero, suc, ◌+◌, ◌-◌, Bool, false, if◌then◌else◌, Option, Some, None, List, [], ◌∷◌, ◌++◌, length, map, drop, get_or, slice_get, sym, ap, subst, refl, ◌∙◌, arith, length-append}
use Rattle.std.proofs.lemmas.List.{length-map}
use Rattle.std.proofs.lemmas.Option.{slice_get-get_or}
use Rattle.command_tables.specs.Calls.{CallContent, call_content}
use Rattle.command_tables.specs.declared.call.LayerCall.{LayerCall}
use Rattle.command_tables.specs.declared.types.CommandId.{CommandId}
use Rattle.lifetime_layer.specs.declared.verdict.Verdict.{Verdict}
use Rattle.lifetime_layer.specs.Reports.{reports_of}
use Rattle.lifetime_layer.proofs.Reports.{counted}
use Rattle.layer_model.specs.Walks.{PartState, enter_parts}
use Rattle.layer_model.specs.Walks.{Threads, Lifetimes, Unique}
use Rattle.object_model.specs.declared.PartKind.{PartKind}
use Rattle.dispatch_chain.specs.declared.entry.Entry.{Entry}
use Rattle.dispatch_chain.specs.declared.part.Part.{Part}
use Rattle.dispatch_chain.specs.Entries.{AllWithin, Down, Entered, down_of, enter_entries, step_down, stepped, with_form, with_front}
use Rattle.dispatch_chain.specs.Forms.{CanHold, FitsForm, FormRoom, IsAsLarge, KeepsForms}
use Rattle.dispatch_chain.specs.Holding.{HeldCalls}
use Rattle.dispatch_chain.specs.Room.{AllCanEnter, AreRoomy, CanEnter, CanEnterAt, KeepRooms, PartRoom, room_of}
use Rattle.dispatch_chain.specs.Rows.{entries_of}
use Rattle.dispatch_chain.specs.Seats.{kinds_of, state_of}
use Rattle.dispatch_chain.specs.Steps.{entered}
use Rattle.dispatch_chain.proofs.Entering.{reports_grow, row_can_enter}
use Rattle.dispatch_chain.proofs.Reserved.{low}
use Rattle.dispatch_chain.proofs.Stepping.{state_there}
use Rattle.dispatch_chain.proofs.Whole.{row_whole}

-- ---- at one part

-- what is asked of the place of a part is asked of the part
pub can_here : (thread number : ℕ) (ps : List Part) (i : ℕ) (d : Part) (c : CallContent) → i < length ps → CanEnterAt thread number (slice_get (map state_of ps) i) (slice_get (map room_of ps) i) c
    → CanEnter thread number (state_of (get_or ps i d)) (room_of (get_or ps i d)) c
can_here thread number [] i d c less h = absurd (omega (arith, less))
can_here thread number (p ∷ ps) zero d c less h = h
can_here thread number (p ∷ ps) (suc i) d c less h = can_here thread number ps i d c (omega (arith, less)) h

-- what is found there fits, where all that is found up to there does
pub fits_here : (thread number : ℕ) (e : Entry) (ps : List Part) (d : Part) (c : LayerCall) (v : Verdict) (room : ℕ) → e.place - 1 < length ps → length (step_down thread number e (down_of (map state_of ps) c v)).reports ≤ room
    → length v.findings.items + length (entered thread number e.place (state_of (get_or ps (e.place - 1) d)) (call_content c)).reports ≤ room
fits_here thread number e ps d c v room less low =
    let found = (entered thread number e.place (state_of (get_or ps (e.place - 1) d)) (call_content c)).reports in
    let same : length (step_down thread number e (down_of (map state_of ps) c v)).reports ≡ length (reports_of v.findings.items ++ found) = ap (λ (o : Option PartState). length (stepped thread number e.place (down_of (map state_of ps) c v) o).reports) (state_there ps (e.place - 1) d less) in
    let long = length-append (reports_of v.findings.items) found in
    let before = counted [] v.findings.items (reports_of v.findings.items) refl in omega (arith, same, long, before, low)

can_more : (thread number : ℕ) (s : PartState) (q r : PartRoom) (c : CallContent) → q.uses ≤ r.uses → CanEnter thread number s q c → CanEnter thread number s r c
can_more thread number (Threads m) q r c more h = record { calls = omega (arith, h.calls, more); uses = omega (arith, h.uses, more) }
can_more thread number (Lifetimes m) q r c more h = tt
can_more thread number (Unique m) q r c more h = tt

-- room that was there is there still
pub can_still : (thread number : ℕ) (o : Option PartState) (old new : List PartRoom) (i : ℕ) (c : CallContent) → KeepRooms old new → CanEnterAt thread number o (slice_get old i) c → CanEnterAt thread number o (slice_get new i) c
can_still thread number None old new i c keeps h = tt
can_still thread number (Some s) old new i c keeps h = go (slice_get new i) refl
  where
    go : (o : Option PartRoom) → slice_get new i ≡ o → CanEnterAt thread number (Some s) o c
    go None e = tt
    go (Some r) e =
        let less : i < length old = omega (arith, low new i r e, keeps.count) in
        let here : slice_get old i ≡ Some (get_or old i r) = slice_get-get_or old i r less in
        let could : CanEnter thread number s (get_or old i r) c = subst (λ (x : Option PartRoom). CanEnterAt thread number (Some s) x c) here h in
        let kept = keeps.each i (get_or old i r) r here e in can_more thread number s (get_or old i r) r c kept.uses could

-- ---- on the way

-- at the part of the first entry, and below it
pub can_now : (thread number : ℕ) (rooms new : List PartRoom) (es rest : List Entry) (e : Entry) (d : Down) → es ≡ e ∷ rest → d.skip ≡ false → KeepRooms rooms new → AllCanEnter thread number rooms es d
    → CanEnterAt thread number (slice_get d.states (e.place - 1)) (slice_get new (e.place - 1)) d.call
can_now thread number rooms new es rest e d he hs keeps h =
    let all : AllCanEnter thread number rooms (e ∷ rest) d = subst (λ (xs : List Entry). AllCanEnter thread number rooms xs d) he h in
    can_still thread number (slice_get d.states (e.place - 1)) rooms new (e.place - 1) d.call keeps (all hs).0

pub can_then : (thread number : ℕ) (rooms : List PartRoom) (es rest : List Entry) (e : Entry) (d d' : Down) → es ≡ e ∷ rest → d.skip ≡ false → d' ≡ step_down thread number e d → AllCanEnter thread number rooms es d → AllCanEnter thread number rooms rest d'
can_then thread number rooms es rest e d d' he hs hd h =
    let all : AllCanEnter thread number rooms (e ∷ rest) d = subst (λ (xs : List Entry). AllCanEnter thread number rooms xs d) he h in
    subst (λ (x : Down). AllCanEnter thread number rooms rest x) (sym hd) (all hs).1

-- what is found at one part is among all that is found
pub step_found : (thread number : ℕ) (es rest : List Entry) (e : Entry) (d : Down) (fs gs : List CallContent) (w : Entered) → es ≡ e ∷ rest → d.skip ≡ false → with_front fs (enter_entries thread number es d) ≡ with_front gs w
    → length (step_down thread number e d).reports ≤ length w.down.reports
step_found thread number es rest e d fs gs w he hs told =
    let below : Entered = enter_entries thread number rest (step_down thread number e d) in
    let same : length (enter_entries thread number es d).down.reports ≡ length w.down.reports = ap (λ (x : Entered). length x.down.reports) told in
    let opened : length (enter_entries thread number es d).down.reports ≡ length below.down.reports =
    ap (λ (xs : List Entry). length (enter_entries thread number xs d).down.reports) he
    ∙ ap (λ (b : Bool). length (if b then record { down = d; forms = [] } else with_form d.call below).down.reports) hs in
    let grow = reports_grow thread number rest (step_down thread number e d) in omega (arith, same, opened, grow)

-- and fits where all that does
pub step_fits : (thread number : ℕ) (es rest : List Entry) (e : Entry) (d : Down) (fs gs : List CallContent) (w : Entered) (room more : ℕ) → es ≡ e ∷ rest → d.skip ≡ false → with_front fs (enter_entries thread number es d) ≡ with_front gs w
    → length w.down.reports ≤ room → room ≤ more → length (step_down thread number e d).reports ≤ more
step_fits thread number es rest e d fs gs w room more he hs told fits grown = let found = step_found thread number es rest e d fs gs w he hs told in omega (arith, found, fits, grown)

within_drop : (n : ℕ) (es : List Entry) (i : ℕ) → AllWithin n (drop i es) → AllWithin n (drop (suc i) es)
within_drop n [] zero h = tt
within_drop n [] (suc i) h = tt
within_drop n (e ∷ es) zero h = h.1.1
within_drop n (e ∷ es) (suc i) h = within_drop n es i h

-- the entries behind the next are within as many parts
pub within_next : (n m : ℕ) (es : List Entry) (i : ℕ) → m ≡ n → AllWithin n (drop i es) → AllWithin m (drop (i + 1) es)
within_next n m es i same h =
    let next : suc i ≡ i + 1 = omega arith in
    subst (λ (x : ℕ). AllWithin x (drop (i + 1) es)) (sym same) (subst (λ (j : ℕ). AllWithin n (drop j es)) next (within_drop n es i h))

-- one form more is held
pub one_held : (fs gs : List CallContent) (c : CallContent) (n i : ℕ) → gs ≡ fs ++ c ∷ [] → length fs ≡ n + i → length gs ≡ n + (i + 1)
one_held fs gs c n i is long = let grown : length gs ≡ length (fs ++ c ∷ []) = ap (λ (xs : List CallContent). length xs) is in omega (arith, grown, length-append fs (c ∷ []), long)

-- a call that is as large fits where so many of the first size can be held
pub holds_there : (old new : List FormRoom) (n m : ℕ) (c d : CallContent) → CanHold old n c → KeepsForms old new → IsAsLarge d c → m < n → (r : FormRoom) → slice_get new m ≡ Some r → FitsForm r d
holds_there old new n m c d can keeps large less r here =
    let within : m < length old = omega (arith, less, can.count) in
    let there : slice_get old m ≡ Some (get_or old m r) = slice_get-get_or old m r within in
    let fits = can.each m (get_or old m r) less there in
    let kept = keeps.each m (get_or old m r) r there here in
    record { slots = omega (arith, fits.slots, kept.slots, large.slots); handles = omega (arith, fits.handles, kept.handles, large.handles); bytes = omega (arith, fits.bytes, kept.bytes, large.bytes) }

pub large_self : (c : CallContent) → IsAsLarge c c
large_self c = record { slots = refl; handles = refl; bytes = refl }

pub large_on : (b c d : CallContent) → IsAsLarge c b → IsAsLarge d c → IsAsLarge d b
large_on b c d p q = record { slots = q.slots ∙ p.slots; handles = q.handles ∙ p.handles; bytes = q.bytes ∙ p.bytes }

-- ---- over a row

-- where there is room for what a walk leaves open, there is for each part of the row
pub roomy_row : (thread number : ℕ) (cmd : CommandId) (states : List PartState) (rooms : List PartRoom) (ps slice : List Part) (es : List Entry) (c : LayerCall) (v : Verdict) (kinds : List PartKind)
    → map state_of ps ≡ states → map room_of ps ≡ rooms → es ≡ entries_of cmd kinds → kinds ≡ kinds_of states → slice ≡ ps → c.cmd ≡ cmd
    → AreRoomy (enter_parts thread number 1 states (call_content c)).states rooms → AllCanEnter thread number (map room_of slice) es (down_of (map state_of slice) c v)
roomy_row thread number cmd states rooms ps slice es c v kinds hw hr he hk hs hc ok =
    let seen : map room_of slice ≡ rooms = ap (λ (xs : List Part). map room_of xs) hs ∙ hr in
    let long : length rooms ≡ length states = ap (λ (xs : List PartRoom). length xs) (sym hr) ∙ (length-map ps room_of ∙ (sym (length-map ps state_of) ∙ ap (λ (xs : List PartState). length xs) hw)) in
    subst (λ (rs : List PartRoom). AllCanEnter thread number rs es (down_of (map state_of slice) c v)) (sym seen)
    (row_can_enter thread number cmd states rooms es (down_of (map state_of slice) c v) (he ∙ ap (entries_of cmd) hk) (ap (λ (xs : List Part). map state_of xs) hs ∙ hw) hc long ok)

-- where there is room for what it finds, there is on the walk over the row
pub found_row : (thread number : ℕ) (cmd : CommandId) (states : List PartState) (ps slice : List Part) (es : List Entry) (c : LayerCall) (v : Verdict) (kinds : List PartKind) (room : ℕ)
    → map state_of ps ≡ states → es ≡ entries_of cmd kinds → kinds ≡ kinds_of states → slice ≡ ps → c.cmd ≡ cmd → v.skip ≡ false
    → length v.findings.items + length (enter_parts thread number 1 states (call_content c)).found.reports ≤ room → length (enter_entries thread number es (down_of (map state_of slice) c v)).down.reports ≤ room
found_row thread number cmd states ps slice es c v kinds room hw he hk hs hc hv fits =
    let found = (enter_parts thread number 1 states (call_content c)).found.reports in
    let same : length (enter_entries thread number es (down_of (map state_of slice) c v)).down.reports ≡ length (reports_of v.findings.items ++ found) =
    ap (λ (w : Entered). length w.down.reports) (row_whole thread number cmd states es (down_of (map state_of slice) c v) (he ∙ ap (entries_of cmd) hk) (ap (λ (xs : List Part). map state_of xs) hs ∙ hw) hc hv) in
    let long = length-append (reports_of v.findings.items) found in
    let before = counted [] v.findings.items (reports_of v.findings.items) refl in omega (arith, same, long, before, fits)

-- the calls of a row can be held where no call is held yet
pub held_row : (cmd : CommandId) (kinds ks : List PartKind) (es : List Entry) (h g : HeldCalls) (c : CallContent) → g ≡ record { cmd = cmd; forms = []; rooms = h.rooms } → es ≡ entries_of cmd kinds → kinds ≡ ks
    → CanHold h.rooms (length (entries_of cmd ks)) c → CanHold g.rooms (length g.forms + length es) c
held_row cmd kinds ks es h g c hg he hk can =
    let none : length g.forms ≡ 0 = ap (λ (x : HeldCalls). length x.forms) hg in
    let long : length es ≡ length (entries_of cmd ks) = ap (λ (xs : List Entry). length xs) (he ∙ ap (entries_of cmd) hk) in
    let count : length (entries_of cmd ks) ≡ length g.forms + length es = omega (arith, none, long) in
    subst (λ (n : ℕ). CanHold g.rooms n c) count (subst (λ (rs : List FormRoom). CanHold rs (length (entries_of cmd ks)) c) (sym (ap (λ (x : HeldCalls). x.rooms) hg)) can)
