-- What the walks over the parts of a chain leave.
use Rattle.std.proofs.Common.{◌≡◌, ℕ, suc, Bool, true, false, List, [], ◌∷◌, ◌++◌, length, map, ap, sym, ◌∙◌, refl, subst, append_assoc, append-nil, if◌then◌else◌}
use Rattle.command_tables.specs.declared.types.CommandId.{CommandId}
use Rattle.command_tables.specs.declared.call.LayerCall.{LayerCall}
use Rattle.command_tables.specs.Calls.{CallContent, call_content}
use Rattle.lifetime_layer.specs.declared.verdict.Verdict.{Verdict}
use Rattle.lifetime_layer.specs.Reports.{reports_of}
use Rattle.object_model.specs.declared.PartKind.{PartKind}
use Rattle.layer_model.specs.Walks.{PartState, enter_parts}
use Rattle.dispatch_chain.specs.declared.entry.Entry.{Entry}
use Rattle.dispatch_chain.specs.declared.part.Part.{Part}
use Rattle.dispatch_chain.specs.Entries.{Down, Entered, down_of, enter_entries, step_down, walk_seen, with_form, with_front}
use Rattle.dispatch_chain.specs.Holding.{AllOf, HeldCalls, IsHeldOf}
use Rattle.dispatch_chain.specs.Rows.{entries_of, picked}
use Rattle.dispatch_chain.specs.Seats.{kinds_of, state_of}
use Rattle.dispatch_chain.proofs.Whole.{row_whole}

-- there are as many kinds as parts
pub kinds_long : (ps : List Part) → length ps ≡ length (kinds_of (map state_of ps))
kinds_long [] = refl
kinds_long (p ∷ ps) = ap suc (kinds_long ps)

-- what is held when a walk goes no further
pub held_there : (d : Down) (fs : List CallContent) (w : Entered) → w ≡ record { down = d; forms = [] } → record { down = d; forms = fs } ≡ with_front fs w
held_there d fs w e = let F : List CallContent → Entered = λ xs. record { down = d; forms = xs } in ap F (sym (append-nil fs)) ∙ sym (ap (with_front fs) e)

-- one part further
pub told_more : (thread number : ℕ) (es rest : List Entry) (e : Entry) (d d' : Down) (fs fs' : List CallContent) → es ≡ e ∷ rest → d.skip ≡ false → d' ≡ step_down thread number e d → fs' ≡ fs ++ d.call ∷ []
    → with_front fs' (enter_entries thread number rest d') ≡ with_front fs (enter_entries thread number es d)
told_more thread number es rest e d d' fs fs' he hs hd hf =
    let w : Entered = enter_entries thread number rest (step_down thread number e d) in
    let F : List CallContent → Entered = λ xs. record { down = w.down; forms = xs } in
    ap (λ x. with_front fs' (enter_entries thread number rest x)) hd
    ∙ ap (λ xs. F (xs ++ w.forms)) hf
    ∙ ap F (append_assoc fs (d.call ∷ []) w.forms)
    ∙ sym (ap (λ b. with_front fs (if b then record { down = d; forms = [] } else with_form d.call w)) hs)
    ∙ sym (ap (λ x. with_front fs (enter_entries thread number x d)) he)

-- the walk down over a stored row leaves what the walk through all parts leaves
pub walked : (thread number : ℕ) (cmd : CommandId) (states : List PartState) (ps slice qs : List Part) (es : List Entry) (c c' : LayerCall) (v v' : Verdict) (kinds : List PartKind) (fs fs' : List CallContent)
    → map state_of ps ≡ states → es ≡ entries_of cmd kinds → kinds ≡ kinds_of states → slice ≡ ps → c.cmd ≡ cmd → v.skip ≡ false → fs ≡ []
    → record { down = down_of (map state_of qs) c' v'; forms = fs' } ≡ with_front fs (enter_entries thread number es (down_of (map state_of slice) c v))
    → record { down = down_of (map state_of qs) c' v'; forms = fs' } ≡ walk_seen cmd states (reports_of v.findings.items) (enter_parts thread number 1 states (call_content c))
walked thread number cmd states ps slice qs es c c' v v' kinds fs fs' hw he hk hs hc hv hf h =
    h ∙ ap (λ xs. with_front xs (enter_entries thread number es (down_of (map state_of slice) c v))) hf
    ∙ row_whole thread number cmd states es (down_of (map state_of slice) c v) (he ∙ ap (entries_of cmd) hk) (ap (map state_of) hs ∙ hw) hc hv

-- what is held is what stands above the parts of the row
pub held_of : (held : HeldCalls) (cmd : CommandId) (kinds : List PartKind) (forms : List CallContent) → held.cmd ≡ cmd → held.forms ≡ picked cmd kinds forms → AllOf cmd forms → IsHeldOf held kinds forms
held_of held cmd kinds forms e h a = record { picked = h ∙ ap (λ c. picked c kinds forms) (sym e); one = subst (λ c. AllOf c forms) (sym e) a }

-- a walk that is not stopped holds a form for each entry
entered_all : (thread number : ℕ) (es : List Entry) (d : Down) → (enter_entries thread number es d).down.skip ≡ false → length (enter_entries thread number es d).forms ≡ length es
entered_all thread number [] d h = refl
entered_all thread number (e ∷ es) d h = go (entered_all thread number es (step_down thread number e d)) d.skip refl h
  where
    ended : Entered
    ended = record { down = d; forms = [] }

    below : Entered
    below = enter_entries thread number es (step_down thread number e d)

    go : (below.down.skip ≡ false → length below.forms ≡ length es) → (b : Bool) → d.skip ≡ b → (if b then ended else with_form d.call below).down.skip ≡ false → length (if b then ended else with_form d.call below).forms ≡ suc (length es)
    go ih true k s = let x : d.skip ≡ false = s in cc
    go ih false k s = ap suc (ih s)

-- the same by the program's values
pub all_held : (thread number : ℕ) (cmd cmd' : CommandId) (kinds ks : List PartKind) (es : List Entry) (d x : Down) (fs old : List CallContent) → record { down = x; forms = fs } ≡ with_front old (enter_entries thread number es d) → old ≡ [] → es ≡ entries_of cmd kinds → kinds ≡ ks → cmd' ≡ cmd → x.skip ≡ false → length fs ≡ length (entries_of cmd' ks)
all_held thread number cmd cmd' kinds ks es d x fs old h ho he hk hc s =
    ap (λ (y : Entered). length y.forms) h
    ∙ ap (λ xs. length (xs ++ (enter_entries thread number es d).forms)) ho
    ∙ entered_all thread number es d (sym (ap (λ (y : Entered). y.down.skip) h) ∙ s)
    ∙ ap length he ∙ ap (λ k. length (entries_of cmd k)) hk ∙ ap (λ q. length (entries_of q ks)) (sym hc)
