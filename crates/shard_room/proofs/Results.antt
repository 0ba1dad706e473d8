-- What a return makes of the parts: some results come up through them, and no more than the call has.
use Rattle.std.proofs.Common.{◌≡◌, ◌≤◌, ◌+◌, ◌-◌, ℕ, suc, Bool, true, false, cond, Option, Some, None, List, [], ◌∷◌, length, map, drop, refl, ap, ◌∙◌, arith, true≢false}
use Rattle.std.proofs.lemmas.List.{length-append, length-drop, length-map}
use Rattle.command_tables.specs.Calls.{CallContent}
use Rattle.command_tables.specs.Effects.{type_made}
use Rattle.command_tables.specs.Table.{row_of}
use Rattle.command_tables.specs.declared.types.CommandId.{CommandId}
use Rattle.command_tables.specs.declared.types.ObjectType.{ObjectType}
use Rattle.trace_format.specs.declared.event.Name.{Name}
use Rattle.object_model.specs.History.{born_in}
use Rattle.object_model.specs.Values.{Answered, Value}
use Rattle.replay_model.specs.declared.Born.{Born}
use Rattle.replay_model.specs.Direct.{Sent}
use Rattle.replay_model.specs.Past.{Opened, is_skipped}
use Rattle.replay_model.specs.Setup.{Setup, parts_of}
use Rattle.layer_model.specs.Ids.{Key, at_key, is_wrapped, issue, issue_all}
use Rattle.layer_model.specs.Parts.{key_read}
use Rattle.layer_model.specs.Reading.{read_call}
use Rattle.layer_model.specs.Terminator.{Terminator, plain_handle, terminator_leave, terminator_results, values_from}
use Rattle.layer_model.specs.Walks.{PartState, leave_parts}
use Rattle.chain_model.specs.Simulated.{Held, after_reply, after_skipped, born_flags, with_forms, with_parts}
use Rattle.chain_model.specs.Traces.{held_in_force, in_force, starts_chain}
use Rattle.session_model.specs.Session.{SessionKept}
use Rattle.session_model.specs.Returning.{chain_after_return, lost_kept, made_kept}
use Rattle.session_parts.proofs.Fewer.{made_few}

-- ---- how many come up from the chain's end: one for each flag

values_long : (c : CommandId) (answers : List Answered) (k : ℕ) (flags : List Bool) → length (values_from c answers k flags) ≡ length flags
values_long c answers k [] = refl
values_long c answers k (true ∷ flags) = ap suc (values_long c answers (k + 1) flags)
values_long c answers k (false ∷ flags) = ap suc (values_long c answers (k + 1) flags)

issued_long : (m : Terminator) (k : Option Key) (t : ObjectType) (place : ℕ) (vs : List (Option (List Value))) → length (issue_all m k t place vs).results ≡ length vs
issued_long m k t place [] = refl
issued_long m k t place (None ∷ vs) = ap suc (issued_long m k t (place + 1) vs)
issued_long m k t place (Some v ∷ vs) = ap suc (issued_long (issue m (at_key k place) t v).ids k t (place + 1) vs)

results_long : (m : Terminator) (k : Option Key) (t : Option ObjectType) (vs : List (Option (List Value))) → length (terminator_results m k t vs).results ≡ length vs
results_long m k None vs = length-map vs plain_handle
results_long m k (Some t) vs = go (is_wrapped t) refl
  where
    go : (b : Bool) → is_wrapped t ≡ b → length (terminator_results m k (Some t) vs).results ≡ length vs
    go true e = rw e (length-map vs plain_handle)
    go false e = rw e (issued_long m k t 0 vs)

end_long : (m : Terminator) (c : CallContent) (answers : List Answered) (flags : List Bool) → length (terminator_leave m c answers flags).results ≡ length flags
end_long m c answers flags =
    results_long m (key_read c.cmd c.payload (read_call c) (row_of c.cmd).effect) (type_made (row_of c.cmd).effect) (values_from c.cmd answers 0 flags) ∙ values_long c.cmd answers 0 flags

-- ---- no more flags than results

flags_long : (made : List Born) (lost : List Name) → length (born_flags made lost) ≡ length made + length lost
flags_long made lost =
    let first : length (map (λ (b : Born). true) made) ≡ length made = length-map {B = Bool} made (λ b. true) in
    let second : length (map (λ (x : Name). false) lost) ≡ length lost = length-map {B = Bool} lost (λ x. false) in
    let all = length-append (map (λ (b : Born). true) made) (map (λ (x : Name). false) lost) in
    all ∙ (λ i. first i + second i)

flags_few : (s : Setup) (k : SessionKept) (o : Opened) → length (born_flags (made_kept s k o) (lost_kept s k o)) ≤ length o.results
flags_few s k o =
    let made : length (made_kept s k o) ≤ length o.results = made_few s.drivers k.births (born_in k.births) k.retrieved o in
    let lost : length (lost_kept s k o) ≡ length o.results - length (made_kept s k o) = length-drop (length (made_kept s k o)) o.results in
    let all = flags_long (made_kept s k o) (lost_kept s k o) in
    omega (arith, made, lost, all)

-- the results of a skipped call, which are lost
abbrev zeros : List Name → List ℕ
zeros names = map (λ _. 0) names

zeros_few : (j : ℕ) (names : List Name) → length (zeros (drop j names)) ≤ length names
zeros_few j names =
    let same : length (zeros (drop j names)) ≡ length (drop j names) = length-map {B = ℕ} (drop j names) (λ x. 0) in
    let fewer : length (drop j names) ≡ length names - j = length-drop j names in
    omega (arith, same, fewer)

-- ---- a return, at which no chain comes in force

pub returned_by : (P : List PartState → Type 0) (s : Setup) (k : SessionKept) (c : Sent) (h : Held) → (is_skipped c.opened ≡ false → starts_chain c.opened ≡ false)
    → ((forms : List CallContent) (hs : List ℕ) → length hs ≤ length c.opened.results → P (leave_parts c.opened.thread k.chain.states forms hs).states) → P (chain_after_return s k c h).states
returned_by P s k c h stays came = go (is_skipped c.opened) stays
  where
    sent : (v : Bool) → v ≡ false → P (after_reply (cond v (with_parts k.chain c.opened (parts_of (s.outcome c.opened.payload))) k.chain) c.opened (cond v (with_forms c.opened (parts_of (s.outcome c.opened.payload)) h) h) c.answers (made_kept s k c.opened) (lost_kept s k c.opened)).states
    sent true starts = absurd (true≢false starts)
    sent false starts =
        let flags : List Bool = born_flags (made_kept s k c.opened) (lost_kept s k c.opened) in
        let up : List ℕ = (terminator_leave k.chain.terminator h.bottom c.answers flags).results in
        let long = end_long k.chain.terminator h.bottom c.answers flags in
        let few = flags_few s k c.opened in
        came h.forms up (omega (arith, long, few))

    go : (u : Bool) → (u ≡ false → starts_chain c.opened ≡ false)
        → P (cond u (after_skipped k.chain c.opened h (lost_kept s k c.opened)) (after_reply (in_force s k.chain c.opened) c.opened (held_in_force s c.opened h) c.answers (made_kept s k c.opened) (lost_kept s k c.opened))).states
    go true none = came h.forms (zeros (lost_kept s k c.opened)) (zeros_few (length (made_kept s k c.opened)) c.opened.results)
    go false none = sent (starts_chain c.opened) (none refl)
