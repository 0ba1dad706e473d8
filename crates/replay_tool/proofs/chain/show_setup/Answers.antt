use Rattle.std.proofs.Common.{◌≡◌, ◌++◌, ℕ, List, Err, subst, false}
use Rattle.std.specs.Prelude.{[], ◌∷◌, map, string_bytes}
use Rattle.std.proofs.lemmas.Result.{err_from_is_err_and}
use Rattle.layer_search.specs.Contents.{note_content}
use Rattle.layer_search.specs.declared.found.Note.{Note}
use Rattle.chain_build.specs.Chain.{chain_of}
use Rattle.chain_build.specs.Setup.{setup_content}
use Rattle.replay_base.specs.Changes.{Change}
use Rattle.replay_core.specs.declared.error.ReplayError.{ReplayError}
use Rattle.replay_model.specs.Setup.{is_too_long, outcome_text}
use Rattle.report_text.specs.Notes.{note_text}
use Rattle.report_text.specs.Setups.{outcome_of}
use Rattle.replay_tool.specs.Showing.{WroteAll, Writes}
use Rattle.replay_tool.proofs.Writing.{all_four, cut_before, cut_second, cut_third}
use Rattle.replay_tool.proofs.chain.show_setup.Goals as goal

abbrev lines : List Note → List (List ℕ)
lines notes = map note_text (map note_content notes)

-- the notes are read through a slice
wrote : (ns ms : List Note) (c : Change) → ns ≡ ms → WroteAll (lines ns) c → WroteAll (lines ms) c
wrote ns ms c same w = subst (λ (xs : List Note). WroteAll (lines xs) c) same w

cut : (ns ms : List Note) (c : Change) (e : ReplayError) → ns ≡ ms → Writes (lines ns) false c (Err e) → Writes (lines ms) false c (Err e)
cut ns ms c e same w = subst (λ (xs : List Note). Writes (lines xs) false c (Err e)) same w

pub returns-in_err-put_notes : goal.returns-in_err-put_notes
returns-in_err-put_notes g c =
    let setup = c.args.setup.now in
    let outcome = outcome_of (chain_of (setup_content setup) (map string_bytes c.args.layers.now)) in
    let p = err_from_is_err_and c.from_residual.result c.from_residual.ensures.1 in
    rw (p.1, p.2) (cut_before (lines setup.drivers.notes.items) (lines setup.explicit.notes.items ++ (lines setup.implicit.notes.items ++ outcome_text outcome 0 ∷ [])) (is_too_long outcome)
    _ _ (cut _ _ _ _ c.deref.ensures.value c.in_err-put_notes.ensures))

pub returns-in_err-put_notes-2 : goal.returns-in_err-put_notes-2
returns-in_err-put_notes-2 g c =
    let setup = c.args.setup.now in
    let outcome = outcome_of (chain_of (setup_content setup) (map string_bytes c.args.layers.now)) in
    let p = err_from_is_err_and c.from_residual-in_err-put_notes-2.result c.from_residual-in_err-put_notes-2.ensures.1 in
    rw (p.1, p.2) (cut_second (lines setup.drivers.notes.items) (lines setup.explicit.notes.items) (lines setup.implicit.notes.items) (outcome_text outcome 0 ∷ []) (is_too_long outcome)
    _ _ _ _ (wrote _ _ _ c.deref.ensures.value c.in_ok-put_notes.ensures.0) _ _ _ (cut _ _ _ _ c.deref-2.ensures.value c.in_err-put_notes-2.ensures))

pub returns-in_err-put_notes-3 : goal.returns-in_err-put_notes-3
returns-in_err-put_notes-3 g c =
    let setup = c.args.setup.now in
    let outcome = outcome_of (chain_of (setup_content setup) (map string_bytes c.args.layers.now)) in
    let p = err_from_is_err_and c.from_residual-in_err-put_notes-3.result c.from_residual-in_err-put_notes-3.ensures.1 in
    rw (p.1, p.2) (cut_third (lines setup.drivers.notes.items) (lines setup.explicit.notes.items) (lines setup.implicit.notes.items) (outcome_text outcome 0 ∷ []) (is_too_long outcome)
    _ _ _ _ (wrote _ _ _ c.deref.ensures.value c.in_ok-put_notes.ensures.0) _ _ _ _ _ (wrote _ _ _ c.deref-2.ensures.value c.in_ok-put_notes-2.ensures.0)
    (cut _ _ _ _ c.deref-3.ensures.value c.in_err-put_notes-3.ensures))

pub returns : goal.returns
returns g c =
    let setup = c.args.setup.now in
    let outcome = outcome_of (chain_of (setup_content setup) (map string_bytes c.args.layers.now)) in
    all_four (lines setup.drivers.notes.items) (lines setup.explicit.notes.items) (lines setup.implicit.notes.items) (outcome_text outcome 0 ∷ []) (is_too_long outcome)
    _ _ _ _ (wrote _ _ _ c.deref.ensures.value c.in_ok-put_notes.ensures.0) _ _ _ _ _ _ _ (wrote _ _ _ c.deref-2.ensures.value c.in_ok-put_notes-2.ensures.0)
    (wrote _ _ _ c.deref-3.ensures.value c.in_ok-put_notes-3.ensures.0) c.put_chain.ensures
