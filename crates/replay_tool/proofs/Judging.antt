-- What `chain` shows is what a trace is judged by.
use Rattle.std.proofs.Common.{◌≡◌, ◌∙◌, ℕ, refl, ap, arith, true, List, [], ◌∷◌, ◌++◌, length, map, append-nil, append_assoc, Option, Some, None}
use Rattle.std.specs.Prelude.{is_some, find}
use Rattle.std.specs.List.{concat}
use Rattle.layer_search.specs.Contents.{DriverFound, NoteContent}
use Rattle.env_filters.specs.Entries.{layer_names_of}
use Rattle.chain_build.specs.Chain.{chain_of, driven, is_missing, present_or}
use Rattle.chain_build.specs.Setup.{SetupContent}
use Rattle.program_words.specs.Asked.{ChainAsked}
use Rattle.replay_model.specs.Setup.{outcome_text, refusal_of}
use Rattle.report_text.specs.Notes.{note_text, notes_text, setup_notes}
use Rattle.report_text.specs.Setups.{outcome_of, trace_setup}
use Rattle.replay_tool.specs.Showing.{shown_lines, shown_outcome}
use Rattle.replay_tool.proofs.Writing.{concat_append}

-- the lines of notes, each by itself
note_lines : (notes : List NoteContent) → concat (map note_text notes) ≡ notes_text notes
note_lines [] = refl
note_lines (n ∷ ns) = ap (λ t. note_text n ++ t) (note_lines ns)

-- three lists of pieces, and then one piece
joined : (d e i : List (List ℕ)) (t : List ℕ) → concat (d ++ (e ++ (i ++ t ∷ []))) ≡ (concat d ++ concat e ++ concat i) ++ t
joined d e i t = simp (concat_append, append_assoc, append-nil)

-- the pieces that are shown are the notes and the outcome's text
pub shown_is_judged : (setup : SetupContent) (asked : ChainAsked)
    → concat (shown_lines setup asked) ≡ (trace_setup setup).notes ++ outcome_text ((trace_setup setup).outcome asked.layers) 0
unfolding setup_notes
shown_is_judged setup asked =
    let text = outcome_text (shown_outcome setup asked) 0 in
    joined (map note_text setup.drivers.notes) (map note_text setup.explicit.notes) (map note_text setup.implicit.notes) text
    ∙ rw (note_lines setup.drivers.notes, note_lines setup.explicit.notes, note_lines setup.implicit.notes) refl

-- nothing is built without a driver
pub refused_without_driver : (setup : SetupContent) (payload : List ℕ) → (trace_setup setup).drivers ≡ 0 → is_some (refusal_of ((trace_setup setup).outcome payload)) ≡ true
unfolding chain_of
refused_without_driver setup payload none = go (find (is_missing setup) (layer_names_of payload)) setup.drivers.list none
  where
    go : (missing : Option (List ℕ)) (drivers : List DriverFound) → length drivers ≡ 0
        → is_some (refusal_of (outcome_of (present_or missing (driven setup (layer_names_of payload) drivers)))) ≡ true
    go (Some name) drivers none = refl
    go None [] none = refl
    go None (driver ∷ drivers) none = absurd (omega arith)
