-- One word of the definition, as the check's loop meets it.
use Rattle.std.proofs.Common.{◌≡◌, ◌∙◌, ◌<◌, ◌≤◌, ◌+◌, ℕ, sym, ap, ap₂, arith, List, [], ◌∷◌, ◌++◌, length, drop, Option, Some, None, drop-cons, drop_of_length-le, suc}
use Rattle.std.specs.Prelude.{String, string_bytes}
use Rattle.std.specs.List.{slice_index_or}
use Rattle.std.specs.Borrow.{Bor}
use Rattle.std.specs.declared.alloc.Global.{Global}
use Rattle.std.proofs.lemmas.List.{map-append}
use Rattle.std.specs.Prelude.{option_and_then}
use Rattle.program_words.specs.Words.{GivenOptions, Word, awaited, next_option, options_from, with_option}
use Rattle.program_words.specs.Content.{given_pairs, word_if_any, words_of}

at_word : (words : List (String Global)) (i : ℕ) (word : String Global) → i < length words → word ≡ slice_index_or words i word
    → words_of (drop i words) ≡ string_bytes word ∷ words_of (drop (i + 1) words)
at_word words i word lt at =
    let next : i + 1 ≡ suc i = omega arith in
    ap words_of (drop-cons words i word lt) ∙ ap₂ (λ (x : String Global) (k : ℕ). string_bytes x ∷ words_of (drop k words)) (sym at) (sym next)

-- the word at the loop's place, and those that follow
pub turn : (known : List Word) (given : GivenOptions) (waiting : Option Word) (words : List (String Global)) (i : ℕ) (word : String Global) (next : Option (Word × Option Word))
    → i < length words → word ≡ slice_index_or words i word → next ≡ next_option known given waiting (string_bytes word)
    → option_and_then (λ p. options_from known (with_option given p) (awaited p) (words_of (drop (i + 1) words))) next ≡ options_from known given waiting (words_of (drop i words))
unfolding options_from
turn known given waiting words i word next lt at is =
    ap (option_and_then (λ p. options_from known (with_option given p) (awaited p) (words_of (drop (i + 1) words)))) is
    ∙ ap (options_from known given waiting) (sym (at_word words i word lt at))

one_more : (given : List (Bor Word × Bor Word)) (name v : Bor Word) → given_pairs (given ++ (name, v) ∷ []) ≡ given_pairs given ++ (name.now, v.now) ∷ []
one_more given name v = map-append (λ (p : Bor Word × Bor Word). (p.0.now, p.1.now)) given ((name, v) ∷ [])

-- an option with its value was pushed
pub pushed : (known rest : List Word) (now given : List (Bor Word × Bor Word)) (name v : Bor Word) (waiting : Option (Bor Word))
    → now ≡ given ++ (name, v) ∷ [] → waiting ≡ None
    → options_from known (given_pairs now) (word_if_any waiting) rest ≡ options_from known (given_pairs given ++ (name.now, v.now) ∷ []) None rest
pushed known rest now given name v waiting items is =
    ap₂ (λ (g : GivenOptions) (o : Option (Bor Word)). options_from known g (word_if_any o) rest) (ap given_pairs items ∙ one_more given name v) is

-- an option waits for its value
pub waits : (known rest : List Word) (now given : List (Bor Word × Bor Word)) (name : Bor Word) (waiting : Option (Bor Word))
    → now ≡ given → waiting ≡ Some name → options_from known (given_pairs now) (word_if_any waiting) rest ≡ options_from known (given_pairs given) (Some name.now) rest
waits known rest now given name waiting same is = ap₂ (λ (g : List (Bor Word × Bor Word)) (o : Option (Bor Word)). options_from known (given_pairs g) (word_if_any o) rest) same is

pub at_end_none : (known : List Word) (given : GivenOptions) (waiting : Option (Bor Word)) (words : List (String Global)) (i : ℕ) → length words ≤ i → waiting ≡ None
    → Some given ≡ options_from known given (word_if_any waiting) (words_of (drop i words))
unfolding options_from
at_end_none known given waiting words i past is =
    ap₂ (λ (o : Option (Bor Word)) (ws : List (String Global)). options_from known given (word_if_any o) (words_of ws)) (sym is) (sym (drop_of_length-le words past))

pub at_end_some : (known : List Word) (given : GivenOptions) (waiting : Option (Bor Word)) (name : Bor Word) (words : List (String Global)) (i : ℕ) → length words ≤ i → waiting ≡ Some name
    → None ≡ options_from known given (word_if_any waiting) (words_of (drop i words))
unfolding options_from
at_end_some known given waiting name words i past is =
    ap₂ (λ (o : Option (Bor Word)) (ws : List (String Global)). options_from known given (word_if_any o) (words_of ws)) (sym is) (sym (drop_of_length-le words past))
