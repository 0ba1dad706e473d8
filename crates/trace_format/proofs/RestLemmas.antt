-- The words of a begin, and what follows them.
use Rattle.std.proofs.Common.{◌≡◌, ◌+◌, ◌<◌, ℕ, Bool, true, false, Option, Some, None, List, [], ◌∷◌, map, length, take, drop, refl, ap, sym, ◌∙◌, arith, length-drop, codes, option_map}
use Rattle.std.proofs.lemmas.List.{drop-drop}
use Rattle.std.specs.Bool.{⊤}
use Rattle.std.specs.Str.{bytes_eq}
use Rattle.command_tables.specs.declared.types.Param.{Param}
use Rattle.command_tables.specs.Table.{ParamSpec, seen_param}
use Rattle.trace_format.specs.Words.{and_then, from, is_nonempty, only_if, until}
use Rattle.trace_format.specs.Reading.{cut_word, word_at, words_at}
use Rattle.trace_format.specs.Steps.{words_in}

-- a first word before others
abbrev with_word : List ℕ → Option (List (List ℕ) × List ℕ) → Option (List (List ℕ) × List ℕ)
with_word word o = option_map (λ others. (word ∷ others.0, others.1)) o

-- the words of further parameters, after a first word
abbrev with_first : List ParamSpec → List ℕ × List ℕ → Option (List (List ℕ) × List ℕ)
with_first ps first = with_word first.0 (words_at ps first.1)

-- what follows words
abbrev pub rest_of : Option (List (List ℕ) × List ℕ) → Option (List ℕ)
rest_of o = option_map (λ (x : List (List ℕ) × List ℕ). x.1) o

-- what follows the words of these parameters
abbrev pub rest_after : List Param → List ℕ → Option (List ℕ)
rest_after ps bytes = rest_of (words_at (map seen_param ps) bytes)

-- the words after the first leave the same rest
same_rest : (word : List ℕ) (o : Option (List (List ℕ) × List ℕ)) → rest_of (with_word word o) ≡ rest_of o
same_rest word (Some x) = refl
same_rest word None = refl

-- a list from a place inside on has a first element
first_at : (ps : List Param) (i : ℕ) → i < length ps → (p : Param) × (drop i ps ≡ p ∷ drop (i + 1) ps)
first_at ps i h = go (drop i ps) refl
  where
    go : (qs : List Param) → drop i ps ≡ qs → (p : Param) × (drop i ps ≡ p ∷ drop (i + 1) ps)
    go [] e = absurd (omega (arith, length-drop i ps, ap length e))
    go (p ∷ qs) e = (p, e ∙ ap (λ rest. p ∷ rest) (sym (sym (drop-drop 1 i ps) ∙ ap (drop 1) e)))

-- a word that is there, at a place of the parameters
pub rest_more_at : (ps : List Param) (i : ℕ) (bytes word rest : List ℕ) → i < length ps → word_at bytes ≡ Some (word, rest) → rest_after (drop i ps) bytes ≡ rest_after (drop (i + 1) ps) rest
rest_more_at ps i bytes word rest h e =
    ap (λ qs. rest_after qs bytes) (first_at ps i h).1 ∙ ap (λ o. rest_of (and_then o (with_first (map seen_param (drop (i + 1) ps))))) e ∙ same_rest word (words_at (map seen_param (drop (i + 1) ps)) rest)

-- a word that is not there
pub rest_none_at : (ps : List Param) (i : ℕ) (bytes : List ℕ) → i < length ps → word_at bytes ≡ None → rest_after (drop i ps) bytes ≡ None
rest_none_at ps i bytes h e = ap (λ qs. rest_after qs bytes) (first_at ps i h).1 ∙ ap (λ o. rest_of (and_then o (with_first (map seen_param (drop (i + 1) ps))))) e

-- words that are there are those that stand there
abbrev pub WordsAre : List ParamSpec → List ℕ → Option (List (List ℕ) × List ℕ) → Type 0
WordsAre ps bytes (Some x) = x.0 ≡ words_in ps bytes
WordsAre ps bytes None = ⊤

-- the words of the parameters are those that stand there
pub words_are : (ps : List ParamSpec) (bytes : List ℕ) → WordsAre ps bytes (words_at ps bytes)
words_are [] bytes = refl
words_are (p ∷ ps) bytes = go (bytes_eq (take 1 bytes) (codes " ")) (words_are ps (from 32 (drop 1 bytes)))
  where
    add : (o : Option (List (List ℕ) × List ℕ)) → WordsAre ps (from 32 (drop 1 bytes)) o → WordsAre (p ∷ ps) bytes (with_word (until 32 (drop 1 bytes)) o)
    add (Some x) h = ap (λ ws. until 32 (drop 1 bytes) ∷ ws) h
    add None h = tt

    full : (t : Bool) → WordsAre ps (from 32 (drop 1 bytes)) (words_at ps (from 32 (drop 1 bytes))) → WordsAre (p ∷ ps) bytes (and_then (only_if t (until 32 (drop 1 bytes), from 32 (drop 1 bytes))) (with_first ps))
    full true h = add (words_at ps (from 32 (drop 1 bytes))) h
    full false h = tt

    go : (space : Bool) → WordsAre ps (from 32 (drop 1 bytes)) (words_at ps (from 32 (drop 1 bytes))) → WordsAre (p ∷ ps) bytes (and_then (and_then (only_if space (drop 1 bytes)) cut_word) (with_first ps))
    go true h = full (is_nonempty (until 32 (drop 1 bytes))) h
    go false h = tt
