-- Codes by name.
use Rattle.std.proofs.Common.{◌≡◌, ◌≢◌, Bool, true, false, Option, Some, None, List, [], ◌∷◌, ℕ, refl, sym, ap, ◌∙◌, IfSome, IfNone, cond, codes, option_map}
use Rattle.std.specs.List.{find}
use Rattle.std.specs.Str.{bytes_eq}
use Rattle.std.proofs.lemmas.Slice.Eq.{bytes_eq-Decides}
use Rattle.command_tables.specs.declared.types.Code.{Code}
use Rattle.command_tables.specs.declared.types.Code.TheVariants as code
use Rattle.command_tables.specs.declared.codes.TheConstants.{CODES}
use Rattle.command_tables.specs.CodeNames.{code_name}
use Rattle.trace_format.specs.Words.{code_of}

-- the code with a name
unfoldable code_named : List ℕ → Option Code
code_named word = find (λ c. bytes_eq (code_name c) word) CODES

-- each code is the one with its name
named : (c : Code) → code_named (code_name c) ≡ Some c
unfolding code_named
named code.Success = refl
named _ = refl

-- a word that is no code's name finds none
unnamed : (word : List ℕ) → ((c : Code) → code_name c ≢ word) → (cs : List Code) → find (λ c. bytes_eq (code_name c) word) cs ≡ None
unnamed word none [] = refl
unnamed word none (c ∷ cs) = go (bytes_eq (code_name c) word) (bytes_eq-Decides (code_name c) word).0 (unnamed word none cs)
  where
    go : (t : Bool) → (t ≡ true → code_name c ≡ word) → find (λ c. bytes_eq (code_name c) word) cs ≡ None → cond t (Some c) (find (λ c. bytes_eq (code_name c) word) cs) ≡ None
    go true is rest = absurd (none c (is refl))
    go false is rest = rest

-- the code that was found is the one with the name
found_by_name : (word : List ℕ) (r : Option Code) → IfSome r (λ c. code_name c ≡ word) → IfNone r ((c : Code) → code_name c ≢ word) → r ≡ code_named word
unfolding code_named
found_by_name word None some none = sym (unnamed word none CODES)
found_by_name word (Some c) some none = sym (named c) ∙ ap code_named some

-- a word that is not void is the code that was found
pub code_found : (word : List ℕ) (r : Option Code) → bytes_eq word (codes "void") ≡ false → IfSome r (λ c. code_name c ≡ word) → IfNone r ((c : Code) → code_name c ≢ word) → code_of word ≡ option_map Some r
unfolding code_of code_named
code_found word r other some none = rw other (ap (option_map Some) (sym (found_by_name word r some none)))

-- void is no code
pub code_void : (word : List ℕ) → bytes_eq word (codes "void") ≡ true → code_of word ≡ Some None
unfolding code_of
code_void word void = rw void refl
