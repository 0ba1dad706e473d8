-- A command that is made option by option.
use Rattle.std.proofs.Common.{◌≡◌, ◌∙◌, ◌<◌, ◌+◌, ℕ, sym, ap, ap₂, List, [], ◌∷◌, length, take, get_or}
use Rattle.std.specs.Borrow.{Bor}
use Rattle.std.proofs.lemmas.List.{map-append, take_more}
use Rattle.clap.specs.Walk.{Rule}
use Rattle.clap.specs.Simple.{App}
use Rattle.clap.specs.Words.{with_rule}
use Rattle.program_words.specs.Words.{Word}
use Rattle.program_words.specs.Content.{known_of}
use Rattle.program_words.specs.Program.{alone, long_rule}

pub more_rules : (name : Word) (known : List (Bor Word)) (i : ℕ) (d : Bor Word) (old new : App) (r : Rule) → i < length known
    → old ≡ alone name (known_of (take i known)) → new ≡ with_rule old r → r ≡ long_rule (get_or known i d).now → new ≡ alone name (known_of (take (i + 1) known))
more_rules name known i d old new r lt was adds is =
    let texts = known_of (take i known) in
    let x = (get_or known i d).now in
    adds ∙ ap₂ with_rule was is
    ∙ ap (λ rules. record (alone name texts) { top = record (alone name texts).top { rules = rules } }) (sym (map-append long_rule texts (x ∷ [])))
    ∙ ap (alone name) (sym (map-append (λ (s : Bor Word). s.now) (take i known) (get_or known i d ∷ [])) ∙ ap known_of (sym (take_more known i d lt)))
