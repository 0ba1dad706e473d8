-- Lists of lists that are copied one after another.
use Rattle.std.proofs.Common.{◌≡◌, ℕ, ◌+◌, ◌≤◌, ◌<◌, ◌∙◌, List, [], ◌∷◌, ◌++◌, length, take, ap, sym, add-one}
use Rattle.std.proofs.Math.Seq.{take-suc}
use Rattle.std.proofs.lemmas.List.{take_all}
use Rattle.command_tables.specs.Handles.{list_at}

pub one_more : (copy done : List (List ℕ)) (all : List (List ℕ)) (p : ℕ) → done ≡ take p all → copy ≡ done ++ list_at all p ∷ [] → p < length all → copy ≡ take (p + 1) all
one_more copy done all p so_far pushed within = pushed ∙ (ap (λ xs. xs ++ list_at all p ∷ []) so_far ∙ (sym (take-suc all p [] within) ∙ ap (λ n. take n all) (sym (add-one p))))

pub all_taken : (copy all : List (List ℕ)) (p : ℕ) → copy ≡ take p all → length all ≤ p → copy ≡ all
all_taken copy all p so_far past = so_far ∙ take_all p all past
