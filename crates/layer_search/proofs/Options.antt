-- Options.
use Rattle.std.proofs.Common.{◌≡◌, ◌∙◌, ap, refl, Option, Some, None, option_map}
use Rattle.std.specs.Option.{option_or}

-- what is read of an option or else another is what is read of the first, or else of the other
pub read_or_else : {A B : Type 0} (f : A → B) (o p r : Option A) (x y : Option B) → r ≡ option_or o p → option_map f o ≡ x → option_map f p ≡ y → option_map f r ≡ option_or x y
read_or_else f o p r x y is first other = ap (option_map f) is ∙ (go o ∙ (ap (λ z. option_or z (option_map f p)) first ∙ ap (option_or x) other))
  where
    go : (o : Option _) → option_map f (option_or o p) ≡ option_or (option_map f o) (option_map f p)
    go (Some a) = refl
    go None = refl
