-- How many entries are kept.
use Rattle.std.proofs.Common.{◌≡◌, ◌∙◌, ◌+◌, ℕ, None, Some, length, ap, sym, subst, refl}
use Rattle.std.proofs.lemmas.List.{length-map}
use Rattle.session_model.specs.Session.{SessionKept}
use Rattle.session_tables.specs.Births.{AreApart}
use Rattle.chain_session.specs.declared.kept.Kept.{Kept}
use Rattle.chain_session.specs.Opened.{sent_of}
use Rattle.chain_session.specs.Standing.{Holds}

-- what the program counts is what the definitions keep
pub holds_so : (x : Kept) (held : ℕ) → held ≡ x.parts.names.kept.count + length x.parts.names.kept.births + length x.open_calls → AreApart x.parts.names.kept.births → Holds (Some x) held
holds_so x held is apart = λ s k shows. (
  is
      ∙ (ap (λ n. n + length x.parts.names.kept.births + length x.open_calls) shows.parts.count
      ∙ (ap (λ n. k.count + n + length x.open_calls) (ap length shows.parts.births)
      ∙ ap (λ n. k.count + length k.births + n) (sym (length-map x.open_calls sent_of) ∙ ap length shows.sent))),
  subst AreApart shows.parts.births apart,
)

-- nothing before the first begin
pub holds_none : Holds None 0
holds_none = λ s k is. subst (λ (y : SessionKept). (0 ≡ y.count + length y.births + length y.sent) × AreApart y.births) (sym is) (refl, λ i j b c here there same. cc here)
