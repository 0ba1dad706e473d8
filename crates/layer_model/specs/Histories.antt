-- What a checking part keeps stands for a history over pairs of a type and a handle: the calls and results that it was given.
-- Source: this project.
use Rattle.std.specs.Prelude.{◌≡◌}
use Rattle.object_model.specs.declared.Object.{Object}
use Rattle.object_model.specs.Objects.{is_in}
use Rattle.object_model.specs.History.{History, births, alive}
use Rattle.object_model.specs.Uses.{in_use}
use Rattle.layer_model.specs.Parts.{LifeModel, UseModel}

-- a lifetimes part keeps what a history of pairs comes to
pub record LifeMirrors (h : History) (m : LifeModel) : Type 0 where
  pub born : m.births ≡ births h
  pub living : (o : Object) → is_in m.living o ≡ alive h o

-- a threads part keeps what a history of pairs comes to
pub record UseMirrors (h : History) (m : UseModel) : Type 0 where
  pub born : m.births ≡ births h
  pub living : (o : Object) → is_in m.living o ≡ alive h o
  pub opens : m.opens ≡ in_use h
