-- What a lifetimes part keeps. Source: Khronos validation layers (object lifetimes); this project.
use Rattle.std.specs.Prelude.{ℕ}
use Rattle.layer_model.specs.Parts.{LifeModel}

-- the place of the part in its chain, what it keeps of objects, and how many further ones can be born with no further memory
pub record LifePart : Type 0 where
  pub place : ℕ
  pub kept : LifeModel
  pub spare : ℕ
