-- What an object of the outside tells before and after a call. Source: this project.
use Rattle.std.specs.Prelude.{◌≡◌, ℕ, List, Option}
use Rattle.replay_base.specs.Bytes.{before, IsSpent, grown, GrownByFront}
use Rattle.replay_base.specs.Faults.{raised}

-- the bytes that a source has left or a sink holds, and how often it has failed, before and after
pub record Change : Type 0 where
  pub old : Option (List ℕ)
  pub new : Option (List ℕ)
  pub faults_before : ℕ
  pub faults : ℕ

-- such a change, by what was told and counted before and after
abbrev pub changed : Option (List ℕ) → Option (List ℕ) → ℕ → ℕ → Change
changed old new faults_before faults = record { old = old; new = new; faults_before = faults_before; faults = faults }

-- it didn't fail
abbrev pub Stood : Change → Type 0
Stood c = c.faults ≡ c.faults_before

-- it failed once
abbrev pub FailedOnce : Change → Type 0
FailedOnce c = c.faults ≡ raised c.faults_before

-- nothing was read or written
abbrev pub IsUnmoved : Change → Type 0
IsUnmoved c = c.new ≡ c.old

-- the source gave these bytes, and had no more
pub record Gave (source : Change) (bytes : List ℕ) : Type 0 where
  pub given : source.old ≡ before bytes source.new
  pub spent : IsSpent source.new

-- the sink has gained these bytes
abbrev pub Gained : Change → List ℕ → Type 0
Gained sink bytes = sink.new ≡ grown sink.old bytes

-- behind a text the sink has gained a front of another
abbrev pub GainedFront : Change → List ℕ → List ℕ → Type 0
GainedFront sink text front = GrownByFront (grown sink.old text) sink.new front
