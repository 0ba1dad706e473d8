-- What contracts see of a tick. Source: this project.
use Rattle.std.specs.Prelude.{ℕ, refl}
use Rattle.std.specs.Coded.{Coded, code_by, coded×, coded_ℕ}
use Rattle.atomic_table.specs.Seated.{TableId, table_id_coded}

-- the clock, how many draws are left, and the latest time that was seen
pub record TickView : Type 0 where
  pub clock : TableId
  pub left : ℕ
  pub seen : ℕ

-- a tick of these parts
abbrev pub tick_view : TableId → ℕ → ℕ → TickView
tick_view clock left seen = record { clock = clock; left = left; seen = seen }

-- a tick as its three parts, so that it can lie in other models
abbrev pub tick_code : Coded TickView
tick_code =
    code_by (TableId × (ℕ × ℕ)) (coded× table_id_coded (coded× coded_ℕ coded_ℕ)) (λ t. (t.clock, (t.left, t.seen))) (λ p. record { clock = p.0; left = p.1.0; seen = p.1.1 }) (λ _. refl)
