-- TIMER5's count loses no bit: within a period no more than PRD counts pass.
use Rattle.std.proofs.Common.{◌≡◌, ℕ, ◌*◌, ◌/◌, ◌^◌, ◌<◌, ◌≤◌, max, ⊎_elim, lt_of_le_of_lt, mod-eq_of_lt, div-le_self, arith}
use Rattle.base.proofs.Cases.{lt-or-ge}
use Rattle.times.specs.Clocks.{cycles_of_mhz6, mhz6_of_cycles, t5_hz}
use Rattle.times.proofs.Exact.{count-exact}

pub whole-count : (into n hz : ℕ) → n < 2 ^ 32 → into ≤ max (cycles_of_mhz6 n hz) 1 → mhz6_of_cycles into hz ≡ into * t5_hz / hz
whole-count into n hz g h =
    ⊎_elim
    (λ (l : cycles_of_mhz6 n hz < into).
    let k : into * t5_hz < 2 ^ 32 = omega arith in
    mod-eq_of_lt (lt_of_le_of_lt (div-le_self (into * t5_hz) hz) k))
    (λ (l : into ≤ cycles_of_mhz6 n hz). count-exact into n hz l g)
    (lt-or-ge (cycles_of_mhz6 n hz) into)
