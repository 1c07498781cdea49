-- The step times, as one statement over one list. Assumes nothing.
use mathlib.Core.Path.{◌≡◌, refl}
use mathlib.Core.List.{[], ◌∷◌, map}
use Prim.Native.Nat.{◌*◌}
use Rattle.command.specs.Times.{step_times, rounded_up}

-- the step times are 6, 12, 20, 30 ms in byte times of 64 us (FM) and 32 us (MFM), rounded up
pub step_times_rounded_up :
    step_times ≡ map (λ byte_time. map (λ ms. rounded_up (ms * 1000) byte_time) (6 ∷ 12 ∷ 20 ∷ 30 ∷ [])) (64 ∷ 32 ∷ [])
step_times_rounded_up = refl
