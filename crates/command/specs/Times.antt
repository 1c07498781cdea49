-- Byte times of a step and of the head's settling.
-- Assumes nothing.
use Rattle.std.specs.Prelude.{ℕ, ◌+◌, ◌-◌, ◌/◌, ◌%◌, Bool, cond, List, [], ◌∷◌, get_or}

-- The row of a density: FM stands before MFM.
abbrev pub density_of : Bool → ℕ
density_of mfm = cond mfm 1 0

-- "469 (FM) or 938 (MFM)": the settling of the head, and the slowest step
abbrev pub settling_fm : ℕ
settling_fm = 469

abbrev pub settling_mfm : ℕ
settling_mfm = 938

-- Step times, byte times by density and rate code 0-3: FM 94, 188, 313, 469; MFM 188, 375, 625, 938.
abbrev pub step_times : List (List ℕ)
step_times = (94 ∷ 188 ∷ 313 ∷ settling_fm ∷ []) ∷ (188 ∷ 375 ∷ 625 ∷ settling_mfm ∷ []) ∷ []

-- The rate code is the two low bits of a Type I byte.
unfoldable pub step_time_of : Bool → ℕ → ℕ
step_time_of mfm byte = get_or (get_or step_times (density_of mfm) []) (byte % 4) 0

-- The head settles for 469 (FM) or 938 (MFM) byte times.
unfoldable pub settle_time_of : Bool → ℕ
settle_time_of mfm = cond mfm settling_mfm settling_fm

-- n over d, rounded up.
abbrev pub rounded_up : ℕ → ℕ → ℕ
rounded_up n d = (n + (d - 1)) / d
