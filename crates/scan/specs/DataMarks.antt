-- Data marks, document 01, "Fields", and document 02, f, "Old single-density marks". Assumes nothing.
use Rattle.std.specs.Prelude.{Bool, true, false, not, cond, ℕ, eqb}
use Rattle.scan.specs.declared.Passed.{Passed}
use Rattle.scan.specs.declared.Passed.TheVariants.{Gap, Mark}
use Rattle.scan.specs.declared.DataMark.{DataMark}
use Rattle.scan.specs.declared.DataMark.TheVariants.{Fb, F8, F9, Fa}
use Rattle.scan.specs.declared.Sought.{Sought}
use Rattle.scan.specs.declared.Sought.TheVariants.{On, Met}
use Rattle.scan.specs.Marks.{mark_step}

-- the byte of each data mark
unfoldable pub mark_byte : DataMark → ℕ
mark_byte Fb = 0xFB
mark_byte F8 = 0xF8
mark_byte F9 = 0xF9
mark_byte Fa = 0xFA

-- "Data marks are FB (normal) and F8 (deleted)."; "F9 counts as deleted, FA as normal."
unfoldable pub is_deleted : DataMark → Bool
is_deleted Fb = false
is_deleted F8 = true
is_deleted F9 = true
is_deleted Fa = false

-- "In FM only, flagged F9 and FA become data marks": whether a density has the mark
unfoldable pub density_has : Bool → DataMark → Bool
density_has mfm Fb = true
density_has mfm F8 = true
density_has mfm F9 = not mfm
density_has mfm Fa = not mfm

-- one that the density has is met, and any other passed over
abbrev pub met_in : Bool → DataMark → Sought
met_in mfm mark = cond (density_has mfm mark) (Met mark) (On 0)

-- "What finds a data mark must say which of the four it met"; "Other marks there are passed over."
unfoldable pub data_mark_of : Bool → ℕ → Sought
data_mark_of mfm b =
    cond (eqb b 0xFB) (met_in mfm Fb)
    (cond (eqb b 0xF8) (met_in mfm F8)
    (cond (eqb b 0xF9) (met_in mfm F9)
    (cond (eqb b 0xFA) (met_in mfm Fa)
    (On 0))))

unfoldable pub data_mark_in : Bool → Passed → Sought
data_mark_in mfm (Gap run) = On run
data_mark_in mfm (Mark b) = data_mark_of mfm b

unfoldable pub data_mark_step : Bool → ℕ → ℕ → Sought
data_mark_step mfm cell run = data_mark_in mfm (mark_step mfm cell run)

-- "The mark byte must be among the first 30 (FM) or 43 (MFM) cells after the ID's last; in MFM its three A1s too."
abbrev pub longest_window : ℕ
longest_window = 43

unfoldable pub window_of : Bool → ℕ
window_of mfm = cond mfm longest_window 30
