-- The data mark after an ID, on a ring of cells. Assumes nothing.
use Rattle.std.specs.Prelude.{Bool, List, ℕ, zero, suc, ◌+◌, Option, None, Some}
use Rattle.scan.specs.declared.DataMark.{DataMark}
use Rattle.scan.specs.declared.Sought.{Sought}
use Rattle.scan.specs.declared.Sought.TheVariants.{On, Met}
use Rattle.scan.specs.DataMarks.{data_mark_step, window_of}
use Rattle.fields.specs.declared.Marked.{Marked}
use Rattle.fields.specs.Rings.{cells_of}

abbrev pub marked_at : DataMark → ℕ → Marked
marked_at mark cell = record { mark = mark; cell = cell }

-- what the scanner said to a cell of the window, and which one it was, counted from 1
unfoldable pub met_by : Sought → ℕ → (ℕ → Option Marked) → Option Marked
met_by (On run) cell more = more run
met_by (Met mark) cell more = Some (marked_at mark cell)

-- the first data mark of n cells, where so many of the window have passed
unfoldable pub sought_in : Bool → List ℕ → ℕ → ℕ → ℕ → ℕ → Option Marked
sought_in mfm row place zero passed run = None
sought_in mfm row place (suc n) passed run =
    met_by (data_mark_step mfm (cells_of row (place + passed)) run) (suc passed) (λ r. sought_in mfm row place n (suc passed) r)

-- "The mark byte must be among the first 30 (FM) or 43 (MFM) cells after the ID's last": the first data mark there
unfoldable pub mark_behind : Bool → List ℕ → ℕ → Option Marked
mark_behind mfm row place = sought_in mfm row place (window_of mfm) 0 0
