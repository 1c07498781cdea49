-- A Read Sector that has found its ID: its record, and the two ends that a single one comes to, at the window's last cell and
-- with the record's last cell. Assumes nothing.
use mathlib.Core.Path.{◌≡◌}
use mathlib.Core.Bool.{true, false}
use mathlib.Core.List.{List}
use Prim.Native.Nat.{ℕ, suc, ◌+◌, ◌-◌, ◌<◌}
use native.Mathlib.Omega.{arith}
use Rattle.scan.specs.Marks.{mark_crc}
use Rattle.scan.specs.DataMarks.{mark_byte, is_deleted, window_of}
use Rattle.scan.specs.declared.DataMark.{DataMark}
use Rattle.command.specs.Bits.{is_multiple}
use Rattle.command.specs.Commands.{job_of}
use Rattle.command.specs.Orders.{order_of}
use Rattle.command.specs.declared.Command.TheVariants.{ReadSector}
use Rattle.search.specs.Search.{after_match}
use Rattle.hosts.specs.Scenes.{Scene}
use Rattle.hosts.proofs.Views.{View}
use Rattle.hosts.proofs.Courses.{Lasts}
use Rattle.hosts.proofs.Searching.{reads_two}
use Rattle.hosts.proofs.ReadActs.{single_over}
use Rattle.hosts.proofs.Records.{Marked, closing, record_lasts, record_ends}
use Rattle.hosts.proofs.Windows.{NoMarkIn, FirstMarkIn, cells_after, Opened, opened_lasts, unmarked, marked, window_some}
use Rattle.hosts.proofs.Working.{Working, course_of, Heads, beginning, beginning_track, OverAt, over_at}
use Rattle.hosts.proofs.Found.{Found, found_size, found_view, found_lasts}

module _ {Rows : List ℕ → Type 0} {s : Scene} {w : Working Rows s ReadSector} {heads : Heads w}
    (f : Found w reads_two heads) where
  abbrev view : View
  view = beginning w heads

  -- the cells up to the ID's last
  abbrev j : ℕ
  j = suc f.q

  pub found_opens :
      Opened (course_of w) heads.begun (beginning w heads) (suc f.q) (found_size f)
  unfolding after_match job_of
  found_opens =
      record { track = beginning_track w heads; rows = w.rows; begins = found_view f }

  before : (k : ℕ) → k < j → Lasts (course_of w) s.row (heads.begun + k)
  before k l = found_lasts f k (omega arith)

  -- "No data mark by the window's last cell: bit 4, end there."
  pub unmarked_over :
      NoMarkIn s.machine.mfm (cells_after (beginning w heads) (suc f.q)) (window_of s.machine.mfm)
      → OverAt s (heads.begun + (suc f.q + window_of s.machine.mfm)) true
  unmarked_over none =
      over_at w heads (unmarked found_opens none)
      (λ k l.
      opened_lasts found_opens before (window_of s.machine.mfm - 1) (omega (arith, window_some s.machine.mfm))
      (λ i g. none i (omega arith)) k (omega arith))

  module _ (u : ℕ) (mark : DataMark)
      (first : FirstMarkIn s.machine.mfm (cells_after (beginning w heads) (suc f.q)) mark u) where
    pub found_marked :
        Marked (course_of w) heads.begun (beginning w heads) (suc f.q + suc u) (found_size f)
        (mark_crc s.machine.mfm (mark_byte mark)) (is_deleted mark)
    found_marked =
        record { track = beginning_track w heads; rows = w.rows; begins = marked found_opens u mark first }

    -- "At the second CRC cell: .. Busy off, INTRQ."
    pub marked_over :
        is_multiple s.byte ≡ false
        → OverAt s (heads.begun + (suc f.q + suc u + (found_size f + 2))) false
    unfolding order_of
    marked_over single =
        over_at w heads (record_ends found_marked (single_over _ (closing found_marked) single))
        (record_lasts found_marked
        (λ k l. opened_lasts found_opens before u first.near first.none k (omega arith)))
