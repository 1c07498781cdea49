-- The field that a Write Sector leaves is one that a Read Sector reads: its mark is the first in the window, and its CRC is
-- good. Assumes nothing.
use mathlib.Core.Path.{◌≡◌, ap, ap₂, ◌∙◌}
use mathlib.Core.Bool.{Bool, true, false}
use Prim.Native.Nat.{ℕ, suc, ◌+◌, ◌/◌, ◌%◌, ◌≤◌, ◌<◌}
use native.Mathlib.Nat.{mod-eq_of_lt}
use native.Mathlib.Omega.{arith}
use Rattle.crc.specs.Crc.{crc_byte}
use Rattle.crc.proofs.Laws.{closes}
use Rattle.scan.specs.Marks.{byte_of, lead_of, mark_crc}
use Rattle.scan.specs.DataMarks.{mark_byte, window_of}
use Rattle.writing.specs.Writing.{last_kept, last_zero, mark_place}
use Rattle.hosts.proofs.DataFields.{sum_after, sum_same}
use Rattle.hosts.proofs.Windows.{unmet_by}
use Rattle.hosts.proofs.ReadThrough.{FieldIn}
use Rattle.exact.proofs.SectorField.{Field, sum_of, field_put, numbers, put, put_data, put_high, put_low, sum_word}
use Rattle.exact.proofs.OneMark.{Behind, none_before, met_there}

-- the window is wide enough for the mark
in_window : (mfm : Bool) → mark_place mfm ≤ window_of mfm
unfolding mark_place last_zero last_kept lead_of window_of
in_window false = omega arith
in_window true = omega arith

module _ (f : Field) (cells : ℕ → ℕ) (b : Behind f cells) where
  -- the cells after the mark, as the write put them
  cell_put : (i : ℕ) → i < f.size + 3 → cells (mark_place f.mfm + i) ≡ field_put f i
  cell_put i l = b.are (mark_place f.mfm + i) (omega arith) ∙ put f i

  -- their bytes
  abbrev byte : ℕ → ℕ
  byte i = byte_of (cells (mark_place f.mfm + i))

  pub data_byte : (i : ℕ) → i < f.size → byte_of (cells (mark_place f.mfm + i)) ≡ f.bytes i
  data_byte i l = ap byte_of (cell_put i (omega arith) ∙ put_data f i l) ∙ mod-eq_of_lt (b.low i l)

  sum_fits : sum_of f < 65536
  sum_fits = sum_word f b.low

  high_byte : byte f.size ≡ sum_of f / 256
  high_byte =
      let word : sum_of f < 65536 = sum_fits in
      ap byte_of (cell_put f.size (omega arith) ∙ put_high f) ∙ mod-eq_of_lt (omega arith)

  low_byte : byte (f.size + 1) ≡ sum_of f % 256
  low_byte =
      let word : sum_of f < 65536 = sum_fits in
      ap byte_of (cell_put (f.size + 1) (omega arith) ∙ put_low f) ∙ mod-eq_of_lt (omega arith)

  -- the register after the data, and after the two CRC cells
  abbrev register : ℕ → ℕ
  register = sum_after (mark_crc f.mfm (mark_byte f.data_mark)) byte

  behind_data : register f.size ≡ sum_of f
  behind_data =
      sum_same (mark_crc f.mfm (mark_byte f.data_mark)) byte f.bytes f.size data_byte

  behind_crc : register (suc (suc f.size)) ≡ 0
  unfolding sum_after
  behind_crc =
      let e : suc f.size ≡ f.size + 1 = omega arith in
      ap₂ crc_byte (ap₂ crc_byte behind_data high_byte) (ap byte e ∙ low_byte) ∙ closes (sum_of f) sum_fits

  -- of that density and size
  pub field_read :
      (mfm : Bool) (size : ℕ)
      → mfm ≡ f.mfm
      → size ≡ f.size
      → FieldIn mfm cells size f.data_mark (mark_place f.mfm)
  field_read mfm size density same =
      record {
        some = omega (arith, (numbers f.mfm).mark_last);
        first = λ u e.
            record {
              near = rw density (omega (arith, in_window f.mfm));
              none = λ j l. rw density (unmet_by _ (none_before f cells b j (omega arith)));
              met = rw density (met_there f cells b u e);
            };
        closed =
            let two : suc (suc f.size) ≡ f.size + 2 = omega arith in
            rw (density, same) (rw two at behind_crc);
      }
