-- What the viewer takes for the data field of a sector is one that a Read Sector meets after the ID: the same mark, the same
-- cells, the CRC good. Assumes nothing.
use mathlib.Core.Path.{◌≡◌, sym, ap, ◌∙◌}
use mathlib.Core.Bool.{Bool}
use mathlib.Core.List.{List}
use Prim.Native.Nat.{ℕ, suc, ◌+◌, ◌-◌, ◌<◌}
use native.Mathlib.Nat.{mod-eq_of_lt}
use native.Mathlib.Omega.{arith}
use lib.ListN.{get_or}
use Rattle.scan.specs.Marks.{byte_of, lead_of, mark_crc}
use Rattle.scan.specs.DataMarks.{mark_byte, is_deleted}
use Rattle.scan.specs.Streams.{id_width, crc_from}
use Rattle.scan.proofs.Marks.{mark_last_byte}
use Rattle.fields.specs.Rings.{cells_of}
use Rattle.fields.specs.Rounds.{FirstMark}
use Rattle.viewer.specs.Plain.{SectorAt}
use Rattle.hosts.specs.Scenes.{counts_deleted}
use Rattle.hosts.proofs.DataFields.{sum_after, deleted_byte}
use Rattle.hosts.proofs.FirstMarks.{stands_first, field_register}
use Rattle.hosts.proofs.ReadThrough.{FieldIn}

module _ (mfm : Bool) (row : List ℕ) (track number p from to : ℕ) (sector : SectorAt mfm row track number p from to) where
  abbrev first : FirstMark mfm (cells_of row) (p + id_width mfm) sector.mark sector.at sector.cell
  first = sector.marked

  -- nothing of it is past the last cell
  pub in_row : (k : ℕ) → k < to + 2 → cells_of row k ≡ get_or row k 0
  unfolding cells_of
  in_row k l = ap (λ (x : ℕ). get_or row x 0) (mod-eq_of_lt (omega (arith, sector.inside)))

  -- the cell before the data cells is the mark's
  pub deleted_told : is_deleted sector.mark ≡ counts_deleted (byte_of (get_or row (from - 1) 0))
  deleted_told =
      let e : from - 1 ≡ sector.at + lead_of mfm = omega (arith, first.within.byte, sector.begins) in
      deleted_byte sector.mark
      ∙ ap counts_deleted
      (sym
      (ap byte_of (sym (in_row (from - 1) (omega (arith, sector.ends))) ∙ ap (cells_of row) e)
      ∙ mark_last_byte mfm (cells_of row) sector.at (mark_byte sector.mark) first.within.stands))

  -- a stream that is the ring from the ID's last cell on
  module _ (cells : ℕ → ℕ) (agree : (j : ℕ) → cells j ≡ cells_of row (p + id_width mfm + j)) where
    -- the register from the mark on is the one after the mark, and on
    closed :
        (size : ℕ)
        → to ≡ from + size
        → sum_after (mark_crc mfm (mark_byte sector.mark)) (λ i. byte_of (cells (sector.cell + i))) (size + 2) ≡ 0
    closed size ends =
        let width : suc (lead_of mfm) + (size + 2) ≡ lead_of mfm + 1 + (to - from) + 2 = omega arith in
        field_register mfm (cells_of row) cells (p + id_width mfm) agree sector.mark sector.at sector.cell
        first.within (size + 2)
        ∙ ap (crc_from (cells_of row) sector.at) width
        ∙ sector.closed

    pub sector_field : (size : ℕ) → to ≡ from + size → FieldIn mfm cells size sector.mark sector.cell
    sector_field size ends =
        record {
          some = omega (arith, first.within.low, first.within.byte);
          first =
              stands_first mfm (cells_of row) cells (p + id_width mfm) agree sector.mark sector.at sector.cell first;
          closed = closed size ends;
        }
