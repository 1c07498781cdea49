-- Sessions that demand 2 speaks of, so that it speaks of something, and what it says of them: a sector of 128 bytes in FM, one
-- in MFM with a deleted mark, one with E and C, and one of a WD1797 with U and without L. The writer loads DR where DRQ is on, with the number of the byte time that
-- takes the byte (modulo 256); the reader reads the status before every byte time, and DR where DRQ is on. Assumes nothing.
use mathlib.Core.Bool.{true, false}
use mathlib.Core.List.{◌++◌}
use Rattle.common.specs.Bits.{bit_of}
use Rattle.common.proofs.Arms.{count}
use Rattle.scan.specs.DataMarks.{is_deleted}
use Rattle.command.specs.Bits.{mark_written}
use Rattle.exact.specs.Demand2.{ReadBackPremises}
use Rattle.served.specs.Served.{WriterServes, ReaderServes}
use Rattle.witnesses.proofs.Planned.{session, asked, writer_serves, reader_serves}
use Rattle.witnesses.proofs.ReadBytes.{HandsOver, reads_planned, HostSees, sees_planned}
use Rattle.witnesses.proofs.Runs.{fm, mfm_deleted, fm_settled, two_sided, runs}

-- all that is asked is met, so the bytes that the write took are read back, with the mark that it wrote: 25, 26, .. 152
pub fm_reads_back :
    let s = session fm runs.of_fm in
    ReadBackPremises s 0 × HandsOver s (count 25 128) false
unfolding mark_written bit_of is_deleted
fm_reads_back = (asked fm runs.of_fm, reads_planned fm runs.of_fm)

-- 48, 49, .. 175
pub mfm_reads_back :
    let s = session mfm_deleted runs.of_mfm in
    ReadBackPremises s 0 × HandsOver s (count 48 128) true
unfolding mark_written bit_of is_deleted
mfm_reads_back = (asked mfm_deleted runs.of_mfm, reads_planned mfm_deleted runs.of_mfm)

-- 238, 239, .. 255, 0, 1, .. 109
pub settled_reads_back :
    let s = session fm_settled runs.of_settled in
    ReadBackPremises s 469 × HandsOver s (count 238 18 ++ count 0 110) false
unfolding mark_written bit_of is_deleted
settled_reads_back = (asked fm_settled runs.of_settled, reads_planned fm_settled runs.of_settled)

-- 25, 26, .. 152, of side 1
pub two_sided_reads_back :
    let s = session two_sided runs.of_two_sided in
    ReadBackPremises s 0 × HandsOver s (count 25 128) false
unfolding mark_written bit_of is_deleted
two_sided_reads_back = (asked two_sided runs.of_two_sided, reads_planned two_sided runs.of_two_sided)

-- ---- the hosts

-- they serve each DRQ, so these are the bytes that are loaded into DR and read from it
pub fm_serves :
    let s = session fm runs.of_fm in
    ReadBackPremises s 0 × WriterServes s × ReaderServes s × HostSees s (count 25 128) false
unfolding mark_written bit_of is_deleted
fm_serves =
    let c = runs.of_fm in
    (asked fm c, writer_serves fm c, reader_serves fm c, sees_planned fm c)

pub mfm_serves :
    let s = session mfm_deleted runs.of_mfm in
    ReadBackPremises s 0 × WriterServes s × ReaderServes s × HostSees s (count 48 128) true
unfolding mark_written bit_of is_deleted
mfm_serves =
    let c = runs.of_mfm in
    (asked mfm_deleted c, writer_serves mfm_deleted c, reader_serves mfm_deleted c, sees_planned mfm_deleted c)

pub settled_serves :
    let s = session fm_settled runs.of_settled in
    ReadBackPremises s 469 × WriterServes s × ReaderServes s × HostSees s (count 238 18 ++ count 0 110) false
unfolding mark_written bit_of is_deleted
settled_serves =
    let c = runs.of_settled in
    (asked fm_settled c, writer_serves fm_settled c, reader_serves fm_settled c, sees_planned fm_settled c)

pub two_sided_serves :
    let s = session two_sided runs.of_two_sided in
    ReadBackPremises s 0 × WriterServes s × ReaderServes s × HostSees s (count 25 128) false
unfolding mark_written bit_of is_deleted
two_sided_serves =
    let c = runs.of_two_sided in
    (asked two_sided c, writer_serves two_sided c, reader_serves two_sided c, sees_planned two_sided c)
