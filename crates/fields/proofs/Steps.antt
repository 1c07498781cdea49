-- A turn of the loops that look for an ID and for a data mark: what is left to look for from here is what was left before.
-- Assumes nothing.
use Rattle.std.proofs.Common.{◌≡◌, Bool, List, ℕ, suc, ◌+◌, ◌-◌, ◌≤◌, ◌<◌, add-one, arith}
use Rattle.std.specs.Prelude.{None, Some}
use Rattle.scan.specs.declared.Id.{Id}
use Rattle.scan.specs.declared.Scan.{Scan}
use Rattle.scan.specs.declared.Heard.TheVariants.{On, Whole}
use Rattle.scan.specs.declared.DataMark.{DataMark}
use Rattle.scan.specs.declared.Sought.TheVariants as sought
use Rattle.scan.specs.Ids.{id_step}
use Rattle.scan.specs.DataMarks.{data_mark_step}
use Rattle.fields.specs.Rings.{cells_of}
use Rattle.fields.specs.Ids.{found_at, found_by, heard_in}
use Rattle.fields.specs.DataMarks.{marked_at, met_by, sought_in}

-- of n things one more is left
left : (n at : ℕ) → at < n → n - at ≡ suc (n - (at + 1))
left n at h = omega arith

module _ (mfm : Bool) (row : List ℕ) (to at : ℕ) (scan : Scan) where
  pub heard_none : to ≤ at → heard_in mfm row (to - at) at scan ≡ None
  unfolding heard_in
  heard_none h = let none : to - at ≡ 0 = omega arith in rw none

  pub heard_on : (s : Scan) → at < to → id_step mfm (cells_of row at) scan ≡ On s
      → heard_in mfm row (to - at) at scan ≡ heard_in mfm row (to - (at + 1)) (at + 1) s
  unfolding heard_in found_by
  heard_on s h e = rw (left to at h, e, add-one at)

  pub heard_whole : (id : Id) → at < to → id_step mfm (cells_of row at) scan ≡ Whole id
      → heard_in mfm row (to - at) at scan ≡ Some (found_at id (at + 1))
  unfolding heard_in found_by
  heard_whole id h e = rw (left to at h, e, add-one at)

module _ (mfm : Bool) (row : List ℕ) (place window passed run : ℕ) where
  pub sought_none : window ≤ passed → sought_in mfm row place (window - passed) passed run ≡ None
  unfolding sought_in
  sought_none h = let none : window - passed ≡ 0 = omega arith in rw none

  pub sought_on : (r : ℕ) → passed < window → data_mark_step mfm (cells_of row (place + passed)) run ≡ sought.On r
      → sought_in mfm row place (window - passed) passed run ≡ sought_in mfm row place (window - (passed + 1)) (passed + 1) r
  unfolding sought_in met_by
  sought_on r h e = rw (left window passed h, e, add-one passed)

  pub sought_met : (mark : DataMark) → passed < window → data_mark_step mfm (cells_of row (place + passed)) run ≡ sought.Met mark
      → sought_in mfm row place (window - passed) passed run ≡ Some (marked_at mark (passed + 1))
  unfolding sought_in met_by
  sought_met mark h e = rw (left window passed h, e, add-one passed)

pub ruleset hearing = (heard_none, heard_on, heard_whole)

pub ruleset seeking = (sought_none, sought_on, sought_met)
