-- What a byte time's deed does to registers, DRQ, flags and head: document 01, "Moving bytes", Type I, "Fields".
-- Assumes nothing.
use Rattle.std.specs.Prelude.{Bool, true, cond, not, ◌&&◌, ◌||◌, ℕ, ◌+◌, ◌%◌}
use Rattle.activity.specs.declared.Deed.{Deed}
use Rattle.activity.specs.declared.Deed.TheVariants.{Nothing, Deliver, Named, Matched, NotFound, Record, Written, Ask, Late, Take, Step, Halt}
use Rattle.registers.specs.declared.Regs.{Regs}
use Rattle.registers.specs.declared.Flags.{Flags}
use Rattle.registers.specs.declared.Head.{Head}
use Rattle.registers.specs.declared.Pulse.{Pulse}
use Rattle.registers.specs.declared.Pulse.TheVariants as pulse
use Rattle.effects.specs.declared.Parts.{Parts}

-- ---- one part anew, all else stays

abbrev pub with_regs : Parts → Regs → Parts
with_regs p r = record { regs = r; drq = p.drq; flags = p.flags; head = p.head; pulse = p.pulse }

abbrev pub with_drq : Parts → Bool → Parts
with_drq p on = record { regs = p.regs; drq = on; flags = p.flags; head = p.head; pulse = p.pulse }

abbrev pub with_flags : Parts → Flags → Parts
with_flags p f = record { regs = p.regs; drq = p.drq; flags = f; head = p.head; pulse = p.pulse }

abbrev pub with_head : Parts → Head → Parts
with_head p h = record { regs = p.regs; drq = p.drq; flags = p.flags; head = h; pulse = p.pulse }

abbrev pub with_pulse : Parts → Pulse → Parts
with_pulse p q = record { regs = p.regs; drq = p.drq; flags = p.flags; head = p.head; pulse = q }

abbrev pub with_tr : Regs → ℕ → Regs
with_tr r tr = record { tr = tr; sr = r.sr; dr = r.dr }

abbrev pub with_sr : Regs → ℕ → Regs
with_sr r sr = record { tr = r.tr; sr = sr; dr = r.dr }

abbrev pub with_dr : Regs → ℕ → Regs
with_dr r dr = record { tr = r.tr; sr = r.sr; dr = dr }

abbrev pub with_lost : Flags → Bool → Flags
with_lost f lost =
    record {
      type1 = f.type1;
      protected = f.protected;
      deleted = f.deleted;
      missing = f.missing;
      crc = f.crc;
      lost = lost;
    }

abbrev pub with_crc : Flags → Bool → Flags
with_crc f crc =
    record {
      type1 = f.type1;
      protected = f.protected;
      deleted = f.deleted;
      missing = f.missing;
      crc = crc;
      lost = f.lost;
    }

abbrev pub with_missing : Flags → Bool → Flags
with_missing f missing =
    record {
      type1 = f.type1;
      protected = f.protected;
      deleted = f.deleted;
      missing = missing;
      crc = f.crc;
      lost = f.lost;
    }

abbrev pub with_deleted : Flags → Bool → Flags
with_deleted f deleted =
    record {
      type1 = f.type1;
      protected = f.protected;
      deleted = deleted;
      missing = f.missing;
      crc = f.crc;
      lost = f.lost;
    }

-- ---- the deeds

-- "Each data byte .. goes to DR and sets DRQ; if DRQ was still on, Lost Data."
unfoldable pub delivered : Parts → ℕ → Parts
delivered p b = with_regs (with_drq (with_flags p (with_lost p.flags (p.flags.lost || p.drq))) true) (with_dr p.regs b)

-- "The six cells .. go to DR as data bytes do; at the sixth, track to SR, bit 3 if bad"
unfoldable pub address_named : Parts → ℕ → ℕ → Bool → Parts
address_named p track b bad =
    with_regs (with_flags (delivered p b) (with_crc (delivered p b).flags (p.flags.crc || bad))) (with_sr (delivered p b).regs track)

-- "With m, SR goes up by one (255 to 0)"
unfoldable pub raised_sr : ℕ → Bool → ℕ
raised_sr sr follows = cond follows ((sr + 1) % 256) sr

unfoldable pub record_over : Parts → Bool → Parts
record_over p follows = with_regs p (with_sr p.regs (raised_sr p.regs.sr follows))

-- "At the second CRC cell: bit 3 if bad, bit 5 on if F8, else off": bit 5 by what the mark counts as; the good match before the record
-- has cleared bit 3
unfoldable pub record_read : Parts → Bool → Bool → Bool → Parts
record_read p deleted bad follows =
    with_flags (record_over p follows) (with_deleted (with_crc p.flags (p.flags.crc || bad)) deleted)

-- "Each data cell takes DR, or 00 with Lost Data if DRQ is on ..; then DRQ is on, but off after the last."
unfoldable pub cell_taken : Parts → Bool → Parts
cell_taken p on = with_drq (with_flags p (with_lost p.flags (p.flags.lost || p.drq))) on

-- "one pulse is reported, TR moves", "Stepping sets the direction, pulse or none."
unfoldable pub stepped : Parts → Bool → ℕ → Parts
stepped p inward track =
    with_pulse (with_head (with_regs p (with_tr p.regs track)) (record { loaded = p.head.loaded; inward = inward }))
    (cond inward pulse.In pulse.Out)

-- "stepping out with track 0 on sets TR 0 and stops", "V: load head"
unfoldable pub halted : Parts → Bool → Bool → Parts
halted p rule load =
    with_head (with_regs p (with_tr p.regs (cond rule 0 p.regs.tr)))
    (record { loaded = p.head.loaded || load; inward = p.head.inward && not rule })

-- "One that matches but has a bad CRC sets bit 3 ..; a good match clears it."; "bit 4, end"; "DRQ at 2"; "Still on at 10: Lost
-- Data, end"
unfoldable pub effect_of : Parts → Deed → Parts
effect_of p Nothing = p
effect_of p (Deliver b) = delivered p b
effect_of p (Named b track bad) = address_named p track b bad
effect_of p (Matched bad) = with_flags p (with_crc p.flags bad)
effect_of p NotFound = with_flags p (with_missing p.flags true)
effect_of p (Record deleted bad follows) = record_read p deleted bad follows
effect_of p (Written follows) = record_over p follows
effect_of p (Ask on) = with_drq p on
effect_of p Late = with_flags p (with_lost p.flags true)
effect_of p (Take on) = cell_taken p on
effect_of p (Step inward track) = stepped p inward track
effect_of p (Halt rule load) = halted p rule load
