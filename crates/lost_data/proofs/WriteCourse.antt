-- What a write can be doing, and its acts. Assumes nothing.
use mathlib.Core.Path.{◌≡◌, refl, sym, ap, ◌∙◌}
use mathlib.Core.Bool.{Bool, true, false, true≢false, cond, not, ◌&&◌}
use Prim.Native.Nat.{ℕ, ◌+◌, ◌%◌}
use lib.Dec.{ltb, leb, eqb}
use Rattle.common.proofs.Cases.{by_cond, both, never}
use Rattle.crc.specs.Crc.{preset}
use Rattle.scan.specs.DataMarks.{mark_byte}
use Rattle.scan.specs.declared.Scan.{Scan}
use Rattle.command.specs.Bits.{is_multiple, mark_written}
use Rattle.command.specs.Commands.{job_of}
use Rattle.command.specs.declared.Order.{Order}
use Rattle.command.specs.declared.Job.{Job}
use Rattle.command.specs.declared.Job.TheVariants as job
use Rattle.activity.specs.Acts.{write, taken_of}
use Rattle.activity.specs.declared.Seen.{Seen}
use Rattle.activity.specs.declared.Act.{Act}
use Rattle.activity.specs.declared.Activity.{Activity}
use Rattle.activity.specs.declared.Activity.TheVariants.{Idle, Settle, Search, Await, Preamble, Put, Format, FormatCrc}
use Rattle.activity.specs.declared.Deed.{Deed}
use Rattle.activity.specs.declared.Deed.TheVariants.{Nothing, Matched, NotFound, Written, Ask, Late, Take}
use Rattle.search.specs.Search.{after_match, after_record}
use Rattle.writing.specs.Writing.{mark_place, preamble_next, preamble_deed, preamble_turn, put_cell}
use Rattle.formatting.specs.Formatting.{until_last, presets, laid_cell, format_cell, format_crc_cell}
use Rattle.act.specs.Turns.{format_begun, job_begun, begun_activity, settle_turn, await_turn, activity_act, act_of}
use Rattle.act.proofs.Acts.{Passes, Acts, acts}

pub data WriteJob : Job → Type 0 where
  sector : WriteJob job.WriteSector
  track : WriteJob job.WriteTrack

-- the activities of each; one that awaits its first pulse does so under a condition
pub data InWrite (Awaits : Type 0) : Job → Activity → Type 0 where
  over : {j : Job} → InWrite Awaits j Idle
  settles : {j : Job} {left : ℕ} → WriteJob j → InWrite Awaits j (Settle left)
  searches : {pulses : ℕ} {scan : Scan} → InWrite Awaits job.WriteSector (Search pulses scan)
  in_preamble : {left passed : ℕ} → InWrite Awaits job.WriteSector (Preamble left passed)
  puts : {left crc : ℕ} → InWrite Awaits job.WriteSector (Put left crc)
  awaits : Awaits → InWrite Awaits job.WriteTrack Await
  formats : {crc : ℕ} → InWrite Awaits job.WriteTrack (Format crc)
  formats_crc : {crc : ℕ} → InWrite Awaits job.WriteTrack (FormatCrc crc)

abbrev pub Writing : Job → Activity → Type 0
Writing = InWrite (Unit {0})

-- deeds that leave DRQ and Lost Data
pub data LeavesDrq : Deed → Type 0 where
  nothing : LeavesDrq Nothing
  matches : {bad : Bool} → LeavesDrq (Matched bad)
  fails : LeavesDrq NotFound
  written : {follows : Bool} → LeavesDrq (Written follows)

-- what a write does to the cell that passes, what it goes on with, and its deed: it takes a byte, or 00 if DRQ is on, and ends
-- with Lost Data only if DRQ is on
pub data WriteDeed (drq : Bool) : ℕ → Activity → Deed → Type 0 where
  leaves : {cell : ℕ} {next : Activity} {deed : Deed} → LeavesDrq deed → WriteDeed drq cell next deed
  asks : {cell : ℕ} {next : Activity} → WriteDeed drq cell next (Ask true)
  asks_no_more : {cell : ℕ} → WriteDeed drq cell Idle (Ask false)
  takes : {cell : ℕ} {next : Activity} {on : Bool} → (drq ≡ true → cell ≡ 0x00) → WriteDeed drq cell next (Take on)
  terminates : {cell : ℕ} → drq ≡ true → WriteDeed drq cell Idle Late

pub record WriteAct (drq : Bool) (j : Job) (act : Act) : Type 0 where
  pub next : Writing j act.next
  pub deed : WriteDeed drq act.cell act.next act.deed

module _ (o : Order) (s : Seen) where
  -- what acts: at a pulse a Write Track that still awaits it has DRQ on
  abbrev Acting : Job → Activity → Type 0
  Acting = InWrite (s.index ≡ true → s.drq ≡ true)

  opens : Acting job.WriteTrack (format_begun s)
  unfolding format_begun
  opens = by s.index s.drq
    where
      by :
          (index drq : Bool)
          → InWrite (index ≡ true → drq ≡ true) job.WriteTrack (cond (index && not drq) (Format preset) Await)
      by true true = awaits (λ e. refl)
      by true false = formats
      by false drq = awaits (λ e. absurd (true≢false (sym e)))

  begins : {j : Job} → WriteJob j → Acting j (job_begun s j)
  unfolding job_begun
  begins sector = searches
  begins track = opens

  begun : {j : Job} {a : Activity} → job_of o.command ≡ j → Writing j a → Acting j (begun_activity o s a)
  unfolding begun_activity
  begun is over = over
  begun is (settles {j} {left} writes) =
      rw is (by_cond (Acting j) (eqb left 0 && s.hlt) (λ e. begins writes) (λ e. settles writes))
  begun is searches = searches
  begun is in_preamble = in_preamble
  begun is puts = puts
  begun is (awaits any) = opens
  begun is formats = formats
  begun is formats_crc = formats_crc

  -- an act that writes this cell, goes on with this, and does that
  abbrev Goes : Job → Act → Type 0
  Goes = WriteAct s.drq

  searched :
      {n : ℕ} {scan : Scan} {act : Act}
      → job_of o.command ≡ job.WriteSector
      → Acts o s (Search n scan) act
      → Goes job.WriteSector act
  unfolding after_match
  searched is (Acts.passes Passes.search_fails) = record { next = over; deed = leaves fails }
  searched is (Acts.passes (Passes.search_goes_on few e)) = record { next = searches; deed = leaves nothing }
  searched is (Acts.passes (Passes.bad_match few)) = record { next = searches; deed = leaves matches }
  searched is (Acts.passes (Passes.good_match id)) = record { next = rw is in_preamble; deed = leaves matches }
  searched is (Acts.passes (Passes.stop_fails st)) = elim st [ ]
  searched is (Acts.passes (Passes.stop_verifies st e)) = elim st [ ]
  searched is (Acts.passes (Passes.stop_halts st)) = elim st [ ]
  searched is (Acts.writes f w) = elim w [ ]

  -- "Still on at 10: Lost Data, end"
  preamble : (left passed : ℕ) → Goes job.WriteSector (preamble_turn s (mark_byte (mark_written o.byte)) left passed)
  unfolding preamble_turn preamble_next preamble_deed
  preamble left passed =
      by_cond (Goes job.WriteSector) (eqb (passed + 1) 10 && s.drq)
      (λ e. record { next = over; deed = terminates (both (eqb (passed + 1) 10) s.drq e).1 })
      (λ e.
      record {
        next = by_cond (Writing job.WriteSector) (ltb (passed + 1) (mark_place s.mfm)) (λ f. in_preamble) (λ f. puts);
        deed = by_cond (WriteDeed s.drq _ _) (eqb (passed + 1) 2) (λ f. asks) (λ f. leaves nothing);
      })

  -- "Each data cell takes DR, or 00 .. if DRQ is on"
  zero_taken : s.drq ≡ true → taken_of s ≡ 0x00
  unfolding taken_of
  zero_taken on = simp on

  put : (left crc : ℕ) → Goes job.WriteSector (put_cell s (is_multiple o.byte) left crc)
  unfolding put_cell after_record
  put left crc =
      by_cond (Goes job.WriteSector) (leb 4 left)
      (λ e. record { next = puts; deed = takes zero_taken })
      (λ e.
      by_cond (Goes job.WriteSector) (eqb left 3)
      (λ f. record { next = puts; deed = leaves nothing })
      (λ f.
      by_cond (Goes job.WriteSector) (eqb left 2)
      (λ g. record { next = puts; deed = leaves nothing })
      (λ g.
      record {
        next = by_cond (Writing job.WriteSector) (is_multiple o.byte) (λ i. searches) (λ i. over);
        deed = leaves written;
      })))

  -- 00 is no F7, and is laid as it is
  zero_laid : (mfm : Bool) → laid_cell mfm 0x00 ≡ 0x00
  unfolding laid_cell presets
  zero_laid true = refl
  zero_laid false = refl

  format : (crc : ℕ) → Goes job.WriteTrack (format_cell s crc)
  unfolding format_cell until_last
  format crc =
      by_cond (Goes job.WriteTrack) (eqb (taken_of s) 0xF7)
      (λ e.
      record {
        next = by_cond (Writing job.WriteTrack) s.last (λ f. over) (λ f. formats_crc);
        deed = takes (λ on. let z : eqb 0x00 0xF7 ≡ true = sym (ap (λ (b : ℕ). eqb b 0xF7) (zero_taken on)) ∙ e in never (cc));
      })
      (λ e.
      record {
        next = by_cond (Writing job.WriteTrack) s.last (λ f. over) (λ f. formats);
        deed = takes (λ on. ap (laid_cell s.mfm) (zero_taken on) ∙ zero_laid s.mfm);
      })

  -- "cell L - 1 ends it, DRQ off"
  format_crc :
      (last : Bool) (crc : ℕ)
      → Goes job.WriteTrack (write (crc % 256) (until_last last (Format 0x0000)) (Ask (not last)))
  unfolding until_last
  format_crc true crc = record { next = over; deed = asks_no_more }
  format_crc false crc = record { next = formats; deed = asks }

  acted : {j : Job} {a : Activity} → job_of o.command ≡ j → Acting j a → Goes j (activity_act o s a)
  unfolding activity_act settle_turn await_turn format_crc_cell
  acted is over = record { next = over; deed = leaves nothing }
  acted is (settles writes) = record { next = settles writes; deed = leaves nothing }
  acted is (searches {pulses} {scan}) = searched is (acts o s (Search pulses scan))
  acted is (in_preamble {left} {passed}) = preamble left passed
  acted is (puts {left} {crc}) = put left crc
  acted is (awaits still) =
      by_cond (Goes job.WriteTrack) s.index
      (λ e. record { next = over; deed = terminates (still e) })
      (λ e. record { next = awaits tt; deed = leaves nothing })
  acted is (formats {crc}) = format crc
  acted is (formats_crc {crc}) = format_crc s.last crc

  pub write_act : {a : Activity} → Writing (job_of o.command) a → WriteAct s.drq (job_of o.command) (act_of o s a)
  unfolding act_of
  write_act writing = acted refl (begun refl writing)
