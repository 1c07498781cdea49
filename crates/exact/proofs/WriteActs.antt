-- What a byte time of a Write Sector does, by what it finds it doing. Assumes nothing.
use mathlib.Core.Path.{◌≡◌, refl, sym, subst}
use mathlib.Core.Bool.{Bool, true, false, ◌&&◌}
use Prim.Native.Nat.{ℕ, ◌+◌, ◌≤◌, ◌<◌}
use native.Mathlib.Omega.{arith}
use lib.Dec.{eqb}
use borrow.Author.Tests.{lt-ltb, le-leb, ne_eqb}
use Rattle.common.proofs.Cases.{by_cond}
use Rattle.command.specs.Bits.{mark_written}
use Rattle.command.specs.Commands.{job_of}
use Rattle.command.specs.declared.Order.{Order}
use Rattle.command.specs.declared.Job.{Job}
use Rattle.command.specs.declared.Job.TheVariants as job
use Rattle.command.proofs.Tables.{field_size_some}
use Rattle.activity.specs.Acts.{pass}
use Rattle.activity.specs.declared.Seen.{Seen}
use Rattle.activity.specs.declared.Act.{Act}
use Rattle.activity.specs.declared.Activity.{Activity}
use Rattle.activity.specs.declared.Activity.TheVariants.{Idle, Preamble, Put}
use Rattle.activity.specs.declared.Deed.{Deed}
use Rattle.activity.specs.declared.Deed.TheVariants.{Matched, NotFound, Late}
use Rattle.scan.specs.DataMarks.{mark_byte}
use Rattle.search.specs.Search.{after_match}
use Rattle.writing.specs.Writing.{last_kept, mark_place, preamble_cell, preamble_next, preamble_deed, preamble_turn, put_cell}
use Rattle.act.specs.Turns.{begun_activity, activity_act, act_of}
use Rattle.act.proofs.Acts.{Passes, Acts, enters, turns}
use Rattle.registers.specs.declared.Flags.{Flags}
use Rattle.effects.specs.Effects.{effect_of}
use Rattle.effects.proofs.Apart.{flags_after}
use Rattle.hosts.specs.Bytes.{takes}
use Rattle.hosts.proofs.Searching.{writes}
use Rattle.hosts.proofs.Silent.{Silent, nothing, matched, lost, Early, settles, searches, early_on}
use Rattle.exact.proofs.SectorField.{numbers}

-- ---- deeds that take no byte and leave Lost Data as it is

pub record Still (deed : Deed) : Type 0 where
  pub takes_none : takes deed ≡ false
  pub lost_kept : (f : Flags) (drq : Bool) → (flags_after f drq deed).lost ≡ f.lost

pub silent_still : {deed : Deed} → Silent deed → Still deed
unfolding takes flags_after effect_of
silent_still nothing = record { takes_none = refl; lost_kept = λ f drq. refl }
silent_still (matched bad) = record { takes_none = refl; lost_kept = λ f drq. refl }
silent_still lost = record { takes_none = refl; lost_kept = λ f drq. refl }

pub asks_still : (n : ℕ) → Still (preamble_deed n)
unfolding takes flags_after effect_of preamble_deed
asks_still n =
    by_cond Still (eqb n 2)
    (λ e. record { takes_none = refl; lost_kept = λ f drq. refl })
    (λ e. record { takes_none = refl; lost_kept = λ f drq. refl })

-- ---- acts

module _ (o : Order) (s : Seen) where
  -- settling and searching goes on, fails, or has found an ID: there is a field to write
  pub data EarlyAct : Act → Type 0 where
    goes_on : {next : Activity} {deed : Deed} → Early next → Silent deed → EarlyAct (pass s next deed)
    fails : EarlyAct (pass s Idle NotFound)
    finds : {left : ℕ} → 3 < left → EarlyAct (pass s (Preamble left 0) (Matched false))

  found_act : (length : ℕ) (j : Job) → j ≡ job.WriteSector → EarlyAct (pass s (after_match o.ibm length j) (Matched false))
  unfolding after_match
  found_act length j e =
      subst (λ (k : Job). EarlyAct (pass s (after_match o.ibm length k) (Matched false))) (sym e)
      (finds (omega (arith, field_size_some o.ibm length)))

  module _ (job_is : job_of o.command ≡ job.WriteSector) where
    acted : {a : Activity} {act : Act} → Early a → Acts o s a act → EarlyAct act
    acted settles (Acts.passes Passes.settles) = goes_on settles nothing
    acted settles (Acts.passes (Passes.stop_fails st)) = elim st [ ]
    acted settles (Acts.passes (Passes.stop_verifies st e)) = elim st [ ]
    acted settles (Acts.passes (Passes.stop_halts st)) = elim st [ ]
    acted settles (Acts.writes f w) = elim w [ ]
    acted searches (Acts.passes Passes.search_fails) = fails
    acted searches (Acts.passes (Passes.search_goes_on few e)) = goes_on searches nothing
    acted searches (Acts.passes (Passes.bad_match few)) = goes_on searches (matched true)
    acted searches (Acts.passes (Passes.good_match id)) = found_act id.length (job_of o.command) job_is
    acted searches (Acts.passes (Passes.stop_fails st)) = elim st [ ]
    acted searches (Acts.passes (Passes.stop_verifies st e)) = elim st [ ]
    acted searches (Acts.passes (Passes.stop_halts st)) = elim st [ ]
    acted searches (Acts.writes f w) = elim w [ ]

    pub early_act : (a : Activity) → Early a → EarlyAct (act_of o s a)
    early_act a early = acted (early_on o s (rw job_is writes) early (enters o s a)) (turns o s a)

  -- "Still on at 10: Lost Data, end, nothing written."
  pub late_act : (left passed : ℕ)
      → (eqb (passed + 1) 10 && s.drq) ≡ true
      → act_of o s (Preamble left passed) ≡ pass s Idle Late
  unfolding act_of begun_activity activity_act preamble_turn
  late_act left passed e = simp e

  -- up to there it leaves the cells
  pub waits_act : (left passed : ℕ)
      → passed ≤ 9
      → (eqb (passed + 1) 10 && s.drq) ≡ false
      → act_of o s (Preamble left passed) ≡ pass s (Preamble left (passed + 1)) (preamble_deed (passed + 1))
  unfolding act_of begun_activity activity_act preamble_turn preamble_cell preamble_next
  waits_act left passed few e =
      let x = numbers s.mfm in
      simp (
        e,
        le-leb (passed + 1) (last_kept s.mfm) (omega (arith, x.some)),
        lt-ltb (passed + 1) (mark_place s.mfm) (omega (arith, x.some, x.kept_first, x.mark_last)),
      )

  -- after it nothing ends it before the data
  pub past_act : (left passed : ℕ)
      → 10 ≤ passed
      → (act_of o s (Preamble left passed)).next ≡ preamble_next s.mfm left (passed + 1) (mark_byte (mark_written o.byte))
  unfolding act_of begun_activity activity_act preamble_turn
  past_act left passed many = simp (ne_eqb (passed + 1) 10 (omega arith))

  -- "Each data cell takes DR"
  pub data_act : (left crc : ℕ) → 3 < left → takes (act_of o s (Put left crc)).deed ≡ true
  unfolding act_of begun_activity activity_act put_cell takes
  data_act left crc some = simp (le-leb 4 left some)
