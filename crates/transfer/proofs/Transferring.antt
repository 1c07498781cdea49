-- A byte time in which a byte is transferred does what the definition of a byte time says. Assumes nothing.
use mathlib.Core.Path.{◌≡◌, refl, ap}
use mathlib.Core.Bool.{Bool, true, ◌||◌}
use Prim.Native.Nat.{ℕ, ◌≤◌, ◌-◌}
use native.Mathlib.Omega.{arith}
use lib.Dec.{ltb, eqb}
use borrow.Author.Tests.{ltb-false, le-leb}
use Rattle.common.proofs.Cases.{by_cond, neither}
use Rattle.crc.specs.Crc.{crc_byte}
use Rattle.scan.specs.Marks.{byte_of}
use Rattle.command.specs.declared.Order.{Order}
use Rattle.activity.specs.Limits.{busy_in}
use Rattle.activity.specs.declared.Seen.{Seen}
use Rattle.activity.specs.declared.Activity.{Activity}
use Rattle.activity.specs.declared.Activity.TheVariants.{Idle, Seek, Pulse, Stop, Settle, Search, Window, Data, Hunt, Address, Await, Preamble, Put, Format, FormatCrc}
use Rattle.activity.specs.declared.Deed.{Deed}
use Rattle.activity.specs.declared.Deed.TheVariants.{Deliver, Take}
use Rattle.reading.specs.Reading.{data_cell}
use Rattle.activity.specs.Acts.{taken_of}
use Rattle.writing.specs.Writing.{put_cell}
use Rattle.formatting.specs.Formatting.{until_last, laid_cell, laid_crc, format_cell}
use Rattle.act.specs.Turns.{begun_activity, activity_act, act_of}
use Rattle.effects.specs.Effects.{delivered, cell_taken, effect_of}
use Rattle.effects.specs.declared.Parts.{Parts}
use Rattle.transfer.specs.declared.Transfer.{Transfer}
use Rattle.std.specs.Prelude.{Option, Some, None}
use Rattle.transfer.specs.Transfers.{read_transfer, write_transfer, format_transfer, transfer_in}

-- ---- what the byte time does

-- it goes on with the activity, leaves the cell so, and its deed delivers the byte to DR
pub record Goes (o : Order) (s : Seen) (a next : Activity) (dr cell : ℕ) : Type 0 where
  pub deed : Deed
  pub does : act_of o s a ≡ record { next = next; deed = deed; cell = cell }
  pub effect : (p : Parts) → p.regs.dr ≡ s.dr → effect_of p deed ≡ delivered p dr
  pub busy : busy_in next ≡ true

delivers :
    (o : Order) (s : Seen) (a next : Activity) (b cell : ℕ)
    → act_of o s a ≡ record { next = next; deed = Deliver b; cell = cell }
    → busy_in next ≡ true
    → Goes o s a next b cell
unfolding effect_of
delivers o s a next b cell does busy =
    record { deed = Deliver b; does = does; effect = λ p e. refl; busy = busy }

takes :
    (o : Order) (s : Seen) (a next : Activity) (cell : ℕ)
    → act_of o s a ≡ record { next = next; deed = Take true; cell = cell }
    → busy_in next ≡ true
    → Goes o s a next s.dr cell
unfolding effect_of cell_taken delivered
takes o s a next cell does busy =
    record {
      deed = Take true;
      does = does;
      effect = λ p e. ap (λ (d : ℕ). delivered p d) e;
      busy = busy;
    }

-- what a transfer says of the byte time
abbrev pub Says : Order → Seen → Activity → Option Transfer → Type 0
Says o s a None = Unit {0}
Says o s a (Some t) = Goes o s a t.next t.dr t.cell

read_says : (o : Order) (s : Seen) (left crc : ℕ) (deleted : Bool) → Says o s (Data left crc deleted) (read_transfer s left crc deleted)
unfolding read_transfer act_of begun_activity activity_act data_cell busy_in
read_says o s left crc deleted =
    by_cond (Says o s (Data left crc deleted)) (ltb left 3) (λ e. tt)
    (λ e.
    delivers o s (Data left crc deleted) (Data (left - 1) (crc_byte crc (byte_of s.cell)) deleted) (byte_of s.cell) s.cell
    (rw (le-leb 3 left (ltb-false left 3 e)) refl)
    refl)

written_says : (o : Order) (s : Seen) (left crc : ℕ) → Says o s (Put left crc) (write_transfer s left crc)
unfolding write_transfer act_of begun_activity activity_act put_cell busy_in
written_says o s left crc =
    by_cond (Says o s (Put left crc)) (ltb left 5) (λ e. tt)
    (λ e.
    let five : 5 ≤ left = ltb-false left 5 e in
    takes o s (Put left crc) (Put (left - 1) (crc_byte crc (taken_of s))) (taken_of s)
    (rw (le-leb 4 left (omega arith), le-leb 5 left five) refl)
    refl)

formatted_says : (o : Order) (s : Seen) (crc : ℕ) → Says o s (Format crc) (format_transfer s crc)
unfolding format_transfer act_of begun_activity activity_act format_cell until_last busy_in
formatted_says o s crc =
    by_cond (Says o s (Format crc)) (eqb (taken_of s) 0xF7 || s.last) (λ e. tt)
    (λ e.
    let h = neither (eqb (taken_of s) 0xF7) s.last e in
    takes o s (Format crc) (Format (laid_crc s.mfm crc (taken_of s))) (laid_cell s.mfm (taken_of s))
    (rw (h.0, h.1) refl)
    refl)

pub says : (o : Order) (s : Seen) (a : Activity) → Says o s a (transfer_in s a)
unfolding transfer_in
says o s Idle = tt
says o s (Seek left) = tt
says o s Pulse = tt
says o s (Stop left) = tt
says o s (Settle left) = tt
says o s (Search pulses scan) = tt
says o s (Window left passed run) = tt
says o s (Data left crc deleted) = read_says o s left crc deleted
says o s (Hunt pulses run) = tt
says o s (Address passed crc track) = tt
says o s Await = tt
says o s (Preamble left passed) = tt
says o s (Put left crc) = written_says o s left crc
says o s (Format crc) = formatted_says o s crc
says o s (FormatCrc crc) = tt
