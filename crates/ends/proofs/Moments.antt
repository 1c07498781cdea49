-- A byte time of a command whose byte times are counted: what it finds, and what is good of what it does. Assumes nothing.
use mathlib.Core.Path.{◌≡◌, refl}
use mathlib.Core.Bool.{Bool, true, false}
use Prim.Native.Nat.{ℕ, ◌≤◌, ◌<◌}
use native.Mathlib.Omega.{arith}
use lib.Dec.{eqb}
use Rattle.common.proofs.Cases.{by_cond, never}
use Rattle.scan.specs.Rows.{shortest_row}
use Rattle.command.specs.declared.Order.{Order}
use Rattle.activity.specs.Acts.{pass, write, taken_of}
use Rattle.activity.specs.declared.Seen.{Seen}
use Rattle.activity.specs.declared.Act.{Act}
use Rattle.activity.specs.declared.Activity.{Activity}
use Rattle.activity.specs.declared.Activity.TheVariants.{Idle}
use Rattle.activity.specs.declared.Deed.{Deed}
use Rattle.registers.specs.declared.Ring.{Ring}
use Rattle.registers.specs.declared.Regs.{Regs}
use Rattle.effects.proofs.Apart.{regs_after}
use Rattle.registers.specs.Rings.{ring_next}
use Rattle.wd.proofs.Valid.{next_length}
use Rattle.hosts.proofs.Views.{View, Outside, cell_under, seen_in}
use Rattle.ends.proofs.Left.{left_of, Counted, seeks}

-- ---- what it finds

-- HLT is on, the head is on a ring of many cells, the cell under it is none above 511, and DR holds a byte; `target` is DR as
-- a Seek finds it all along
pub record Moment : Type 0 where
  pub target : ℕ
  pub view : View
  pub outside : Outside
  pub inside : view.ring.position < view.ring.length
  pub long : shortest_row ≤ view.ring.length
  pub low : cell_under view ≤ 511
  pub hlt : outside.hlt ≡ true
  pub dr : outside.dr < 256

abbrev pub ring_at : Moment → Ring
ring_at x = x.view.ring

abbrev pub mfm_at : Moment → Bool
mfm_at x = x.view.mfm

abbrev pub order_at : Moment → Order
order_at x = x.view.order

abbrev pub seen_at : Moment → Seen
seen_at x = seen_in x.view x.outside

abbrev pub regs_at : Moment → Regs
regs_at x = record { tr = x.view.tr; sr = x.view.sr; dr = x.outside.dr }

-- the byte times left in this one, and in the next after a deed
abbrev pub left : Moment → Activity → ℕ
left x = left_of (order_at x) (mfm_at x) x.target (ring_at x) x.view.tr

abbrev pub left_after : Moment → Deed → Activity → ℕ
left_after x deed = left_of (order_at x) (mfm_at x) x.target (ring_next (ring_at x)) (regs_after (regs_at x) deed).tr

-- a command that is seeking goes on: DR is the target, and TR a byte
abbrev pub Aims : Moment → Regs → Type 0
Aims x r = (seeks x.view.activity ≡ true) × (r.dr ≡ x.target) × (r.tr < 256)

-- ---- what is good of what it does

-- a cell, and a CRC register
abbrev pub Low : ℕ → Type 0
Low cell = cell ≤ 511

abbrev pub Word : ℕ → Type 0
Word crc = crc < 65536

-- it leaves fewer byte times than `most`, something that is counted on, and a cell that may pass again
pub record Good (x : Moment) (most : ℕ) (act : Act) : Type 0 where
  pub falls : left_after x act.deed act.next < most
  pub counted : Counted (order_at x) act.next
  pub low : act.cell ≤ 511
  pub aims : seeks act.next ≡ true → Aims x (regs_after (regs_at x) act.deed)

module _ (x : Moment) where
  -- one that does not step on
  pub writes : (most cell : ℕ) (next : Activity) (deed : Deed)
      → cell ≤ 511
      → left_after x deed next < most
      → Counted (order_at x) next
      → seeks next ≡ false
      → Good x most (write cell next deed)
  writes most cell next deed low falls counted still =
      record { falls = falls; counted = counted; low = low; aims = λ e. never (cc) }

  pub passes : (most : ℕ) (next : Activity) (deed : Deed)
      → left_after x deed next < most
      → Counted (order_at x) next
      → seeks next ≡ false
      → Good x most (pass (seen_at x) next deed)
  passes most next deed = writes most (seen_at x).cell next deed x.low

  -- one that ends the command
  pub ends : (most : ℕ) (deed : Deed) → 0 < most → Good x most (pass (seen_at x) Idle deed)
  unfolding left_of Counted seeks
  ends most deed some = passes most Idle deed some tt refl

  -- what is good of so many is good of more
  pub more_left : {n most : ℕ} {act : Act} → n ≤ most → Good x n act → Good x most act
  more_left l good =
      record { falls = omega (arith, good.falls); counted = good.counted; low = good.low; aims = good.aims }

  -- the ring keeps its length, which is not one of a cell or two
  pub size : (ring_next (ring_at x)).length ≡ (ring_at x).length
  size = next_length (ring_at x)

  pub some : 2 ≤ (ring_at x).length
  some = omega (arith, x.long)

  -- an index pulse
  abbrev pub index : Bool
  index = eqb (ring_at x).position 0

  -- DR, or 00
  pub taken_byte : taken_of (seen_at x) < 256
  unfolding taken_of
  taken_byte = by_cond (λ (n : ℕ). n < 256) x.outside.drq (λ e. omega arith) (λ e. x.dr)
