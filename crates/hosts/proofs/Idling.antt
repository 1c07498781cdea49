-- Between commands, whatever the host does but give one: the row stays as it is, and the density always. Assumes nothing.
use mathlib.Core.Path.{◌≡◌, refl, ap, ◌∙◌}
use mathlib.Core.Bool.{false}
use mathlib.Core.List.{List, [], ◌∷◌}
use Prim.Native.Nat.{ℕ, zero, suc, ◌+◌}
use native.Mathlib.Nat.{add-zero, add-suc}
use native.Mathlib.Omega.{arith}
use lib.ListN.{set}
use lib.Seq.{set-get_or}
use Rattle.common.proofs.Cases.{never}
use Rattle.activity.specs.Acts.{pass}
use Rattle.activity.specs.Limits.{busy_in}
use Rattle.activity.specs.declared.Act.{Act}
use Rattle.activity.specs.declared.Activity.{Activity}
use Rattle.activity.specs.declared.Activity.TheVariants.{Idle, Seek, Pulse, Stop, Settle, Search, Window, Data, Hunt, Address, Await, Preamble, Put, Format, FormatCrc}
use Rattle.activity.specs.declared.Deed.TheVariants.{Nothing}
use Rattle.act.specs.Turns.{begun_activity, activity_act, act_of}
use Rattle.registers.specs.declared.Lines.{Lines}
use Rattle.registers.specs.Rings.{seen_of}
use Rattle.wd.specs.declared.Machine.{Machine}
use Rattle.wd.specs.Turns.{sees_of, does_of, act_applied, cell_turn}
use Rattle.wd.specs.Rows.{under, byte_time, byte_time_row}
use Rattle.reachable.specs.Growth.{Fixed}
use Rattle.reachable.proofs.AsGiven.{byte_time_machine, byte_time_row_lem}
use Rattle.reachable.proofs.Fixed.{as_given, further, load_fixed, read_fixed, byte_time_fixed}
use Rattle.hosts.specs.Hosts.{Call, loads, reads, called_of, called_all, NoneAccepted, Host, Desk, served_at, passes_under, at, AloneUntil}
use Rattle.hosts.specs.Bytes.{deed_at}
use Rattle.hosts.proofs.QuietCalls.{calls_activity}
use Rattle.hosts.proofs.Views.{DoneAt, done_machine, done_row}
use Rattle.hosts.proofs.ByteTimes.{finds, done_or_not, deed_done, deed_none}
use Rattle.refusals.specs.Numbers.{refused, done}
use Rattle.refusals.proofs.Outcomes.{done_decided}

-- ---- length and density

call_fixed : (m : Machine) (c : Call) → Fixed m (called_of m c)
unfolding called_of
call_fixed m (loads l number b byte) = load_fixed m l number b
call_fixed m (reads l number) = read_fixed m l number

pub calls_fixed : (m : Machine) (cs : List Call) → Fixed m (called_all m cs)
unfolding called_all
calls_fixed m [] = as_given m
calls_fixed m (c ∷ cs) = further (call_fixed m c) (calls_fixed (called_of m c) cs)

-- whatever a host does, accepted commands and refused calls too
pub host_fixed : (h : Host) (d : Desk) (n : ℕ) → Fixed d.machine (at h d n).machine
unfolding at served_at passes_under
host_fixed h d zero = as_given d.machine
host_fixed h d (suc n) =
    further (host_fixed h d n)
    (further (calls_fixed (at h d n).machine (h.calls n))
    (byte_time_fixed (called_all (at h d n).machine (h.calls n)) (h.lines n) (at h d n).row))

-- ---- what an idle machine does

-- a machine that is not Busy is idle
is_idle : (a : Activity) → busy_in a ≡ false → a ≡ Idle
unfolding busy_in
is_idle Idle e = refl
is_idle (Seek left) e = never (cc)
is_idle Pulse e = never (cc)
is_idle (Stop left) e = never (cc)
is_idle (Settle left) e = never (cc)
is_idle (Search pulses scan) e = never (cc)
is_idle (Window left passed run) e = never (cc)
is_idle (Data left crc deleted) e = never (cc)
is_idle (Hunt pulses run) e = never (cc)
is_idle (Address passed crc track) e = never (cc)
is_idle Await e = never (cc)
is_idle (Preamble left passed) e = never (cc)
is_idle (Put left crc) e = never (cc)
is_idle (Format crc) e = never (cc)
is_idle (FormatCrc crc) e = never (cc)

idle_does : (m : Machine) (l : Lines) (cell : ℕ) → m.activity ≡ Idle → does_of m l cell ≡ pass (sees_of m l cell) Idle Nothing
unfolding act_of begun_activity activity_act
idle_does m l cell e = ap (act_of m.order (sees_of m l cell)) e

-- ---- one byte time

module _ (m : Machine) (l : Lines) (row : List ℕ) where
  rests : m.activity ≡ Idle → ((byte_time m l row).machine.activity ≡ Idle) × (byte_time_row m l row ≡ row)
  unfolding cell_turn act_applied seen_of
  rests idle = by (done_decided (byte_time m l row).outcome)
    where
      by : Dec ((byte_time m l row).outcome ≡ done) → ((byte_time m l row).machine.activity ≡ Idle) × (byte_time_row m l row ≡ row)
      by (yes done) =
          let does = idle_does m l (under m row) idle in (
            ap (λ (n : Machine). n.activity) (done_machine m l row done) ∙ ap (λ a. a.next) does,
            done_row m l row done
                ∙ ap (λ a. set row m.ring.position a.cell) does
                ∙ set-get_or row m.ring.position 0,
          )
      by (no refused) = (
        ap (λ (n : Machine). n.activity) (byte_time_machine m l row refused) ∙ idle,
        byte_time_row_lem m l row refused,
      )

-- of any host that gives no command before it: nothing happens
pub idle_deed :
    (h : Host) (d : Desk) (n : ℕ)
    → NoneAccepted (at h d n).machine (h.calls n)
    → busy_in (at h d n).machine.activity ≡ false
    → deed_at h d n ≡ Nothing
idle_deed h d n quiet over = by (done_or_not h d n)
  where
    idle : (finds h d n).activity ≡ Idle
    idle = calls_activity (at h d n).machine (h.calls n) quiet ∙ is_idle (at h d n).machine.activity over

    by : Dec (DoneAt h d n) → deed_at h d n ≡ Nothing
    by (yes done) = deed_done h d n done ∙ ap (λ (a : Act). a.deed) (idle_does (finds h d n) (h.lines n) _ idle)
    by (no refused) = deed_none h d n refused

-- ---- any number of them

module _ (h : Host) (d : Desk) where
  idles : (n k : ℕ)
      → AloneUntil h d (n + k)
      → (at h d n).machine.activity ≡ Idle
      → ((at h d (n + k)).machine.activity ≡ Idle) × ((at h d (n + k)).row ≡ (at h d n).row)
  unfolding at served_at passes_under
  idles n zero alone idle = rw (add-zero n) (idle, refl)
  idles n (suc k) alone idle =
      let before = idles n k (λ i l. alone i (omega arith)) idle in
      let here = rests (called_all (at h d (n + k)).machine (h.calls (n + k))) (h.lines (n + k)) (at h d (n + k)).row
      (calls_activity (at h d (n + k)).machine (h.calls (n + k)) (alone (n + k) (omega arith)) ∙ before.0) in
      rw (add-suc n k) (here.0, here.1 ∙ before.1)

  -- a command that is over stays so, and has left its row
  module _ (n k : ℕ) (alone : AloneUntil h d (n + k)) (over : busy_in (at h d n).machine.activity ≡ false) where
    pub stays_over : busy_in (at h d (n + k)).machine.activity ≡ false
    unfolding busy_in
    stays_over = ap busy_in (idles n k alone (is_idle (at h d n).machine.activity over)).0

    pub left_row : (at h d (n + k)).row ≡ (at h d n).row
    left_row = (idles n k alone (is_idle (at h d n).machine.activity over)).1
