-- A Read Sector that ends by itself, with m or without: the records that it has passed, and what it ends with. Assumes nothing.
use mathlib.Core.Path.{◌≡◌, refl, sym, ap, ◌∙◌, subst}
use mathlib.Core.Bool.{Bool, true, false, true≢false, not}
use Prim.Native.Nat.{ℕ, zero, suc, ◌+◌, ◌%◌, ◌≤◌, ◌<◌}
use native.Mathlib.Decide.{dec_lt}
use native.Mathlib.Omega.{arith}
use lib.Dec.{eqb}
use Rattle.common.proofs.Cases.{never}
use Rattle.scan.specs.DataMarks.{is_deleted}
use Rattle.scan.specs.Streams.{crc_from, scan_after}
use Rattle.command.specs.Bits.{is_multiple}
use Rattle.command.specs.Commands.{class_of}
use Rattle.command.specs.declared.Command.TheVariants.{ReadSector}
use Rattle.activity.specs.Limits.{busy_in}
use Rattle.activity.specs.declared.Activity.{Activity}
use Rattle.activity.specs.declared.Activity.TheVariants.{Idle, Settle}
use Rattle.registers.specs.declared.Flags.{Flags}
use Rattle.accepting.specs.Accepting.{held_by, writes}
use Rattle.reachable.proofs.Valid.{Valid, load_valid}
use Rattle.hosts.specs.Hosts.{at}
use Rattle.hosts.specs.Scenes.{Scene, loaded}
use Rattle.hosts.proofs.Accepted.{accepted_valid, flags_given, given_flags}
use Rattle.hosts.proofs.ByteTimes.{next_flags, kind_later}
use Rattle.hosts.proofs.Courses.{AnyRow}
use Rattle.hosts.proofs.Found.{two_begins, two_enters}
use Rattle.hosts.proofs.Intrq.{ends_told}
use Rattle.hosts.proofs.Phases.{Stands}
use Rattle.hosts.proofs.Searching.{reads_two}
use Rattle.hosts.proofs.Silent.{silent_deleted}
use Rattle.hosts.proofs.Seeking.{Entry}
use Rattle.hosts.proofs.Views.{View, stays_valid}
use Rattle.hosts.proofs.Working.{TakenUp, Working, ended_working, ended_upto, course_of, Heads, heads_by, begins, waits_silent}
use Rattle.multiple.specs.Multiple.{EndedReadSector, end_of, cells_by, RecordFrom, field_cells, GoodCrc, passed_by, GoodRecords, none, more, deleted_after, LastSearch, NoRecord}
use Rattle.multiple.proofs.Cells.{view_at}
use Rattle.multiple.proofs.Searches.{Begins, KeepsDrq, Comes, goes_on, stops, lost, searched}

module _ {s : Scene} {n : ℕ} (e : EndedReadSector s n) where
  -- ---- its status bits, and INTRQ

  pub valid : Valid (end_of s n)
  valid =
      stays_valid s.host (loaded s)
      (load_valid s.machine s.lines 0 s.byte (accepted_valid s.machine s.lines s.byte e.accepted)) n

  pub begun_flags : (loaded s).machine.flags ≡ flags_given (held_by ReadSector s.lines)
  unfolding class_of
  begun_flags = given_flags s ReadSector e.reads refl e.accepted

  pub type_two : (end_of s n).flags.type1 ≡ false
  type_two = (kind_later s.host (loaded s) n e.alone).1 ∙ ap (λ (f : Flags). f.type1) begun_flags

  pub raised : (end_of s n).wires.intrq ≡ true
  raised = ends_told s ReadSector e.reads (λ f. never (cc)) e.accepted n e.alone e.ends

  -- ---- accepted with the drive ready

  module _ (ready : s.lines.ready ≡ true) where
    pub given : TakenUp s ReadSector
    unfolding class_of held_by writes
    given =
        record {
          decodes = e.reads;
          works = refl;
          accepted = e.accepted;
          stays = simp ready;
        }

    abbrev w : Working AnyRow s ReadSector
    w = ended_working given n e.alone e.ends

    -- it comes to nothing after its end
    upto : {t k : ℕ} {v : View} {a : Activity} {missing : Bool} → Stands (course_of w) t v k missing a → t + k ≤ n
    upto {t} {k} here = ended_upto given n e.alone e.ends (t + k) here.inside

    -- and where it comes to be idle it has ended
    ends_at : {t k : ℕ} {v : View} {missing : Bool} → Stands (course_of w) t v k missing Idle → t + k ≡ n
    unfolding busy_in
    ends_at {t} {k} here = by (dec_lt (t + k) n)
      where
        by : Dec (t + k < n) → t + k ≡ n
        by (yes l) =
            absurd (true≢false (sym (e.ends.busy (t + k) l) ∙ ap (λ (v : View). busy_in v.activity) here.view))
        by (no l) = omega (arith, upto here)

    -- with this SR, and bit 4 on or off
    left_with :
        {sector t k : ℕ} {a : Activity} {missing : Bool}
        → Stands (course_of w) t (view_at s sector t a) k missing Idle
        → ((end_of s n).regs.sr ≡ sector) × ((end_of s n).flags.missing ≡ missing)
    left_with here =
        let there = ends_at here in
        (rw there at (ap (λ (v : View). v.sr) here.view), rw there at (ap (λ (v : View). v.missing) here.view))

    -- ---- from a search on

    pub data How (sector t : ℕ) : Type 0 where
      stopped : (r : RecordFrom s sector t)
          → (is_multiple s.byte ≡ true → GoodCrc r → ⊥)
          → n ≡ passed_by r
          → (end_of s n).flags.crc ≡ not (eqb (crc_from (cells_by s) r.mark_at (field_cells r)) 0)
          → (end_of s n).flags.missing ≡ false
          → (end_of s n).flags.deleted ≡ is_deleted r.mark
          → KeepsDrq w n
          → How sector t
      missed : NoRecord s sector t n
          → (end_of s n).flags.missing ≡ true
          → (end_of s n).flags.deleted ≡ (end_of s t).flags.deleted
          → How sector t

    pub record Ended (sector t : ℕ) : Type 0 where
      pub since : ℕ
      pub good : GoodRecords s sector t (end_of s n).regs.sr since
      pub how : How (end_of s n).regs.sr since
      pub deleted : (end_of s since).flags.deleted ≡ deleted_after (end_of s t).flags.deleted good
      -- without m it is at the first record, or at none
      pub single : is_multiple s.byte ≡ false → (since ≡ t) × ((end_of s n).regs.sr ≡ sector)

    -- at once, with SR as it is
    here_ended : {sector t : ℕ} → (end_of s n).regs.sr ≡ sector → How sector t → Ended sector t
    unfolding deleted_after
    here_ended {sector} {t} sr how =
        let before : Bool = (end_of s t).flags.deleted in
        let at_none : (good : GoodRecords s sector t (end_of s n).regs.sr t) × (before ≡ deleted_after before good) =
        subst (λ (next : ℕ). (good : GoodRecords s sector t next t) × (before ≡ deleted_after before good)) (sym sr) (none, refl) in
        record {
          since = t;
          good = at_none.0;
          how = subst (λ (next : ℕ). How next t) (sym sr) how;
          deleted = at_none.1;
          single = λ without. (refl, sr);
        }

    -- each record takes byte times, so there are no more of them than byte times
    ended : (fuel sector t : ℕ) → n < t + fuel → Begins w sector t → Ended sector t
    unfolding deleted_after
    ended zero sector t l b = absurd (omega (arith, upto b.stands))
    ended (suc fuel) sector t l b = by (ended fuel) (searched w sector t b)
      where
        by : ((sector u : ℕ) → n < u + fuel → Begins w sector u → Ended sector u) → Comes w sector t → Ended sector t
        by after (goes_on r multiple good lasting deleted next) =
            let rest = after ((sector + 1) % 256) (passed_by r) (omega (arith, r.id.after, r.marked.within.low)) next in
            record {
              since = rest.since;
              good = more r good rest.good;
              how = rest.how;
              deleted = rest.deleted ∙ ap (λ (before : Bool). deleted_after before rest.good) deleted;
              single = λ without. absurd (true≢false (sym multiple ∙ without));
            }
        by after (stops r bad lasting k last_cell here crc deleted drq) =
            let there = ends_at here in
            let told = left_with here in
            here_ended told.0
            (stopped r bad (sym there ∙ last_cell) (rw there at crc) told.1 (rw there at deleted) (subst (KeepsDrq w) there drq))
        by after (lost k nothing here deleted) =
            let there = ends_at here in
            let told = left_with here in
            here_ended told.0 (missed (subst (NoRecord s sector t) there nothing) told.1 (rw there at deleted))

    -- ---- from its first search on

    pub heads : Heads (ended_working given n e.alone e.ends)
    heads = heads_by w n e.ends

    pub its : Ended s.machine.regs.sr heads.begun
    unfolding scan_after
    its =
        ended (suc n) s.machine.regs.sr heads.begun (omega arith)
        (record {
          first = Settle 0;
          entry = Entry.settled heads.hlt (two_begins w reads_two heads) (two_enters w reads_two heads);
          stands = begins w heads;
        })

    -- up to that bit 5 is off
    waits_deleted : (k : ℕ) → k ≤ heads.begun → (end_of s k).flags.deleted ≡ false
    unfolding at
    waits_deleted zero l = ap (λ (f : Flags). f.deleted) begun_flags
    waits_deleted (suc k) l =
        ap (λ (f : Flags). f.deleted) (next_flags s.host (loaded s) k (e.alone k (omega (arith, upto (begins w heads)))))
        ∙ silent_deleted _ (waits_silent w heads reads_two k (omega arith)) _ _
        ∙ waits_deleted k (omega arith)

    -- and in the search that it ends in it is that of the last record before
    pub deleted_since : (end_of s its.since).flags.deleted ≡ deleted_after false its.good
    deleted_since = its.deleted ∙ ap (λ (before : Bool). deleted_after before its.good) (waits_deleted heads.begun (omega arith))

    abbrev pub last : LastSearch s n
    last =
        record {
          begun = heads.begun;
          begins = record { settled = heads.settled; hlt = heads.hlt; off = heads.off };
          since = its.since;
          good = its.good;
          raised = raised;
        }
