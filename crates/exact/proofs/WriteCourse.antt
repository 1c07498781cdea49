-- How a Write Sector goes on up to the first byte that it takes, from its acceptance to its end. Assumes nothing.
use mathlib.Core.Path.{◌≡◌, refl, sym, ap, ◌∙◌, subst}
use mathlib.Core.Bool.{Bool, true, false, ◌&&◌, true≢false}
use mathlib.Core.List.{[]}
use Prim.Native.Nat.{ℕ, zero, suc, ◌+◌, ◌≤◌, ◌<◌}
use native.Mathlib.Nat.{add-zero}
use native.Mathlib.Decide.{dec_lt, ℕ_discrete}
use native.Mathlib.Omega.{arith}
use lib.Dec.{ltb, eqb}
use lib.ListN.{length, length-append}
use borrow.Author.Tests.{eqb-true}
use Rattle.common.proofs.Cases.{by_cond, never, both}
use Rattle.command.specs.Bits.{settles_first}
use Rattle.command.specs.Commands.{class_of, job_of}
use Rattle.command.specs.Orders.{order_of}
use Rattle.command.specs.declared.Command.TheVariants.{WriteSector}
use Rattle.command.specs.declared.Job.TheVariants as job
use Rattle.activity.specs.Acts.{pass}
use Rattle.activity.specs.Limits.{busy_in}
use Rattle.activity.specs.declared.Seen.{Seen}
use Rattle.activity.specs.declared.Act.{Act}
use Rattle.activity.specs.declared.Activity.{Activity}
use Rattle.activity.specs.declared.Activity.TheVariants.{Idle, Preamble, Put}
use Rattle.activity.specs.declared.Deed.{Deed}
use Rattle.activity.specs.declared.Deed.TheVariants.{Ask, Late}
use Rattle.writing.specs.Writing.{mark_place, preamble_next, preamble_deed}
use Rattle.act.specs.Turns.{act_of}
use Rattle.registers.specs.declared.Flags.{Flags}
use Rattle.accepting.specs.Accepting.{ends_at_once, works_from, begin_activity}
use Rattle.effects.proofs.Apart.{flags_after}
use Rattle.wd.specs.declared.Machine.{Machine}
use Rattle.wd.specs.Loads.{command_begun}
use Rattle.hosts.specs.Hosts.{Host, Desk, at}
use Rattle.hosts.specs.Scenes.{Scene, loaded}
use Rattle.hosts.specs.Bytes.{deed_at, takes, collected, taken}
use Rattle.hosts.proofs.Accepted.{accepted_machine, given_flags}
use Rattle.hosts.proofs.Views.{View, outside_at, step_of}
use Rattle.hosts.proofs.Searching.{writes}
use Rattle.hosts.proofs.Silent.{Silent, nothing, matched, lost, Early, settles, searches, early_silent}
use Rattle.exact.specs.LateWrite.{WritePremises, StillOn}
use Rattle.exact.proofs.ByItself.{ByItself, view_at, seen_at, act_at, next_is, deed_is, acts_as, next_activity, next_lost, next_taken, row_kept, none_kept}
use Rattle.exact.proofs.WriteActs.{Still, silent_still, asks_still, EarlyAct, goes_on, fails, finds, early_act, late_act, waits_act, past_act, data_act}

-- a search does not ask
silent_asks : {deed : Deed} → Silent deed → deed ≡ Ask true → ⊥
silent_asks nothing e = never (cc)
silent_asks (matched bad) e = never (cc)
silent_asks lost e = never (cc)

-- byte time k is the second after the ID's last cell, and nothing has been taken before it
pub record Second (s : Scene) (k : ℕ) : Type 0 where
  pub left : ℕ
  pub is : (view_at s.host (loaded s) k).activity ≡ Preamble left 1
  pub none : taken s.host (loaded s) k ≡ []

module _ (s : Scene) (n : ℕ) (asked : WritePremises s n) where
  abbrev h : Host
  h = s.host

  abbrev d : Desk
  d = loaded s

  abbrev itself : ByItself h d n
  itself = record { alone = asked.alone; ends = asked.ends }

  -- as j byte times have passed, and in the next
  abbrev view : ℕ → View
  view j = view_at h d j

  abbrev seen : ℕ → Seen
  seen j = seen_at h d j

  abbrev act : ℕ → Act
  act j = act_at h d j

  abbrev Asks : ℕ → Type 0
  Asks j = deed_at h d j ≡ Ask true

  accepted_as : (loaded s).machine ≡ command_begun s.machine s.lines s.byte WriteSector
  accepted_as = accepted_machine s.machine s.lines s.byte asked.accepted WriteSector asked.writes

  -- the command under way stays
  writes_still : (j : ℕ) → j ≤ n → job_of (view j).order.command ≡ job.WriteSector
  unfolding at command_begun order_of job_of step_of
  writes_still zero l = ap (λ (m : Machine). job_of m.order.command) accepted_as
  writes_still (suc j) l =
      ap (λ (v : View). job_of v.order.command) (next_is itself j l) ∙ writes_still j (omega arith)

  -- ---- how it stands after j byte times

  -- nothing is taken, nothing written, Lost Data off
  record Untouched (j : ℕ) : Type 0 where
    row : (at h d j).row ≡ s.row
    none : taken h d j ≡ []
    lost_off : (at h d j).machine.flags.lost ≡ false

  -- it has asked
  abbrev Asked : ℕ → Type 0
  Asked j = (i : ℕ) × (i < j) × Asks i

  -- its field began with byte time b, and it may still be late
  record Waits (j left passed : ℕ) : Type 0 where
    b : ℕ
    began : b + passed ≡ j
    few : passed ≤ 9
    some : 3 < left
    clean : Untouched j
    quiet : (i : ℕ) → i < j → i ≤ b → Asks i → ⊥
    second : 2 ≤ passed → Asks (suc b)

  data Stage (j : ℕ) : Activity → Type 0 where
    -- it settles or searches, and has not asked
    seeking : {a : Activity} → Early a → Untouched j → ((i : ℕ) → i < j → Asks i → ⊥) → Stage j a
    waiting : {left passed : ℕ} → Waits j left passed → Stage j (Preamble left passed)
    -- it writes what leads to the data, and the data
    leading : {left passed : ℕ} → 10 ≤ passed → 3 < left → Asked j → Stage j (Preamble left passed)
    putting : {left crc : ℕ} → 3 < left → Asked j → Stage j (Put left crc)
    -- it has taken some
    has_taken : {a : Activity} → 0 < length (taken h d j) → Asked j → Stage j a
    -- it is over
    is_over :
        (at h d j).row ≡ s.row
        → taken h d j ≡ []
        → ((at h d j).machine.flags.lost ≡ true → (k : ℕ) × StillOn s n k)
        → Stage j Idle

  -- ---- from one byte time to the next

  module _ (j : ℕ) (l : j < n) where
    asked_on : Asked j → Asked (suc j)
    asked_on (i, before, asks) = (i, omega arith, asks)

    goes_to : {next : Activity} → (act j).next ≡ next → Stage (suc j) next → Stage (suc j) (view (suc j)).activity
    goes_to e = subst (Stage (suc j)) (sym (next_activity itself j l ∙ e))

    keeps : {next : Activity} {deed : Deed} → act j ≡ pass (seen j) next deed → Still deed → Untouched j → Untouched (suc j)
    keeps passes still u =
        record {
          row = row_kept itself j l passes ∙ u.row;
          none = none_kept itself j l passes still.takes_none u.none;
          lost_off =
              next_lost itself j l
              ∙ ap (λ (x : Act). (flags_after (at h d j).machine.flags (outside_at h d j).drq x.deed).lost) passes
              ∙ still.lost_kept (at h d j).machine.flags (outside_at h d j).drq
              ∙ u.lost_off;
        }

    -- "DRQ at 2": the second after the ID's last cell asks, and no other up to the tenth
    asks_one : {left passed : ℕ} → (view j).activity ≡ Preamble left passed → passed ≤ 9 → Asks j → passed ≡ 1
    unfolding preamble_deed
    asks_one {left} {passed} is few asks = by (eqb (passed + 1) 10 && (outside_at h d j).drq) refl
      where
        asks_by : {x : Act} → act_of (view j).order (seen j) (Preamble left passed) ≡ x → x.deed ≡ Ask true
        asks_by e = ap (λ (x : Act). x.deed) (sym e ∙ sym (acts_as itself j l is)) ∙ sym (deed_is itself j l) ∙ asks

        by : (late : Bool) → (eqb (passed + 1) 10 && (outside_at h d j).drq) ≡ late → passed ≡ 1
        by true e = let z : Late ≡ Ask true = asks_by (late_act (view j).order (seen j) left passed e) in never (cc)
        by false e =
            by_cond (λ (deed : Deed). deed ≡ Ask true → passed ≡ 1) (eqb (passed + 1) 2)
            (λ two asks. omega (arith, eqb-true (passed + 1) 2 two))
            (λ other asks. never (cc))
            (asks_by (waits_act (view j).order (seen j) left passed few e))

    -- where this one does not ask, none up to it has
    none_asks :
        {x : Act}
        → act j ≡ x
        → (x.deed ≡ Ask true → ⊥)
        → ((i : ℕ) → i < j → Asks i → ⊥)
        → (i : ℕ)
        → i < suc j
        → Asks i
        → ⊥
    none_asks e other before i m asks = by (dec_lt i j)
      where
        by : Dec (i < j) → ⊥
        by (yes k) = before i k asks
        by (no k) =
            let here : i ≡ j = omega arith in
            other (ap (λ (x : Act). x.deed) (sym e) ∙ sym (deed_is itself j l) ∙ (rw here at asks))

    sought : {x : Act} → act j ≡ x → EarlyAct (view j).order (seen j) x → Untouched j → ((i : ℕ) → i < j → Asks i → ⊥)
        → Stage (suc j) (view (suc j)).activity
    sought e (goes_on early silent) u before =
        goes_to (ap (λ (x : Act). x.next) e)
        (seeking early (keeps e (silent_still silent) u) (none_asks e (silent_asks silent) before))
    sought e fails u before =
        let kept = keeps e (silent_still lost) u in
        goes_to (ap (λ (x : Act). x.next) e)
        (is_over kept.row kept.none (λ on. absurd (true≢false (sym on ∙ kept.lost_off))))
    sought e (finds some) u before =
        goes_to (ap (λ (x : Act). x.next) e)
        (waiting
        (record {
          b = suc j;
          began = add-zero (suc j);
          few = omega arith;
          some = some;
          clean = keeps e (silent_still (matched false)) u;
          quiet = λ i m k. none_asks e (silent_asks (matched false)) before i m;
          second = λ two. absurd (omega arith);
        }))

    module _ {left passed : ℕ} (w : Waits j left passed) where
      -- "Still on at 10: Lost Data, end, nothing written."
      runs_out :
          act j ≡ pass (seen j) Idle Late
          → (eqb (passed + 1) 10 && (outside_at h d j).drq) ≡ true
          → Stage (suc j) (view (suc j)).activity
      unfolding takes
      runs_out e late =
          let (ten, on) = both (eqb (passed + 1) 10) (outside_at h d j).drq late in
          let tenth : passed + 1 ≡ 10 = eqb-true (passed + 1) 10 ten in
          let here : suc w.b + 8 ≡ j = omega (arith, w.began) in
          goes_to (ap (λ (x : Act). x.next) e)
          (is_over (row_kept itself j l e ∙ w.clean.row) (none_kept itself j l e refl w.clean.none)
          (λ told. (
            suc w.b,
            record {
              inside = omega arith;
              asks = w.second (omega arith);
              first = λ i m. w.quiet i (omega arith) (omega arith);
              still = rw here on;
            },
          )))

      asks_then : (act j).deed ≡ preamble_deed (passed + 1) → 2 ≤ passed + 1 → Asks (suc w.b)
      unfolding preamble_deed
      asks_then e two = by (ℕ_discrete passed 1)
        where
          by : Dec (passed ≡ 1) → Asks (suc w.b)
          by (yes one) =
              let here : suc w.b ≡ j = omega (arith, w.began) in
              rw here (deed_is itself j l ∙ e ∙ (rw one refl))
          by (no more) = w.second (omega arith)

      none_yet : (view j).activity ≡ Preamble left passed → (i : ℕ) → i < suc j → i ≤ w.b → Asks i → ⊥
      none_yet is i m before asks = by (dec_lt i j)
        where
          by : Dec (i < j) → ⊥
          by (yes k) = w.quiet i k before asks
          by (no k) =
              let here : i ≡ j = omega arith in
              omega (arith, w.began, asks_one is w.few (rw here at asks))

      waits_on :
          (view j).activity ≡ Preamble left passed
          → act j ≡ pass (seen j) (Preamble left (passed + 1)) (preamble_deed (passed + 1))
          → Stage (suc j) (view (suc j)).activity
      waits_on is e = goes_to (ap (λ (x : Act). x.next) e) (by (dec_lt passed 9))
        where
          by : Dec (passed < 9) → Stage (suc j) (Preamble left (passed + 1))
          by (yes more) =
              waiting {passed = passed + 1}
              (record {
                b = w.b;
                began = omega (arith, w.began);
                few = omega arith;
                some = w.some;
                clean = keeps e (asks_still (passed + 1)) w.clean;
                quiet = none_yet is;
                second = asks_then (ap (λ (x : Act). x.deed) e);
              })
          by (no last) =
              let nine : passed ≡ 9 = omega (arith, w.few) in
              leading {passed = passed + 1} (omega arith) w.some
              (suc w.b, omega (arith, w.began), w.second (omega arith))

      waits_next : (view j).activity ≡ Preamble left passed → Stage (suc j) (view (suc j)).activity
      waits_next is = by (eqb (passed + 1) 10 && (outside_at h d j).drq) refl
        where
          by : (late : Bool) → (eqb (passed + 1) 10 && (outside_at h d j).drq) ≡ late → Stage (suc j) (view (suc j)).activity
          by true e = runs_out (acts_as itself j l is ∙ late_act (view j).order (seen j) left passed e) e
          by false e = waits_on is (acts_as itself j l is ∙ waits_act (view j).order (seen j) left passed w.few e)

    -- bytes once taken stay taken
    longer : length (taken h d j) ≤ length (taken h d (suc j))
    longer = rw (next_taken itself j l, length-append) (omega arith)

    stage_on : {a : Activity} → (view j).activity ≡ a → Stage j a → Stage (suc j) (view (suc j)).activity
    unfolding preamble_next busy_in
    stage_on {a} is (seeking early u before) =
        sought (acts_as itself j l is) (early_act (view j).order (seen j) (writes_still j (omega arith)) a early) u before
    stage_on is (waiting w) = waits_next w is
    stage_on is (leading {left} {passed} many some earlier) =
        goes_to (ap (λ (x : Act). x.next) (acts_as itself j l is) ∙ past_act (view j).order (seen j) left passed many)
        (by_cond (Stage (suc j)) (ltb (passed + 1) (mark_place (view j).mfm))
        (λ e. leading {passed = passed + 1} (omega arith) some (asked_on earlier))
        (λ e. putting some (asked_on earlier)))
    stage_on is (putting {left} {crc} some earlier) =
        let data_cell : takes (act j).deed ≡ true =
        ap (λ (x : Act). takes x.deed) (acts_as itself j l is) ∙ data_act (view j).order (seen j) left crc some in
        has_taken (rw (next_taken itself j l, data_cell, length-append) (omega arith)) (asked_on earlier)
    stage_on is (has_taken many earlier) = has_taken (omega (arith, longer)) (asked_on earlier)
    stage_on is (is_over row none cause) =
        absurd (true≢false (sym (asked.ends.busy j l) ∙ ap busy_in is))

  -- ---- from the acceptance to the end

  clean_start : Untouched 0
  unfolding at collected class_of
  clean_start =
      record {
        row = refl;
        none = refl;
        lost_off =
            ap (λ (f : Flags). f.lost) (given_flags s WriteSector asked.writes refl asked.accepted);
      }

  first_stage : Stage 0 (view 0).activity
  unfolding at command_begun begin_activity class_of works_from
  first_stage =
      subst (Stage 0) (sym (ap (λ (m : Machine). m.activity) accepted_as))
      (by_cond (Stage 0) (ends_at_once WriteSector s.lines)
      (λ e. is_over clean_start.row clean_start.none (λ on. absurd (true≢false (sym on ∙ clean_start.lost_off))))
      (λ e.
      by_cond (Stage 0) (settles_first s.byte)
      (λ f. seeking settles clean_start (λ i m. absurd (omega arith)))
      (λ f. seeking settles clean_start (λ i m. absurd (omega arith)))))

  stage : (j : ℕ) → j ≤ n → Stage j (view j).activity
  stage zero l = first_stage
  stage (suc j) l = stage_on j l refl (stage j (omega arith))

  -- ---- how it ends

  ended_clean : {a : Activity} → busy_in a ≡ false → Stage n a → taken h d n ≡ []
      → ((at h d n).row ≡ s.row) × ((at h d n).machine.flags.lost ≡ true → (k : ℕ) × StillOn s n k)
  unfolding busy_in
  ended_clean idle (seeking settles u before) none = never (cc)
  ended_clean idle (seeking searches u before) none = never (cc)
  ended_clean idle (waiting w) none = never (cc)
  ended_clean idle (leading many some earlier) none = never (cc)
  ended_clean idle (putting some earlier) none = never (cc)
  ended_clean idle (has_taken many earlier) none = absurd (omega (arith, ap length none))
  ended_clean idle (is_over row same cause) none = (row, cause)

  -- one that has taken nothing
  pub at_end : taken h d n ≡ []
      → ((at h d n).row ≡ s.row) × ((at h d n).machine.flags.lost ≡ true → (k : ℕ) × StillOn s n k)
  at_end = ended_clean asked.ends.over (stage n (omega arith))

  -- ---- the first to ask

  module _ (k : ℕ) (l : k < n) (asks : Asks k) (first : (i : ℕ) → i < k → Asks i → ⊥) where
    second : {a : Activity} → (view k).activity ≡ a → Stage k a → Second s k
    unfolding busy_in
    second {a} is (seeking early u before) =
        absurd
        (silent_asks (early_silent (view k).order (seen k) a (rw (writes_still k (omega arith)) writes) early)
        (ap (λ (x : Act). x.deed) (sym (acts_as itself k l is)) ∙ sym (deed_is itself k l) ∙ asks))
    second is (waiting {left} w) =
        record { left = left; is = is ∙ ap (Preamble left) (asks_one k l is w.few asks); none = w.clean.none }
    second is (leading many some (i, m, earlier)) = absurd (first i m earlier)
    second is (putting some (i, m, earlier)) = absurd (first i m earlier)
    second is (has_taken many (i, m, earlier)) = absurd (first i m earlier)
    second is (is_over row none cause) = absurd (true≢false (sym (asked.ends.busy k l) ∙ ap busy_in is))

    pub asks_second : Second s k
    asks_second = second refl (stage k (omega arith))
