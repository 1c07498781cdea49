-- The byte times of a command, one after another from a view on: how a phase of it goes on that leaves TR and SR. Assumes
-- nothing.
use mathlib.Core.Path.{◌≡◌, refl, sym, ap, ◌∙◌, subst}
use mathlib.Core.Bool.{Bool, true, ◌||◌, or-false, or-true}
use mathlib.Core.List.{List}
use Prim.Native.Nat.{ℕ, zero, suc, ◌+◌, ◌<◌}
use native.Mathlib.Nat.{add-zero, zero-add, add-suc}
use native.Mathlib.Omega.{arith}
use lib.ListN.{set}
use lib.Seq.{set-get_or}
use Rattle.activity.specs.Acts.{pass, write}
use Rattle.activity.specs.Limits.{busy_in}
use Rattle.activity.specs.declared.Seen.{Seen}
use Rattle.activity.specs.declared.Act.{Act}
use Rattle.activity.specs.declared.Activity.{Activity}
use Rattle.activity.specs.declared.Activity.TheVariants.{Idle}
use Rattle.activity.specs.declared.Deed.{Deed}
use Rattle.activity.specs.declared.Deed.TheVariants.{Nothing, NotFound}
use Rattle.registers.specs.declared.Ring.{Ring}
use Rattle.registers.specs.declared.Flags.{Flags}
use Rattle.registers.specs.Rings.{ring_next}
use Rattle.effects.proofs.Apart.{regs_after, flags_after}
use Rattle.reachable.specs.ByteTimes.{turns_on}
use Rattle.hosts.specs.Hosts.{BusyAt}
use Rattle.hosts.specs.Bytes.{deed_at}
use Rattle.hosts.proofs.RingLaws.{turns_next}
use Rattle.hosts.proofs.Keeps.{KeepsTargets, Keeps, nothing_keeps}
use Rattle.hosts.proofs.Views.{View, view_with, view_of, Outside, cell_under, seen_in, act_in, loses, acted_in, step_of, Calm, calm_view}
use Rattle.hosts.proofs.ByteTimes.{deed_view, next_flags}
use Rattle.hosts.proofs.Courses.{Course, desk_at, beside_at, Lasts}
use Rattle.effects.specs.Effects.{effect_of, delivered, address_named, record_over, record_read, cell_taken, stepped, halted}

-- ---- views

-- how things stand n byte times after it, where nothing but the row, the ring, bit 4 and the activity has changed
abbrev pub comes : View → ℕ → List ℕ → Bool → Activity → View
comes v n row = view_with v row (turns_on n v.ring) v.tr v.sr

-- and the row has not
abbrev pub stands : View → ℕ → Bool → Activity → View
stands v n = comes v n v.row

-- ---- acts

-- an act of a phase: nothing is written, and nothing but the activity changes
pub record PhasePasses (s : Seen) (act : Act) (next : Activity) : Type 0 where
  pub deed : Deed
  pub acts : act ≡ pass s next deed
  pub keeps : Keeps deed

-- one that does nothing else
pub rests : (s : Seen) (act : Act) (next : Activity) → act ≡ pass s next Nothing → PhasePasses s act next
rests s act next acts = record { deed = Nothing; acts = acts; keeps = nothing_keeps }

-- of a view
abbrev pub PassesTo : View → Outside → Activity → Type 0
PassesTo v o next = PhasePasses (seen_in v o) (act_in v o) next

-- ---- deeds

-- a deed that leaves a status bit
abbrev pub Leaves : (Flags → Bool) → Deed → Type 0
Leaves bit deed = (f : Flags) (drq : Bool) → bit (flags_after f drq deed) ≡ bit f

-- ---- a command that has come to a view

module _ {Rows : List ℕ → Type 0} (c : Course Rows) (t : ℕ) (v : View) where
  -- how things stand n byte times after byte time t, which found the view v
  pub record Comes (n : ℕ) (row : List ℕ) (missing : Bool) (a : Activity) : Type 0 where
    pub inside : c.going.within (t + n) ≡ true
    pub view : view_of (desk_at c (t + n)) ≡ comes v n row missing a

  module _ {n : ℕ} {row : List ℕ} {missing : Bool} {a : Activity} (here : Comes n row missing a) (busy : busy_in a ≡ true) where
    pub comes_busy : BusyAt c.host c.desk (t + n)
    comes_busy = ap (λ (w : View). busy_in w.activity) here.view ∙ busy

    pub acts_within : c.going.within (t + suc n) ≡ true
    acts_within = rw (add-suc t n) (c.going.next (t + n) here.inside comes_busy)

    module _ (rows : Rows row) where
      calm : Calm c.host c.desk (t + n)
      calm =
          c.going.calm (t + n) here.inside comes_busy
          (subst Rows (ap (λ (w : View). w.row) (sym here.view)) rows)

      -- what the byte time does, and what it leaves in the status bits
      pub deed_at_lem : deed_at c.host c.desk (t + n) ≡ (act_in (comes v n row missing a) (beside_at c (t + n))).deed
      deed_at_lem =
          deed_view c.host c.desk (t + n) calm comes_busy
          ∙ ap (λ (w : View). (act_in w (beside_at c (t + n))).deed) here.view

      pub flags_next :
          (desk_at c (t + suc n)).machine.flags
          ≡ flags_after (desk_at c (t + n)).machine.flags (beside_at c (t + n)).drq (deed_at c.host c.desk (t + n))
      flags_next = rw (add-suc t n) (next_flags c.host c.desk (t + n) calm.quiet)

      module _ {next : Activity} {cell : ℕ} {deed : Deed}
          (acts : act_in (comes v n row missing a) (beside_at c (t + n)) ≡ write cell next deed) where
        pub deed_is : deed_at c.host c.desk (t + n) ≡ deed
        deed_is = deed_at_lem ∙ ap (λ (x : Act). x.deed) acts

        pub flags_on :
            (desk_at c (t + suc n)).machine.flags
            ≡ flags_after (desk_at c (t + n)).machine.flags (beside_at c (t + n)).drq deed
        flags_on = flags_next ∙ ap (flags_after (desk_at c (t + n)).machine.flags (beside_at c (t + n)).drq) deed_is

        -- one byte time more
        pub acts_on :
            view_of (desk_at c (t + suc n))
            ≡ acted_in (comes v n row missing a) (turns_on (suc n) v.ring) (beside_at c (t + n)).dr (write cell next deed)
        unfolding step_of
        acts_on =
            ap (λ (k : ℕ). view_of (desk_at c k)) (add-suc t n)
            ∙ calm_view c.host c.desk calm comes_busy
            ∙ ap (λ (w : View). step_of w (beside_at c (t + n))) here.view
            ∙ ap (acted_in (comes v n row missing a) (ring_next (turns_on n v.ring)) (beside_at c (t + n)).dr) acts
            ∙ ap (λ (r : Ring). acted_in (comes v n row missing a) r (beside_at c (t + n)).dr (write cell next deed))
            (turns_next n v.ring)

        -- that leaves TR and SR
        comes_on :
            KeepsTargets deed → Comes (suc n) (set row (turns_on n v.ring).position cell) (missing || loses deed) next
        comes_on keeps =
            let r = keeps (record { tr = v.tr; sr = v.sr; dr = (beside_at c (t + n)).dr }) in
            record {
              inside = acts_within;
              view =
                  acts_on
                  ∙ (λ i.
                  view_with v (set row (turns_on n v.ring).position cell) (turns_on (suc n) v.ring) (r.0 i) (r.1 i)
                  (missing || loses deed) next);
            }

        -- and bit 4 too
        pub writes_on : Keeps deed → Comes (suc n) (set row (turns_on n v.ring).position cell) missing next
        writes_on keeps =
            subst (λ (b : Bool). Comes (suc n) (set row (turns_on n v.ring).position cell) b next)
            (ap (λ (b : Bool). missing || b) keeps.found ∙ or-false missing)
            (comes_on keeps.targets)

  -- ---- over a row that it leaves

  abbrev pub Stands : ℕ → Bool → Activity → Type 0
  Stands n = Comes n v.row

  pub stands_lasts : {n : ℕ} {missing : Bool} {a : Activity} → Stands n missing a → busy_in a ≡ true → Lasts c v.row (t + n)
  stands_lasts here busy = record { busy = comes_busy here busy; same = ap (λ (w : View). w.row) here.view }

  module _ (rows : Rows v.row) where
    module _ {n : ℕ} {missing : Bool} {a : Activity} (here : Stands n missing a) (busy : busy_in a ≡ true) where
      -- the cell that passes leaves the row as it was
      left_row : {then : Bool} {next : Activity}
          → Comes (suc n) (set v.row (turns_on n v.ring).position (cell_under (stands v n missing a))) then next
          → Stands (suc n) then next
      left_row {then} {next} =
          subst (λ (row : List ℕ). Comes (suc n) row then next) (set-get_or v.row (turns_on n v.ring).position 0)

      -- to what the act says
      pub passes_on :
          {next : Activity} → PassesTo (stands v n missing a) (beside_at c (t + n)) next → Stands (suc n) missing next
      passes_on act = left_row (writes_on here busy rows act.acts act.keeps)

      -- or to an end with bit 4
      pub loses_on :
          act_in (stands v n missing a) (beside_at c (t + n))
          ≡ pass (seen_in (stands v n missing a) (beside_at c (t + n))) Idle NotFound
          → Stands (suc n) true Idle
      unfolding regs_after loses effect_of delivered address_named record_over record_read cell_taken stepped halted
      loses_on act =
          left_row
          (subst
          (λ (b : Bool).
          Comes (suc n) (set v.row (turns_on n v.ring).position (cell_under (stands v n missing a))) b Idle)
          (or-true missing)
          (comes_on here busy rows act (λ r. (refl, refl))))

    -- a phase from byte time j on: its activities, one byte time after another
    pub lasts_from :
        {missing : Bool} (j : ℕ) (doing : ℕ → Activity) (n : ℕ)
        → ((k : ℕ) → k < n → busy_in (doing k) ≡ true)
        → ((k : ℕ)
        → k < n
        → (o : Outside)
        → o.hlt ≡ (c.host.lines (t + (j + k))).hlt
        → PassesTo (stands v (j + k) missing (doing k)) o (doing (suc k)))
        → Stands j missing (doing 0)
        → Stands (j + n) missing (doing n)
    lasts_from j doing zero busy passes begins = rw (add-zero j) begins
    lasts_from {missing} j doing (suc n) busy passes begins =
        let here : Stands (j + n) missing (doing n) =
        lasts_from j doing n (λ k l. busy k (omega arith)) (λ k l. passes k (omega arith)) begins in
        rw (add-suc j n)
        (passes_on here (busy n (omega arith)) (passes n (omega arith) (beside_at c (t + (j + n))) refl))

    -- a status bit that each of its deeds leaves
    pub bit_stays :
        (bit : Flags → Bool) {missing : Bool} (j : ℕ) (doing : ℕ → Activity) (n : ℕ)
        → ((k : ℕ) → k < n → Stands (j + k) missing (doing k))
        → ((k : ℕ) → k < n → busy_in (doing k) ≡ true)
        → ((k : ℕ) → k < n → Leaves bit (deed_at c.host c.desk (t + (j + k))))
        → bit (desk_at c (t + (j + n))).machine.flags ≡ bit (desk_at c (t + j)).machine.flags
    bit_stays bit j doing zero there busy leaves = ap (λ (k : ℕ). bit (desk_at c (t + k)).machine.flags) (add-zero j)
    bit_stays bit j doing (suc n) there busy leaves =
        rw (add-suc j n)
        (ap bit (flags_next (there n (omega arith)) (busy n (omega arith)) rows)
        ∙ leaves n (omega arith) _ _
        ∙ bit_stays bit j doing n (λ k l. there k (omega arith)) (λ k l. busy k (omega arith)) (λ k l. leaves k (omega arith)))

    -- and one from the view itself on
    pub lasts :
        {missing : Bool} (doing : ℕ → Activity) (n : ℕ)
        → ((k : ℕ) → k < n → busy_in (doing k) ≡ true)
        → ((k : ℕ)
        → k < n
        → (o : Outside)
        → o.hlt ≡ (c.host.lines (t + k)).hlt
        → PassesTo (stands v k missing (doing k)) o (doing (suc k)))
        → Stands 0 missing (doing 0)
        → Stands n missing (doing n)
    lasts {missing} doing n busy passes begins =
        rw (zero-add n) at
        (lasts_from 0 doing n busy
        (λ k l o same.
        subst (λ (j : ℕ). PassesTo (stands v j missing (doing k)) o (doing (suc k))) (sym (zero-add k))
        (passes k l o (same ∙ ap (λ (j : ℕ). (c.host.lines (t + j)).hlt) (zero-add k))))
        begins)

-- seen from there
pub from_there :
    {Rows : List ℕ → Type 0} (c : Course Rows) (t : ℕ) (v : View) {n : ℕ} {missing : Bool} {a : Activity}
    → Stands c t v n missing a
    → Stands c (t + n) (stands v n missing a) 0 missing a
unfolding turns_on
from_there c t v {n} here =
    record {
      inside = rw (add-zero (t + n)) here.inside;
      view = ap (λ (k : ℕ). view_of (desk_at c k)) (add-zero (t + n)) ∙ here.view;
    }
