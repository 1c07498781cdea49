-- What the uses of the theorems on Read Sector share: when its search begins, and what its status byte shows. Assumes nothing.
use mathlib.Core.Path.{◌≡◌, refl, sym, ap, ◌∙◌, subst}
use mathlib.Core.Bool.{Bool, true, true≢false}
use Prim.Native.Nat.{ℕ, zero, suc}
use native.Mathlib.Omega.{arith}
use Rattle.common.specs.Bits.{bit_of}
use Rattle.registers.specs.declared.Lines.{Lines}
use Rattle.wd.specs.declared.Machine.{Machine}
use Rattle.wd.specs.Reads.{read_register}
use Rattle.hosts.specs.Hosts.{Desk}
use Rattle.hosts.specs.Scenes.{Scene, settling}
use Rattle.multiple.specs.Multiple.{SearchesFrom}
use Rattle.uses.specs.Uses.{throughout, head_loaded, made_then}
use Rattle.uses.specs.Courses.{Shows, Showed, Accepted, Course, silent, course_then}
use Rattle.uses.proofs.Calls.{a_read}
use Rattle.uses.proofs.Statuses.{shows}
use Rattle.uses.proofs.Heads.{HeadOn, use_on, made_on}

-- HLT on throughout the course of a command is HLT on for its host, ..
pub lit_by : {c : Accepted} (course : Course c)
    → throughout head_loaded course.calls ≡ true
    → head_loaded course.before course.after course.last ≡ true
    → HeadOn (course_then course silent)
lit_by course head head_last =
    use_on course.calls (made_then course.last silent) head (made_on course.last silent head_last (λ n. refl))

-- .. and without E the search begins at once then
pub begins_at_once : (s : Scene) → settling s ≡ 0 → HeadOn s.host → (t : ℕ) → SearchesFrom s t → t ≡ 0
begins_at_once s none lit zero from = refl
begins_at_once s none lit (suc t) from = absurd (true≢false (sym (lit 0) ∙ from.off 0 (omega (arith, none)) (omega arith)))

-- what is so of one search is so of one with the same SR and byte time
pub same_search : (P : ℕ → ℕ → Type 0) {sector t sector' t' : ℕ} → (sector ≡ sector') × (t ≡ t') → P sector' t' → P sector t
same_search P {t = t} {sector'} (is, from) x = subst (λ (y : ℕ). P y t) (sym is) (subst (P sector') (sym from) x)

-- what the status byte of a machine says, any read of it shows
pub shows_there : {m : Machine} (d : Desk)
    → m ≡ d.machine
    → (bit : ℕ) (on : Bool)
    → ((l : Lines) → bit_of (read_register m l 0).byte bit ≡ on)
    → Shows d bit on
shows_there d there bit on told =
    shows d bit on (λ l. ap (λ (m : Machine). bit_of (read_register m l 0).byte bit) (sym there) ∙ told l)

-- and whoever has read it knows
pub showed_by : (d : Desk) (l : Lines) (bit : ℕ) (on : Bool) → Shows d bit on → Showed d bit on
showed_by d l bit on says =
    let call = a_read d.machine l 0 in
    (l, read_register d.machine l 0, call, says l _ call)
