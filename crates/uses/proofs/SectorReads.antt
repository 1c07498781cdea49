-- A Read Sector in any use, with m or without, from the call that begins it to the call that it ends with: as a host's. Assumes nothing.
use mathlib.Core.Path.{◌≡◌, refl, sym, ap, ◌∙◌, subst}
use mathlib.Core.Bool.{Bool, true, false}
use Prim.Native.Nat.{ℕ}
use native.Mathlib.Omega.{arith}
use Rattle.common.proofs.Cases.{never}
use Rattle.common.specs.Bits.{bit_of}
use Rattle.command.specs.Commands.{decoded_of}
use Rattle.command.specs.declared.Command.TheVariants.{ReadSector}
use Rattle.std.specs.Prelude.{Some}
use Rattle.registers.specs.declared.Lines.{Lines}
use Rattle.wd.specs.declared.Machine.{Machine}
use Rattle.wd.specs.declared.Read.{Read}
use Rattle.wd.specs.Reads.{read_register}
use Rattle.hosts.specs.Hosts.{NoneAccepted, Host, Desk, at, AloneUntil, EndsAt}
use Rattle.hosts.specs.Scenes.{loaded}
use Rattle.hosts.proofs.Unready.{unready_over}
use Rattle.multiple.specs.Multiple.{end_of}
use Rattle.uses.specs.Uses.{made_then}
use Rattle.uses.specs.Courses.{Showed, Accepted, since, Course, took, silent, course_then, course_scene, SectorRead}
use Rattle.uses.proofs.QuietUse.{Quiet, quiet_use, quiet_made}
use Rattle.uses.proofs.Over.{silent_quiet}
use Rattle.uses.proofs.Endings.{last_passes, taken, since_loaded, ends_there, at_end}
use Rattle.uses.proofs.Decoding.{decodes_read}

module _ (c : Accepted) (course : Course c) {multiple : Bool} (reads : SectorRead multiple c.byte) where
  abbrev host : Host
  host = course_then course silent

  pub is_read : decoded_of c.machine.chip c.byte ≡ Some ReadSector
  is_read = decodes_read c.machine.chip c.byte reads

  rest : Quiet silent course.after
  rest = silent_quiet course.after

  quiet : Quiet host (since c)
  quiet =
      quiet_use course.calls (made_then course.last silent) course.alone
      (quiet_made course.last silent course.alone_last rest)

  pub alone : AloneUntil (course_then course silent) (loaded (course_scene course)) (took course)
  alone k l = subst (λ (d : Desk). NoneAccepted (at host d k).machine (host.calls k)) (since_loaded c host) (quiet k)

  pub ends : EndsAt (course_then course silent) (loaded (course_scene course)) (took course)
  ends =
      subst (λ (d : Desk). EndsAt host d (took course)) (since_loaded c host)
      (ends_there c ReadSector is_read (λ e. never (cc)) course silent rest)

  -- it was Busy before its last call, so the drive was ready
  pub ready : c.lines.ready ≡ true
  ready = by c.lines.ready refl
    where
      by : (on : Bool) → c.lines.ready ≡ on → on ≡ true
      by true e = refl
      by false e =
          absurd (omega (arith, unready_over (course_scene course) is_read (taken c) e (took course) ends, last_passes c course))

  -- its machine at the end is the one that its calls have led to
  pub there : end_of (course_scene course) (took course) ≡ course.after.machine
  there =
      ap (λ (d : Desk). (at host d (took course)).machine) (sym (since_loaded c host))
      ∙ ap (λ (d : Desk). d.machine) (at_end c ReadSector is_read (λ e. never (cc)) course silent rest)

  -- what a read has shown at the end of the one is so of the other
  pub showed_at_end :
      (bit : ℕ) (on : Bool)
      → Showed course.after bit on
      → (l : Lines) × (bit_of (read_register (end_of (course_scene course) (took course)) l 0).byte bit ≡ on)
  showed_at_end bit on (l, r, call, e) = (
    l,
    ap (λ (m : Machine). bit_of (read_register m l 0).byte bit) there
        ∙ ap (λ (q : Read). bit_of q.byte bit) (sym call.told)
        ∙ e,
  )
