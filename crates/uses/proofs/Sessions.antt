-- A Write Sector and the Read Sector after it, told by their calls' contracts, are a session of `exact`. Assumes nothing.
use mathlib.Core.Path.{◌≡◌, sym, ap, ◌∙◌, subst}
use Prim.Native.Nat.{ℕ, ◌+◌}
use native.Mathlib.Nat.{add-zero, add_assoc}
use Rattle.wd.specs.Loads.{load_register}
use Rattle.hosts.specs.Hosts.{none, Host, Desk, served_at, called_all, at, AloneUntil, EndsAt}
use Rattle.exact.specs.Demand2.{Session, begun, asked, resumed}
use Rattle.command.specs.Commands.{decoded_of}
use Rattle.command.specs.declared.Command.{Command}
use Rattle.command.specs.declared.Command.TheVariants.{ForceInterrupt}
use Rattle.std.specs.Prelude.{Some}
use Rattle.uses.specs.Uses.{passed_in, passed, made_then, host_of, due_at}
use Rattle.uses.specs.Courses.{Accepted, since, Course, silent, course_then}
use Rattle.uses.specs.Sessions.{WriteThenRead, session_of}
use Rattle.uses.proofs.EveryUse.{desk_of, made_host, every_use}
use Rattle.uses.proofs.QuietUse.{Quiet, quiet_use, quiet_made}
use Rattle.uses.proofs.Endings.{since_loaded, ends_there, at_end}

pub silent_quiet : (d : Desk) → Quiet silent d
silent_quiet d n = none

-- a course, and then a host that gives no command
pub course_quiet : (c : Accepted) (course : Course c) (h : Host) → Quiet h course.after → Quiet (course_then course h) (since c)
course_quiet c course h rest =
    quiet_use course.calls (made_then course.last h) course.alone (quiet_made course.last h course.alone_last rest)

module _ (t : WriteThenRead) where
  abbrev s : Session
  s = session_of t

  -- ---- the write

  -- the host after it
  abbrev pub waits : Host
  waits = host_of t.between silent

  waits_quiet : Quiet waits t.writing.after
  waits_quiet = quiet_use t.between silent t.alone (silent_quiet t.found)

  writer_quiet : Quiet s.writer (since t.write)
  writer_quiet = course_quiet t.write t.writing waits waits_quiet

  pub begun_is : since t.write ≡ begun s
  begun_is = since_loaded t.write silent

  pub writer_alone : (n : ℕ) → AloneUntil s.writer (begun s) n
  writer_alone n = subst (λ (d : Desk). AloneUntil s.writer d n) begun_is (λ k l. writer_quiet k)

  module _ (command : Command) (is : decoded_of t.write.machine.chip t.write.byte ≡ Some command) (other : command ≡ ForceInterrupt → ⊥) where
    pub write_ends : EndsAt s.writer (begun s) s.written
    write_ends =
        subst (λ (d : Desk). EndsAt s.writer d s.written) begun_is
        (ends_there t.write command is other t.writing waits waits_quiet)

    pub wrote_is : at s.writer (begun s) s.written ≡ t.writing.after
    wrote_is =
        ap (λ (d : Desk). at s.writer d s.written) (sym begun_is)
        ∙ at_end t.write command is other t.writing waits waits_quiet

  -- ---- what the read finds

  asked_found : asked s ≡ t.found
  unfolding served_at called_all at
  asked_found =
      let p = passed t.writing.calls in
      let q = passed_in t.writing.last in
      let w = passed t.between in
      ap (λ (d : Desk). due_at s.writer d (p + q + w)) (sym begun_is)
      ∙ ap (due_at s.writer (since t.write)) (add_assoc p q w)
      ∙ every_use t.writing.calls (made_then t.writing.last waits) (q + w)
      ∙ made_host t.writing.last waits w
      ∙ ap (due_at waits t.writing.after) (sym (add-zero w))
      ∙ every_use t.between silent 0

  pub asked_is : asked s ≡ desk_of t.read.machine t.read.row
  asked_is = asked_found ∙ (λ i. desk_of (sym t.same_machine i) (sym t.same_row i))

  -- ---- the read

  pub resumed_is : since t.read ≡ resumed s
  resumed_is =
      since_loaded t.read silent
      ∙ ap
      (λ (d : Desk). desk_of (load_register d.machine t.read.lines 0 t.read.byte).machine d.row)
      (sym asked_is)

  reader_quiet : Quiet s.reader (since t.read)
  reader_quiet = course_quiet t.read t.reading silent (silent_quiet t.reading.after)

  pub reader_alone : (n : ℕ) → AloneUntil s.reader (resumed s) n
  reader_alone n = subst (λ (d : Desk). AloneUntil s.reader d n) resumed_is (λ k l. reader_quiet k)

  module _ (command : Command) (is : decoded_of t.read.machine.chip t.read.byte ≡ Some command) (other : command ≡ ForceInterrupt → ⊥) where
    pub read_ends : EndsAt s.reader (resumed s) s.read
    read_ends =
        subst (λ (d : Desk). EndsAt s.reader d s.read) resumed_is
        (ends_there t.read command is other t.reading silent (silent_quiet t.reading.after))

    pub got_is : at s.reader (resumed s) s.read ≡ t.reading.after
    got_is =
        ap (λ (d : Desk). at s.reader d s.read) (sym resumed_is)
        ∙ at_end t.read command is other t.reading silent (silent_quiet t.reading.after)
