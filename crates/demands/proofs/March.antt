-- The accident of March, over the contracts of the calls. Assumes nothing.
use mathlib.Core.Path.{◌≡◌, refl, sym, ap, ◌∙◌, subst}
use mathlib.Core.Bool.{true, false}
use mathlib.Core.Logic.{◌⊎◌, inl, inr, ◌↔◌}
use Prim.Native.Nat.{ℕ, ◌<◌}
use native.Mathlib.Nat.{add-zero}
use Rattle.common.specs.Bits.{bit_of}
use Rattle.command.specs.declared.Chip.{Chip}
use Rattle.command.specs.Commands.{class_of, decoded_by_both, decoded_with_u, decoded_of}
use Rattle.command.specs.declared.Command.{Command}
use Rattle.command.specs.declared.Command.TheVariants.{ReadSector, WriteSector, ReadAddress, WriteTrack}
use Rattle.command.specs.declared.Class.TheVariants.{Works}
use Rattle.std.specs.Prelude.{Some}
use Rattle.registers.specs.declared.Lines.{Lines}
use Rattle.registers.specs.declared.Flags.{Flags}
use Rattle.wd.specs.declared.Machine.{Machine}
use Rattle.wd.specs.declared.Read.{Read}
use Rattle.reachable.proofs.Valid.{Valid}
use Rattle.reachable.proofs.StatusBits.{status_lost}
use Rattle.hosts.specs.Hosts.{Host, Desk, served_at, called_all, at, AloneUntil}
use Rattle.hosts.specs.Scenes.{Scene, loaded}
use Rattle.hosts.proofs.Accepted.{given_flags}
use Rattle.hosts.proofs.ByteTimes.{kind_later}
use Rattle.hosts.proofs.QuietCalls.{calls_bus, calls_valid}
use Rattle.hosts.proofs.Views.{stays_valid}
use Rattle.lost_data.specs.LostData.{lost_data, ReadCommand, read_sector, read_address, WriteCommand, write_sector, write_track, AcceptedAlone, ByteLost, ZeroWritten, Terminated, PutOver}
use Rattle.lost_data.proofs.NeverSilently.{no_byte_silently}
use Rattle.lost_data.proofs.LostInRead.{lost_in_a_read}
use Rattle.lost_data.proofs.LostInWrite.{lost_in_a_write}
use Rattle.uses.specs.CallContracts.{ReadCall}
use Rattle.uses.specs.Uses.{Use, throughout, no_command, passed, host_of, due_at}
use Rattle.uses.specs.Courses as courses
use Rattle.uses.specs.Courses.{lost_data_bit, Shows, Accepted, since, silent, scene_of, ReadByte, WriteByte}
use Rattle.uses.proofs.EveryUse.{every_use}
use Rattle.uses.proofs.QuietUse.{Quiet, quiet_use}
use Rattle.uses.proofs.Statuses.{since_valid, shows}
use Rattle.uses.proofs.Endings.{taken, since_loaded}
use Rattle.uses.proofs.Sessions.{silent_quiet}
use Rattle.uses.proofs.Decoding.{reads_sector, writes_sector}
use Rattle.demands.specs.Demands.{LostExactly, March}

module _ (c : Accepted) (command : Command) (is : decoded_of c.machine.chip c.byte ≡ Some command) (works : class_of command ≡ Works)
    {e : Desk} (u : Use (since c) e) (alone : throughout no_command u ≡ true) where
  abbrev host : Host
  host = host_of u silent

  abbrev scene : Scene
  scene = scene_of c host

  quiet : Quiet host (since c)
  quiet = quiet_use u silent alone (silent_quiet e)

  until : AloneUntil host (loaded scene) (passed u)
  until = subst (λ (d : Desk). AloneUntil host d (passed u)) (since_loaded c host) (λ k l. quiet k)

  taken_alone : AcceptedAlone scene command (passed u)
  taken_alone = record { decodes = is; accepted = taken c; alone = until }

  -- ---- the status that a read shows there

  -- as the byte times of the use have passed, the calls after the last of them not made
  abbrev there : Machine
  there = (at host (since c) (passed u)).machine

  there_valid : Valid there
  there_valid = stays_valid host (since c) (since_valid c) (passed u)

  there_type : there.flags.type1 ≡ false
  there_type =
      ap (λ (d : Desk). (at host d (passed u)).machine.flags.type1) (since_loaded c host)
      ∙ (kind_later host (loaded scene) (passed u) until).1
      ∙ ap (λ (f : Flags). f.type1) (given_flags scene command is works (taken c))

  -- those calls leave the flags
  due_is : due_at host (since c) (passed u) ≡ e
  unfolding served_at called_all at
  due_is = ap (due_at host (since c)) (sym (add-zero (passed u))) ∙ every_use u silent 0

  flags_there : e.machine.flags ≡ there.flags
  unfolding served_at
  flags_there =
      ap (λ (d : Desk). d.machine.flags) (sym due_is)
      ∙ ap (λ (m : Machine). m.flags) (calls_bus there (host.calls (passed u)) (quiet (passed u)))

  valid_here : Valid e.machine
  unfolding served_at
  valid_here =
      subst (λ (d : Desk). Valid d.machine) due_is (calls_valid there (host.calls (passed u)) there_valid)

  same_bit : (l : Lines) (r : Read)
      → ReadCall e.machine l 0 r
      → bit_of r.byte lost_data_bit ≡ lost_data (at host (loaded scene) (passed u)).machine l
  same_bit l r call =
      ap (λ (q : Read). bit_of q.byte 2) call.told
      ∙ status_lost e.machine l valid_here (ap (λ (f : Flags). f.type1) flags_there ∙ there_type)
      ∙ ap (λ (f : Flags). f.lost) flags_there
      ∙ sym (status_lost there l there_valid there_type)
      ∙ ap (λ (d : Desk). lost_data (at host d (passed u)).machine l) (since_loaded c host)

  -- what holds exactly when Lost Data is on in the scene does so of the status
  exactly :
      (Late : Desk → ℕ → Type 0)
      → ((l : Lines)
      → (lost_data (at host (loaded scene) (passed u)).machine l ≡ true) ↔ ((k : ℕ) × (k < passed u) × Late (loaded scene) k))
      → (l : Lines) (r : Read)
      → ReadCall e.machine l 0 r
      → (bit_of r.byte lost_data_bit ≡ true) ↔ ((k : ℕ) × (k < passed u) × Late (since c) k)
  exactly Late told l r call =
      let back = sym (since_loaded c host) in (
        λ on.
            let (k, before, late) = (told l).0 (sym (same_bit l r call) ∙ on) in
            (k, before, subst (λ (d : Desk). Late d k) back late),
        λ (k, before, late).
            same_bit l r call ∙ (told l).1 (k, before, subst (λ (d : Desk). Late d k) (since_loaded c host) late),
      )

  -- Lost Data that has come on with byte time k is still on
  silently : (k : ℕ) → k < passed u → PutOver host (since c) k → Shows e lost_data_bit true
  silently k before put =
      shows e lost_data_bit true
      (λ l.
      status_lost e.machine l valid_here (ap (λ (f : Flags). f.type1) flags_there ∙ there_type)
      ∙ ap (λ (f : Flags). f.lost) flags_there
      ∙ no_byte_silently host (since c) k (passed u) put before (λ i least most. quiet i))

-- ---- the commands

read_works : {command : Command} → ReadCommand command → class_of command ≡ Works
unfolding class_of
read_works read_sector = refl
read_works read_address = refl

write_works : {command : Command} → WriteCommand command → class_of command ≡ Works
unfolding class_of
write_works write_sector = refl
write_works write_track = refl

-- a byte is one of them by document 01's list
read_bytes : (chip : Chip) (b : ℕ) → ReadByte chip b → (command : Command) × (decoded_of chip b ≡ Some command) × ReadCommand command
unfolding decoded_of decoded_by_both decoded_with_u
read_bytes chip b (courses.read_sector first last even) = (ReadSector, reads_sector chip b first last even, read_sector)
read_bytes chip b (courses.read_address (inl e)) = (ReadAddress, ap (decoded_of chip) e, read_address)
read_bytes chip b (courses.read_address (inr e)) = (ReadAddress, ap (decoded_of chip) e, read_address)
read_bytes chip b (courses.read_address_with_u is (inl e)) = (ReadAddress, (λ i. decoded_of (is i) (e i)), read_address)
read_bytes chip b (courses.read_address_with_u is (inr e)) = (ReadAddress, (λ i. decoded_of (is i) (e i)), read_address)

write_bytes : (chip : Chip) (b : ℕ) → WriteByte chip b → (command : Command) × (decoded_of chip b ≡ Some command) × WriteCommand command
unfolding decoded_of decoded_by_both decoded_with_u
write_bytes chip b (courses.write_sector first last) = (WriteSector, writes_sector chip b first last, write_sector)
write_bytes chip b (courses.write_track (inl e)) = (WriteTrack, ap (decoded_of chip) e, write_track)
write_bytes chip b (courses.write_track (inr e)) = (WriteTrack, ap (decoded_of chip) e, write_track)
write_bytes chip b (courses.write_track_with_u is (inl e)) = (WriteTrack, (λ i. decoded_of (is i) (e i)), write_track)
write_bytes chip b (courses.write_track_with_u is (inr e)) = (WriteTrack, (λ i. decoded_of (is i) (e i)), write_track)

read_exactly : (c : Accepted) (e : Desk) (u : Use (since c) e)
    → ReadByte c.machine.chip c.byte
    → LostExactly c u (ByteLost (host_of u silent) (since c))
read_exactly c e u byte alone =
    let (command, is, reads) = read_bytes c.machine.chip c.byte byte in
    exactly c command is (read_works reads) u alone (λ d k. ByteLost (host_of u silent) d k)
    (lost_in_a_read reads (taken_alone c command is (read_works reads) u alone))

write_exactly : (c : Accepted) (e : Desk) (u : Use (since c) e)
    → WriteByte c.machine.chip c.byte
    → LostExactly c u (λ k. ZeroWritten (host_of u silent) (since c) k ⊎ Terminated (host_of u silent) (since c) k)
write_exactly c e u byte alone =
    let (command, is, writes) = write_bytes c.machine.chip c.byte byte in
    exactly c command is (write_works writes) u alone
    (λ d k. ZeroWritten (host_of u silent) d k ⊎ Terminated (host_of u silent) d k)
    (lost_in_a_write writes (taken_alone c command is (write_works writes) u alone))

never : (c : Accepted) (e : Desk) (u : Use (since c) e) (k : ℕ)
    → ReadByte c.machine.chip c.byte ⊎ WriteByte c.machine.chip c.byte
    → throughout no_command u ≡ true
    → k < passed u
    → PutOver (host_of u silent) (since c) k
    → Shows e lost_data_bit true
never c e u k (inl byte) alone =
    let (command, is, reads) = read_bytes c.machine.chip c.byte byte in
    silently c command is (read_works reads) u alone k
never c e u k (inr byte) alone =
    let (command, is, writes) = write_bytes c.machine.chip c.byte byte in
    silently c command is (write_works writes) u alone k

-- the accident of March
pub march : March
march =
    record {
      read = read_exactly;
      write = write_exactly;
      never_silently = never;
      of_every_machine = no_byte_silently;
    }
