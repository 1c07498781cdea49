-- A planned session is one that demand 2 speaks of: the write ends by itself, the read does by demand 3, and the track is as
-- asked; and its hosts serve each DRQ. Assumes nothing.
use mathlib.Core.Path.{◌≡◌, refl, sym, ap, ◌∙◌}
use mathlib.Core.Bool.{Bool, true, false, cond, ◌&&◌, ◌||◌}
use mathlib.Core.List.{List, [], ◌∷◌}
use Prim.Native.Nat.{ℕ, zero, suc, ◌+◌, ◌%◌, ◌≤◌, ◌<◌}
use native.Mathlib.Nat.{mod-eq_of_lt}
use native.Mathlib.Decide.{dec_lt}
use native.Mathlib.Omega.{arith}
use lib.Dec.{ltb, leb}
use lib.ListN.{length, get_or}
use borrow.Author.Tests.{ltb-true, leb-true, eqb-true}
use Rattle.common.proofs.Cases.{by_cond, never, both}
use Rattle.scan.specs.Marks.{lead_of}
use Rattle.scan.specs.Streams.{MarkAt, behind, id_width}
use Rattle.fields.specs.Rings.{cells_of}
use Rattle.command.specs.Bits.{side_asked, ibm_lengths}
use Rattle.command.specs.Commands.{decoded_of}
use Rattle.command.specs.declared.Chip.{Chip}
use Rattle.command.specs.declared.Command.TheVariants.{ReadSector}
use Rattle.std.specs.Prelude.{Some}
use Rattle.wd.specs.declared.Machine.{Machine}
use Rattle.wd.specs.Loads.{load_register}
use Rattle.reachable.proofs.Samples.{sample_length, on}
use Rattle.reachable.proofs.Valid.{load_valid}
use Rattle.hosts.specs.Hosts.{commands, NoneAccepted, none, more, at, EndsAt}
use Rattle.hosts.specs.Bytes.{taken}
use Rattle.hosts.specs.Scenes.{loaded}
use Rattle.hosts.proofs.Accepted.{accepted_valid}
use Rattle.hosts.proofs.LowRows.{low_by}
use Rattle.in_time.specs.Demand3.{Demand3}
use Rattle.in_time.proofs.Demand3.{in_time}
use Rattle.in_time.proofs.Scenes.{asked_by}
use Rattle.exact.specs.Demand2.{Session, Commands, JustOne, after, NoMark, clear_cells, ReadBackPremises}
use Rattle.served.specs.Served.{loads_dr, reads_dr, WriterServes, ReaderServes}
use Rattle.witnesses.proofs.Walks.{step_from, walked_is}
use Rattle.witnesses.proofs.LastBusy.{ends_after}
use Rattle.witnesses.proofs.Polling.{polling, polling_alone, polling_ends, polling_serves}
use Rattle.witnesses.proofs.ServesAll.{serves_all}
use Rattle.witnesses.proofs.Plans.{Plan, asks_at, writer, begun_by, left_by, again, flagged_in, flags_of, Summary, summary, planned, Computed}
use Rattle.refusals.specs.Numbers.{done}

flagged_at :
    (p many k : ℕ) (row : List ℕ)
    → flagged_in p many k row ≡ true
    → (i : ℕ)
    → 256 ≤ get_or row i 0
    → (p ≤ k + i) × (k + i < p + many)
unfolding flagged_in
flagged_at p many k [] e i high = absurd (omega arith)
flagged_at p many k (cell ∷ cells) e zero high =
    by (ltb cell 256) refl (both (ltb cell 256 || (leb p k && ltb k (p + many))) (flagged_in p many (suc k) cells) e).0
  where
    by : (plain : Bool)
        → ltb cell 256 ≡ plain
        → (plain || (leb p k && ltb k (p + many))) ≡ true
        → (p ≤ k + 0) × (k + 0 < p + many)
    by true f g = absurd (omega (arith, ltb-true cell 256 f))
    by false f g =
        let h = both (leb p k) (ltb k (p + many)) g in
        (omega (arith, leb-true p k h.0), omega (arith, ltb-true k (p + many) h.1))
flagged_at p many k (cell ∷ cells) e (suc i) high =
    let h = flagged_at p many (suc k) cells
    (both (ltb cell 256 || (leb p k && ltb k (p + many))) (flagged_in p many (suc k) cells) e).1 i high in
    (omega (arith, h.0), omega (arith, h.1))

flags_few : (mfm : Bool) → (flags_of mfm ≤ lead_of mfm + 1) × (lead_of mfm ≤ 3)
unfolding flags_of lead_of
flags_few false = (omega arith, omega arith)
flags_few true = (omega arith, omega arith)

no_command : (x : Plan) (n : ℕ) (m : Machine) → NoneAccepted m ((writer x).calls n)
unfolding commands
no_command x n m = by_cond (NoneAccepted m) (asks_at x n) (λ e. more refl none) (λ e. none)

module _ (x : Plan) (c : Computed x) where
  abbrev mfm : Bool
  mfm = x.machine.mfm

  -- the write's end, by the host and not by the walk
  pub ended :
      summary x (record { desk = at (writer x) (begun_by x) x.last; took = taken (writer x) (begun_by x) x.last })
      ≡ planned x
  ended = ap (summary x) (sym (walked_is (writer x) (begun_by x) x.last)) ∙ c.ended

  ends : EndsAt (writer x) (begun_by x) (suc x.last)
  unfolding summary step_from at
  ends =
      ends_after (writer x) (begun_by x) x.last (no_command x)
      (ap (λ (e : Summary). e.goes) ended)
      (ap (λ (e : Summary). e.busy) ended)

  accepted_again : (load_register (left_by x).machine on 0 x.byte_then).outcome ≡ done
  unfolding summary step_from at
  accepted_again = ap (λ (e : Summary). e.outcome) ended

  same_chip : (left_by x).machine.chip ≡ x.machine.chip
  unfolding summary step_from at
  same_chip = ap (λ (e : Summary). e.chip) ended

  reads_then : decoded_of (left_by x).machine.chip x.byte_then ≡ Some ReadSector
  reads_then = ap (λ (chip : Chip). decoded_of chip x.byte_then) same_chip ∙ c.reads

  -- demand 3: the Read Sector ends by itself
  pub read_ends : Demand3 (again x)
  unfolding summary step_from at
  read_ends =
      in_time (again x)
      (asked_by x.byte_then (left_by x).machine (left_by x).row reads_then (c.same_m ∙ c.single) accepted_again
      (eqb-true _ _ (ap (λ (e : Summary). e.whole) ended))
      (low_by (left_by x).row (ap (λ (e : Summary). e.cells) ended)))

  abbrev pub session : Session
  session =
      record {
        machine = x.machine;
        lines = on;
        byte = x.byte;
        track = x.track;
        writer = writer x;
        written = suc x.last;
        waited = suc x.last;
        lines_then = on;
        byte_then = x.byte_then;
        reader = polling (loaded (again x));
        read = read_ends.0;
      }

  two_commands : Commands session
  unfolding summary step_from at
  two_commands =
      record {
        dr = ltb-true _ _ c.dr;
        writes = c.writes;
        single = c.single;
        accepted = c.accepted;
        ready = refl;
        ends = ends;
        fine = record {
          protected = ap (λ (e : Summary). e.protected) ended;
          missing = ap (λ (e : Summary). e.missing) ended;
          crc = ap (λ (e : Summary). e.crc) ended;
          lost = ap (λ (e : Summary). e.lost) ended;
        };
        next = λ n l. no_command x n _;
        reads = reads_then;
        same_tr = ap (λ (e : Summary). e.tr) ended;
        same_sr = ap (λ (e : Summary). e.sr) ended;
        same_m = c.same_m;
        same_e = c.same_e;
        same_side = ap (λ (chip : Chip). side_asked chip x.byte_then) same_chip ∙ c.same_side;
        same_lengths = ap (λ (chip : Chip). ibm_lengths chip x.byte_then) same_chip ∙ c.same_lengths;
        accepted_then = accepted_again;
        ready_then = refl;
        alone = λ n l. polling_alone (loaded (again x)) n;
        ends_then = polling_ends (loaded (again x)) read_ends.0 read_ends.1;
      }

  -- ---- the track

  -- a flagged cell of the ring is one of the ID's mark
  flag_place : (q : ℕ) → q < sample_length → 256 ≤ cells_of x.track q → (x.p ≤ q) × (q < x.p + flags_of mfm)
  unfolding cells_of
  flag_place q l high =
      let e : q % length x.track ≡ q = mod-eq_of_lt (omega (arith, c.wide)) in
      let h = flagged_at x.p (flags_of mfm) 0 x.track c.flags q (rw e at high) in
      (omega (arith, h.0), omega (arith, h.1))

  -- a mark begins with a flagged cell, and in MFM its third is flagged too
  mark_flags :
      (d : Bool) (cells : ℕ → ℕ) (a b : ℕ)
      → MarkAt d cells a b
      → (256 ≤ cells a) × ((d ≡ true) → 256 ≤ cells (a + 2))
  unfolding MarkAt
  mark_flags false cells a b (byte, e) = (omega (arith, e), λ f. never (cc))
  mark_flags true cells a b (byte, x, y, z, e) = (omega (arith, x), λ f. omega (arith, z))

  place_short : x.p ≤ 2000
  place_short = leb-true x.p 2000 c.short

  only_place : (q : ℕ) → q < sample_length → MarkAt mfm (cells_of x.track) q 0xFE → q ≡ x.p
  unfolding flags_of
  only_place q l mark = by mfm refl (mark_flags mfm (cells_of x.track) q 0xFE mark)
    where
      by : (d : Bool)
          → mfm ≡ d
          → (256 ≤ cells_of x.track q) × ((mfm ≡ true) → 256 ≤ cells_of x.track (q + 2))
          → q ≡ x.p
      by false e h =
          let here = flag_place q l h.0 in
          let one : flags_of mfm ≡ 1 = ap flags_of e in
          omega (arith, here.0, here.1)
      by true e h =
          let here = flag_place q l h.0 in
          let three : flags_of mfm ≡ 3 = ap flags_of e in
          let third = flag_place (q + 2) (omega (arith, here.1, place_short)) (h.1 e) in
          omega (arith, here.0, third.1)

  -- no cell after it is flagged
  plain_behind : (i : ℕ) → i < 32 → cells_of x.track (behind mfm x.p + i) < 256
  plain_behind i l = by (dec_lt (cells_of x.track (behind mfm x.p + i)) 256)
    where
      by : Dec (cells_of x.track (behind mfm x.p + i) < 256) → cells_of x.track (behind mfm x.p + i) < 256
      by (yes h) = h
      by (no h) =
          let few = flags_few mfm in
          let here = flag_place (behind mfm x.p + i) (omega (arith, place_short, few.1)) (omega arith) in
          absurd (omega (arith, here.1, few.0))

  pub no_mark : NoMark x.machine.mfm (after x.machine.mfm x.track x.p) (clear_cells x.machine.mfm)
  unfolding clear_cells
  no_mark a b l m =
      let first = mark_flags mfm (after mfm x.track x.p) a b m in
      let e : behind mfm x.p + (6 + a) ≡ x.p + id_width mfm + a = omega arith in
      let plain = plain_behind (6 + a) (omega (arith, clear_few mfm)) in
      omega (arith, first.0, rw e at plain)
    where
      clear_few : (d : Bool) → cond d 22 11 ≤ 22
      clear_few false = omega arith
      clear_few true = omega arith

  pub just_one : JustOne x.machine.mfm x.track x.machine.regs.tr x.machine.regs.sr x.p
  just_one =
      record {
        inside = omega (arith, c.wide, place_short);
        stands = record { mark = c.mark; plain = λ i l. plain_behind i (omega arith) };
        of_track = c.of_track;
        of_sector = c.of_sector;
        only = λ q l id track sector. only_place q (omega (arith, c.wide)) id.mark;
      }

  pub asked : ReadBackPremises session x.p
  asked = record { commands = two_commands; just_one = just_one; no_mark = no_mark }

  -- ---- the hosts

  pub writer_serves : WriterServes session
  writer_serves = serves_all loads_dr reads_dr (writer x) (begun_by x) (suc x.last) c.serves

  pub reader_serves : ReaderServes session
  reader_serves =
      polling_serves (loaded (again x))
      (load_valid (left_by x).machine on 0 x.byte_then
      (accepted_valid (left_by x).machine on x.byte_then accepted_again))
      read_ends.0
