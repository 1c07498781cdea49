-- Demand 3, over the contracts of the calls. Assumes nothing.
use mathlib.Core.Path.{◌≡◌, refl, sym, ap, ◌∙◌, subst}
use mathlib.Core.Bool.{true, false, true≢false}
use mathlib.Core.List.{List}
use mathlib.Core.Logic.{◌⊎◌, inl, inr, ◌↔◌}
use Prim.Native.Nat.{ℕ, suc, ◌+◌, ◌-◌, ◌*◌, ◌≤◌, ◌<◌}
use native.Mathlib.Decide.{dec_lt}
use native.Mathlib.Omega.{arith}
use lib.ListN.{length, get_or}
use Rattle.common.proofs.Cases.{never}
use Rattle.common.specs.Bits.{bit_of}
use Rattle.scan.specs.declared.Id.{Id}
use Rattle.command.specs.Bits.{is_multiple}
use Rattle.command.specs.declared.Command.TheVariants.{ReadSector}
use Rattle.activity.specs.Limits.{busy_in}
use Rattle.registers.specs.declared.Lines.{Lines}
use Rattle.wd.specs.declared.Machine.{Machine}
use Rattle.wd.specs.declared.Called.{Called}
use Rattle.wd.specs.declared.Read.{Read}
use Rattle.wd.specs.declared.Passed.{Passed}
use Rattle.wd.specs.Reads.{read_register}
use Rattle.hosts.specs.Hosts.{NoneAccepted, Host, Desk, served_at, at, EndsAt}
use Rattle.hosts.specs.Scenes.{Scene, loaded, settling, Suits}
use Rattle.hosts.proofs.Courses.{ends_once}
use Rattle.hosts.proofs.Idling.{host_fixed, stays_over, left_row}
use Rattle.hosts.proofs.QuietCalls.{calls_bus}
use Rattle.wd.proofs.Valid.{valid_ring}
use Rattle.reachable.proofs.Valid.{Valid}
use Rattle.reachable.proofs.Fixed.{load_fixed}
use Rattle.safe.specs.Demand1.{AtByteTime, byte_time_2, byte_time_3, byte_time_4}
use Rattle.safe.proofs.Refusals as refusals
use Rattle.in_time.specs.Demand3.{InTimePremises, OnRing, FirstWhole, MarkInWindow, FifthPulse, InTime}
use Rattle.in_time.proofs.Demand3.{in_time}
use Rattle.uses.specs.CallContracts.{ReadCall, ByteTimeCall}
use Rattle.uses.specs.Uses.{Use, throughout, no_command, head_loaded, passed, host_of, made_then}
use Rattle.uses.specs.Courses.{busy_bit, not_found_bit, Shows, Accepted, since, Course, took, silent, scene_of, course_then, Ending}
use Rattle.uses.proofs.QuietUse.{Quiet, quiet_use, quiet_made}
use Rattle.uses.proofs.Statuses.{use_valid, since_valid}
use Rattle.uses.proofs.Over.{silent_quiet, due_is, use_quiet, over_there}
use Rattle.uses.proofs.Heads.{HeadOn, use_on, made_on}
use Rattle.uses.proofs.Endings.{taken, since_loaded, ends_there, at_end}
use Rattle.uses.proofs.Decoding.{decodes_read}
use Rattle.demands.specs.Demands.{ReadAsked, ReadEnds, Demand3}
use Rattle.demands.proofs.Demand1.{demand_1}
use Rattle.refusals.specs.Numbers.{done}
use Rattle.refusals.proofs.Outcomes.{number_done}

-- ---- which IDs there are does not depend on what the host does

module _ (c : Accepted) (h g : Host) where
  suits_same : (id : Id) → Suits (scene_of c h) id → Suits (scene_of c g) id
  suits_same id s = record { track = s.track; sector = s.sector; side = s.side; good = s.good }

  ring_same : OnRing (scene_of c h) → OnRing (scene_of c g)
  ring_same r = record { cell = r.cell; inside = r.inside; stands = r.stands; suits = suits_same _ r.suits }

  mark_same : (k : ℕ) → MarkInWindow (scene_of c h) k → MarkInWindow (scene_of c g) k
  mark_same k m =
      record {
        a = m.a;
        byte = m.byte;
        data_mark = m.data_mark;
        stands = m.stands;
        after = m.after;
        within = m.within;
      }

  pulse_same : (k : ℕ) → FifthPulse (scene_of c h) k → FifthPulse (scene_of c g) k
  pulse_same k f = record { four = f.four; pulse = f.pulse }

-- no ID, or no data mark in the window of the first one
abbrev NothingToRead : Accepted → Host → Type 0
NothingToRead c h = (OnRing (scene_of c h) → ⊥) ⊎ ((k : ℕ) × FirstWhole (scene_of c h) k × (MarkInWindow (scene_of c h) k → ⊥))

module _ (c : Accepted) (h g : Host) where
  whole_same : (k : ℕ) → FirstWhole (scene_of c h) k → FirstWhole (scene_of c g) k
  whole_same k f =
      record {
        id = f.id;
        ends = f.ends;
        suits = suits_same c h g f.id f.suits;
        first = λ j l other e s. f.first j l other e (suits_same c g h other s);
      }

  nothing_same : NothingToRead c h → NothingToRead c g
  nothing_same (inl nowhere) = inl (λ r. nowhere (ring_same c g h r))
  nothing_same (inr (k, f, unmarked)) = inr (k, whole_same k f, λ m. unmarked (mark_same c g h k m))

-- ---- the command under a host that gives no other

module _ (c : Accepted) (asked : ReadAsked c) (h : Host) (quiet : Quiet h (since c)) (lit : HeadOn h) where
  abbrev scene : Scene
  scene = scene_of c h

  premises : InTimePremises scene
  unfolding is_multiple
  premises =
      record {
        reads = decodes_read c.machine.chip c.byte asked.single;
        single = asked.single.m;
        accepted = taken c;
        ready = asked.ready;
        hlt = λ n b. lit n;
        alone = λ n b. subst (λ (d : Desk). NoneAccepted (at h d n).machine (h.calls n)) (since_loaded c h) (quiet n);
        whole = asked.whole;
        low = asked.low;
      }

  abbrev time : ℕ
  time = (in_time scene premises).0

  verdict : InTime scene time
  verdict = (in_time scene premises).2

  over : EndsAt h (since c) time
  over = subst (λ (d : Desk). EndsAt h d time) (sym (since_loaded c h)) (in_time scene premises).1

  -- one that is Busy after p byte times has not come so far
  sooner : (p : ℕ) → busy_in (at h (since c) p).machine.activity ≡ true → p < time
  sooner p on = by (dec_lt p time)
    where
      by : Dec (p < time) → p < time
      by (yes l) = l
      by (no l) =
          let there : time + (p - time) ≡ p = omega arith in
          absurd
          (true≢false
          (sym on
          ∙ ap (λ (k : ℕ). busy_in (at h (since c) k).machine.activity) (sym there)
          ∙ stays_over h (since c) time (p - time) (λ k m. quiet k) over.over))

  -- the row stays, up to its end and after it
  kept : (p : ℕ) → (at h (since c) p).row ≡ c.row
  kept p = by (dec_lt time p)
    where
      upto : (k : ℕ) → k ≤ time → (at h (since c) k).row ≡ c.row
      upto k l = ap (λ (d : Desk). (at h d k).row) (since_loaded c h) ∙ verdict.row k l

      by : Dec (time < p) → (at h (since c) p).row ≡ c.row
      by (yes l) =
          let there : time + (p - time) ≡ p = omega arith in
          ap (λ (k : ℕ). (at h (since c) k).row) (sym there)
          ∙ left_row h (since c) time (p - time) (λ k m. quiet k) over.over
          ∙ upto time (omega arith)
      by (no l) = upto p (omega arith)

  within_found : OnRing (scene_of c silent) → time ≤ settling scene + (length c.row + 1078)
  within_found ring = verdict.found (ring_same c silent h ring)

  within_lost :
      (OnRing (scene_of c silent) → ⊥)
      → (k : ℕ) × FifthPulse (scene_of c silent) k × (time ≡ settling scene + suc k) × (suc k ≤ 5 * length c.row)
  within_lost nowhere =
      let (k, fifth, same, most) = verdict.lost (λ ring. nowhere (ring_same c h silent ring)) in
      (k, pulse_same c h silent k fifth, same, most)

-- ---- in every use

module _ (c : Accepted) (asked : ReadAsked c) where
  module _ (e : Desk) (u : Use (since c) e) (head : throughout head_loaded u ≡ true) (alone : throughout no_command u ≡ true) where
    abbrev host : Host
    host = host_of u silent

    still_quiet : Quiet host (since c)
    still_quiet = use_quiet u alone

    lit : HeadOn host
    lit = use_on u silent head (λ n. refl)

    valid : Valid e.machine
    valid = use_valid u (since_valid c)

    -- when its time has come it is not Busy
    by_then : time c asked host still_quiet lit ≤ passed u → Shows e busy_bit false
    by_then = over_there u alone (since_valid c) (time c asked host still_quiet lit) (over c asked host still_quiet lit)

    -- the row is still the one that was lent
    row_there : e.row ≡ c.row
    unfolding served_at
    row_there =
        ap (λ (d : Desk). d.row) (sym (due_is u)) ∙ kept c asked host still_quiet lit (passed u)

    -- and as long as the ring, which no call changes
    size : length e.row ≡ e.machine.ring.length
    unfolding served_at
    size =
        ap length row_there
        ∙ asked.whole
        ∙ sym (load_fixed c.machine c.lines 0 c.byte).length
        ∙ ap (λ (q : Called). q.machine.ring.length) (sym c.call.told)
        ∙ sym (host_fixed host (since c) (passed u)).length
        ∙ sym (ap (λ (m : Machine). m.ring.length) (calls_bus _ (host.calls (passed u)) (still_quiet (passed u))))
        ∙ ap (λ (d : Desk). d.machine.ring.length) (due_is u)

    not_refused : (l : Lines) (r : Passed) (row : List ℕ) → ByteTimeCall e.machine l e.row r row → r.outcome ≡ done
    not_refused l r row call =
        number_done _ ((demand_1.byte_time_call e.machine l e.row r row call).given.done.1 (λ t turn. no_turn t turn))
      where
        no_turn : (t : ℕ) → AtByteTime e.machine e.row t → ⊥
        no_turn t (byte_time_2 bad) = refusals.valid e.machine valid bad
        no_turn t (byte_time_3 other) = other size
        no_turn t (byte_time_4 above) =
            let inside = (valid_ring e.machine valid).inside in
            let low = asked.low e.machine.ring.position (omega (arith, inside, size, ap length row_there)) in
            omega (arith, above, low, ap (λ (row : List ℕ). get_or row e.machine.ring.position 0) row_there)

    ending : Ending c e (passed u)
    ending =
        record {
          goes_on = not_refused;
          where_one = λ ring late. by_then (omega (arith, within_found c asked host still_quiet lit ring));
          where_none = λ nowhere late.
              let (k, fifth, same, most) = within_lost c asked host still_quiet lit nowhere in
              by_then (omega (arith, same, most));
        }

  -- ---- as it ends

  module _ (course : Course c) (head : throughout head_loaded course.calls ≡ true)
      (head_last : head_loaded course.before course.after course.last ≡ true) where
    abbrev as_host : Host
    as_host = course_then course silent

    rest : Quiet (made_then course.last silent) course.before
    rest = quiet_made course.last silent course.alone_last (silent_quiet course.after)

    quiet : Quiet as_host (since c)
    quiet = quiet_use course.calls (made_then course.last silent) course.alone rest

    lit_through : HeadOn as_host
    lit_through =
        use_on course.calls (made_then course.last silent) head (made_on course.last silent head_last (λ n. refl))

    is_time : time c asked as_host quiet lit_through ≡ took course
    is_time =
        ends_once as_host (since c) _ _ (over c asked as_host quiet lit_through)
        (ends_there c ReadSector (decodes_read c.machine.chip c.byte asked.single) (λ e. never (cc)) course silent
        (silent_quiet course.after))

    ends_so : ReadEnds c course
    ends_so =
        record {
          not_found = λ l r call. exactly l r call;
          where_one = λ ring. omega (arith, is_time, within_found c asked as_host quiet lit_through ring);
          where_none = λ nowhere.
              let (k, fifth, same, most) = within_lost c asked as_host quiet lit_through nowhere in
              (k, fifth, sym is_time ∙ same, most);
        }
      where
        after : at as_host (loaded (scene_of c as_host)) (time c asked as_host quiet lit_through) ≡ course.after
        after =
            ap (λ (d : Desk). at as_host d (time c asked as_host quiet lit_through)) (sym (since_loaded c as_host))
            ∙ ap (at as_host (since c)) is_time
            ∙ at_end c ReadSector (decodes_read c.machine.chip c.byte asked.single) (λ e. never (cc)) course silent
            (silent_quiet course.after)

        exactly : (l : Lines) (r : Read)
            → ReadCall course.after.machine l 0 r
            → (bit_of r.byte not_found_bit ≡ true) ↔ NothingToRead c silent
        exactly l r call =
            let byte : r.byte ≡ (read_register (at as_host (loaded (scene_of c as_host)) (time c asked as_host quiet lit_through)).machine l 0).byte =
            ap (λ (q : Read). q.byte) call.told
            ∙ ap (λ (d : Desk). (read_register d.machine l 0).byte) (sym after) in
            let told = (verdict c asked as_host quiet lit_through).exactly l in (
              λ on. nothing_same c as_host silent (told.0 (sym (ap (λ (b : ℕ). bit_of b 4) byte) ∙ on)),
              λ nothing. ap (λ (b : ℕ). bit_of b 4) byte ∙ told.1 (nothing_same c silent as_host nothing),
            )

-- "In time"
pub demand_3 : Demand3
demand_3 =
    record {
      ends = λ c e u asked. ending c asked e u;
      ends_so = λ c course asked. ends_so c asked course;
    }
