-- A host that takes no byte of the sector that it reads gets Lost Data, from `demand_2` and `march` alone. Assumes nothing.
use mathlib.Core.Path.{◌≡◌, refl, sym, subst}
use mathlib.Core.Bool.{Bool, true}
use Prim.Native.Nat.{ℕ, ◌+◌, ◌<◌}
use native.Mathlib.Omega.{arith}
use lib.Dec.{leb}
use borrow.Author.Tests.{leb-true}
use Rattle.command.specs.Sizes.{field_size}
use Rattle.command.proofs.Tables.{of_sizes}
use Rattle.hosts.specs.Hosts.{Host, Desk}
use Rattle.hosts.specs.Bytes.{deed_at, hands}
use Rattle.lost_data.specs.LostData.{none_on_dr, ByteLost}
use Rattle.uses.specs.Uses.{made_then}
use Rattle.uses.specs.Courses.{lost_data_bit, Shows, since, silent, course_then, read_sector}
use Rattle.exact.specs.Demand2.{size_at}
use Rattle.uses.specs.Sessions.{WriteThenRead, session_of}
use Rattle.uses.proofs.Sessions.{resumed_is}
use Rattle.demands.specs.Demands.{ReadBackAsked}
use Rattle.demands.proofs.Demand2.{demand_2}
use Rattle.demands.proofs.March.{march}
use Rattle.applied.specs.March.{Unread}
use Rattle.applied.proofs.AllCalls.{all_calls, all_host, all_passed, all_alone}
use Rattle.applied.proofs.LeavesDr.{LeavesDr, made_leaves, use_leaves}

-- "The two low bits of length give 128, 256, 512, 1,024.", with L 0 in another order: two bytes at least
two_bytes : (ibm : Bool) (length : ℕ) → 1 < field_size ibm length
two_bytes ibm length = leb-true 2 (field_size ibm length) (of_sizes (leb 2) refl ibm length)

module _ (t : WriteThenRead) (p : ℕ) (a : ReadBackAsked t p) (u : Unread t) where
  abbrev reader : Host
  reader = course_then t.reading silent

  two : 1 < size_at (session_of t) p
  two = two_bytes _ _

  leaves : LeavesDr reader
  unfolding none_on_dr
  leaves =
      use_leaves t.reading.calls (made_then t.reading.last silent) u.calls
      (made_leaves t.reading.last silent u.last (λ n. refl))

  -- the second byte of the sector is put over the first
  pub unread : Shows t.reading.after lost_data_bit true
  unread l r call =
      let (w, first, place) = (demand_2.reads_back t p a).same.each in
      let hand : (i : ℕ) → i < 2 → hands (deed_at reader (since t.read) (first + i)) ≡ true =
      λ i low.
      subst (λ (d : Desk). hands (deed_at reader d (first + i)) ≡ true) (sym (resumed_is t))
      (place.hand i (omega (arith, low, two))) in
      let lost : ByteLost reader (since t.read) (first + 1) =
      record {
        j = first + 0;
        before = omega arith;
        first = hand 0 (omega arith);
        second = hand 1 (omega arith);
        untaken = λ i after until. leaves i;
      } in
      (march.read t.read t.reading.after (all_calls t.reading)
      (read_sector a.reads.first a.reads.last a.reads.even) (all_alone t.reading) l r call).1 (
        first + 1,
        omega (arith, place.within_read, all_passed t.reading, two),
        subst (λ (h : Host). ByteLost h (since t.read) (first + 1)) (sym (all_host t.reading silent)) lost,
      )
