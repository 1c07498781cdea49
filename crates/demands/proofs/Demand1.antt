-- Demand 1, over the contracts of the calls. Assumes nothing.
use mathlib.Core.Path.{◌≡◌, sym, ◌∙◌, subst}
use mathlib.Core.Bool.{Bool}
use mathlib.Core.List.{List}
use Prim.Native.Nat.{ℕ}
use lib.ListN.{length}
use Rattle.registers.specs.declared.Lines.{Lines}
use Rattle.wd.specs.declared.Machine.{Machine}
use Rattle.wd.specs.declared.Passed.{Passed}
use Rattle.wd.specs.declared.Ran.{Ran}
use Rattle.picture.specs.declared.Answer.{Answer}
use Rattle.picture.specs.Reader.{reader_answer, reader_room}
use Rattle.viewer.specs.Views.{place_of, part_cells, part_start, number_of}
use Rattle.safe.specs.Demand1.{SafePowerOn, SafeLoad, SafeRead, SafeByteTime, SafeRun}
use Rattle.safe.specs.Pictures.{SafePicture}
use Rattle.safe.specs.Viewer.{SafeView}
use Rattle.safe.proofs.Demand1.{power_on_safe, load_safe, read_safe, byte_time_safe, run_safe}
use Rattle.safe.proofs.PicturesTaken.{picture_safe}
use Rattle.safe.proofs.Viewed.{view_safe}
use Rattle.uses.specs.CallContracts.{ByteTimeCall, RunCall, PictureCall, ViewCall, NumberCall}
use Rattle.uses.proofs.EveryUse.{byte_time_told, run_told}
use Rattle.demands.specs.Demands.{Demand1}

byte_time_called :
    (m : Machine) (l : Lines) (row : List ℕ) (r : Passed) (row' : List ℕ) → ByteTimeCall m l row r row' → SafeByteTime m row r row'
byte_time_called m l row r row' call =
    let (answer, left) = byte_time_told call in
    subst (λ (q : Passed × List ℕ). SafeByteTime m row q.0 q.1) (λ i. (sym answer i, sym left i)) (byte_time_safe m l row)

run_called :
    (m : Machine) (l : Lines) (limit : ℕ) (row : List ℕ) (r : Ran) (row' : List ℕ)
    → RunCall m l limit row r row'
    → SafeRun m l limit row (record { ran = r; row = row' })
run_called m l limit row r row' call =
    let (answer, left) = run_told call in
    subst (SafeRun m l limit row) (λ i. record { ran = sym answer i; row = sym left i }) (run_safe m l limit row)

picture_called :
    (bytes room : List ℕ) (r : Answer) (room' : List ℕ) → PictureCall bytes room r room' → SafePicture bytes room r room'
picture_called bytes room r room' call =
    let answer = call.told.0 ∙ (λ i. reader_answer (call.bytes_before i) (length (call.room_before i))) in
    let left = sym call.room_after ∙ call.told.1 ∙ (λ i. reader_room (call.bytes_before i) (call.room_before i)) in
    subst (λ (q : Answer × List ℕ). SafePicture bytes room q.0 q.1) (λ i. (sym answer i, sym left i)) (picture_safe bytes room)

-- the part that the viewer hands back and the number of the other call are of one place
module _ (s0 s1 : List ℕ) (p0 : ℕ × ℕ) (mfm : Bool) (track sector : ℕ) (part : List ℕ) (start : ℕ × ℕ) (number : ℕ)
    (shown : ViewCall s0 s1 p0 mfm track sector part start) (numbered : NumberCall s0 s1 mfm track sector number) where
  part_is : part ≡ part_cells (place_of s0 s1 mfm track sector) s0 s1
  part_is =
      sym shown.cells
      ∙ shown.told.0
      ∙ (λ i. part_cells (place_of (shown.cells0 i) (shown.cells1 i) mfm track sector) (shown.cells0 i) (shown.cells1 i))

  start_is : start ≡ part_start (place_of s0 s1 mfm track sector) p0 shown.side1.ref_ptr
  start_is =
      sym shown.begins
      ∙ shown.told.1
      ∙ (λ i. part_start (place_of (shown.cells0 i) (shown.cells1 i) mfm track sector) (shown.start0 i) shown.side1.ref_ptr)

  number_is : number ≡ number_of (place_of s0 s1 mfm track sector)
  number_is =
      numbered.told ∙ (λ i. number_of (place_of (numbered.cells0 i) (numbered.cells1 i) mfm track sector))

  view_called : SafeView s0 s1 p0 mfm track sector number part start
  view_called =
      subst (λ (q : ℕ × List ℕ × (ℕ × ℕ)). SafeView s0 s1 p0 mfm track sector q.0 q.1 q.2)
      (λ i. (sym number_is i, sym part_is i, sym start_is i))
      (view_safe s0 s1 p0 shown.side1.ref_ptr mfm track sector)

-- "Safe on every input"
pub demand_1 : Demand1
demand_1 =
    record {
      power_on_call = λ size mfm chip r call. subst (SafePowerOn size chip) (sym call.told) (power_on_safe size mfm chip);
      load = λ m l number b r call. subst (SafeLoad m l number b) (sym call.told) (load_safe m l number b);
      read = λ m l number r call. subst (SafeRead m number) (sym call.told) (read_safe m l number);
      byte_time_call = byte_time_called;
      run = run_called;
      picture = picture_called;
      view = view_called;
    }
