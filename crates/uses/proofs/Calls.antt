-- Each call can be made: for every input its contract is met by the answer that the definition gives. Assumes nothing.
use mathlib.Core.Path.{refl}
use mathlib.Core.Bool.{Bool}
use mathlib.Core.List.{List, []}
use Prim.Native.Nat.{ℕ}
use lib.ListN.{length}
use Rattle.registers.specs.declared.Lines.{Lines}
use Rattle.wd.specs.declared.Machine.{Machine}
use Rattle.picture.specs.Reader.{reader_answer, reader_room}
use Rattle.viewer.specs.Views.{place_of, part_cells, part_start, number_of}
use Rattle.command.specs.declared.Chip.{Chip}
use Rattle.wd.specs.Machines.{power_on}
use Rattle.wd.specs.Reads.{read_register}
use Rattle.wd.specs.Loads.{load_register}
use Rattle.wd.specs.Rows.{byte_time, byte_time_row, run_of, run_row}
use Rattle.uses.specs.CallContracts.{PowerOnCall, LoadCall, ReadCall, ByteTimeCall, RunCall, PictureCall, ViewCall, NumberCall}

module _ (m : Machine) (l : Lines) where
  pub a_load : (number b : ℕ) → LoadCall m l number b (load_register m l number b)
  a_load number b = record { lifetimes = tt; exit = (m, (l, (number, (b, tt)))); told = refl }

  pub a_read : (number : ℕ) → ReadCall m l number (read_register m l number)
  a_read number = record { lifetimes = tt; exit = (m, (l, (number, tt))); told = refl }

  pub a_byte_time : (row : List ℕ) → ByteTimeCall m l row (byte_time m l row) (byte_time_row m l row)
  a_byte_time row =
      record {
        lifetimes = ([], tt);
        lent = record { ref_ptr = (0, 0); ghost_name = 0; now = row };
        exit = (m, (l, (record { ref_ptr = (0, 0); ghost_name = 0; now = byte_time_row m l row }, tt)));
        before = refl;
        told = (refl, refl);
        after = refl;
      }

  pub a_run : (limit : ℕ) (row : List ℕ) → RunCall m l limit row (run_of m l limit row) (run_row m l limit row)
  a_run limit row =
      record {
        lifetimes = ([], tt);
        lent = record { ref_ptr = (0, 0); ghost_name = 0; now = row };
        exit = (m, (l, (limit, (record { ref_ptr = (0, 0); ghost_name = 0; now = run_row m l limit row }, tt))));
        before = refl;
        told = (refl, refl);
        after = refl;
      }

pub a_power_on : (size : ℕ) (mfm : Bool) (chip : Chip) → PowerOnCall size mfm chip (power_on size mfm chip)
a_power_on size mfm chip = record { lifetimes = tt; exit = (size, (mfm, (chip, tt))); told = refl }

pub a_picture : (bytes room : List ℕ) → PictureCall bytes room (reader_answer bytes (length room)) (reader_room bytes room)
a_picture bytes room =
    record {
      lifetimes = ([], ([], tt));
      lent = record { ref_ptr = (0, 0); now = bytes };
      space = record { ref_ptr = (0, 0); ghost_name = 0; now = room };
      exit = (
        record { ref_ptr = (0, 0); now = bytes },
        (record { ref_ptr = (0, 0); ghost_name = 0; now = reader_room bytes room }, tt),
      );
      bytes_before = refl;
      room_before = refl;
      told = (refl, refl);
      room_after = refl;
    }

module _ (s0 s1 : List ℕ) (mfm : Bool) (track sector : ℕ) where
  pub a_view : (p0 p1 : ℕ × ℕ)
      → let place = place_of s0 s1 mfm track sector in
      ViewCall s0 s1 p0 mfm track sector (part_cells place s0 s1) (part_start place p0 p1)
  a_view p0 p1 =
      let place = place_of s0 s1 mfm track sector in
      record {
        lifetimes = ([], tt);
        side0 = record { ref_ptr = p0; now = s0 };
        side1 = record { ref_ptr = p1; now = s1 };
        answer = record { ref_ptr = part_start place p0 p1; now = part_cells place s0 s1 };
        exit = (
          record { ref_ptr = p0; now = s0 },
          (record { ref_ptr = p1; now = s1 }, (mfm, (track, (sector, tt)))),
        );
        cells0 = refl;
        cells1 = refl;
        start0 = refl;
        told = (refl, refl);
        cells = refl;
        begins = refl;
      }

  pub a_number : NumberCall s0 s1 mfm track sector (number_of (place_of s0 s1 mfm track sector))
  a_number =
      record {
        lifetimes = ([], ([], tt));
        side0 = record { ref_ptr = (0, 0); now = s0 };
        side1 = record { ref_ptr = (0, 0); now = s1 };
        exit = (
          record { ref_ptr = (0, 0); now = s0 },
          (record { ref_ptr = (0, 0); now = s1 }, (mfm, (track, (sector, tt)))),
        );
        cells0 = refl;
        cells1 = refl;
        told = refl;
      }
