-- Two answers to one input are equal, for each public call of each library, and so are the two rows that it leaves.
-- Assumes nothing.
use mathlib.Core.Path.{◌≡◌, refl, sym, ap, ap₂, ◌∙◌}
use mathlib.Core.Bool.{Bool}
use mathlib.Core.List.{List}
use Prim.Native.Nat.{ℕ}
use lib.ListN.{length}
use contract.Lifetimes.{Lfts}
use denote.Ref.{Bor, MutBor}
use Rattle.std.specs.Prelude.{Option, Some, Result}
use Rattle.common.proofs.Cases.{determined}
use Rattle.refusals.specs.declared.Refusal.{Refusal}
use Rattle.refusals.specs.Numbers.{refused_text}
use Rattle.activity.specs.declared.Activity.{Activity}
use Rattle.registers.specs.declared.Lines.{Lines}
use Rattle.registers.specs.declared.Ring.{Ring}
use Rattle.stretch.specs.Stretches.{stretch_ahead}
use Rattle.wd.specs.declared.Machine.{Machine}
use Rattle.wd.specs.declared.Passed.{Passed}
use Rattle.wd.specs.declared.Ran.{Ran}
use Rattle.wd.specs.Rows.{byte_time, byte_time_row, run_of, run_row}
use Rattle.fields.specs.Rings.{cells_of}
use Rattle.fields.specs.Ids.{next_id}
use Rattle.fields.specs.DataMarks.{mark_behind}
use Rattle.fields.specs.declared.Found.{Found}
use Rattle.fields.specs.declared.Marked.{Marked}
use Rattle.viewer.specs.Views.{place_of, part_cells, part_start, number_of}
use Rattle.viewer.specs.declared.Place.{Place}
use Rattle.picture.specs.Reader.{reader_answer, reader_room}
use Rattle.picture.specs.declared.Answer.{Answer}
use Rattle.script.specs.Lines.{items_of, fed_reader, ended_line, outcome_of, reader_with}
use Rattle.script.specs.Requests.{asked_by, request_of}
use Rattle.script.specs.declared.lines.BadLine.{BadLine}
use Rattle.script.specs.declared.lines.Line.{Line}
use Rattle.script.specs.declared.lines.Numbers.{Numbers}
use Rattle.script.specs.declared.lines.Reader.{Reader}
use Rattle.script.specs.declared.requests.Request.{Request}
use Rattle.determined.specs.Answers.{OneAnswer}
use Rattle.crc.proofs as crc
use Rattle.refusals.proofs as refusals
use Rattle.refusals.specs.contracts.RefusalDisplay.TheImpl as RefusalDisplay
use Rattle.scan.proofs as scan
use Rattle.command.proofs as command
use Rattle.activity.proofs as activity
use Rattle.stepping.proofs as stepping
use Rattle.search.proofs as search
use Rattle.reading.proofs as reading
use Rattle.writing.proofs as writing
use Rattle.formatting.proofs as formatting
use Rattle.act.proofs as act
use Rattle.registers.proofs as registers
use Rattle.accepting.proofs as accepting
use Rattle.effects.proofs as effects
use Rattle.stretch.proofs as stretch
use Rattle.transfer.proofs as transfer
use Rattle.wd.proofs as wd
use Rattle.fields.proofs as fields
use Rattle.viewer.proofs as viewer
use Rattle.picture.proofs as picture
use Rattle.text.proofs as text
use Rattle.script.proofs as script

-- a contract that is an equation
equation : {A R E : Type 0} (answer : A → R) → OneAnswer (λ (a : A) (r : R) (e : E). r ≡ answer a)
equation answer a r r' e e' = determined

-- and one that states a bound as well
bounded : {A R E : Type 0} (answer : A → R) (Bound : A → R → Type 0)
    → OneAnswer (λ (a : A) (r : R) (e : E). (r ≡ answer a) × Bound a r)
bounded answer Bound a r r' e e' p q = determined p.0 q.0

-- ---- the calls that are lent no row

pub crc_calls : (κs : Lfts 0)
    → OneAnswer (crc.step.Reads.Learnt κs)
crc_calls κs = equation _

pub refusals_calls : (κs : Lfts 0)
    → OneAnswer (refusals.Refusal.number.Reads.Learnt κs)
    × OneAnswer (refusals.number.Reads.Learnt κs)
refusals_calls κs = (equation _, equation _)

-- what a refusal prints: its `fmt` states one text for each
pub refusal_text : (refusal : Refusal) → RefusalDisplay.ghosts.output refusal ≡ Some (refused_text refusal)
refusal_text refusal = refl

pub scan_calls : (κs : Lfts 0)
    → OneAnswer (scan.pass.Reads.Learnt κs)
    × OneAnswer (scan.mark_crc.Reads.Learnt κs)
    × OneAnswer (scan.seek_data.Reads.Learnt κs)
    × OneAnswer (scan.DataMark.byte.Reads.Learnt κs)
    × OneAnswer (scan.DataMark.is_deleted.Reads.Learnt κs)
    × OneAnswer (scan.hear.Reads.Learnt κs)
    × OneAnswer (scan.lead.Reads.Learnt κs)
    × OneAnswer (scan.window.Reads.Learnt κs)
    × OneAnswer (scan.length_within.Reads.Learnt κs)
scan_calls κs =
    (equation _, equation _, equation _, equation _, equation _, equation _, equation _, equation _, equation _)

pub command_calls : (κs : Lfts 0)
    → OneAnswer (command.decode.Reads.Learnt κs)
    × OneAnswer (command.class_of.Reads.Learnt κs)
    × OneAnswer (command.job_of.Reads.Learnt κs)
    × OneAnswer (command.is_restore.Reads.Learnt κs)
    × OneAnswer (command.order_of.Reads.Learnt κs)
    × OneAnswer (command.times.step_time.Reads.Learnt κs)
    × OneAnswer (command.times.settle_time.Reads.Learnt κs)
    × OneAnswer (command.sizes.size.Reads.Learnt κs)
    × OneAnswer (command.sizes.field_size.Reads.Learnt κs)
command_calls κs =
    (equation _, equation _, equation _, equation _, equation _, equation _, equation _, bounded _ _, bounded _ _)

pub command_bits_calls : (κs : Lfts 0)
    → OneAnswer (command.bits.is_on.Reads.Learnt κs)
    × OneAnswer (command.bits.selects_side.Reads.Learnt κs)
    × OneAnswer (command.bits.side_asked.Reads.Learnt κs)
    × OneAnswer (command.bits.ibm_lengths.Reads.Learnt κs)
    × OneAnswer (command.bits.mark_written.Reads.Learnt κs)
command_bits_calls κs = (equation _, equation _, equation _, equation _, equation _)

pub activity_calls : (κs : Lfts 0)
    → OneAnswer (activity.Seen.byte.Reads.Learnt κs)
    × OneAnswer (activity.Seen.taken.Reads.Learnt κs)
    × OneAnswer (activity.Seen.pass.Reads.Learnt κs)
    × OneAnswer (activity.Seen.go_on.Reads.Learnt κs)
    × OneAnswer (activity.busy.Reads.Learnt κs)
    × OneAnswer (activity.within.Reads.Learnt κs)
activity_calls κs = (equation _, equation _, equation _, equation _, equation _, equation _)

pub stepping_calls : (κs : Lfts 0)
    → OneAnswer (stepping.seek.Reads.Learnt κs)
    × OneAnswer (stepping.pulse.Reads.Learnt κs)
    × OneAnswer (stepping.stop_in.Reads.Learnt κs)
stepping_calls κs = (equation _, equation _, equation _)

pub search_calls : (κs : Lfts 0)
    → OneAnswer (search.pulses.Reads.Learnt κs)
    × OneAnswer (search.counted.Reads.Learnt κs)
    × OneAnswer (search.again.Reads.Learnt κs)
    × OneAnswer (search.search.Reads.Learnt κs)
search_calls κs = (equation _, equation _, equation _, equation _)

pub reading_calls : (κs : Lfts 0)
    → OneAnswer (reading.window.Reads.Learnt κs)
    × OneAnswer (reading.read.Reads.Learnt κs)
    × OneAnswer (reading.hunt.Reads.Learnt κs)
    × OneAnswer (reading.address.Reads.Learnt κs)
reading_calls κs = (equation _, equation _, equation _, equation _)

pub writing_calls : (κs : Lfts 0)
    → OneAnswer (writing.preamble.Reads.Learnt κs)
    × OneAnswer (writing.put.Reads.Learnt κs)
writing_calls κs = (equation _, equation _)

pub formatting_calls : (κs : Lfts 0)
    → OneAnswer (formatting.laid_cell.Reads.Learnt κs)
    × OneAnswer (formatting.laid_crc.Reads.Learnt κs)
    × OneAnswer (formatting.format.Reads.Learnt κs)
    × OneAnswer (formatting.format_crc.Reads.Learnt κs)
formatting_calls κs = (equation _, equation _, equation _, equation _)

pub transfer_calls : (κs : Lfts 0)
    → OneAnswer (transfer.transferred.Reads.Learnt κs)
transfer_calls κs = equation _

pub act_calls : (κs : Lfts 0)
    → OneAnswer (act.turn.Reads.Learnt κs)
act_calls κs = equation _

pub accepting_calls : (κs : Lfts 0)
    → OneAnswer (accepting.conditions_for.Reads.Learnt κs)
    × OneAnswer (accepting.Acceptance.new.Reads.Learnt κs)
    × OneAnswer (accepting.Acceptance.regs.Reads.Learnt κs)
    × OneAnswer (accepting.Acceptance.wires.Reads.Learnt κs)
    × OneAnswer (accepting.Acceptance.flags.Reads.Learnt κs)
    × OneAnswer (accepting.Acceptance.head.Reads.Learnt κs)
    × OneAnswer (accepting.Acceptance.activity.Reads.Learnt κs)
    × OneAnswer (accepting.Acceptance.side.Reads.Learnt κs)
accepting_calls κs = (equation _, equation _, equation _, equation _, equation _, equation _, equation _, equation _)

pub effects_calls : (κs : Lfts 0)
    → OneAnswer (effects.Parts.after.Reads.Learnt κs)
effects_calls κs = equation _

pub registers_bus_calls : (κs : Lfts 0)
    → OneAnswer (registers.bus.read_refusal.Reads.Learnt κs)
    × OneAnswer (registers.bus.read_byte.Reads.Learnt κs)
    × OneAnswer (registers.bus.read_wires.Reads.Learnt κs)
    × OneAnswer (registers.bus.load_refusal.Reads.Learnt κs)
    × OneAnswer (registers.bus.load_regs.Reads.Learnt κs)
    × OneAnswer (registers.bus.load_wires.Reads.Learnt κs)
registers_bus_calls κs = (equation _, equation _, equation _, equation _, equation _, equation _)

pub registers_rings_calls : (κs : Lfts 0)
    → OneAnswer (registers.rings.ring_within.Reads.Learnt κs)
    × OneAnswer (registers.rings.next.Reads.Learnt κs)
    × OneAnswer (registers.rings.look.Reads.Learnt κs)
    × OneAnswer (registers.rings.condition_met.Reads.Learnt κs)
registers_rings_calls κs = (equation _, equation _, equation _, equation _)

pub registers_status_byte_calls : (κs : Lfts 0)
    → OneAnswer (registers.status_byte.of_type1.Reads.Learnt κs)
    × OneAnswer (registers.status_byte.of_type2.Reads.Learnt κs)
registers_status_byte_calls κs = (equation _, equation _)

pub stretch_calls : (κs : Lfts 0)
    → OneAnswer (stretch.later.Reads.Learnt κs)
stretch_calls κs = equation _

pub wd_calls : (κs : Lfts 0)
    → OneAnswer (wd.Machine.power_on.Reads.Learnt κs)
    × OneAnswer (wd.Machine.read_register.Reads.Learnt κs)
    × OneAnswer (wd.Machine.load_register.Reads.Learnt κs)
wd_calls κs = (equation _, equation _, equation _)

pub text_calls : (κs : Lfts 0)
    → OneAnswer (text.digit.Reads.Learnt κs)
    × OneAnswer (text.hex.Reads.Learnt κs)
    × OneAnswer (text.figures.Reads.Learnt κs)
    × OneAnswer (text.places.Reads.Learnt κs)
text_calls κs = (equation _, equation _, equation _, bounded _ _)

pub picture_calls : (κs : Lfts 0)
    → OneAnswer (picture.KindTryFromU8.try_from.Reads.Learnt κs)
    × OneAnswer (picture.Kind.shape.Reads.Learnt κs)
    × OneAnswer (picture.Kind.length.Reads.Learnt κs)
picture_calls κs = (equation _, bounded _ _, bounded _ _)

pub script_calls : (κs : Lfts 0)
    → OneAnswer (script.lines.Reader.start.Reads.Learnt κs)
    × OneAnswer (script.lines.Reader.fed.Reads.Learnt κs)
    × OneAnswer (script.lines.Reader.ended.Reads.Learnt κs)
    × OneAnswer (script.words.Word.none.Reads.Learnt κs)
    × OneAnswer (script.words.Word.with.Reads.Learnt κs)
    × OneAnswer (script.words.Word.is_letter.Reads.Learnt κs)
    × OneAnswer (script.words.Word.is_number.Reads.Learnt κs)
script_calls κs = (equation _, equation _, equation _, equation _, equation _, equation _, equation _)

-- the line is lent for a look
pub request_call : (κs : Lfts 1) (line line' : Bor Line) (r r' : Result (Option Request) BadLine) (e e' : _)
    → line.now ≡ line'.now
    → script.request_of.Reads.Learnt κs (line, tt) r e
    → script.request_of.Reads.Learnt κs (line', tt) r' e'
    → r ≡ r'
request_call κs line line' r r' e e' same p q = p ∙ ap request_of same ∙ sym q

-- and so is what holds its numbers
pub numbers_call : (κs : Lfts 1) (numbers numbers' : Bor Numbers) (r r' : Bor (List ℕ)) (e e' : _)
    → numbers.now ≡ numbers'.now
    → script.lines.Numbers.as_slice.Reads.Learnt κs (numbers, tt) r e
    → script.lines.Numbers.as_slice.Reads.Learnt κs (numbers', tt) r' e'
    → r.now ≡ r'.now
numbers_call κs numbers numbers' r r' e e' same p q = p.0 ∙ ap items_of same ∙ sym q.0

-- the reader is changed where it stands
module _ (κs : Lfts 1) where
  pub feed_call : (byte : ℕ) (reader reader' : MutBor Reader) (r r' : Unit {0}) (e e' : MutBor Reader × (ℕ × Unit {0}))
      → reader.now ≡ reader'.now
      → script.lines.Reader.feed.Reads.Learnt κs (reader, (byte, tt)) r e
      → script.lines.Reader.feed.Reads.Learnt κs (reader', (byte, tt)) r' e'
      → (r ≡ r') × (e.0.now ≡ e'.0.now)
  feed_call byte reader reader' r r' e e' same p q = (refl, p ∙ ap (λ found. fed_reader found byte) same ∙ sym q)

  pub end_call : (newline : Bool) (reader reader' : MutBor Reader) (r r' : Result (Unit {0}) BadLine) (e e' : MutBor Reader × (Bool × Unit {0}))
      → reader.now ≡ reader'.now
      → script.lines.Reader.end.Reads.Learnt κs (reader, (newline, tt)) r e
      → script.lines.Reader.end.Reads.Learnt κs (reader', (newline, tt)) r' e'
      → (r ≡ r') × (e.0.now ≡ e'.0.now)
  end_call newline reader reader' r r' e e' same p q = (
    p.0 ∙ ap (λ found. outcome_of (ended_line found newline)) same ∙ sym q.0,
    p.1 ∙ ap (λ found. reader_with found (ended_line found newline)) same ∙ sym q.1,
  )

-- a letter and numbers
pub asked_by_call : (κs : Lfts 1) (letter : Option ℕ) (numbers numbers' : Bor (List ℕ)) (r r' : Result (Option Request) BadLine) (e e' : _)
    → numbers.now ≡ numbers'.now
    → script.asked_by.Reads.Learnt κs (letter, (numbers, tt)) r e
    → script.asked_by.Reads.Learnt κs (letter, (numbers', tt)) r' e'
    → r ≡ r'
asked_by_call κs letter numbers numbers' r r' e e' same p q = p ∙ ap (asked_by letter) same ∙ sym q

-- ---- the calls that are lent a row: their input is what it holds, wherever it stands

module _ (κs : Lfts 1) (m : Machine) (l : Lines) where
  pub byte_time_call : (row row' : MutBor (List ℕ)) (r r' : Passed) (e e' : Machine × (Lines × (MutBor (List ℕ) × Unit {0})))
      → row.now ≡ row'.now
      → wd.Machine.byte_time.Reads.Learnt κs (m, (l, (row, tt))) r e
      → wd.Machine.byte_time.Reads.Learnt κs (m, (l, (row', tt))) r' e'
      → (r ≡ r') × (e.1.1.0.now ≡ e'.1.1.0.now)
  byte_time_call row row' r r' e e' same p q = (
    p.0 ∙ ap (byte_time m l) same ∙ sym q.0,
    p.1 ∙ ap (byte_time_row m l) same ∙ sym q.1,
  )

  pub run_call : (limit : ℕ) (row row' : MutBor (List ℕ)) (r r' : Ran) (e e' : Machine × (Lines × (ℕ × (MutBor (List ℕ) × Unit {0}))))
      → row.now ≡ row'.now
      → wd.Machine.run.Reads.Learnt κs (m, (l, (limit, (row, tt)))) r e
      → wd.Machine.run.Reads.Learnt κs (m, (l, (limit, (row', tt)))) r' e'
      → (r ≡ r') × (e.1.1.1.0.now ≡ e'.1.1.1.0.now)
  run_call limit row row' r r' e e' same p q = (
    p.0 ∙ ap (run_of m l limit) same ∙ sym q.0,
    p.1 ∙ ap (run_row m l limit) same ∙ sym q.1,
  )

-- the row is lent for a look
pub ahead_call : (κs : Lfts 1) (ring : Ring) (activity : Activity) (limit : ℕ) (row row' : Bor (List ℕ)) (r r' : ℕ) (e e' : _)
    → row.now ≡ row'.now
    → stretch.ahead.Reads.Learnt κs (ring, (activity, (limit, (row, tt)))) r e
    → stretch.ahead.Reads.Learnt κs (ring, (activity, (limit, (row', tt)))) r' e'
    → r ≡ r'
ahead_call κs ring activity limit row row' r r' e e' same p q = p.0 ∙ ap (stretch_ahead ring activity limit) same ∙ sym q.0

module _ (κs : Lfts 1) (row row' : Bor (List ℕ)) (same : row.now ≡ row'.now) where
  pub cell_call : (place r r' : ℕ) (e e' : _)
      → fields.cell.Reads.Learnt κs (row, (place, tt)) r e
      → fields.cell.Reads.Learnt κs (row', (place, tt)) r' e'
      → r ≡ r'
  cell_call place r r' e e' p q = p ∙ ap (λ (row : List ℕ). cells_of row place) same ∙ sym q

  pub next_id_call : (mfm : Bool) (from to : ℕ) (r r' : Option Found) (e e' : _)
      → fields.next_id.Reads.Learnt κs (row, (mfm, (from, (to, tt)))) r e
      → fields.next_id.Reads.Learnt κs (row', (mfm, (from, (to, tt)))) r' e'
      → r ≡ r'
  next_id_call mfm from to r r' e e' p q = p ∙ ap (λ (row : List ℕ). next_id mfm row from to) same ∙ sym q

  pub mark_behind_call : (mfm : Bool) (place : ℕ) (r r' : Option Marked) (e e' : _)
      → fields.mark_behind.Reads.Learnt κs (row, (mfm, (place, tt))) r e
      → fields.mark_behind.Reads.Learnt κs (row', (mfm, (place, tt))) r' e'
      → r ≡ r'
  mark_behind_call mfm place r r' e e' p q = p ∙ ap (λ (row : List ℕ). mark_behind mfm row place) same ∙ sym q

module _ (κs : Lfts 2) (side0 side1 side0' side1' : Bor (List ℕ)) (mfm : Bool) (track sector : ℕ)
    (same0 : side0.now ≡ side0'.now) (same1 : side1.now ≡ side1'.now) where
  pub find_call : (r r' : Result Place Refusal) (e e' : _)
      → viewer.find.Reads.Learnt κs (side0, (side1, (mfm, (track, (sector, tt))))) r e
      → viewer.find.Reads.Learnt κs (side0', (side1', (mfm, (track, (sector, tt))))) r' e'
      → r ≡ r'
  find_call r r' e e' p q = p.0 ∙ ap₂ (λ (s0 s1 : List ℕ). place_of s0 s1 mfm track sector) same0 same1 ∙ sym q.0

  pub number_call : (r r' : ℕ) (e e' : _)
      → viewer.number.Reads.Learnt κs (side0, (side1, (mfm, (track, (sector, tt))))) r e
      → viewer.number.Reads.Learnt κs (side0', (side1', (mfm, (track, (sector, tt))))) r' e'
      → r ≡ r'
  number_call r r' e e' p q = p ∙ ap₂ (λ (s0 s1 : List ℕ). number_of (place_of s0 s1 mfm track sector)) same0 same1 ∙ sym q

-- the part that the viewer hands back: its cells by what the sides hold, and where they stand alike, the place of it too
module _ (κs : Lfts 1) (side0 side1 side0' side1' : Bor (List ℕ)) (mfm : Bool) (track sector : ℕ)
    (same0 : side0.now ≡ side0'.now) (same1 : side1.now ≡ side1'.now) where
  pub view_call : (r r' : Bor (List ℕ)) (e e' : _)
      → viewer.view.Reads.Learnt κs (side0, (side1, (mfm, (track, (sector, tt))))) r e
      → viewer.view.Reads.Learnt κs (side0', (side1', (mfm, (track, (sector, tt))))) r' e'
      → (r.now ≡ r'.now) × (side0.ref_ptr ≡ side0'.ref_ptr → side1.ref_ptr ≡ side1'.ref_ptr → r.ref_ptr ≡ r'.ref_ptr)
  view_call r r' e e' p q = (
    p.0 ∙ ap₂ (λ (s0 s1 : List ℕ). part_cells (place_of s0 s1 mfm track sector) s0 s1) same0 same1 ∙ sym q.0,
    λ at0 at1.
        p.1
        ∙ ap₂ (λ (s0 s1 : List ℕ). part_start (place_of s0 s1 mfm track sector) side0.ref_ptr side1.ref_ptr) same0 same1
        ∙ ap₂ (part_start (place_of side0'.now side1'.now mfm track sector)) at0 at1
        ∙ sym q.1,
  )

pub read_call : (κs : Lfts 2) (bytes : Bor (List ℕ)) (room : MutBor (List ℕ)) (bytes' : Bor (List ℕ)) (room' : MutBor (List ℕ)) (r r' : Answer) (e e' : Bor (List ℕ) × (MutBor (List ℕ) × Unit {0}))
    → bytes.now ≡ bytes'.now
    → room.now ≡ room'.now
    → picture.read.Reads.Learnt κs (bytes, (room, tt)) r e
    → picture.read.Reads.Learnt κs (bytes', (room', tt)) r' e'
    → (r ≡ r') × (e.1.0.now ≡ e'.1.0.now)
read_call κs bytes room bytes' room' r r' e e' b c p q = (
  p.0 ∙ ap₂ (λ (bs cs : List ℕ). reader_answer bs (length cs)) b c ∙ sym q.0,
  p.1 ∙ ap₂ reader_room b c ∙ sym q.1,
)
