-- The search for an ID, document 01, "Fields". Assumes nothing.
use Rattle.std.specs.Prelude.{Bool, true, false, cond, ◌&&◌, ℕ, ◌+◌, ltb, leb, eqb, Option, Some, None}
use Rattle.scan.specs.Ids.{id_step}
use Rattle.scan.specs.declared.Id.{Id}
use Rattle.scan.specs.declared.Scan.{Scan}
use Rattle.scan.specs.declared.Scan.TheVariants.{Gap}
use Rattle.scan.specs.declared.Heard.{Heard}
use Rattle.scan.specs.declared.Heard.TheVariants.{On, Whole}
use Rattle.command.specs.Commands.{job_of}
use Rattle.command.specs.Sizes.{field_size}
use Rattle.command.specs.declared.Order.{Order}
use Rattle.command.specs.declared.Job.{Job}
use Rattle.command.specs.declared.Job.TheVariants as job
use Rattle.activity.specs.Acts.{pass}
use Rattle.activity.specs.declared.Seen.{Seen}
use Rattle.activity.specs.declared.Act.{Act}
use Rattle.activity.specs.declared.Activity.{Activity}
use Rattle.activity.specs.declared.Activity.TheVariants.{Idle, Search, Window, Preamble}
use Rattle.activity.specs.declared.Deed.TheVariants.{Nothing, Matched, NotFound}

-- "Pulses count from its first byte time": the pulses seen with this byte time, of which the fifth ends all
unfoldable pub pulses_seen : ℕ → Bool → ℕ
pulses_seen seen index = cond index (cond (ltb seen 5) (seen + 1) 5) seen

-- as long as "the fifth ends the command" does not hold
unfoldable pub counted_of : ℕ → Bool → Option ℕ
counted_of seen index = cond (ltb (pulses_seen seen index) 5) (Some (pulses_seen seen index)) None

-- "with C, its side is S", on the 1797 "the ID's side must equal U": the side that is asked, where one is
unfoldable pub side_matches : ℕ → Option ℕ → Bool
side_matches side None = true
side_matches side (Some only) = eqb side only

-- "its track is TR and, for Type II, its sector is SR and, with C, its side is S": the order has the side
unfoldable pub sector_matches : Order → Seen → Id → Bool
sector_matches o s id = eqb id.track s.tr && eqb id.sector s.sr && side_matches id.side o.side

-- "An ID matches if its track is TR and, for Type II, its sector is SR and, with C, its side is S."
unfoldable pub matches_for : Order → Seen → Id → Job → Bool
matches_for o s id job.Nothing = false
matches_for o s id job.Verify = eqb id.track s.tr
matches_for o s id job.ReadSector = sector_matches o s id
matches_for o s id job.WriteSector = sector_matches o s id
matches_for o s id job.ReadAddress = false
matches_for o s id job.WriteTrack = false

-- after a good match: a verify is over, a read waits for its data mark, of which no A1 has passed yet ("in MFM its three A1s
-- too"), a write makes its field; a data field has two CRC cells, and a written one an FF after them
unfoldable pub after_match : Bool → ℕ → Job → Activity
after_match ibm length job.Nothing = Idle
after_match ibm length job.Verify = Idle
after_match ibm length job.ReadSector = Window (field_size ibm length + 2) 0 0
after_match ibm length job.WriteSector = Preamble (field_size ibm length + 3) 0
after_match ibm length job.ReadAddress = Idle
after_match ibm length job.WriteTrack = Idle

-- a search with no part of an ID in hand: where it begins, and after a whole ID, its pulses counted on
abbrev pub afresh : ℕ → Activity
afresh pulses = Search pulses (Gap 0)

-- after a record: where another follows, "the search starts afresh instead"; else the command is over
unfoldable pub after_record : Bool → Activity
after_record follows = cond follows (afresh 0) Idle

-- "One that matches but has a bad CRC sets bit 3 and the search goes on; a good match clears it."
unfoldable pub id_found : Order → Seen → ℕ → Id → Act
id_found o s pulses id =
    cond (matches_for o s id (job_of o.command))
    (cond id.good
    (pass s (after_match o.ibm id.length (job_of o.command)) (Matched false))
    (pass s (afresh pulses) (Matched true)))
    (pass s (afresh pulses) Nothing)

unfoldable pub search_step : Order → Seen → ℕ → Heard → Act
search_step o s pulses (On scan) = pass s (Search pulses scan) Nothing
search_step o s pulses (Whole id) = id_found o s pulses id

-- "the fifth ends the command with bit 4 before its cell is looked at"
unfoldable pub search_cell : Order → Seen → ℕ → Scan → Act
search_cell o s seen scan =
    cond (leb 5 (pulses_seen seen s.index)) (pass s Idle NotFound)
    (search_step o s (pulses_seen seen s.index) (id_step s.mfm s.cell scan))
