-- The activities that the program tries `Refusal.Machine` with. Assumes nothing.
use Rattle.std.specs.Prelude.{false, ℕ, ◌%◌}
use Rattle.scan.specs.declared.Part.{Part}
use Rattle.scan.specs.declared.Scan.TheVariants.{Gap, Field}
use Rattle.activity.specs.declared.Activity.{Activity}
use Rattle.activity.specs.declared.Activity.TheVariants.{Seek, Stop, Settle, Search, Window, Data, Hunt, Address, Preamble, Put}
use Rattle.limits.specs.declared.counts.Count.{Count}
use Rattle.limits.specs.declared.counts.Count.TheVariants.{SeekLeft, StopLeft, SettleLeft, SearchPulses, SearchRun, SearchPassed, WindowLeft, WindowPassed, WindowRun, DataLeft, HuntPulses, HuntRun, AddressPassed, PreambleLeft, PreamblePassed, PutLeft}

-- an ID of which so many cells have passed after its mark
abbrev pub part_holding : ℕ → Part
part_holding passed = record { passed = passed; crc = 0; track = 0; side = 0; sector = 0; length = 0 }

-- "a count .. its activity holds": the activity that holds n as this count, and 0 as its others. A count that is a byte is n's
-- low byte.
abbrev pub activity_holding : Count → ℕ → Activity
activity_holding SeekLeft n = Seek n
activity_holding StopLeft n = Stop n
activity_holding SettleLeft n = Settle n
activity_holding SearchPulses n = Search (n % 256) (Gap 0)
activity_holding SearchRun n = Search 0 (Gap (n % 256))
activity_holding SearchPassed n = Search 0 (Field (part_holding (n % 256)))
activity_holding WindowLeft n = Window n 0 0
activity_holding WindowPassed n = Window 0 (n % 256) 0
activity_holding WindowRun n = Window 0 0 (n % 256)
activity_holding DataLeft n = Data n 0 false
activity_holding HuntPulses n = Hunt (n % 256) 0
activity_holding HuntRun n = Hunt 0 (n % 256)
activity_holding AddressPassed n = Address (n % 256) 0 0
activity_holding PreambleLeft n = Preamble n 0
activity_holding PreamblePassed n = Preamble 0 (n % 256)
activity_holding PutLeft n = Put n 0
