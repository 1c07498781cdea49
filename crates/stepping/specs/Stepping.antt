-- Type I: stepping and its end. Assumes nothing.
use Rattle.std.specs.Prelude.{Bool, true, false, cond, not, ◌&&◌, ℕ, ◌+◌, ◌-◌, ◌%◌, ltb, leb, eqb}
use Rattle.command.specs.Bits.{updates_track, verifies_track}
use Rattle.command.specs.Commands.{is_restore}
use Rattle.command.specs.Times.{step_time_of, settle_time_of}
use Rattle.command.specs.declared.Order.{Order}
use Rattle.activity.specs.Acts.{pass}
use Rattle.activity.specs.declared.Seen.{Seen}
use Rattle.activity.specs.declared.Act.{Act}
use Rattle.activity.specs.declared.Activity.{Activity}
use Rattle.activity.specs.declared.Activity.TheVariants.{Idle, Seek, Stop, Settle}
use Rattle.activity.specs.declared.Deed.TheVariants.{Nothing, NotFound, Step, Halt}

-- "Restore .. if track 0 is still off at the end, Seek Error if V (bit 2), no verify.": which loads no head (decision 15).
-- "V: load head, settle 469/938 from the next byte time". `rule`: it stops by the track 0 rule.
unfoldable pub stop_act : Order → Seen → Bool → Act
stop_act o s rule =
    cond (verifies_track o.byte)
    (cond (is_restore o.command && not s.track0)
    (pass s Idle NotFound)
    (pass s (Settle (settle_time_of s.mfm)) (Halt rule true)))
    (pass s Idle (Halt rule false))

-- "TR moves by one", "TR moves (wrapping) if bit 4"
unfoldable pub track_after : Bool → Bool → ℕ → ℕ
track_after moves inward track = cond moves (cond inward ((track + 1) % 256) ((track + 255) % 256)) track

-- "stepping out with track 0 on sets TR 0 and stops; else one pulse is reported, TR moves .., and the next decision comes a
-- step time later. Stepping sets the direction, pulse or none."
unfoldable pub step_act : Order → Seen → Bool → Bool → Activity → Act
step_act o s inward moves next =
    cond (not inward && s.track0) (stop_act o s true) (pass s next (Step inward (track_after moves inward s.tr)))

-- "Seek: TR = DR stops", "TR moves by one towards DR"
unfoldable pub seek_decision : Order → Seen → Act
seek_decision o s =
    cond (eqb s.tr s.dr) (stop_act o s false)
    (step_act o s (ltb s.tr s.dr) true (Seek (step_time_of s.mfm o.byte)))

-- "in its first byte time and after each wait the machine decides"
unfoldable pub seek_turn : Order → Seen → ℕ → Act
seek_turn o s left = cond (leb left 1) (seek_decision o s) (pass s (Seek (left - 1)) Nothing)

-- "Step, Step-in, Step-out: one pulse, TR moves (wrapping) if bit 4; the track 0 rule holds."
unfoldable pub pulse_turn : Order → Seen → Act
pulse_turn o s = step_act o s o.inward (updates_track o.byte) (Stop (step_time_of s.mfm o.byte))

-- and then it stops, a step time later
unfoldable pub stop_turn : Order → Seen → ℕ → Act
stop_turn o s left = cond (leb left 1) (stop_act o s false) (pass s (Stop (left - 1)) Nothing)
