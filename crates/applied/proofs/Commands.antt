-- The command bytes that are put to use. Assumes nothing.
use mathlib.Core.Path.{refl}
use native.Mathlib.Omega.{arith}
use Rattle.common.specs.Bits.{bit_of}
use Rattle.uses.specs.Courses.{SingleRead, MultipleRead, SingleWrite}

pub write_a0 : SingleWrite 0xA0
unfolding bit_of
write_a0 = record { first = omega arith; last = omega arith; single = refl }

pub read_80 : SingleRead 0x80
unfolding bit_of
read_80 = record { first = omega arith; last = omega arith; even = refl; m = refl }

-- with E
pub read_84 : SingleRead 0x84
unfolding bit_of
read_84 = record { first = omega arith; last = omega arith; even = refl; m = refl }

-- with m, and S or, on the WD1797, L
pub read_98 : MultipleRead 0x98
unfolding bit_of
read_98 = record { first = omega arith; last = omega arith; even = refl; m = refl }
