-- The scanner for IDs says "a whole ID ends here, with these bytes and this verdict" exactly when the 7 (FM) or 10 (MFM)
-- cells that passed last, all since the scan began, are one: with a fourth A1 before them, after an ID broken off by a
-- flagged cell, back to back with the mark before. Assumes nothing.
use mathlib.Core.Path.{◌≡◌}
use mathlib.Core.Bool.{Bool}
use mathlib.Core.Logic.{◌↔◌}
use Prim.Native.Nat.{ℕ}
use Rattle.scan.specs.declared.Id.{Id}
use Rattle.scan.specs.declared.Heard.TheVariants.{Whole}
use Rattle.scan.specs.Streams.{heard_at, IdEnds}
use Rattle.scan.proofs.IdSound.{sound}
use Rattle.scan.proofs.IdComplete.{complete}

-- "An ID is mark FE and six unflagged cells: track, side, sector, length, CRC."
pub ids : (mfm : Bool) (cells : ℕ → ℕ) (n : ℕ) (id : Id) → (heard_at mfm cells n ≡ Whole id) ↔ IdEnds mfm cells n id
ids mfm cells n id = (sound mfm cells n id, complete mfm cells n id)
