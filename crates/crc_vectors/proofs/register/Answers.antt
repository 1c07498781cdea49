-- The register over a field is a fold over its bytes.
use Rattle.std.proofs.Common.{rules, ◌≡◌, ℕ, List, [], ◌∷◌, refl, ◌∙◌, fold}
use Rattle.crc.specs.Crc.{preset, crc_byte, crc_over}
use Rattle.crc_vectors.proofs.register.Goals as goal

folds : (crc : ℕ) (field : List ℕ) → fold crc_byte crc field ≡ crc_over crc field
unfolding crc_over
folds crc [] = refl
folds crc (byte ∷ rest) = folds (crc_byte crc byte) rest

pub returns : goal.returns
returns c =
    let folded : c.fold.result ≡ fold crc_byte preset c.args.field.now = search rules in
    folded ∙ folds preset c.args.field.now
